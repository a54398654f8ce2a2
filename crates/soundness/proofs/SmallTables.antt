-- The small tables, by computing.
use Rattle.std.proofs.Common.{refl}
use Rattle.paths.specs.Admitting as a
use Rattle.paths.specs.Exact as x
use Rattle.paths.specs.Judging as j
use Rattle.machine.specs.Frames as f
use Rattle.machine.specs.Leaves as l
use Rattle.machine.specs.Runs as r
use Rattle.soundness.specs.SmallTables.{SmallTablesComeOut}

pub small_tables_come_out : SmallTablesComeOut
unfolding a.or_else a.entry_is a.entry_at a.fault_of a.hold_met a.hold_at a.hold_all a.transfer_fault a.row_fault a.fit_fault a.head_fault a.fault_at a.scan a.admit j.then j.waits j.wait_unless j.wait j.hand_met j.hand_at j.hand j.hand_all j.judge_by j.judge_at j.judge_one j.run j.load j.weight j.settle j.enter j.judge x.agree f.passed f.settle f.clear l.base r.go_on
small_tables_come_out = refl
