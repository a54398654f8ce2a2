-- The small table, by computing.
use Rattle.std.proofs.Common.{refl}
use Rattle.paths.specs.Exact as x
use Rattle.paths.specs.Judging as j
use Rattle.machine.specs.Frames as f
use Rattle.machine.specs.Leaves as l
use Rattle.machine.specs.Runs as r
use Rattle.std.specs.Fmt as d
use Rattle.pegs.specs.SmallTable.{SmallTableIsSetOut}

pub small_table_is_set_out : SmallTableIsSetOut
unfolding j.then j.waits j.wait_unless j.wait j.hand_met j.hand_at j.hand j.hand_all j.judge_by j.judge_at j.judge_one j.run j.load j.weight j.settle j.enter j.judge x.agree f.passed f.settle f.clear l.base r.go_on d.digits
small_table_is_set_out = refl
