use Rattle.std.proofs.Common.{◌≡◌}
use Rattle.rules.specs.Lookups.{contents_of}
use Rattle.judge.specs.Handing.{meanings}
use Rattle.admit.proofs.Scanning.{left, whole}
use Rattle.admit.proofs.local.Admission.check_rows.Given as goal

-- what is left gives the whole
abbrev pub invariant-loop-i : goal.invariant-loop-i
invariant-loop-i l = left (contents_of l.self.table) (meanings l.self.rows.now) l.i ≡ whole (contents_of l.self.table) (meanings l.self.rows.now)
