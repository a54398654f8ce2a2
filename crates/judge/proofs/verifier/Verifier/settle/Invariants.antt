use Rattle.std.proofs.Common.{◌≡◌, ◌+◌, length}
use Rattle.paths.specs.Judging.{settle, weight}
use Rattle.rules.specs.Lookups.{contents_of}
use Rattle.judge.specs.Flow.{stacks}
use Rattle.judge.specs.Verifying.{Kept, rows_of, waiting}
use Rattle.judge.proofs.verifier.Verifier.settle.Given as goal

-- what is left comes to the same
abbrev pub invariant-loop-i : goal.invariant-loop-i
invariant-loop-i l = record {
  same : settle (stacks (contents_of l.self.table)) (rows_of l.self) (waiting l.self) ≡ settle (stacks (contents_of l.initial.self.table)) (rows_of l.initial.self) (waiting l.initial.self);
  kept : Kept l.initial.self l.self;
}

abbrev pub decreases-loop-i : goal.decreases-loop-i
decreases-loop-i l = weight (stacks (contents_of l.self.table)) (rows_of l.self) + length (waiting l.self)
