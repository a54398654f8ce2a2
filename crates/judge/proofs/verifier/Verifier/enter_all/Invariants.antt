use Rattle.std.proofs.Common.{◌≡◌, [], map, drop}
use Rattle.paths.specs.Judging.{enter}
use Rattle.rules.specs.Lookups.{contents_of}
use Rattle.judge.specs.Flow.{entry_of, stacks}
use Rattle.judge.specs.Verifying.{Kept, rows_of, waiting}
use Rattle.judge.proofs.verifier.Verifier.enter_all.Given as goal

-- the procedures left come to the same
abbrev pub invariant-loop-procedure : goal.invariant-loop-procedure
invariant-loop-procedure l = record {
  same : (let T = contents_of l.initial.self.table in
      enter (stacks T) (map (entry_of T) (drop l.procedure-index l.procedure-items)) (rows_of l.self) ≡ enter (stacks T) (map (entry_of T) l.procedure-items) (rows_of l.initial.self));
  none : waiting l.self ≡ [];
  kept : Kept l.initial.self l.self;
}
