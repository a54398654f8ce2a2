use Rattle.std.proofs.Common.{◌≡◌, reverse}
use Rattle.pile.specs.Piles.{held}
use Rattle.transfer.specs.Stacks.{less_kinds}
use Rattle.transfer.proofs.stack.Entries.take_all.Given as goal

-- the kinds that are left to take leave what the whole list leaves
abbrev pub invariant-loop-kind : goal.invariant-loop-kind
invariant-loop-kind l = record {
  less : less_kinds (reverse l.kind-iterator.iter.rest.now) (held l.self.pile) ≡ less_kinds (reverse l.kinds) (held l.initial.self.pile);
}
