use Rattle.std.proofs.Common.{◌≡◌, map, reverse, take}
use Rattle.pile.specs.Piles.{held, room, depth}
use Rattle.rows.specs.declared.entry.Entry.TheVariants.{Value}
use Rattle.transfer.proofs.entrance.put_all.Given as goal

-- the kinds so far are on the stack
abbrev pub invariant-loop-kind : goal.invariant-loop-kind
invariant-loop-kind l = record {
  held : held l.stack ≡ reverse (map Value (take l.kind-index l.kinds));
  depth : depth l.stack ≡ l.kind-index;
  room : room l.stack ≡ room l.initial.stack;
}
