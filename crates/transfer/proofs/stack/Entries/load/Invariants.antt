use Rattle.std.proofs.Common.{◌≡◌, map, reverse, take}
use Rattle.pile.specs.Piles.{held, depth}
use Rattle.rows.specs.Entries.{entry_of}
use Rattle.transfer.proofs.stack.Entries.load.Given as goal

-- the entries so far are on the stack
abbrev pub invariant-loop-byte : goal.invariant-loop-byte
invariant-loop-byte l = record {
  held : held l.self.pile ≡ reverse (map entry_of (take l.byte-index l.byte-items));
  depth : depth l.self.pile ≡ l.byte-index;
}
