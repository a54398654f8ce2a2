-- The entries of a stack under judgement. Cited by rows and by the verifier. Assumes nothing.
--   entry_of, byte_of: an entry as a byte, the letter of its kind or the number of its mark
--   proper: whether a stack may hold it
--   cells_of_entry: the cells of the store that it stands for
use Rattle.std.specs.Prelude.{ℕ, Bool, true, cond, ◌==◌, nat_lt}
use Rattle.sheet.specs.declared.kind.Kind.TheVariants.{Address, Boolean, Character, Integer, Real}
use Rattle.sheet.specs.Kinds.{letter_of}
use Rattle.rows.specs.declared.entry.Entry.{Entry}
use Rattle.rows.specs.declared.entry.Entry.TheVariants.{Value, Mark}

abbrev pub entry_of : ℕ → Entry
entry_of n =
    cond (n == 97) (Value Address)
    (cond (n == 98) (Value Boolean)
    (cond (n == 99) (Value Character)
    (cond (n == 105) (Value Integer)
    (cond (n == 114) (Value Real) (Mark n)))))

abbrev pub byte_of : Entry → ℕ
byte_of (Value k) = letter_of k
byte_of (Mark j) = j

-- marks are 0 to 7
abbrev pub proper : Entry → Bool
proper (Value k) = true
proper (Mark j) = nat_lt j 8

abbrev pub cells_of_entry : Entry → ℕ
cells_of_entry (Value k) = 1
cells_of_entry (Mark j) = 5
