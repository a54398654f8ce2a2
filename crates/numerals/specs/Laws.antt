-- What ties the reader of columns to the writer, cited by both. Assumes nothing.
use Rattle.std.specs.Prelude.{◌≡◌, ℕ, ◌^◌, ◌<◌, List, length, ℤ, Some, unsigned_abs}
use Rattle.numerals.specs.Numbers.{read_number, write_number}

-- what is written is read as the number that it was
abbrev pub WrittenNumbersReadBack : Type 0
WrittenNumbersReadBack = (k : ℕ) (z : ℤ) → unsigned_abs z < 2 ^ 64 → read_number (write_number k z) ≡ Some z

-- what is read is what would be written: a number has one text in k columns
abbrev pub ReadNumbersWriteBack : Type 0
ReadNumbersWriteBack = (bs : List ℕ) (z : ℤ) → unsigned_abs z < 2 ^ 64 → read_number bs ≡ Some z → write_number (length bs) z ≡ bs
