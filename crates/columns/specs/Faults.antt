-- The numbers of the refusals of a text, and the line that each names. Cited by what refuses one. Assumes nothing.
--   cause_of: the words for a refusal
--   then: go on with what a line says so far, or stop with its fault
--   refuse: refuse where a line was found, else go on
use Rattle.std.specs.Prelude.{ℕ, Bool, true, false, Some, None, Ok, Err, Option, Result, List, codes}
use Rattle.columns.specs.declared.fault.LineFault.{LineFault}
use Rattle.columns.specs.declared.fault.LineFault.TheVariants as line
use Rattle.columns.specs.declared.fault.TextFault.{TextFault}
use Rattle.columns.specs.declared.fault.TextFault.TheVariants as text

abbrev pub fault_number : TextFault → ℕ
fault_number (text.Malformed n) = 11
fault_number (text.Misplaced n) = 12
fault_number (text.TooLong n) = 13

abbrev pub fault_line : TextFault → ℕ
fault_line (text.Malformed n) = n
fault_line (text.Misplaced n) = n
fault_line (text.TooLong n) = n

abbrev pub cause_of : TextFault → List ℕ
cause_of (text.Malformed n) = codes "a line of wrong length, letter, mnemonic or column"
cause_of (text.Misplaced n) = codes "a number out of range or a line out of order"
cause_of (text.TooLong n) = codes "the list for its record is too short"

abbrev pub then : {S T : Type 0} → Result S LineFault → (S → Result T LineFault) → Result T LineFault
then (Ok x) f = f x
then (Err e) f = Err e

abbrev pub refuse : {A : Type 0} → (ℕ → TextFault) → Option ℕ → Result A TextFault → Result A TextFault
refuse f None r = r
refuse f (Some n) r = Err (f n)

-- whether a line is well formed, be its numbers in range or not
abbrev pub well_formed : {A : Type 0} → Result A LineFault → Bool
well_formed (Ok x) = true
well_formed (Err line.Malformed) = false
well_formed (Err line.OutOfRange) = true
