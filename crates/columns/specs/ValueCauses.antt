-- Why a text of values is refused: a law on its reader. Assumes nothing.
--   ValuesRefusedForCause: a refused text has the fault named at the line named, no line before has it, and no line
--     of the whole text has a fault of a lower number; a text that is read has none
use Rattle.std.specs.Prelude.{ℕ, List, Ok, Err, Result}
use Rattle.sheet.specs.declared.value.Value.{Value}
use Rattle.columns.specs.declared.fault.TextFault.{TextFault}
use Rattle.columns.specs.declared.fault.TextFault.TheVariants.{Malformed, Misplaced, TooLong}
use Rattle.columns.specs.Causes.{AllPass, FirstToFail}
use Rattle.columns.specs.ValueText.{Form, Range, Room, ValueScan, values_of, one_more, value_passes, read_values}

abbrev pub Clear : ValueScan → List ℕ → Type 0
Clear s text = AllPass one_more (value_passes s) 0 (values_of text)

abbrev pub Faulty : ValueScan → List ℕ → ℕ → Type 0
Faulty s text n = FirstToFail one_more (value_passes s) 0 (values_of text) n

abbrev pub Cause : ℕ → List ℕ → TextFault → Type 0
Cause room text (Malformed n) = Faulty Form text n
Cause room text (Misplaced n) = Clear Form text × Faulty Range text n
Cause room text (TooLong n) = Clear Form text × Clear Range text × Faulty (Room room) text n

abbrev pub Justified : ℕ → List ℕ → Result (List Value) TextFault → Type 0
Justified room text (Ok vs) = Clear Form text × Clear Range text × Clear (Room room) text
Justified room text (Err f) = Cause room text f

abbrev pub ValuesRefusedForCause : Type 0
ValuesRefusedForCause = (room : ℕ) (text : List ℕ) → Justified room text (read_values room text)
