-- The text of values. Cited by its reader and by the laws on it. Assumes nothing.
--   Typed, values_of: what each line of a text says by itself
--   one_more: how many lines come before
--   ValueScan, value_passes: the scans, in the order of the refusals 11, 12, 13, and the test of each
--   first_value_fault, value_verdict: the first line that fails a scan, and the first under the lowest number
--   good_values: the values of the lines that have one
--   values_by, read_values: the verdict, or the values
--   how_many, values_left: what the call answers, and what it leaves in the list
use Rattle.std.specs.Prelude.{ℕ, ◌+◌, Bool, List, [], ◌∷◌, map, length, is_ok, Ok, Err, Option, Result, nat_lt}
use Rattle.numerals.specs.Lines.{lines}
use Rattle.sheet.specs.declared.value.Value.{Value}
use Rattle.columns.specs.declared.fault.LineFault.{LineFault}
use Rattle.columns.specs.declared.fault.TextFault.{TextFault}
use Rattle.columns.specs.declared.fault.TextFault.TheVariants.{Malformed, Misplaced, TooLong}
use Rattle.columns.specs.Faults.{refuse, well_formed}
use Rattle.columns.specs.Scans.{first_failing, laid}
use Rattle.columns.specs.ValueLines.{read_value}

abbrev pub Typed : Type 0
Typed = Result Value LineFault

abbrev pub values_of : List ℕ → List Typed
values_of text = map read_value (lines text)

-- how many lines come before
abbrev pub one_more : ℕ → Typed → ℕ
one_more n x = n + 1

-- a text is gone over once for each refusal, in the order of their numbers
pub data ValueScan : Type 0 where
  Form : ValueScan
  Range : ValueScan
  Room : ℕ → ValueScan

abbrev pub value_passes : ValueScan → ℕ → Typed → Bool
value_passes Form n x = well_formed x
value_passes Range n x = is_ok x
value_passes (Room room) n x = nat_lt n room

abbrev pub first_value_fault : ValueScan → List ℕ → Option ℕ
first_value_fault s text = first_failing one_more (value_passes s) 0 1 (values_of text)

abbrev pub good_values : List Typed → List Value
good_values [] = []
good_values (Ok v ∷ xs) = v ∷ good_values xs
good_values (Err e ∷ xs) = good_values xs

-- the lowest number first, over the whole text
abbrev pub value_verdict : ℕ → List ℕ → Result (Unit {0}) TextFault
value_verdict room text =
    refuse Malformed (first_value_fault Form text)
    (refuse Misplaced (first_value_fault Range text)
    (refuse TooLong (first_value_fault (Room room) text)
    (Ok tt)))

abbrev pub values_by : Result (Unit {0}) TextFault → List ℕ → Result (List Value) TextFault
values_by (Ok x) text = Ok (good_values (values_of text))
values_by (Err f) text = Err f

abbrev pub read_values : ℕ → List ℕ → Result (List Value) TextFault
read_values room text = values_by (value_verdict room text) text

-- ---- what the call answers, and what it leaves in the list
abbrev pub how_many : Result (List Value) TextFault → Result ℕ TextFault
how_many (Ok vs) = Ok (length vs)
how_many (Err f) = Err f

-- a refused text leaves the list as it was; a list longer than needed keeps its rest
abbrev pub values_left : Result (List Value) TextFault → List Value → List Value
values_left (Ok vs) xs = laid vs xs
values_left (Err f) xs = xs
