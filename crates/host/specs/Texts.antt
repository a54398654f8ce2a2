-- Values as lines of text, as a host takes and puts them. Cited by the host of text. Assumes nothing.
--   values_in: the values of a text's lines; a line that is none means no value
--   from_found: a value found, and the values of the lines behind it
--   verdict, checked_values: the fault of a text, or its values; no list is lent for them, so none is too short
--   no_value: a record that is no value, as a stray line among those written means
--   place, truth, letter, number, any_real: the value of one kind that this number stands for
--   by_letter, numbered: the value of the kind with this letter, if there is a number
--   written_value: the value, of any kind, whose line it is
--   written_values: those of the first n lines, each of 22 bytes
--   lines_of: the text of a list of values
--   AllValues: every record of a list is a value
use Rattle.std.specs.Prelude.{◌≡◌, ℕ, zero, suc, ◌^◌, true, false, cond, ◌&&◌, List, [], ◌∷◌, ◌++◌, length, take, drop, ℤ, pos, negsuc, Some, None, Ok, Option, Result, ◌==◌, from_bits, nat_lt, slice_index}
use Rattle.std.specs.Int.Signed.{mag}
use Rattle.std.specs.Float.{inf, binary64}
use Rattle.numerals.specs.Numbers.{read_column}
use Rattle.sheet.specs.declared.value.Value.{Value}
use Rattle.sheet.specs.declared.value.Value.TheVariants.{Address, Boolean, Character, Integer, Real}
use Rattle.sheet.specs.Kinds.{is_value}
use Rattle.columns.specs.declared.fault.TextFault.{TextFault}
use Rattle.columns.specs.declared.fault.TextFault.TheVariants.{Malformed, Misplaced}
use Rattle.columns.specs.Faults.{refuse}
use Rattle.columns.specs.ValueLines.{write_value}
use Rattle.columns.specs.ValueText.{Form, Range, values_of, good_values, first_value_fault, values_by}
use Rattle.host.specs.declared.scan.Found.{Found}

abbrev pub values_in : List ℕ → List Value
values_in text = good_values (values_of text)

abbrev pub from_found : Option Found → List Value
from_found None = []
from_found (Some f) = f.value ∷ values_in f.rest.now

-- the lowest number first, over the whole text
abbrev pub verdict : List ℕ → Result (Unit {0}) TextFault
verdict text = refuse Malformed (first_value_fault Form text) (refuse Misplaced (first_value_fault Range text) (Ok tt))

abbrev pub checked_values : List ℕ → Result (List Value) TextFault
checked_values text = values_by (verdict text) text

-- ---- what was written
abbrev pub no_value : Value
no_value = Real (inf false)

abbrev pub place : ℤ → Value
place z = cond (nat_lt (mag z) (2 ^ 31)) (Address (record { 0 = z })) no_value

abbrev pub truth : ℤ → Value
truth (pos n) = cond (n == 0) (Boolean false) (cond (n == 1) (Boolean true) no_value)
truth (negsuc n) = no_value

abbrev pub letter : ℤ → Value
letter (pos n) = cond (nat_lt n 256) (Character n) no_value
letter (negsuc n) = no_value

abbrev pub number : ℤ → Value
number z = cond (nat_lt (mag z) (2 ^ 31)) (Integer z) no_value

-- finite or not, as it was put
abbrev pub any_real : ℤ → Value
any_real (pos n) = cond (nat_lt n (2 ^ 64)) (Real (from_bits binary64 n)) no_value
any_real (negsuc n) = no_value

-- a, b, c, i, r
abbrev pub by_letter : ℕ → ℤ → Value
by_letter c z =
    cond (c == 97) (place z)
    (cond (c == 98) (truth z)
    (cond (c == 99) (letter z)
    (cond (c == 105) (number z)
    (cond (c == 114) (any_real z) no_value))))

abbrev pub numbered : ℕ → Option ℤ → Value
numbered c None = no_value
numbered c (Some z) = by_letter c z

abbrev pub written_value : List ℕ → Value
written_value l = cond (length l == 22 && slice_index l 21 == 10) (numbered (slice_index l 0) (read_column (take 20 (drop 1 l)))) no_value

abbrev pub written_values : ℕ → List ℕ → List Value
written_values zero text = []
written_values (suc n) text = written_value (take 22 text) ∷ written_values n (drop 22 text)

abbrev pub lines_of : List Value → List ℕ
lines_of [] = []
lines_of (v ∷ vs) = write_value v ++ lines_of vs

abbrev pub AllValues : List Value → Type 0
AllValues [] = Unit {0}
AllValues (v ∷ vs) = (is_value v ≡ true) × AllValues vs
