-- A value as a line: its letter, its number in 20 columns, and the end. Cited by the reader and the writer of values.
-- Assumes nothing.
--   read_value: what a line says; no address is read
--   write_value: the line of a value
use Rattle.std.specs.Prelude.{ℕ, ◌^◌, true, false, cond, List, [], ◌∷◌, ◌++◌, length, ℤ, pos, negsuc, Some, None, Ok, Err, Option, Result, ◌==◌, nat_lt, slice_index, Float}
use Rattle.std.specs.Int.Signed.{mag}
use Rattle.arith.specs.Reals.{of_pattern, pattern_of}
use Rattle.numerals.specs.Numbers.{write_number}
use Rattle.sheet.specs.declared.value.Value.{Value}
use Rattle.sheet.specs.declared.value.Value.TheVariants.{Address, Boolean, Character, Integer, Real}
use Rattle.sheet.specs.Kinds.{kind_of, letter_of}
use Rattle.columns.specs.declared.fault.LineFault.{LineFault}
use Rattle.columns.specs.declared.fault.LineFault.TheVariants.{Malformed, OutOfRange}
use Rattle.columns.specs.Faults.{then}
use Rattle.columns.specs.TableLines.{number_in, ending}

-- 0 or 1
abbrev pub boolean : ℤ → Result Value LineFault
boolean (pos n) = cond (n == 0) (Ok (Boolean false)) (cond (n == 1) (Ok (Boolean true)) (Err OutOfRange))
boolean (negsuc n) = Err OutOfRange

-- 0 to 255
abbrev pub character : ℤ → Result Value LineFault
character (pos n) = cond (nat_lt n 256) (Ok (Character n)) (Err OutOfRange)
character (negsuc n) = Err OutOfRange

abbrev pub integer : ℤ → Result Value LineFault
integer z = cond (nat_lt (mag z) (2 ^ 31)) (Ok (Integer z)) (Err OutOfRange)

abbrev pub some_real : Option Float → Result Value LineFault
some_real None = Err OutOfRange
some_real (Some x) = Ok (Real x)

-- the unsigned 64-bit pattern of a finite number
abbrev pub real : ℤ → Result Value LineFault
real (pos n) = cond (nat_lt n (2 ^ 64)) (some_real (of_pattern n)) (Err OutOfRange)
real (negsuc n) = Err OutOfRange

-- b, c, i, r
abbrev pub value_of : ℕ → ℤ → Result Value LineFault
value_of c z =
    cond (c == 98) (boolean z)
    (cond (c == 99) (character z)
    (cond (c == 105) (integer z)
    (cond (c == 114) (real z) (Err Malformed))))

abbrev pub read_value : List ℕ → Result Value LineFault
read_value l =
    cond (length l == 22)
    (then (number_in 1 20 l) (λ z. then (ending (slice_index l 21)) (λ _. value_of (slice_index l 0) z)))
    (Err Malformed)

-- the number that stands for a value
abbrev pub number_of : Value → ℤ
number_of (Address x) = x.0
number_of (Boolean x) = pos (cond x 1 0)
number_of (Character x) = pos x
number_of (Integer x) = x
number_of (Real x) = pos (pattern_of x)

abbrev pub columns_of : Value → List ℕ
columns_of v = write_number 20 (number_of v)

abbrev pub write_value : Value → List ℕ
write_value v = letter_of (kind_of v) ∷ (columns_of v ++ (10 ∷ []))
