-- The line of a value means the value.
use Rattle.std.proofs.Common.{◌≡◌, ℕ, suc, ◌+◌, ◌^◌, ◌<◌, ◌≤◌, Bool, true, false, T, List, [], ◌∷◌, ◌++◌, length, get_or, take, ℤ, pos, negsuc, nat_abs, Some, sym, refl, ap, ◌∙◌, arith}
use lib.Signed.{mag}
use lib.Ieee.{Float, fits, binary64, to_bits, of_bits}
use lib.Ieee.Bits.{of_bits-to_bits, to_bits-lt}
use Rattle.std.specs.Fmt.{signed_decimal}
use Rattle.std.proofs.lemmas.List.{length-append, take_at, get_or_at}
use Rattle.std.proofs.lemmas.Fmt.{length-decimal-le, length_signed_le}
use Rattle.std.proofs.lemmas.Bool.Decides.{nat_tests}
use Rattle.numerals.specs.Numbers.{read_number, read_column, write_number}
use Rattle.numerals.proofs.Laws.{written_numbers_read_back}
use Rattle.sheet.specs.declared.value.Value.{Value}
use Rattle.sheet.specs.declared.value.Value.TheVariants.{Address, Boolean, Character, Integer, Real}
use Rattle.sheet.specs.Kinds.{kind_of, letter_of}
use Rattle.columns.specs.ValueLines.{write_value, number_of}
use Rattle.host.specs.Texts.{by_letter, written_value}
use Rattle.columns.proofs.Values.{width}

-- 20 columns hold z
-- a line of the right form is read by its columns
formed : (a : ℕ) (ys : List ℕ) (z : ℤ) → length ys ≡ 20 → read_number ys ≡ Some z → written_value (a ∷ (ys ++ (10 ∷ []))) ≡ by_letter a z
formed a ys z k e =
    let l : length (a ∷ (ys ++ (10 ∷ []))) ≡ 22 = ap suc (length-append ys (10 ∷ []) ∙ ap (λ n. n + 1) k) in
    let g : get_or (ys ++ (10 ∷ [])) 20 0 ≡ 10 = get_or_at ys 10 [] 0 20 k in
    let t : take 20 (ys ++ (10 ∷ [])) ≡ ys = take_at ys (10 ∷ []) 20 k in
    let r : read_column ys ≡ Some z = grind (arith, nat_tests, e, k) in
    grind (arith, nat_tests, l, g, t, r)

back : (v : Value) → length (signed_decimal (number_of v)) ≤ 20 → nat_abs (number_of v) < 2 ^ 64 → by_letter (letter_of (kind_of v)) (number_of v) ≡ v → written_value (write_value v) ≡ v
back v l n e = formed (letter_of (kind_of v)) (write_number 20 (number_of v)) (number_of v) (width (number_of v) l) (written_numbers_read_back 20 (number_of v) n) ∙ e

pub address_back : (z : ℤ) → mag z < 2 ^ 31 → written_value (write_value (Address (record { 0 = z }))) ≡ Address (record { 0 = z })
address_back (pos n) h = back (Address (record { 0 = pos n })) (length_signed_le 19 (pos n) (omega arith) (omega arith)) (omega arith) (grind (arith, nat_tests))
address_back (negsuc n) h = back (Address (record { 0 = negsuc n })) (length_signed_le 19 (negsuc n) (omega arith) (omega arith)) (omega arith) (grind (arith, nat_tests))

pub boolean_back : (b : Bool) → written_value (write_value (Boolean b)) ≡ Boolean b
boolean_back true = back (Boolean true) (length-decimal-le 20 1 (omega arith) (omega arith) (omega arith)) (omega arith) refl
boolean_back false = back (Boolean false) (length-decimal-le 20 0 (omega arith) (omega arith) (omega arith)) (omega arith) refl

pub character_back : (n : ℕ) → n < 256 → written_value (write_value (Character n)) ≡ Character n
character_back n h = back (Character n) (length-decimal-le 20 n (omega arith) (omega arith) (omega arith)) (omega arith) (grind (arith, nat_tests))

pub integer_back : (z : ℤ) → mag z < 2 ^ 31 → written_value (write_value (Integer z)) ≡ Integer z
integer_back (pos n) h = back (Integer (pos n)) (length_signed_le 19 (pos n) (omega arith) (omega arith)) (omega arith) (grind (arith, nat_tests))
integer_back (negsuc n) h = back (Integer (negsuc n)) (length_signed_le 19 (negsuc n) (omega arith) (omega arith)) (omega arith) (grind (arith, nat_tests))

pub real_back : (x : Float) → T (fits binary64 x) → written_value (write_value (Real x)) ≡ Real x
real_back x f =
    let b : to_bits binary64 x < 2 ^ 64 = to_bits-lt binary64 x f in
    let e : of_bits binary64 (to_bits binary64 x) ≡ x = of_bits-to_bits binary64 x f in
    back (Real x) (length-decimal-le 20 (to_bits binary64 x) (omega arith) (omega arith) b) b (grind (arith, nat_tests, e))

pub by_its_line : (l : List ℕ) (x v : Value) → l ≡ write_value x → x ≡ v → written_value (write_value v) ≡ v → written_value l ≡ x
by_its_line l x v e f h = ap written_value (e ∙ ap write_value f) ∙ h ∙ sym f
