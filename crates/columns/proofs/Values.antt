-- A value that is written is read back.
use Rattle.std.proofs.Common.{◌≡◌, ℕ, suc, ◌+◌, ◌-◌, ◌^◌, ◌<◌, ◌≤◌, true, false, T, List, [], ◌∷◌, ◌++◌, length, get_or, take, replicate, ℤ, pos, negsuc, nat_abs, Some, Ok, sym, refl, ap, ◌∙◌, subst, arith}
use lib.Ieee.{Float, fits, binary64}
use lib.Ieee.Bits.{to_bits-lt}
use Rattle.std.specs.Float.{float_is_finite}
use Rattle.std.specs.Fmt.{signed_decimal}
use Rattle.std.proofs.lemmas.List.{length-append, length-replicate, take_at, get_or_at}
use Rattle.std.proofs.lemmas.Fmt.{length-decimal-le, length_signed_le}
use Rattle.std.proofs.lemmas.Bool.Decides.{nat_tests}
use Rattle.numerals.specs.Numbers.{read_number, read_column, write_number}
use Rattle.numerals.proofs.Laws.{written_numbers_read_back}
use Rattle.arith.proofs.Patterns.{real_back as pattern_back}
use Rattle.arith.specs.Reals.{of_pattern, pattern_of}
use Rattle.sheet.specs.declared.value.Value.{Value}
use Rattle.sheet.specs.declared.value.Value.TheVariants.{Address, Boolean, Character, Integer, Real}
use Rattle.sheet.specs.Kinds.{kind_of, letter_of}
use Rattle.columns.specs.ValueLines.{value_of, read_value, write_value, number_of}
use Rattle.columns.specs.ValueLaws.{WrittenValuesReadBack}

-- 20 columns hold z
pub width : (z : ℤ) → length (signed_decimal z) ≤ 20 → length (write_number 20 z) ≡ 20
width z h = length-append (replicate (20 - length (signed_decimal z)) 32) (signed_decimal z) ∙ ap (λ n. n + length (signed_decimal z)) (length-replicate (20 - length (signed_decimal z)) 32) ∙ omega arith

-- a line of the right form is read by its columns
formed : (a : ℕ) (ys : List ℕ) (z : ℤ) → length ys ≡ 20 → read_number ys ≡ Some z → read_value (a ∷ (ys ++ (10 ∷ []))) ≡ value_of a z
formed a ys z k e =
    let l : length (a ∷ (ys ++ (10 ∷ []))) ≡ 22 = ap suc (length-append ys (10 ∷ []) ∙ ap (λ n. n + 1) k) in
    let g : get_or (ys ++ (10 ∷ [])) 20 0 ≡ 10 = get_or_at ys 10 [] 0 20 k in
    let t : take 20 (ys ++ (10 ∷ [])) ≡ ys = take_at ys (10 ∷ []) 20 k in
    let r : read_column ys ≡ Some z = grind (arith, nat_tests, e, k) in
    grind (arith, nat_tests, l, g, t, r)

back : (v : Value) → length (signed_decimal (number_of v)) ≤ 20 → nat_abs (number_of v) < 2 ^ 64 → value_of (letter_of (kind_of v)) (number_of v) ≡ Ok v → read_value (write_value v) ≡ Ok v
back v l n e = formed (letter_of (kind_of v)) (write_number 20 (number_of v)) (number_of v) (width (number_of v) l) (written_numbers_read_back 20 (number_of v) n) ∙ e

real_back : (x : Float) → fits binary64 x ≡ true → float_is_finite x ≡ true → (pattern_of x < 2 ^ 64) × (of_pattern (pattern_of x) ≡ Some x)
real_back x f h =
    let t : T (fits binary64 x) = subst T (sym f) tt in
    (to_bits-lt binary64 x t, pattern_back x f h)

pub written_values_read_back : WrittenValuesReadBack
written_values_read_back (Address x) h = absurd h
written_values_read_back (Boolean true) h = back (Boolean true) (length-decimal-le 20 1 (omega arith) (omega arith) (omega arith)) (omega arith) refl
written_values_read_back (Boolean false) h = back (Boolean false) (length-decimal-le 20 0 (omega arith) (omega arith) (omega arith)) (omega arith) refl
written_values_read_back (Character x) h = back (Character x) (length-decimal-le 20 x (omega arith) (omega arith) (omega arith)) (omega arith) (grind (arith, nat_tests))
written_values_read_back (Integer (pos n)) h = back (Integer (pos n)) (length_signed_le 19 (pos n) (omega arith) (omega arith)) (omega arith) (grind (arith, nat_tests))
written_values_read_back (Integer (negsuc n)) h = back (Integer (negsuc n)) (length_signed_le 19 (negsuc n) (omega arith) (omega arith)) (omega arith) (grind (arith, nat_tests))
written_values_read_back (Real x) h =
    let p = real_back x h.0 h.1 in
    let b : pattern_of x < 2 ^ 64 = p.0 in
    let o : of_pattern (pattern_of x) ≡ Some x = p.1 in
    back (Real x) (length-decimal-le 20 (pattern_of x) (omega arith) (omega arith) b) b (grind (arith, nat_tests, o))
