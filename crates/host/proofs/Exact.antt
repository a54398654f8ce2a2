-- A line that means a value is that value's line.
use Rattle.std.proofs.Common.{◌≡◌, ℕ, zero, suc, ◌+◌, ◌*◌, ◌^◌, ◌<◌, Bool, true, false, cond, ◌&&◌, eqb, ltb, List, [], ◌∷◌, ◌++◌, length, get_or, take, drop, ℤ, pos, negsuc, nat_abs, Some, None, Option, sym, refl, ap, ◌∙◌, subst, arith, take-add}
use lib.Signed.{mag}
use lib.Ieee.{binary64, of_bits}
use lib.Ieee.Bits.{to_bits-of_bits}
use Rattle.std.specs.Float.{float_is_finite}
use Rattle.std.proofs.lemmas.List.{length-drop, length-take-le, drop_more, drop_all, take-append-drop}
use Rattle.std.proofs.lemmas.Bool.Decides.{nat_tests}
use Rattle.numerals.specs.Numbers.{read_number, read_column, write_number}
use Rattle.numerals.proofs.Laws.{read_numbers_write_back}
use Rattle.sheet.specs.declared.value.Value.{Value}
use Rattle.sheet.specs.declared.value.Value.TheVariants.{Address, Boolean, Character, Integer, Real}
use Rattle.sheet.specs.Kinds.{kind_of, letter_of, is_value}
use Rattle.columns.specs.ValueLines.{write_value, number_of}
use Rattle.host.specs.Texts.{truth, letter, any_real, by_letter, numbered, no_value, written_value, written_values, lines_of, AllValues}
use Rattle.arith.proofs.Patterns.{number_if_finite}

-- v is written with this letter and this number
abbrev Told : ℕ → ℤ → Value → Type 0
Told c z v = (letter_of (kind_of v) ≡ c) × (number_of v ≡ z) × (nat_abs z < 2 ^ 64)

abbrev Tells : ℕ → ℤ → Value → Type 0
Tells c z v = is_value v ≡ true → Told c z v

none_is_none : is_value no_value ≡ true → ⊥
unfolding float_is_finite
none_is_none h = let e : false ≡ true = h in grind (arith, nat_tests)

none_tells : (c : ℕ) (z : ℤ) → Tells c z no_value
none_tells c z h = absurd (none_is_none h)

short : (z : ℤ) → ltb (mag z) (2 ^ 31) ≡ true → nat_abs z < 2 ^ 64
short (pos n) e = grind (arith, nat_tests)
short (negsuc n) e = grind (arith, nat_tests)

place_tells : (z : ℤ) (b : Bool) → ltb (mag z) (2 ^ 31) ≡ b → Tells 97 z (cond b (Address (record { 0 = z })) no_value)
place_tells z true e h = (refl, refl, short z e)
place_tells z false e h = none_tells 97 z h

number_tells : (z : ℤ) (b : Bool) → ltb (mag z) (2 ^ 31) ≡ b → Tells 105 z (cond b (Integer z) no_value)
number_tells z true e h = (refl, refl, short z e)
number_tells z false e h = none_tells 105 z h

bit_tells : (n : ℕ) (a b : Bool) → eqb n 0 ≡ a → eqb n 1 ≡ b → Tells 98 (pos n) (cond a (Boolean false) (cond b (Boolean true) no_value))
bit_tells n true b e f h = let k : n ≡ 0 = grind (arith, nat_tests) in (refl, ap pos (sym k), omega arith)
bit_tells n false true e f h = let k : n ≡ 1 = grind (arith, nat_tests) in (refl, ap pos (sym k), omega arith)
bit_tells n false false e f h = none_tells 98 (pos n) h

truth_tells : (z : ℤ) → Tells 98 z (truth z)
truth_tells (pos n) = bit_tells n (eqb n 0) (eqb n 1) refl refl
truth_tells (negsuc n) = none_tells 98 (negsuc n)

byte_tells : (n : ℕ) (b : Bool) → ltb n 256 ≡ b → Tells 99 (pos n) (cond b (Character n) no_value)
byte_tells n true e h = (refl, refl, grind (arith, nat_tests))
byte_tells n false e h = none_tells 99 (pos n) h

letter_tells : (z : ℤ) → Tells 99 z (letter z)
letter_tells (pos n) = byte_tells n (ltb n 256) refl
letter_tells (negsuc n) = none_tells 99 (negsuc n)

bits_tell : (n : ℕ) (b : Bool) → ltb n (2 ^ 64) ≡ b → Tells 114 (pos n) (cond b (Real (of_bits binary64 n)) no_value)
bits_tell n true e h =
    let l : n < 2 ^ 64 = grind (arith, nat_tests) in
    (refl, ap pos (to_bits-of_bits binary64 n l (number_if_finite (of_bits binary64 n) h)), l)
bits_tell n false e h = none_tells 114 (pos n) h

real_tells : (z : ℤ) → Tells 114 z (any_real z)
real_tells (pos n) = bits_tell n (ltb n (2 ^ 64)) refl
real_tells (negsuc n) = none_tells 114 (negsuc n)

-- the first letter that fits, else the next
or_next : (c k : ℕ) (z : ℤ) (v w : Value) (b : Bool) → eqb c k ≡ b → Tells k z v → Tells c z w → Tells c z (cond b v w)
or_next c k z v w true e f g h = let q : k ≡ c = grind (arith, nat_tests) in subst (λ (d : ℕ). Told d z v) q (f h)
or_next c k z v w false e f g h = g h

letter_and_number : (c : ℕ) (z : ℤ) → Tells c z (by_letter c z)
letter_and_number c z =
    or_next c 97 z _ _ (eqb c 97) refl (place_tells z (ltb (mag z) (2 ^ 31)) refl)
    (or_next c 98 z _ _ (eqb c 98) refl (truth_tells z)
    (or_next c 99 z _ _ (eqb c 99) refl (letter_tells z)
    (or_next c 105 z _ _ (eqb c 105) refl (number_tells z (ltb (mag z) (2 ^ 31)) refl)
    (or_next c 114 z _ _ (eqb c 114) refl (real_tells z) (none_tells c z)))))

-- ---- a whole line
parts : (l : List ℕ) → length l ≡ 22 → get_or l 21 0 ≡ 10 → l ≡ get_or l 0 0 ∷ (take 20 (drop 1 l) ++ (10 ∷ []))
parts [] h e = grind arith
parts (x ∷ l) h e =
    let d : drop 20 l ≡ get_or l 20 0 ∷ drop 21 l = drop_more l 20 0 (omega arith) in
    let n : drop 21 l ≡ [] = drop_all 21 l (omega arith) in
    ap (λ z. x ∷ z) (sym (take-append-drop 20 l) ∙ ap (λ z. take 20 l ++ z) (d ∙ ap (λ z. get_or l 20 0 ∷ z) n ∙ ap (λ z. z ∷ []) e))

same_line : (l : List ℕ) (z : ℤ) (v : Value) → length l ≡ 22 → get_or l 21 0 ≡ 10 → read_number (take 20 (drop 1 l)) ≡ Some z → Told (get_or l 0 0) z v → write_value v ≡ l
same_line l z v h e r (c, n, b) =
    let w : length (take 20 (drop 1 l)) ≡ 20 = length-take-le 20 (drop 1 l) (simp length-drop (omega arith)) in
    let k : write_number 20 z ≡ take 20 (drop 1 l) = ap (λ m. write_number m z) (sym w) ∙ read_numbers_write_back (take 20 (drop 1 l)) z b r in
    ap (λ a. a ∷ (write_number 20 (number_of v) ++ (10 ∷ []))) c
    ∙ ap (λ m. get_or l 0 0 ∷ (write_number 20 m ++ (10 ∷ []))) n
    ∙ ap (λ ys. get_or l 0 0 ∷ (ys ++ (10 ∷ []))) k
    ∙ sym (parts l h e)

column_read : (cs : List ℕ) → length cs ≡ 20 → read_column cs ≡ read_number cs
column_read cs h = grind (arith, nat_tests)

by_number : (l : List ℕ) (o : Option ℤ) → length l ≡ 22 → get_or l 21 0 ≡ 10 → read_number (take 20 (drop 1 l)) ≡ o → is_value (numbered (get_or l 0 0) o) ≡ true → write_value (numbered (get_or l 0 0) o) ≡ l
by_number l None h e r v = absurd (none_is_none v)
by_number l (Some z) h e r v = same_line l z (by_letter (get_or l 0 0) z) h e r (letter_and_number (get_or l 0 0) z v)

in_form : (l : List ℕ) (b : Bool) → eqb (length l) 22 && eqb (get_or l 21 0) 10 ≡ b → is_value (cond b (numbered (get_or l 0 0) (read_column (take 20 (drop 1 l)))) no_value) ≡ true
    → write_value (cond b (numbered (get_or l 0 0) (read_column (take 20 (drop 1 l)))) no_value) ≡ l
in_form l false e v = absurd (none_is_none v)
in_form l true e v =
    let h : length l ≡ 22 = grind (arith, nat_tests) in
    let w : length (take 20 (drop 1 l)) ≡ 20 = length-take-le 20 (drop 1 l) (simp length-drop (omega arith)) in
    by_number l (read_column (take 20 (drop 1 l))) h (grind (arith, nat_tests)) (sym (column_read (take 20 (drop 1 l)) w)) v

exact_line : (l : List ℕ) → is_value (written_value l) ≡ true → write_value (written_value l) ≡ l
exact_line l v = in_form l (eqb (length l) 22 && eqb (get_or l 21 0) 10) refl v

pub exact_lines : (n : ℕ) (out : List ℕ) → AllValues (written_values n out) → take (22 * n) out ≡ lines_of (written_values n out)
exact_lines zero out h = refl
exact_lines (suc n) out (h, hs) =
    let m : 22 * suc n ≡ 22 + 22 * n = omega arith in
    ap (λ k. take k out) m ∙ take-add 22 (22 * n) out
    ∙ ap (λ xs. take 22 out ++ xs) (exact_lines n (drop 22 out) hs)
    ∙ ap (λ l. l ++ lines_of (written_values n (drop 22 out))) (sym (exact_line (take 22 out) h))
