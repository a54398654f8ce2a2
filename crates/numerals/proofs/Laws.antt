-- Reading is the inverse of writing, both ways round.
use Rattle.std.proofs.Common.{◌≡◌, ℕ, zero, suc, ◌+◌, ◌-◌, ◌*◌, ◌^◌, ◌<◌, ◌≤◌, true, List, [], ◌∷◌, ◌++◌, length, get_or, replicate, ℤ, pos, negsuc, nat_abs, Some, None, decimal, Option, sym, refl, ap, ◌∙◌, arith, rules}
use Rattle.std.specs.Fmt.{signed_decimal}
use Rattle.std.specs.Str.{all_ascii_digits}
use Rattle.std.proofs.lemmas.Bool.Decides.{nat_tests}
use Rattle.std.proofs.lemmas.Str.Parse.{IsNumeralModel, numerals_by_fold}
use Rattle.std.proofs.lemmas.Fmt.{digits_decimal, digits_value-decimal, decimal_nonempty, first_decimal, decimal_digit, decimal-digits_value}
use Rattle.numerals.specs.Numbers.{digits_after, natural, plus, minus, whole, after_blanks}
use Rattle.numerals.specs.Laws.{WrittenNumbersReadBack, ReadNumbersWriteBack}

abbrev read_on : ℕ → List ℕ → ℕ
read_on n [] = n
read_on n (c ∷ cs) = read_on (n * 10 + (c - 48)) cs

own : IsNumeralModel (λ ds. all_ascii_digits ds ≡ true) (read_on 0)
own = numerals_by_fold _ (search rules) read_on (search rules)

digits_read : (n : ℕ) (ds : List ℕ) → all_ascii_digits ds ≡ true → digits_after n ds ≡ Some (read_on n ds)
digits_read n [] h = refl
digits_read n (c ∷ cs) h = grind (arith, nat_tests, digits_read (n * 10 + (c - 48)) cs)

natural_read : (ds : List ℕ) → all_ascii_digits ds ≡ true → 0 < length ds → (get_or ds 0 0 ≡ 48 → length ds ≡ 1) → natural ds ≡ Some (read_on 0 ds)
natural_read [] h l z = grind arith
natural_read (c ∷ []) h l z = digits_read 0 (c ∷ []) h
natural_read (c ∷ d ∷ ds) h l z = grind (arith, nat_tests, digits_read 0 (c ∷ d ∷ ds) h)

natural_decimal : (n : ℕ) → n < 2 ^ 64 → natural (decimal n) ≡ Some n
natural_decimal zero h = ap natural (decimal_digit 0 (omega arith))
natural_decimal (suc n) h =
    natural_read (decimal (suc n)) (digits_decimal own (suc n) h) (decimal_nonempty (suc n) h) (λ z. omega (arith, first_decimal (suc n) (omega arith) h))
    ∙ ap (λ m. Some m) (digits_value-decimal own (suc n) h)

-- a digit comes first, so neither a blank nor a minus
whole_digits : (ds : List ℕ) → 0 < length ds → all_ascii_digits ds ≡ true → whole (after_blanks ds) ≡ plus (natural ds)
whole_digits [] l h = grind arith
whole_digits (c ∷ cs) l h = grind (arith, nat_tests)

blanks_off : (k : ℕ) (ds : List ℕ) → after_blanks (replicate k 32 ++ ds) ≡ after_blanks ds
blanks_off zero ds = refl
blanks_off (suc k) ds = blanks_off k ds

read_signed : (z : ℤ) → nat_abs z < 2 ^ 64 → whole (after_blanks (signed_decimal z)) ≡ Some z
read_signed (pos n) h = whole_digits (decimal n) (decimal_nonempty n (omega arith)) (digits_decimal own n (omega arith)) ∙ ap plus (natural_decimal n (omega arith))
read_signed (negsuc n) h = ap minus (natural_decimal (suc n) (omega arith))

pub written_numbers_read_back : WrittenNumbersReadBack
written_numbers_read_back k z h = ap whole (blanks_off (k - length (signed_decimal z)) (signed_decimal z)) ∙ read_signed z h

-- ---- the other way

digits_are : (n : ℕ) (ds : List ℕ) (m : ℕ) → digits_after n ds ≡ Some m → (all_ascii_digits ds ≡ true) × (read_on n ds ≡ m)
digits_are n [] m e = grind arith
digits_are n (c ∷ cs) m e = grind (arith, nat_tests, digits_are (n * 10 + (c - 48)) cs m)

natural_is : (ds : List ℕ) (n : ℕ) → n < 2 ^ 64 → natural ds ≡ Some n → decimal n ≡ ds
natural_is [] n h e = grind arith
natural_is (c ∷ []) n h e =
    let p : (all_ascii_digits (c ∷ []) ≡ true) × (read_on 0 (c ∷ []) ≡ n) = digits_are 0 (c ∷ []) n e in
    ap decimal (sym p.1) ∙ decimal-digits_value own (c ∷ []) p.0 (omega arith) (λ _. refl) (omega (arith, p.1))
natural_is (c ∷ d ∷ ds) n h e =
    let q : (c ≡ 48 → ⊥) × (digits_after 0 (c ∷ d ∷ ds) ≡ Some n) = grind (arith, nat_tests) in
    let p : (all_ascii_digits (c ∷ d ∷ ds) ≡ true) × (read_on 0 (c ∷ d ∷ ds) ≡ n) = digits_are 0 (c ∷ d ∷ ds) n q.1 in
    ap decimal (sym p.1) ∙ decimal-digits_value own (c ∷ d ∷ ds) p.0 (omega arith) (λ z. absurd (q.0 z)) (omega (arith, p.1))

plus_is : (o : Option ℕ) (z : ℤ) → plus o ≡ Some z → (n : ℕ) × (o ≡ Some n) × (z ≡ pos n)
plus_is None z e = grind arith
plus_is (Some n) z e = (n, refl, grind arith)

minus_is : (o : Option ℕ) (z : ℤ) → minus o ≡ Some z → (n : ℕ) × (o ≡ Some (suc n)) × (z ≡ negsuc n)
minus_is None z e = grind arith
minus_is (Some zero) z e = grind arith
minus_is (Some (suc n)) z e = (n, refl, grind arith)

up_is : (cs : List ℕ) (z : ℤ) → nat_abs z < 2 ^ 64 → plus (natural cs) ≡ Some z → signed_decimal z ≡ cs
up_is cs z h e =
    let p = plus_is (natural cs) z e in
    let s : signed_decimal z ≡ signed_decimal (pos p.0) = ap signed_decimal p.2 in
    let b : p.0 < 2 ^ 64 = omega (arith, ap nat_abs p.2) in
    s ∙ natural_is cs p.0 b p.1

down_is : (cs : List ℕ) (z : ℤ) → nat_abs z < 2 ^ 64 → minus (natural cs) ≡ Some z → signed_decimal z ≡ 45 ∷ cs
down_is cs z h e =
    let p = minus_is (natural cs) z e in
    let s : signed_decimal z ≡ signed_decimal (negsuc p.0) = ap signed_decimal p.2 in
    let b : suc p.0 < 2 ^ 64 = omega (arith, ap nat_abs p.2) in
    s ∙ ap (λ ds. 45 ∷ ds) (natural_is cs (suc p.0) b p.1)

whole_is : (ds : List ℕ) (z : ℤ) → nat_abs z < 2 ^ 64 → whole ds ≡ Some z → signed_decimal z ≡ ds
whole_is [] z h e = grind arith
whole_is (c ∷ cs) z h e = grind (arith, nat_tests, down_is cs z h, up_is (c ∷ cs) z h)

shorter : (bs : List ℕ) → length (after_blanks bs) ≤ length bs
shorter [] = omega arith
shorter (c ∷ cs) = grind (arith, nat_tests, shorter cs)

pad_cons : (c : ℕ) (cs ds : List ℕ) → c ≡ 32 → length ds ≤ length cs → replicate (length cs - length ds) 32 ++ ds ≡ cs → replicate (suc (length cs) - length ds) 32 ++ ds ≡ c ∷ cs
pad_cons c cs ds e l p =
    let k : suc (length cs) - length ds ≡ suc (length cs - length ds) = omega arith in
    ap (λ j. replicate j 32 ++ ds) k ∙ ap (λ x. 32 ∷ x) p ∙ ap (λ x. x ∷ cs) (sym e)

pad_none : (ds : List ℕ) → replicate (length ds - length ds) 32 ++ ds ≡ ds
pad_none ds = let k : length ds - length ds ≡ 0 = omega arith in ap (λ j. replicate j 32 ++ ds) k

padded : (bs : List ℕ) → replicate (length bs - length (after_blanks bs)) 32 ++ after_blanks bs ≡ bs
padded [] = refl
padded (c ∷ cs) = grind (arith, nat_tests, pad_cons c cs (after_blanks cs), pad_none (c ∷ cs), padded cs, shorter cs)

pub read_numbers_write_back : ReadNumbersWriteBack
read_numbers_write_back bs z h e =
    let s = whole_is (after_blanks bs) z h e in
    ap (λ ds. replicate (length bs - length ds) 32 ++ ds) s ∙ padded bs
