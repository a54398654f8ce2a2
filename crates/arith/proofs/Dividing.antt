-- The quotient toward zero and the remainder make up the dividend.
use Rattle.std.proofs.Common.{◌≡◌, ℕ, zero, suc, ◌+◌, ◌*◌, ◌/◌, ◌%◌, ◌<◌, ℤ, pos, negsuc, ◌+ℤ◌, ◌*ℤ◌, neg_ℤ, nat_abs, ◌≤ℤ◌, Some, Ok, sym, refl, ap, ◌∙◌, subst, mod-lt, div-add-mod', zero-mul, arith}
use lib.IntN.{zero-*ℤ, neg_ℤ-+ℤ, negsuc-*ℤ-pos}
use lib.Signed.{quot_z, rem_z}
use Rattle.std.proofs.lemmas.Int.{ints}
use Rattle.std.proofs.lemmas.Bool.Decides.{nat_tests}
use Rattle.sheet.specs.declared.operation.Arithmetic.TheVariants.{Div}
use Rattle.arith.specs.Integers.{integer_arithmetic}
use Rattle.arith.specs.Quotients.{Divides, OnItsSide, whole_quotient}

whole : (a b : ℕ) → a / b * b + a % b ≡ a
whole a b = div-add-mod' a b

down_down : (q b : ℕ) → neg_ℤ (pos q) *ℤ negsuc b ≡ pos (q * suc b)
down_down zero b = zero-*ℤ (negsuc b) ∙ ap pos (sym (zero-mul (suc b)))
down_down (suc q) b = refl

down_up : (q b : ℕ) → neg_ℤ (pos q) *ℤ pos b ≡ neg_ℤ (pos (q * b))
down_up zero b = zero-*ℤ (pos b) ∙ ap (λ n. neg_ℤ (pos n)) (sym (zero-mul b))
down_up (suc q) b = negsuc-*ℤ-pos q b

sums : (m n : ℕ) → neg_ℤ (pos m) +ℤ neg_ℤ (pos n) ≡ neg_ℤ (pos (m + n))
sums m n = sym (neg_ℤ-+ℤ (pos m) (pos n))

makes_up : (a b : ℤ) → quot_z a b *ℤ b +ℤ rem_z a b ≡ a
makes_up (pos a) (pos b) = ap pos (whole a b)
makes_up (pos a) (negsuc b) = ap (λ z. z +ℤ pos (a % suc b)) (down_down (a / suc b) b) ∙ ap pos (whole a (suc b))
makes_up (negsuc a) (pos b) =
    ap (λ z. z +ℤ neg_ℤ (pos (suc a % b))) (down_up (suc a / b) b) ∙ sums (suc a / b * b) (suc a % b) ∙ ap (λ n. neg_ℤ (pos n)) (whole (suc a) b)
makes_up (negsuc a) (negsuc b) = sums (suc a / suc b * suc b) (suc a % suc b) ∙ ap (λ n. neg_ℤ (pos n)) (whole (suc a) (suc b))

pub size_of_negative : (n : ℕ) → nat_abs (neg_ℤ (pos n)) ≡ n
size_of_negative zero = refl
size_of_negative (suc n) = refl

smaller : (a b : ℤ) → 0 < nat_abs b → nat_abs (rem_z a b) < nat_abs b
smaller (pos a) b h = mod-lt a h
smaller (negsuc a) b h = rw size_of_negative (mod-lt (suc a) h)

below_zero : (n : ℕ) → neg_ℤ (pos n) ≤ℤ pos 0
below_zero zero = omega (arith, ints)
below_zero (suc n) = omega (arith, ints)

on_its_side : (a b : ℤ) → OnItsSide a (rem_z a b)
on_its_side (pos a) b = omega (arith, ints)
on_its_side (negsuc a) b = below_zero (suc a % nat_abs b)

divides : (a b : ℤ) → 0 < nat_abs b → Divides a b (quot_z a b)
divides a b h = (rem_z a b, makes_up a b, smaller a b h, on_its_side a b)

-- whatever the quotient answers, divides
pub answer_divides : (a b q : ℤ) → whole_quotient a b ≡ Some q → Divides a b q
answer_divides a b q e =
    let positive : 0 < nat_abs b = grind (arith, nat_tests) in
    let same : quot_z a b ≡ q = grind (arith, nat_tests) in
    subst (Divides a b) same (divides a b positive)

pub ratio_divides : (x y q : ℤ) → integer_arithmetic Div x y ≡ Ok q → Divides x y q
ratio_divides x y q e = answer_divides x y q (grind (arith, nat_tests))
