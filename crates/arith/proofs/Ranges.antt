-- Results of integers in 128 bits: none of them is cut off.
use Rattle.std.proofs.Common.{◌≡◌, suc, ◌*◌, ◌^◌, ◌≤◌, ℤ, pos, negsuc, ◌+ℤ◌, ◌*ℤ◌, nat_abs, Some, refl, ap, ◌∙◌, mul-le-mul, arith, w32, SFits, to_z, of_z}
use mir.Syntax.{w128}
use Rattle.std.proofs.lemmas.Int.{ints, to_z-of_z}
use Rattle.std.proofs.lemmas.Bool.Decides.{nat_tests}
use Rattle.sheet.specs.declared.operation.Arithmetic.TheVariants.{Div}
use Rattle.arith.specs.Integers.{integer_of, integer_arithmetic}
use Rattle.arith.proofs.Dividing.{size_of_negative}
use Rattle.arith.specs.Quotients.{whole_quotient}

-- a number as 128 bits hold it
abbrev cast : ℤ → ℤ
cast z = to_z w128 (of_z w128 z)

-- what the conversion of an integer to 128 bits answers
abbrev pub Widens : (z w : ℤ) → Type 0
Widens z w = w ≡ to_z w32 (of_z w32 z)

pub cast_is : (z w : ℤ) → SFits w32 z → Widens z w → cast w ≡ z
cast_is z w f e = omega (arith, ints)

some_quotient : (x y z : ℤ) → Some z ≡ whole_quotient x y → integer_of z ≡ integer_arithmetic Div x y
some_quotient x y z e = grind (arith, nat_tests)

pub quotient_held : (x y z v w : ℤ) → SFits w32 x → SFits w32 y → SFits w128 z → Widens x v → Widens y w → Some z ≡ whole_quotient (cast v) (cast w) → integer_of (cast z) ≡ integer_arithmetic Div x y
quotient_held x y z v w f g h a b e =
    ap (λ u. integer_of u) (to_z-of_z w128 z h) ∙ some_quotient x y z (rw (cast_is x v f a, cast_is y w g b) at e)

-- the product of two integers has at most 63 bits
size_of : (z : ℤ) → SFits w32 z → nat_abs z ≤ 2 ^ 31
size_of (pos n) h = omega arith
size_of (negsuc n) h = omega arith

size_of_product : (x y : ℤ) → nat_abs (x *ℤ y) ≡ nat_abs x * nat_abs y
size_of_product (pos a) (pos b) = refl
size_of_product (pos a) (negsuc b) = size_of_negative (a * suc b)
size_of_product (negsuc a) (pos b) = size_of_negative (suc a * b)
size_of_product (negsuc a) (negsuc b) = refl

product_bound : (x y : ℤ) → SFits w32 x → SFits w32 y → nat_abs (x *ℤ y) ≤ 2 ^ 62
product_bound x y f g = rw size_of_product (mul-le-mul (size_of x f) (size_of y g))

sum_fits : (a z : ℤ) → SFits w32 a → nat_abs z ≤ 2 ^ 62 → SFits w128 (a +ℤ z)
sum_fits a (pos n) f h = omega (arith, ints)
sum_fits a (negsuc n) f h = omega (arith, ints)

product_fits : (z : ℤ) → nat_abs z ≤ 2 ^ 62 → SFits w128 z
product_fits (pos n) h = omega (arith, ints)
product_fits (negsuc n) h = omega (arith, ints)

pub reach_fits : (a i q : ℤ) → SFits w32 a → SFits w32 i → SFits w32 q → SFits w128 (a +ℤ i *ℤ q)
reach_fits a i q f g h = sum_fits a (i *ℤ q) f (product_bound i q g h)

-- a + i * q, as it is computed from the numbers widened
pub reach_is : (a i q b j p : ℤ) → SFits w32 a → SFits w32 i → SFits w32 q → Widens a b → Widens i j → Widens q p → cast b +ℤ cast (cast j *ℤ cast p) ≡ a +ℤ i *ℤ q
reach_is a i q b j p f g h x y z =
    let product : SFits w128 (i *ℤ q) = product_fits (i *ℤ q) (product_bound i q g h) in
    rw (cast_is a b f x, cast_is i j g y, cast_is q p h z, to_z-of_z w128 (i *ℤ q) product)

pub reach_held : (z s : ℤ) → SFits w128 s → z ≡ s → integer_of (cast z) ≡ integer_of s
reach_held z s f e = ap (λ v. integer_of (cast v)) e ∙ ap (λ v. integer_of v) (to_z-of_z w128 s f)
