-- The cast that stops at the ends of 64 bits changes no number of 32 bits, and brings an integer back.
use Rattle.std.proofs.Common.{◌≡◌, ℕ, ◌-◌, ◌*◌, ◌/◌, ◌^◌, min, true, false, T, ℤ, pos, negsuc, neg_ℤ, Ok, refl, arith, le→leb, lt→ltb, w32, SFits}
use lib.Ieee.{Float, nan, inf, fin, up, down, to_signed, binary64, in_signed, in_float}
use lib.Ieee.Back.{positive_back, negative_back}
use Rattle.std.specs.Float.{float_is_finite}
use Rattle.std.proofs.lemmas.Bool.Decides.{nat_tests}
use Rattle.arith.specs.Integers.{integer_of}
use Rattle.arith.specs.Reals.{truncated, whole_part, of_integer}

up_capped : (n : ℕ) → integer_of (pos (min n (2 ^ 63 - 1))) ≡ integer_of (pos n)
up_capped n = grind (arith, nat_tests)

down_capped : (n : ℕ) → integer_of (neg_ℤ (pos (min n (2 ^ 63)))) ≡ integer_of (neg_ℤ (pos n))
down_capped n = grind (arith, nat_tests)

pub capped : (x : Float) → float_is_finite x ≡ true → integer_of (to_signed 63 x) ≡ integer_of (truncated x)
unfolding to_signed float_is_finite
capped nan h = grind arith
capped (inf s) h = grind arith
capped (fin false m e) h = up_capped (m * up e / down e)
capped (fin true m e) h = down_capped (m * up e / down e)

-- an integer as a real has no fraction and lies within 63 bits
finite_in : (x : Float) → T (in_signed binary64 63 x) → float_is_finite x ≡ true
unfolding in_signed float_is_finite
finite_in nan h = absurd h
finite_in (inf s) h = absurd h
finite_in (fin s m e) h = refl

whole_in : (x : Float) (z : ℤ) → T (in_signed binary64 63 x) × (to_signed 63 x ≡ z) → integer_of z ≡ Ok z → whole_part x ≡ Ok z
whole_in x z p r =
    let f : float_is_finite x ≡ true = finite_in x p.0 in
    let e : integer_of (to_signed 63 x) ≡ integer_of (truncated x) = capped x f in
    let t : to_signed 63 x ≡ z = p.1 in
    grind (arith, e, t, f, r)

pub integer_finite : (z : ℤ) → SFits w32 z → float_is_finite (of_integer z) ≡ true
unfolding in_float
integer_finite (pos n) h = finite_in _ (positive_back binary64 63 n (omega (arith, le→leb)) (omega arith)).0
integer_finite (negsuc n) h = finite_in _ (negative_back binary64 63 n (omega (arith, lt→ltb)) (omega arith)).0

pub integer_back : (z : ℤ) → SFits w32 z → whole_part (of_integer z) ≡ Ok z
unfolding in_float
integer_back (pos n) h = whole_in _ (pos n) (positive_back binary64 63 n (omega (arith, le→leb)) (omega arith)) (grind (arith, nat_tests))
integer_back (negsuc n) h = whole_in _ (negsuc n) (negative_back binary64 63 n (omega (arith, lt→ltb)) (omega arith)) (grind (arith, nat_tests))
