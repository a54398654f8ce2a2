-- A finite real and its 64 bits are read from each other.
use Rattle.std.proofs.Common.{◌≡◌, ℕ, ◌^◌, ◌<◌, Bool, true, false, cond, not, T, Some, None, sym, refl, ap, ◌∙◌, subst, arith}
use lib.Ieee.{Float, nan, inf, fin, binary64, fits, is_nan, of_bits, to_bits}
use lib.Ieee.Bits.{of_bits-to_bits, to_bits-of_bits}
use Rattle.std.specs.Float.{float_is_finite}
use Rattle.arith.specs.Reals.{pattern_of, of_pattern}

pub number_if_finite : (x : Float) → float_is_finite x ≡ true → T (not (is_nan x))
unfolding float_is_finite is_nan
number_if_finite nan h = let z : ◌≡◌ {A = Bool} false true = h in grind arith
number_if_finite (inf s) h = tt
number_if_finite (fin s m e) h = tt

kept : (x : Float) → float_is_finite x ≡ true → cond (float_is_finite x) (Some x) None ≡ Some x
kept x h = ap (λ b. cond b (Some x) None) h

pub real_back : (x : Float) → fits binary64 x ≡ true → float_is_finite x ≡ true → of_pattern (pattern_of x) ≡ Some x
real_back x f h = ap (λ y. cond (float_is_finite y) (Some y) None) (of_bits-to_bits binary64 x (subst T (sym f) tt)) ∙ kept x h

of_kept : (b : Bool) (x y : Float) → cond b (Some y) None ≡ Some x → (b ≡ true) × (y ≡ x)
of_kept true x y e = (refl, cc)
of_kept false x y e = (cc, cc)

pub bits_back : (b : ℕ) (x : Float) → b < 2 ^ 64 → of_pattern b ≡ Some x → pattern_of x ≡ b
bits_back b x l e =
    let parts = of_kept (float_is_finite (of_bits binary64 b)) x (of_bits binary64 b) e in
    ap (to_bits binary64) (sym parts.1) ∙ to_bits-of_bits binary64 b l (number_if_finite (of_bits binary64 b) parts.0)
