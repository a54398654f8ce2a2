-- Operations on reals: each is IEEE 754's on 64 bits, which rounds once, and its result has to be finite. Assumes nothing.
--   real_of: the real, outside its kind where it is not finite
--   real_arithmetic: sum, difference, product and quotient; 0 and -0 are zero divisors
--   of_integer: the real with an integer's value
--   truncated: a real's whole part, the fraction dropped toward zero
--   whole_part: that as an integer, outside its kind where it does not fit
--   pattern_of, of_pattern: a real's 64 bits, and the finite real that 64 bits stand for
use Rattle.std.specs.Prelude.{ℕ, ◌*◌, ◌/◌, Bool, cond, not, ℤ, pos, neg_ℤ, Some, None, Ok, Option, Float}
use Rattle.std.specs.Float.Ieee as Ieee
use Rattle.std.specs.Float.Ieee.{up, down}
use Rattle.std.specs.Float.{float_is_finite, nan, inf, fin, binary64}
use Rattle.sheet.specs.declared.operation.Arithmetic.{Arithmetic}
use Rattle.sheet.specs.declared.operation.Arithmetic.TheVariants.{Add, Sub, Mul, Div}
use Rattle.sheet.specs.declared.stop.Stop.TheVariants.{OutsideKind, ZeroDivisor}
use Rattle.arith.specs.Answers.{Answer, demand, ◌>>◌}
use Rattle.arith.specs.Integers.{integer_of}

abbrev pub real_of : Float → Answer Float
real_of x = demand (float_is_finite x) OutsideKind >> Ok x

-- the pattern 0 is the real 0, to which -0 is equal
abbrev pub is_real_zero : Float → Bool
is_real_zero x = Ieee.eq x (Ieee.of_bits binary64 0)

abbrev pub real_arithmetic : Arithmetic → Float → Float → Answer Float
real_arithmetic Add x y = real_of (Ieee.add binary64 x y)
real_arithmetic Sub x y = real_of (Ieee.sub binary64 x y)
real_arithmetic Mul x y = real_of (Ieee.mul binary64 x y)
real_arithmetic Div x y = demand (not (is_real_zero y)) ZeroDivisor >> real_of (Ieee.div binary64 x y)

abbrev pub of_integer : ℤ → Float
of_integer z = Ieee.of_int binary64 z

-- of m * 2 ^ e, negative where s is set
abbrev pub truncated : Float → ℤ
truncated nan = pos 0
truncated (inf s) = pos 0
truncated (fin s m e) = cond s (neg_ℤ (pos (m * up e / down e))) (pos (m * up e / down e))

abbrev pub whole_part : Float → Answer ℤ
whole_part x = demand (float_is_finite x) OutsideKind >> integer_of (truncated x)

abbrev pub pattern_of : Float → ℕ
pattern_of x = Ieee.to_bits binary64 x

abbrev pub of_pattern : ℕ → Option Float
of_pattern b = let x = Ieee.of_bits binary64 b in cond (float_is_finite x) (Some x) None
