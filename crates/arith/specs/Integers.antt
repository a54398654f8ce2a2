-- Operations on the machine's integers: computed as whole numbers, then held to the range of 32 bits. Assumes nothing.
--   integer_fits: whether a whole number is an integer of the machine
--   integer_of: the integer, outside its kind where it does not fit
--   integer_arithmetic: sum, difference, product and quotient
--   integer_checked: the integer itself, where it lies within the bounds
--   character_of: the character with a number from 0 to 255
use Rattle.std.specs.Prelude.{ℕ, Bool, not, ℤ, pos, negsuc, ◌+ℤ◌, ◌-ℤ◌, ◌*ℤ◌, Ok, Err, int_div, nat_lt}
use Rattle.sheet.specs.declared.operation.Arithmetic.{Arithmetic}
use Rattle.sheet.specs.declared.operation.Arithmetic.TheVariants.{Add, Sub, Mul, Div}
use Rattle.sheet.specs.declared.stop.Stop.TheVariants.{OutsideKind, OutsideBounds, ZeroDivisor}
use Rattle.arith.specs.Answers.{Answer, demand, ◌>>◌}
use Rattle.arith.specs.Quotients.{between, is_zero}

abbrev pub integer_fits : ℤ → Bool
integer_fits z = between (negsuc 2147483647) (pos 2147483647) z

abbrev pub integer_of : ℤ → Answer ℤ
integer_of z = demand (integer_fits z) OutsideKind >> Ok z

abbrev pub integer_arithmetic : Arithmetic → ℤ → ℤ → Answer ℤ
integer_arithmetic Add x y = integer_of (x +ℤ y)
integer_arithmetic Sub x y = integer_of (x -ℤ y)
integer_arithmetic Mul x y = integer_of (x *ℤ y)
integer_arithmetic Div x y = demand (not (is_zero y)) ZeroDivisor >> integer_of (int_div x y)

abbrev pub integer_checked : (p q i : ℤ) → Answer ℤ
integer_checked p q i = demand (between p q i) OutsideBounds >> Ok i

abbrev pub character_of : ℤ → Answer ℕ
character_of (pos n) = demand (nat_lt n 256) OutsideKind >> Ok n
character_of (negsuc n) = Err OutsideKind
