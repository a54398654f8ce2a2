-- Division of whole numbers with the fraction dropped toward zero, cited by every division. Assumes nothing.
--   between: whether a number lies from one end to the other
--   is_zero: whether a number is 0
--   whole_quotient: the quotient, and nothing for a zero divisor or where it has more than 128 bits
--   Divides: quotient times divisor plus remainder is the dividend. The remainder is smaller than the divisor,
--     and is zero or on the dividend's side of zero
use Rattle.std.specs.Prelude.{◌≡◌, ◌-◌, ◌^◌, ◌<◌, Bool, cond, ◌&&◌, ℤ, pos, negsuc, ◌+ℤ◌, ◌*ℤ◌, ◌≤ℤ◌, Some, None, Option, ◌==◌, int_div, int_le, unsigned_abs}

abbrev pub between : (least greatest z : ℤ) → Bool
between l g z = int_le l z && int_le z g

abbrev pub is_zero : ℤ → Bool
is_zero z = unsigned_abs z == 0

-- numbers of 128 bits
abbrev pub fits_wide : ℤ → Bool
fits_wide z = between (negsuc (2 ^ 127 - 1)) (pos (2 ^ 127 - 1)) z

abbrev pub whole_quotient : (dividend divisor : ℤ) → Option ℤ
whole_quotient a b = cond (is_zero b) None (cond (fits_wide (int_div a b)) (Some (int_div a b)) None)

-- r does not lie across zero from a
abbrev pub OnItsSide : (a r : ℤ) → Type 0
OnItsSide (pos a) r = pos 0 ≤ℤ r
OnItsSide (negsuc a) r = r ≤ℤ pos 0

abbrev pub Divides : (dividend divisor quotient : ℤ) → Type 0
Divides a b q = (r : ℤ) × (q *ℤ b +ℤ r ≡ a) × (unsigned_abs r < unsigned_abs b) × OnItsSide a r
