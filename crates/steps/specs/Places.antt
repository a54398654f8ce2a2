-- The number of the instruction at a place in the code. Cited by the fetch of a step. Assumes nothing.
--   number: that from 0 to 4,095, if it is one
use Rattle.std.specs.Prelude.{ℕ, cond, ℤ, pos, negsuc, Some, None, Option, nat_lt}

abbrev pub number : ℤ → Option ℕ
number (pos n) = cond (nat_lt n 4096) (Some n) None
number (negsuc n) = None
