-- The number by which a store refuses. Assumes nothing.
--   refusal_number: that of a slot past the end
use Rattle.std.specs.Prelude.{ℕ}
use Rattle.store.specs.declared.slot.PastTheEnd.{PastTheEnd}

abbrev pub refusal_number : PastTheEnd → ℕ
refusal_number e = 35
