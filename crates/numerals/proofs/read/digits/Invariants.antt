use Rattle.std.proofs.Common.{◌≡◌, ◌^◌, ◌<◌, drop}
use Rattle.numerals.specs.Numbers.{digits_after}
use Rattle.numerals.proofs.read.digits.Given as goal

abbrev pub invariant-loop-b : goal.invariant-loop-b
invariant-loop-b l = (digits_after l.n (drop l.b-index l.s) ≡ digits_after 0 l.s) × (l.n < 10 ^ l.b-index)
