-- Laying the values of a text into a list: what is left to lay gives the whole.
use Rattle.std.proofs.Common.{◌≡◌, ℕ, ◌+◌, List, length}
use Rattle.sheet.specs.declared.value.Value.{Value}
use Rattle.columns.specs.Scans.{laid}
use Rattle.columns.specs.ValueText.{Typed, good_values}
use Rattle.columns.proofs.Laying.{over}

-- the next value goes to place n, and the lines xs are left
pub record Laying (xs whole : List Typed) (vs₀ : List Value) (n : ℕ) (vs : List Value) : Type 0 where
  pub values : over n (good_values xs) vs ≡ laid (good_values whole) vs₀
  pub how_many : n + length (good_values xs) ≡ length (good_values whole)
