-- The first line of values that fails a test, as a search for a place finds it.
use Rattle.std.proofs.Common.{◌≡◌, ℕ, ◌+◌, Bool, true, false, cond, not, List, [], ◌∷◌, map, Some, refl}
use Rattle.std.specs.List.{enumerate_from, position_from}
use Rattle.std.specs.Option.{option_map}
use Rattle.columns.specs.Scans.{first_failing}
use Rattle.columns.specs.ValueLines.{read_value}
use Rattle.columns.specs.ValueText.{Typed, one_more}

abbrev pub fails : (ℕ → Typed → Bool) → ℕ × List ℕ → Bool
fails test p = not (test p.0 (read_value p.1))

pub found_failing : (test : ℕ → Typed → Bool) (n : ℕ) (ls : List (List ℕ)) → option_map (λ i. i + 1) (position_from (fails test) n (enumerate_from n ls)) ≡ first_failing one_more test n (n + 1) (map read_value ls)
found_failing test n [] = refl
found_failing test n (l ∷ ls) = by (found_failing test (n + 1) ls) (test n (read_value l))
  where
    by : option_map (λ i. i + 1) (position_from (fails test) (n + 1) (enumerate_from (n + 1) ls)) ≡ first_failing one_more test (n + 1) (n + 1 + 1) (map read_value ls)
        → (b : Bool) → option_map (λ i. i + 1) (cond (not b) (Some n) (position_from (fails test) (n + 1) (enumerate_from (n + 1) ls))) ≡ cond b (first_failing one_more test (n + 1) (n + 1 + 1) (map read_value ls)) (Some (n + 1))
    by rest true = rest
    by rest false = refl
