-- A rule on each element of a list, by its place. Cited by the laws on the checks. Assumes nothing.
--   HoldsThroughout: every element keeps the rule
--   BreaksFirst: the element at place n breaks the rule, and every one below it keeps the rule
use Rattle.std.specs.Prelude.{◌≡◌, ℕ, ◌<◌, List, Some}
use Rattle.std.specs.List.{slice_get}

abbrev pub HoldsThroughout : {X : Type 0} → (ℕ → X → Type 0) → List X → Type 0
HoldsThroughout {X} Rule xs = (n : ℕ) (x : X) → slice_get xs n ≡ Some x → Rule n x

abbrev pub BreaksFirst : {X : Type 0} → (ℕ → X → Type 0) → List X → ℕ → Type 0
BreaksFirst {X} Rule xs n =
    ((x : X) × (slice_get xs n ≡ Some x) × (Rule n x → ⊥)) × ((j : ℕ) (x : X) → j < n → slice_get xs j ≡ Some x → Rule j x)
