-- Words on lists, cited throughout this crate. Assumes nothing.
--   In: x is in the list
--   All: P holds of each element
--   Distinct: no number stands twice
--   Exactly: P holds of n numbers, and of no more
use Rattle.std.specs.Prelude.{◌≡◌, ℕ, ◌⊎◌, ◌↔◌, List, [], ◌∷◌, length}

abbrev pub In : {A : Type 0} → A → List A → Type 0
In x [] = ⊥
In x (y ∷ ys) = (x ≡ y) ⊎ In x ys

abbrev pub All : {A : Type 0} → (A → Type 0) → List A → Type 0
All P [] = Unit {0}
All P (y ∷ ys) = P y × All P ys

abbrev pub Distinct : List ℕ → Type 0
Distinct [] = Unit {0}
Distinct (x ∷ xs) = (In x xs → ⊥) × Distinct xs

abbrev pub Exactly : ℕ → (ℕ → Type 0) → Type 0
Exactly n P = (xs : List ℕ) × Distinct xs × (length xs ≡ n) × ((x : ℕ) → In x xs ↔ P x)
