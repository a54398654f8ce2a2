-- Going over the lines of a text with a count and a test. Cited by the readers of texts. Assumes nothing.
--   first_failing: the number of the first line that fails the test, counted from n
--   Computes: what a closure gives of a count and a line is this test
--   laid: a list written over the front of another, whose rest stays
use Rattle.std.specs.Prelude.{◌≡◌, ℕ, ◌+◌, Bool, cond, List, [], ◌∷◌, Some, None, Option}

-- c is what has been counted before the list
abbrev pub first_failing : {C X : Type 0} → (C → X → C) → (C → X → Bool) → C → ℕ → List X → Option ℕ
first_failing count test c n [] = None
first_failing count test c n (x ∷ xs) = cond (test c x) (first_failing count test (count c x) (n + 1) xs) (Some n)

abbrev pub Computes : {C X : Type 0} → (C → X → Bool → Type 0) → (C → X → Bool) → Type 0
Computes {C} {X} gives test = (c : C) (x : X) (b : Bool) → gives c x b → b ≡ test c x

abbrev pub laid : {X : Type 0} → List X → List X → List X
laid [] ys = ys
laid (x ∷ xs) [] = []
laid (x ∷ xs) (y ∷ ys) = x ∷ laid xs ys
