-- Rows in place, one for each instruction or none, and the local condition on them. Assumes nothing.
--   Rows: what is in place
--   row_at: the row of instruction i
--   count: how many instructions have a row
--   Held: a row handed finds one in place that says no more
--   Settled: instruction i, with row r, breaks no rule, and all that it hands on is held
--   Local: as many rows as instructions, every entry is held, and every row is settled
use Rattle.std.specs.Prelude.{◌≡◌, ℕ, suc, List, [], ◌∷◌, length, Some, None, Option, slice_index_or}
use Rattle.paths.specs.Lists.{All}
use Rattle.paths.specs.Flows.{Hand, hands_on, Flow, Below}

abbrev pub Rows : Type 0 → Type 0
Rows R = List (Option R)

abbrev pub row_at : {R : Type 0} → Rows R → ℕ → Option R
row_at rows i = slice_index_or rows i None

abbrev pub count : {R : Type 0} → Rows R → ℕ
count [] = 0
count (None ∷ rows) = count rows
count (Some r ∷ rows) = suc (count rows)

module _ {R F : Type 0} (ρ : Flow R F) where
  abbrev pub Held : Rows R → Hand R → Type 0
  Held rows h = (q : R) × (row_at rows h.0 ≡ Some q) × Below ρ q h.1

  abbrev pub Settled : Rows R → ℕ → R → Type 0
  Settled rows i r = (hs : List (Hand R)) × (ρ.transfer i r ≡ hands_on hs) × All (Held rows) hs

  pub record Local (rows : Rows R) : Type 0 where
    pub wide : length rows ≡ ρ.size
    pub entered : All (Held rows) ρ.entries
    pub kept : (i : ℕ) (r : R) → row_at rows i ≡ Some r → Settled rows i r
