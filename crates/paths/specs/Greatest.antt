-- Any kind of row with a way of meeting: judging finds the greatest rows that hold locally. Assumes nothing.
--   Solves: it accepts exactly where some rows hold locally, its rows are the greatest such, no path breaks a rule
--     there, and what a path brings is held
--   JudgeFindsTheGreatestRows, JudgeKeepsInvariants: the laws, over all tables
use Rattle.std.specs.Prelude.{◌≡◌, ℕ, Bool, true, ◌↔◌, List, [], Some, ◌≢◌}
use Rattle.paths.specs.Lists.{Exactly}
use Rattle.paths.specs.Flows.{breaks, Flow, Lawful, Monotone, GreatestBelow}
use Rattle.paths.specs.Paths.{PathTo}
use Rattle.paths.specs.Rows.{Rows, row_at, count, Held, Local}
use Rattle.paths.specs.Judging.{going, judge}
use Rattle.paths.specs.Exact.{Accepts}
use Rattle.paths.specs.Invariants.{Closed, Keeps}

module _ {R F : Type 0} (ρ : Flow R F) where
  pub record Solves : Type 0 where
    pub accepts : Accepts ρ ↔ ((rows : Rows R) × Local ρ rows)
    -- what it has a row for, all have a row for, below it
    pub greatest : (rows : Rows R) (work : List ℕ) → judge ρ ≡ going rows work
        → (rows' : Rows R) → Local ρ rows' → (i : ℕ) (r : R) → row_at rows i ≡ Some r → Held ρ rows' (i, r)
    pub empty : (rows : Rows R) (work : List ℕ) → judge ρ ≡ going rows work → work ≡ []
    pub passes : Accepts ρ → (i : ℕ) (r : R) (f : F) → PathTo ρ i r → ρ.transfer i r ≢ breaks f
    pub brings : (rows : Rows R) (work : List ℕ) → judge ρ ≡ going rows work → (i : ℕ) (r : R) → PathTo ρ i r → Held ρ rows (i, r)
    -- the count is of the instructions that have a row
    pub counts : (rows : Rows R) → Exactly (count rows) (λ i. (r : R) × (row_at rows i ≡ Some r))

-- a clause is a `Type 0`, so the kind of row is fixed here
abbrev pub JudgeFindsTheGreatestRows : Type 0
JudgeFindsTheGreatestRows = (ρ : Flow (List ℕ) ℕ) → Lawful ρ → Monotone ρ → GreatestBelow ρ → Solves ρ

-- over rows of any way of meeting: whatever paths and meetings keep, by any test b, judging keeps
abbrev pub JudgeKeepsInvariants : Type 0
JudgeKeepsInvariants = (ρ : Flow (List ℕ) ℕ) → Lawful ρ → (b : ℕ → List ℕ → Bool) → Closed ρ (λ i r. b i r ≡ true) → Keeps ρ (λ i r. b i r ≡ true) (judge ρ)
