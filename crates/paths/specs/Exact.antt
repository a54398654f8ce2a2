-- What a judgement comes to, in terms of paths, where rows meet only if they are equal. Assumes nothing.
--   strict: the flow whose rows meet only where a test finds them equal
--   Accepts: judging goes on to its end
--   Exact: it accepts exactly where the paths are clean; a refusal is met on a path; the rows are what paths bring
--   JudgeIsExact: the law, over all tables
use Rattle.std.specs.Prelude.{◌≡◌, ℕ, Bool, true, false, ◌↔◌, List, [], Some}
use Rattle.paths.specs.Lists.{Exactly}
use Rattle.paths.specs.Flows.{Hand, Transfer, Met, keep, clash, Flow, Inside}
use Rattle.paths.specs.Paths.{PathTo, Reached, Clean, MetOnAPath}
use Rattle.paths.specs.Rows.{Rows, row_at, count, Local}
use Rattle.paths.specs.Judging.{going, refused, judge}

unfoldable pub agree : {R : Type 0} → Bool → Met R
agree true = keep
agree false = clash

-- the test tells equal rows from others
abbrev pub Tells : {R : Type 0} → (R → R → Bool) → Type 0
Tells {R} same = (q s : R) → (same q s ≡ true) ↔ (q ≡ s)

abbrev pub strict : {R F : Type 0} → (R → R → Bool) → ℕ → List (Hand R) → (ℕ → R → Transfer R F) → F → Flow R F
strict same n es f d = record { size = n; entries = es; transfer = f; meet = λ q s. agree (same q s); differ = d; height = λ r. 0; top = 0 }

module _ {R F : Type 0} (ρ : Flow R F) where
  abbrev pub Accepts : Type 0
  Accepts = (rows : Rows R) × (work : List ℕ) × (judge ρ ≡ going rows work)

  pub record Exact : Type 0 where
    pub accepts : Accepts ↔ Clean ρ
    pub names : (f : F) (i : ℕ) → judge ρ ≡ refused f i → MetOnAPath ρ f i
    -- nothing waits at the end
    pub empty : (rows : Rows R) (work : List ℕ) → judge ρ ≡ going rows work → work ≡ []
    pub holds : (rows : Rows R) (work : List ℕ) → judge ρ ≡ going rows work → Local ρ rows
    pub brings : (rows : Rows R) (work : List ℕ) → judge ρ ≡ going rows work → (i : ℕ) (r : R) → (row_at rows i ≡ Some r) ↔ PathTo ρ i r
    -- as many rows as instructions that some path reaches
    pub counts : (rows : Rows R) (work : List ℕ) → judge ρ ≡ going rows work → Exactly (count rows) (Reached ρ)

-- a clause is a `Type 0`, so the kind of row is fixed here
abbrev pub JudgeIsExact : Type 0
JudgeIsExact = (same : List ℕ → List ℕ → Bool) → Tells same → (n : ℕ) (es : List (Hand (List ℕ))) (f : ℕ → List ℕ → Transfer (List ℕ) ℕ) (d : ℕ)
    → Inside (strict same n es f d) → Exact (strict same n es f d)
