-- What holds of every row that paths bring, and of every row that they meet in. Assumes nothing.
--   Cases: P of the rows and the work list while judging goes on, Q of the fault where it is refused
--   Sound: B holds of every row in place
--   Closed: B holds of the entries, is handed on, and is kept where rows meet
--   Caused: the fault is there, at a row or between two rows of which B holds
--   Keeps: judging leaves rows that hold locally and of which B holds, or names a fault that is there
use Rattle.std.specs.Prelude.{◌≡◌, ℕ, ◌⊎◌, List, Some}
use Rattle.paths.specs.Lists.{All}
use Rattle.paths.specs.Flows.{Hand, breaks, hands_on, lower, clash, Flow}
use Rattle.paths.specs.Rows.{Rows, row_at, Local}
use Rattle.paths.specs.Judging.{Progress, going, refused}

abbrev pub Cases : {R F : Type 0} → (Rows R → List ℕ → Type 0) → (F → ℕ → Type 0) → Progress R F → Type 0
Cases P Q (going rows work) = P rows work
Cases P Q (refused f i) = Q f i

abbrev pub Sound : {R : Type 0} → (ℕ → R → Type 0) → Rows R → Type 0
Sound {R} B rows = (i : ℕ) (r : R) → row_at rows i ≡ Some r → B i r

module _ {R F : Type 0} (ρ : Flow R F) where
  pub record Closed (B : ℕ → R → Type 0) : Type 0 where
    pub begins : All (λ h. B h.0 h.1) ρ.entries
    pub goes : (i : ℕ) (r : R) (hs : List (Hand R)) → B i r → ρ.transfer i r ≡ hands_on hs → All (λ h. B h.0 h.1) hs
    pub meets : (i : ℕ) (q s t : R) → B i q → B i s → ρ.meet q s ≡ lower t → B i t

  abbrev pub Caused : (ℕ → R → Type 0) → F → ℕ → Type 0
  Caused B f i =
      ((r : R) × B i r × (ρ.transfer i r ≡ breaks f))
      ⊎ ((q : R) × (s : R) × B i q × B i s × (ρ.meet q s ≡ clash) × (f ≡ ρ.differ))

  abbrev pub Keeps : (ℕ → R → Type 0) → Progress R F → Type 0
  Keeps B = Cases (λ rows work. Local ρ rows × Sound B rows) (Caused B)
