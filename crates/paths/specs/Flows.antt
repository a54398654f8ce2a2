-- A table as its paths see it, for any kind of row R and of fault F. Cited by all that follows. Assumes nothing.
--   Hand: a row handed to an instruction
--   Transfer: what an instruction does with its row: it breaks a rule, or hands rows on, in order
--   Met: what a row in place comes to when another is handed to it: it is kept, lowered, or the two clash
--   Flow: the instructions' number, the entries, what each instruction does, and how rows meet
--   Below: the row in place says no more than the one handed
--   Inside: entries and successors lie in the table
--   Lawful: the laws of a way of meeting
--   Monotone: a higher row passes where a lower one does, and hands on higher rows
--   GreatestBelow: two rows meet in the greatest row below both
use Rattle.std.specs.Prelude.{◌≡◌, ℕ, ◌<◌, ◌≤◌, List}
use Rattle.paths.specs.Lists.{In, All}

abbrev pub Hand : Type 0 → Type 0
Hand R = ℕ × R

pub data Transfer (R F : Type 0) : Type 0 where
  breaks : F → Transfer R F
  hands_on : List (Hand R) → Transfer R F

pub data Met (R : Type 0) : Type 0 where
  keep : Met R
  lower : R → Met R
  clash : Met R

pub record Flow (R F : Type 0) : Type 0 where
  pub size : ℕ
  -- where paths start, and with which row
  pub entries : List (Hand R)
  pub transfer : ℕ → R → Transfer R F
  pub meet : R → R → Met R
  -- the fault where rows clash
  pub differ : F
  -- how often a row can still be lowered, and the most that this can be
  pub height : R → ℕ
  pub top : ℕ

module _ {R F : Type 0} (ρ : Flow R F) where
  abbrev pub Below : R → R → Type 0
  Below q s = ρ.meet q s ≡ keep

  pub record Inside : Type 0 where
    pub starts : All (λ h. h.0 < ρ.size) ρ.entries
    pub goes : (i : ℕ) (r : R) (hs : List (Hand R)) → ρ.transfer i r ≡ hands_on hs → All (λ h. h.0 < ρ.size) hs

  pub record Lawful : Type 0 where
    pub same : (r : R) → Below r r
    pub chain : (p q r : R) → Below p q → Below q r → Below p r
    pub under : (q s t : R) → ρ.meet q s ≡ lower t → Below t q × Below t s
    pub falls : (q s t : R) → ρ.meet q s ≡ lower t → ρ.height t < ρ.height q
    pub small : (r : R) → ρ.height r ≤ ρ.top
    pub inside : Inside

  pub record Monotone : Type 0 where
    pub passes : (i : ℕ) (q r : R) (hs : List (Hand R)) → Below q r → ρ.transfer i q ≡ hands_on hs
        → (gs : List (Hand R)) × (ρ.transfer i r ≡ hands_on gs) × All (λ g. (s : R) × In (g.0, s) hs × Below s g.1) gs

  -- and rows that clash have no row below both
  pub record GreatestBelow : Type 0 where
    pub meets : (q s t p : R) → ρ.meet q s ≡ lower t → Below p q → Below p s → Below p t
    pub apart : (q s p : R) → ρ.meet q s ≡ clash → Below p q → Below p s → ⊥
