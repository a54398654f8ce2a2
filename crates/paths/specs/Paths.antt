-- Paths through a table, with no word of how they are followed. Cited by the laws of judging. Assumes nothing.
--   PathTo: a path brings row r to instruction i: from an entry, by successors
--   Reached: some path comes to i
--   Clean: no path breaks a rule, and no two bring different rows to one instruction
--   MetOnAPath: a path breaks the rule f at i, or two bring different rows there
use Rattle.std.specs.Prelude.{◌≡◌, ℕ, ◌⊎◌, List, ◌≢◌}
use Rattle.paths.specs.Lists.{In}
use Rattle.paths.specs.Flows.{Hand, breaks, hands_on, Flow}

module _ {R F : Type 0} (ρ : Flow R F) where
  pub data PathTo : ℕ → R → Type 0 where
    start : (i : ℕ) (r : R) → In (i, r) ρ.entries → PathTo i r
    next : (i : ℕ) (r : R) (hs : List (Hand R)) (j : ℕ) (s : R) → PathTo i r → ρ.transfer i r ≡ hands_on hs → In (j, s) hs → PathTo j s

  abbrev pub Reached : ℕ → Type 0
  Reached i = (r : R) × PathTo i r

  pub record Clean : Type 0 where
    pub keeps : (i : ℕ) (r : R) (f : F) → PathTo i r → ρ.transfer i r ≢ breaks f
    pub agrees : (i : ℕ) (r s : R) → PathTo i r → PathTo i s → r ≡ s

  abbrev pub MetOnAPath : F → ℕ → Type 0
  MetOnAPath f i =
      ((r : R) × PathTo i r × (ρ.transfer i r ≡ breaks f))
      ⊎ ((q : R) × (s : R) × PathTo i q × PathTo i s × (¬ (q ≡ s)) × (f ≡ ρ.differ))
