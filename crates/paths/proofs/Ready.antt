-- The work list never holds more than there are instructions. Assumes nothing.
use Rattle.std.proofs.Common.{◌≡◌, ℕ, ◌<◌, ◌≤◌, ◌⊎◌, List, [], ◌∷◌, length, set, Some, None, Option, sym, refl, ◌∙◌, inl, inr, ⊎_elim, length-set}
use native.Mathlib.Decide.{ℕ_discrete}
use Rattle.std.proofs.lemmas.List.{get_or-set_same, get_or-set_other}
use Rattle.std.proofs.lemmas.Option.{none-some}
use Rattle.paths.specs.Lists.{In, All}
use Rattle.paths.specs.Flows.{Hand, Transfer, breaks, hands_on, Met, keep, lower, clash, Flow, Lawful}
use Rattle.paths.specs.Rows.{Rows, row_at}
use Rattle.paths.specs.Judging.{hand_met, hand_at, hand, hand_all, judge_by, judge_at, judge_one}
use Rattle.paths.specs.Invariants.{Cases}
use Rattle.paths.specs.Loops.{Ready, StillReady}
use Rattle.paths.proofs.Lists.{row_low, pigeons}
use Rattle.paths.proofs.Works.{wait_distinct, wait_only}
use Rattle.paths.proofs.Judging.{then_post, post_map}

pub work_short : {R : Type 0} (rows : Rows R) (work : List ℕ) → Ready rows work → length work ≤ length rows
work_short rows work y = pigeons (length rows) work y.distinct (λ k i. let x = y.rowed k i in row_low rows k x.0 x.1)

-- one more can wait where an instruction has no row yet
pub work_room : {R : Type 0} (rows : Rows R) (work : List ℕ) (j : ℕ) → Ready rows work → j < length rows → row_at rows j ≡ None → length work < length rows
work_room rows work j y l e =
    pigeons (length rows) (j ∷ work) (λ m. let x = y.rowed j m in none-some x.0 (sym e ∙ x.1), y.distinct)
    (λ k i. ⊎_elim (λ p. rw p l) (λ m. let x = y.rowed k m in row_low rows k x.0 x.1) i)

module _ {R F : Type 0} (ρ : Flow R F) where
  abbrev Any : F → ℕ → Type 0
  Any f i = Unit {0}

  put : (rows : Rows R) (work : List ℕ) (j : ℕ) (t : R) → j < length rows → ((k : ℕ) → In k work → (r : R) × (row_at rows k ≡ Some r))
      → (k : ℕ) → (k ≡ j) ⊎ In k work → (r : R) × (row_at (set rows j (Some t)) k ≡ Some r)
  put rows work j t h y k i = see (ℕ_discrete k j) i
    where
      see : Dec (k ≡ j) → (k ≡ j) ⊎ In k work → (r : R) × (row_at (set rows j (Some t)) k ≡ Some r)
      see (yes p) i = (t, rw p (get_or-set_same rows j (Some t) None h))
      see (no n) (inl p) = absurd (n p)
      see (no n) (inr i) = let x = y k i in (x.0, get_or-set_other rows j k (Some t) None n ∙ x.1)

  pub hand_ready : (rows : Rows R) (work : List ℕ) (j : ℕ) (s : R) → j < length rows → Ready rows work → Cases (StillReady rows) Any (hand ρ rows work j s)
  unfolding hand hand_at hand_met
  hand_ready rows work j s h y = see (row_at rows j) refl
    where
      meeting : (m : Met R) → Cases (StillReady rows) Any (hand_met ρ m rows work j)
      meeting keep = (y, refl)
      meeting (lower t) = (
        record { distinct = wait_distinct j work y.distinct; rowed = λ k i. put rows work j t h y.rowed k (wait_only j work k i) },
        length-set rows j (Some t),
      )
      meeting clash = tt

      see : (o : Option R) → row_at rows j ≡ o → Cases (StillReady rows) Any (hand_at ρ o rows work j s)
      see None e = (
        record { distinct = (λ i. let x = y.rowed j i in none-some x.0 (sym e ∙ x.1), y.distinct); rowed = λ k i. put rows work j s h y.rowed k i },
        length-set rows j (Some s),
      )
      see (Some q) e = meeting (ρ.meet q s)

  hand_all_ready : (hs : List (Hand R)) (rows : Rows R) (work : List ℕ) → length rows ≡ ρ.size → All (λ h. h.0 < ρ.size) hs → Ready rows work
      → Cases (StillReady rows) Any (hand_all ρ hs rows work)
  unfolding hand_all
  hand_all_ready [] rows work w ins y = (y, refl)
  hand_all_ready (h ∷ hs) rows work w ins y =
      then_post ρ (StillReady rows) (StillReady rows) Any (hand ρ rows work h.0 h.1) (λ rows' work'. hand_all ρ hs rows' work')
      (hand_ready rows work h.0 h.1 (rw w ins.0) y)
      (λ rows' work' x.
      post_map ρ (StillReady rows') (StillReady rows) Any (hand_all ρ hs rows' work') (hand_all_ready hs rows' work' (x.1 ∙ w) ins.1 x.0)
      (λ rows'' work'' z. (z.0, z.1 ∙ x.1)))

  pub judge_one_ready : Lawful ρ → (i : ℕ) (rows : Rows R) (work : List ℕ) → length rows ≡ ρ.size → Ready rows (i ∷ work)
      → Cases (StillReady rows) Any (judge_one ρ i rows work)
  unfolding judge_one judge_at judge_by
  judge_one_ready law i rows work w y = see (row_at rows i)
    where
      rest : Ready rows work
      rest = record { distinct = y.distinct.1; rowed = λ k m. y.rowed k (inr m) }

      outcome : (r : R) (o : Transfer R F) → ρ.transfer i r ≡ o → Cases (StillReady rows) Any (judge_by ρ o i rows work)
      outcome r (breaks f) o = tt
      outcome r (hands_on hs) o = hand_all_ready hs rows work w (law.inside.goes i r hs o) rest

      see : (o : Option R) → Cases (StillReady rows) Any (judge_at ρ o i rows work)
      see None = (rest, refl)
      see (Some r) = outcome r (ρ.transfer i r) refl
