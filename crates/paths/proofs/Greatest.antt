-- Any kind of row with a way of meeting: judging finds the greatest rows that hold locally. Assumes nothing.
use Rattle.std.proofs.Common.{◌≡◌, ℕ, List, refl, subst, inl, inr, arith}
use Rattle.paths.specs.Flows.{Flow, Below, Lawful, Monotone, GreatestBelow}
use Rattle.paths.specs.Rows.{Rows, Held, Local}
use Rattle.paths.specs.Judging.{Progress, going, refused, judge}
use Rattle.paths.specs.Invariants.{Closed, Caused, Keeps}
use Rattle.paths.specs.Exact.{Accepts}
use Rattle.paths.specs.Greatest.{Solves}
use Rattle.paths.proofs.Judging.{anything_closed, judge_keeps}
use Rattle.paths.proofs.Covers.{step_down, covers, keeps}
use Rattle.paths.proofs.Counts.{counts_rows}
use Rattle.paths.proofs.Entering.{judge_empties}

module _ {R F : Type 0} (ρ : Flow R F) (law : Lawful ρ) where
  module _ (mono : Monotone ρ) (top : GreatestBelow ρ) where
    module _ (X : Rows R) (loc : Local ρ X) where
      abbrev Over : ℕ → R → Type 0
      Over i r = Held ρ X (i, r)

      over_closed : Closed ρ Over
      over_closed = record {
        begins = loc.entered;
        goes = λ i r hs b o. step_down ρ law mono X loc i r b.0 b.1 b.2 hs o;
        meets = λ i q s t a b m. (
            let a₁ = a.1 in
            let b₁ = b.1 in
            let z : b.0 ≡ a.0 = cc in
            (a.0, a.1, top.meets q s t a.0 m a.2 (subst (λ (x : R). Below ρ x s) z b.2)));
      }

      never : (f : F) (i : ℕ) → Caused ρ Over f i → ⊥
      never f i (inl x) =
          let b = x.1 in
          let s = loc.kept i b.0 b.1 in
          let g = mono.passes i b.0 x.0 s.0 b.2 s.1 in
          let g₁ = g.1 in
          let o = x.2 in
          let z : ◌≡◌ {A = ℕ} 0 1 = cc in
          omega arith
      never f i (inr x) =
          let a = x.2 in
          let b = x.3 in
          let a₁ = a.1 in
          let b₁ = b.1 in
          let z : b.0 ≡ a.0 = cc in
          top.apart x.0 x.1 a.0 x.4 a.2 (subst (λ (y : R). Below ρ y x.1) z b.2)

      abbrev Ends : Progress R F → Type 0
      Ends = Keeps ρ Over

      ends : Ends (judge ρ)
      ends = judge_keeps ρ law Over over_closed

      accepted : (x : Progress R F) → judge ρ ≡ x → Ends x → Accepts ρ
      accepted (going rows work) e o = (rows, work, e)
      accepted (refused f i) e o = absurd (never f i o)

    abbrev Leaves : Progress R F → Type 0
    Leaves = Keeps ρ (λ i r. Unit {0})

    -- what is accepted holds locally
    held : (rows : Rows R) (work : List ℕ) → judge ρ ≡ going rows work → Local ρ rows
    held rows work e = (subst Leaves e (judge_keeps ρ law (λ i r. Unit {0}) (anything_closed ρ))).0

    pub judge_solves : Solves ρ
    judge_solves = record {
      accepts = (λ a. (a.0, held a.0 a.1 a.2), λ x. accepted x.0 x.1 (judge ρ) refl (ends x.0 x.1));
      greatest = λ rows work e X loc. (subst (Ends X loc) e (ends X loc)).1;
      empty = judge_empties ρ;
      passes = λ a. keeps ρ law mono a.0 (held a.0 a.1 a.2);
      brings = λ rows work e. covers ρ law mono rows (held rows work e);
      counts = counts_rows;
    }
