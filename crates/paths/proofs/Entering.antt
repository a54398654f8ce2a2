-- The entries one by one, and that nothing waits at the end. Assumes nothing.
use Rattle.std.proofs.Common.{◌≡◌, ℕ, List, [], ◌∷◌, refl, ap, ◌∙◌, arith}
use Rattle.paths.specs.Flows.{Hand, Flow}
use Rattle.paths.specs.Rows.{Rows}
use Rattle.paths.specs.Judging.{Progress, going, refused, then, hand, settle, enter, judge}
use Rattle.paths.specs.Loops.{EntryLoop}

module _ {R F : Type 0} where
  pub then_on : (x : Progress R F) (k : Rows R → List ℕ → Progress R F) (rows : Rows R) (work : List ℕ) → x ≡ going rows work → then x k ≡ k rows work
  unfolding then
  then_on x k rows work e = ap (λ (y : Progress R F). then y k) e

  pub then_out : (x : Progress R F) (k : Rows R → List ℕ → Progress R F) (f : F) (i : ℕ) → x ≡ refused f i → then x k ≡ refused f i
  unfolding then
  then_out x k f i e = ap (λ (y : Progress R F). then y k) e

  -- what goes on at last has gone on before
  pub then_came : (x : Progress R F) (k : Rows R → List ℕ → Progress R F) (rows : Rows R) (work : List ℕ) → then x k ≡ going rows work
      → (rows' : Rows R) × (work' : List ℕ) × (x ≡ going rows' work') × (k rows' work' ≡ going rows work)
  unfolding then
  then_came (going rows' work') k rows work e = (rows', work', refl, e)
  then_came (refused f i) k rows work e = let z : ◌≡◌ {A = ℕ} 0 1 = cc in absurd (omega arith)

module _ {R F : Type 0} (ρ : Flow R F) where
  pub entry_loop : EntryLoop ρ
  unfolding enter judge
  entry_loop = record {
    begins = refl;
    ended = λ rows. refl;
    turn = λ e es rows. refl;
    turn_on = λ e es rows rows' work' rows'' work'' h s. (
        then_on (hand ρ rows [] e.0 e.1) (λ r w. then (settle ρ r w) (λ r' w'. enter ρ es r')) rows' work' h
        ∙ then_on (settle ρ rows' work') (λ r' w'. enter ρ es r') rows'' work'' s);
    entry_out = λ e es rows f i h. then_out (hand ρ rows [] e.0 e.1) (λ r w. then (settle ρ r w) (λ r' w'. enter ρ es r')) f i h;
    path_out = λ e es rows rows' work' f i h s. (
        then_on (hand ρ rows [] e.0 e.1) (λ r w. then (settle ρ r w) (λ r' w'. enter ρ es r')) rows' work' h
        ∙ then_out (settle ρ rows' work') (λ r' w'. enter ρ es r') f i s);
  }

  enter_empties : (es : List (Hand R)) (rows rows' : Rows R) (work' : List ℕ) → enter ρ es rows ≡ going rows' work' → work' ≡ []
  unfolding enter
  enter_empties [] rows rows' work' e = cc
  enter_empties (h ∷ es) rows rows' work' e =
      let a = then_came (hand ρ rows [] h.0 h.1) (λ r w. then (settle ρ r w) (λ r' w'. enter ρ es r')) rows' work' e in
      let b = then_came (settle ρ a.0 a.1) (λ r' w'. enter ρ es r') rows' work' a.3 in
      enter_empties es b.0 rows' work' b.3

  pub judge_empties : (rows : Rows R) (work : List ℕ) → judge ρ ≡ going rows work → work ≡ []
  unfolding judge
  judge_empties rows work e = enter_empties ρ.entries _ rows work e
