-- A loop over the work list, turn by turn. Assumes nothing.
use Rattle.std.proofs.Common.{◌≡◌, ℕ, zero, suc, ◌+◌, ◌≤◌, List, [], ◌∷◌, length, Some, None, Option, sym, refl, ap, ◌∙◌, subst, inl, arith}
use Rattle.paths.specs.Lists.{All}
use Rattle.paths.specs.Flows.{Transfer, breaks, hands_on, Flow, Lawful}
use Rattle.paths.specs.Rows.{Rows, row_at, Held}
use Rattle.paths.specs.Judging.{Progress, going, refused, then, hand, hand_all, judge_by, judge_at, judge_one, run, weight, settle}
use Rattle.paths.specs.Invariants.{Cases, Caused}
use Rattle.paths.specs.Loops.{Order, WorkLoop}
use Rattle.paths.proofs.Lists.{all_of}
use Rattle.paths.proofs.Judging.{anything_closed, Later, later_same, hand_all_post, post_map}
use Rattle.paths.proofs.Entering.{then_on, then_out, then_came}
use Rattle.paths.proofs.Ready.{work_short, work_room, hand_ready, judge_one_ready}

-- ---- how one instruction hands on
module _ {R F : Type 0} (ρ : Flow R F) where
  then_going : (x : Progress R F) → then x (λ rows work. going rows work) ≡ x
  unfolding then
  then_going (going rows work) = refl
  then_going (refused f i) = refl

  pub judges : (i : ℕ) (r : R) (t : Transfer R F) (rows : Rows R) (work : List ℕ) → row_at rows i ≡ Some r → ρ.transfer i r ≡ t
      → judge_one ρ i rows work ≡ judge_by ρ t i rows work
  unfolding judge_one judge_at
  judges i r t rows work e o = rw (e, o)

  pub order : Order ρ
  unfolding judge_by hand_all
  order = record {
    broken = λ i r f rows work e o. judges i r (breaks f) rows work e o;
    none = λ i r rows work e o. judges i r (hands_on []) rows work e o;
    one = λ i r h rows work e o. judges i r (hands_on (h ∷ [])) rows work e o ∙ then_going (hand ρ rows work h.0 h.1);
    label_first = λ i r label next rows work e o. (
        judges i r (hands_on (label ∷ next ∷ [])) rows work e o
        ∙ ap (λ (k : Rows R → List ℕ → Progress R F). then (hand ρ rows work label.0 label.1) k)
        (λ z rows' work'. then_going (hand ρ rows' work' next.0 next.1) z));
  }

-- ---- turn by turn
module _ {R F : Type 0} (ρ : Flow R F) (law : Lawful ρ) where
  -- one turn leaves no more to do, and so may be followed by the rest
  pub judge_one_later : (i : ℕ) (rows : Rows R) (work : List ℕ) → length rows ≡ ρ.size → Cases (Later ρ rows work) (Caused ρ (λ i r. Unit {0})) (judge_one ρ i rows work)
  unfolding judge_one judge_at judge_by
  judge_one_later i rows work w = see (row_at rows i)
    where
      outcome : (r : R) (o : Transfer R F) → ρ.transfer i r ≡ o → Cases (Later ρ rows work) (Caused ρ (λ i r. Unit {0})) (judge_by ρ o i rows work)
      outcome r (breaks f) o = inl (r, tt, o)
      outcome r (hands_on hs) o =
          post_map ρ (λ rows' work'. Later ρ rows work rows' work' × All (Held ρ rows') hs × ((k : ℕ) (q : R) → row_at rows' k ≡ Some q → Unit {0}))
          (Later ρ rows work) (Caused ρ (λ i r. Unit {0})) (hand_all ρ hs rows work)
          (hand_all_post ρ law (λ i r. Unit {0}) (anything_closed ρ) hs rows work w (law.inside.goes i r hs o) (λ k q e. tt) (all_of (λ h. Unit {0}) hs (λ h m. tt)))
          (λ rows' work' x. x.0)

      see : (o : Option R) → Cases (Later ρ rows work) (Caused ρ (λ i r. Unit {0})) (judge_at ρ o i rows work)
      see None = later_same ρ law rows work
      see (Some r) = outcome r (ρ.transfer i r) refl

  then_same : (P : Rows R → List ℕ → Type 0) (Q : F → ℕ → Type 0) (x : Progress R F) (k m : Rows R → List ℕ → Progress R F)
      → Cases P Q x → ((rows : Rows R) (work : List ℕ) → P rows work → k rows work ≡ m rows work) → then x k ≡ then x m
  unfolding then
  then_same P Q (going rows work) k m p e = e rows work p
  then_same P Q (refused f i) k m p e = refl

  run_empty : (k : ℕ) (rows : Rows R) → run ρ k rows [] ≡ going rows []
  unfolding run
  run_empty zero rows = refl
  run_empty (suc k) rows = refl

  -- more fuel than the measure makes no difference
  pub run_same : (k m : ℕ) (rows : Rows R) (work : List ℕ) → length rows ≡ ρ.size → weight ρ rows + length work ≤ k → weight ρ rows + length work ≤ m
      → run ρ k rows work ≡ run ρ m rows work
  unfolding run
  run_same k m rows [] w a b = run_empty k rows ∙ sym (run_empty m rows)
  run_same zero m rows (i ∷ work) w a b = absurd (omega arith)
  run_same (suc k) zero rows (i ∷ work) w a b = absurd (omega arith)
  run_same (suc k) (suc m) rows (i ∷ work) w a b =
      then_same (Later ρ rows work) (Caused ρ (λ i r. Unit {0})) (judge_one ρ i rows work) (λ r p. run ρ k r p) (λ r p. run ρ m r p) (judge_one_later i rows work w)
      (λ rows' work' x. let l = x.less in run_same k m rows' work' (x.long ∙ w) (omega arith) (omega arith))

  run_empties : (k : ℕ) (rows : Rows R) (work : List ℕ) (rows' : Rows R) (work' : List ℕ) → length rows ≡ ρ.size → weight ρ rows + length work ≤ k
      → run ρ k rows work ≡ going rows' work' → work' ≡ []
  unfolding run
  run_empties zero rows [] rows' work' w l e = cc
  run_empties zero rows (i ∷ work) rows' work' w l e = absurd (omega arith)
  run_empties (suc k) rows [] rows' work' w l e = cc
  run_empties (suc k) rows (i ∷ work) rows' work' w l e =
      let a = then_came (judge_one ρ i rows work) (λ r p. run ρ k r p) rows' work' e in
      let x : Later ρ rows work a.0 a.1 = subst (Cases (Later ρ rows work) (Caused ρ (λ i r. Unit {0}))) a.2 (judge_one_later i rows work w) in
      let m = x.less in
      run_empties k a.0 a.1 rows' work' (x.long ∙ w) (omega arith) a.3

  turn : (rows : Rows R) (i : ℕ) (work : List ℕ) → length rows ≡ ρ.size → settle ρ rows (i ∷ work) ≡ then (judge_one ρ i rows work) (λ rows' work'. settle ρ rows' work')
  unfolding settle run
  turn rows i work w =
      run_same (weight ρ rows + suc (length work)) (suc (weight ρ rows + length work)) rows (i ∷ work) w (omega arith) (omega arith)
      ∙ then_same (Later ρ rows work) (Caused ρ (λ i r. Unit {0})) (judge_one ρ i rows work)
      (λ r p. run ρ (weight ρ rows + length work) r p) (λ r p. settle ρ r p) (judge_one_later i rows work w)
      (λ rows' work' x. let l = x.less in run_same (weight ρ rows + length work) (weight ρ rows' + length work') rows' work' (x.long ∙ w) (omega arith) (omega arith))

  pub work_loop : WorkLoop ρ
  unfolding settle
  work_loop = record {
    ended = λ rows. run_empty (weight ρ rows + 0) rows;
    turn = turn;
    turn_on = λ rows i work rows' work' w e. turn rows i work w ∙ then_on (judge_one ρ i rows work) (λ r p. settle ρ r p) rows' work' e;
    turn_out = λ rows i work f j w e. turn rows i work w ∙ then_out (judge_one ρ i rows work) (λ r p. settle ρ r p) f j e;
    falls = λ rows i work rows' work' w e. (
        let x : Later ρ rows work rows' work' = subst (Cases (Later ρ rows work) (Caused ρ (λ i r. Unit {0}))) e (judge_one_later i rows work w) in
        let l = x.less in
        omega arith);
    empties = λ rows work rows' work' w e. run_empties (weight ρ rows + length work) rows work rows' work' w (omega arith) e;
    short = work_short;
    room = work_room;
    starts = λ rows j s h. hand_ready ρ rows [] j s h (record { distinct = tt; rowed = λ k i. absurd i });
    handed = hand_ready ρ;
    stays = judge_one_ready ρ law;
  }
