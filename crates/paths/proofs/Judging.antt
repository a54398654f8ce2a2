-- Judging ends, leaves rows that hold locally, and names only faults that are there. Assumes nothing.
use Rattle.std.proofs.Common.{◌≡◌, ℕ, zero, suc, ◌+◌, ◌<◌, ◌≤◌, ◌⊎◌, List, [], ◌∷◌, length, set, replicate, Some, None, Option, sym, refl, ◌∙◌, subst, inl, inr, ⊎_elim, le_of_suc-le-suc, not-suc-le-zero, arith, length-set}
use native.Mathlib.Decide.{ℕ_discrete}
use lib.ListN.{length-replicate}
use Rattle.std.proofs.lemmas.List.{get_or-set_same, get_or-set_other}
use Rattle.std.proofs.lemmas.Option.{none-some}
use Rattle.paths.specs.Lists.{In, All}
use Rattle.paths.specs.Flows.{Hand, Transfer, breaks, hands_on, Met, keep, lower, clash, Flow, Below, Lawful}
use Rattle.paths.specs.Rows.{Rows, row_at, Held, Settled, Local}
use Rattle.paths.specs.Judging.{Progress, going, refused, then, wait}
use Rattle.paths.specs.Judging.{hand_met, hand_at, hand, hand_all, judge_by, judge_at, judge_one, run, load, weight, settle, enter, judge}
use Rattle.paths.specs.Invariants.{Cases, Closed, Caused, Sound}
use Rattle.paths.proofs.Lists.{all_map, all_of, row_at_replicate}
use Rattle.paths.proofs.Works.{wait_in, wait_more, wait_short}

module _ {R F : Type 0} (ρ : Flow R F) where
  -- anything at all is closed
  pub anything_closed : Closed ρ (λ i r. Unit {0})
  anything_closed = record {
    begins = all_of (λ h. Unit {0}) ρ.entries (λ h m. tt);
    goes = λ i r hs b o. all_of (λ h. Unit {0}) hs (λ h m. tt);
    meets = λ i q s t a b m. tt;
  }

  weight_set : (rows : Rows R) (j : ℕ) (x : Option R) → j < length rows → weight ρ (set rows j x) + load ρ (row_at rows j) ≡ weight ρ rows + load ρ x
  unfolding weight
  weight_set [] j x h = absurd (not-suc-le-zero h)
  weight_set (y ∷ rows) zero x h = omega arith
  weight_set (y ∷ rows) (suc j) x h = let ih = weight_set rows j x (le_of_suc-le-suc h) in omega arith

  pub then_post : (P P' : Rows R → List ℕ → Type 0) (Q : F → ℕ → Type 0) (x : Progress R F) (k : Rows R → List ℕ → Progress R F)
      → Cases P Q x → ((rows : Rows R) (work : List ℕ) → P rows work → Cases P' Q (k rows work)) → Cases P' Q (then x k)
  unfolding then
  then_post P P' Q (going rows work) k p f = f rows work p
  then_post P P' Q (refused f i) k p g = p

  pub post_map : (P P' : Rows R → List ℕ → Type 0) (Q : F → ℕ → Type 0) (x : Progress R F)
      → Cases P Q x → ((rows : Rows R) (work : List ℕ) → P rows work → P' rows work) → Cases P' Q x
  post_map P P' Q (going rows work) p f = f rows work p
  post_map P P' Q (refused f i) p g = p

  -- from one state to a later one
  pub record Later (rows : Rows R) (work : List ℕ) (rows' : Rows R) (work' : List ℕ) : Type 0 where
    pub long : length rows' ≡ length rows
    pub down : (k : ℕ) (q : R) → row_at rows k ≡ Some q → (p : R) × (row_at rows' k ≡ Some p) × Below ρ p q
    pub more : (k : ℕ) → In k work → In k work'
    pub same : (k : ℕ) (q : R) → row_at rows' k ≡ Some q → In k work' ⊎ (row_at rows k ≡ Some q)
    pub less : weight ρ rows' + length work' ≤ weight ρ rows + length work

  module _ (law : Lawful ρ) where
    pub later_same : (rows : Rows R) (work : List ℕ) → Later rows work rows work
    later_same rows work = record {
      long = refl;
      down = λ k q e. (q, e, law.same q);
      more = λ k i. i;
      same = λ k q e. inr e;
      less = omega arith;
    }

    later_later : (r₁ : Rows R) (p₁ : List ℕ) (r₂ : Rows R) (p₂ : List ℕ) (r₃ : Rows R) (p₃ : List ℕ) → Later r₁ p₁ r₂ p₂ → Later r₂ p₂ r₃ p₃ → Later r₁ p₁ r₃ p₃
    later_later r₁ p₁ r₂ p₂ r₃ p₃ a b = record {
      long = b.long ∙ a.long;
      down = λ k q e. (
          let x = a.down k q e in
          let y = b.down k x.0 x.1 in
          (y.0, y.1, law.chain y.0 x.0 q y.2 x.2));
      more = λ k i. b.more k (a.more k i);
      same = λ k q e. ⊎_elim (λ i. inl i) (λ f. ⊎_elim (λ i. inl (b.more k i)) (λ g. inr g) (a.same k q f)) (b.same k q e);
      less = omega arith;
    }

    held_down : (r₁ r₂ : Rows R) → ((k : ℕ) (q : R) → row_at r₁ k ≡ Some q → (p : R) × (row_at r₂ k ≡ Some p) × Below ρ p q) → (h : Hand R) → Held ρ r₁ h → Held ρ r₂ h
    held_down r₁ r₂ d h x =
        let y = d h.0 x.0 x.1 in
        (y.0, y.1, law.chain y.0 x.0 h.1 y.2 x.2)

    later_set : (rows : Rows R) (work : List ℕ) (j : ℕ) (t : R) → j < length rows
        → ((q : R) → row_at rows j ≡ Some q → Below ρ t q) → ρ.height t < load ρ (row_at rows j)
        → (work' : List ℕ) → In j work' → ((k : ℕ) → In k work → In k work') → length work' ≤ suc (length work) → Later rows work (set rows j (Some t)) work'
    unfolding load
    later_set rows work j t h fits l work' here more' short = record {
      long = length-set rows j (Some t);
      down = λ k q e. down' k q e (ℕ_discrete k j);
      more = more';
      same = λ k q e. same' k q e (ℕ_discrete k j);
      less = let w = weight_set rows j (Some t) h in omega arith;
    }
      where
        down' : (k : ℕ) (q : R) → row_at rows k ≡ Some q → Dec (k ≡ j) → (p : R) × (row_at (set rows j (Some t)) k ≡ Some p) × Below ρ p q
        down' k q e (yes p) = (t, rw p (get_or-set_same rows j (Some t) None h), fits q (rw p at e))
        down' k q e (no n) = (q, get_or-set_other rows j k (Some t) None n ∙ e, law.same q)

        same' : (k : ℕ) (q : R) → row_at (set rows j (Some t)) k ≡ Some q → Dec (k ≡ j) → In k work' ⊎ (row_at rows k ≡ Some q)
        same' k q e (yes p) = inl (rw p here)
        same' k q e (no n) = inr (sym (get_or-set_other rows j k (Some t) None n) ∙ e)

    module _ (B : ℕ → R → Type 0) (cl : Closed ρ B) where
      abbrev SoundBy : Rows R → Type 0
      SoundBy rows = Sound B rows

      -- every row is settled, or its instruction waits
      abbrev pub UnsettledWait : Rows R → List ℕ → Type 0
      UnsettledWait rows work = (k : ℕ) (q : R) → row_at rows k ≡ Some q → In k work ⊎ Settled ρ rows k q

      set_sound : (rows : Rows R) (j : ℕ) (t : R) → j < length rows → SoundBy rows → B j t → SoundBy (set rows j (Some t))
      set_sound rows j t h snd b k q e = pick (ℕ_discrete k j)
        where
          pick : Dec (k ≡ j) → B k q
          pick (yes p) =
              let f : row_at (set rows j (Some t)) k ≡ Some t = rw p (get_or-set_same rows j (Some t) None h) in
              let z : t ≡ q = cc in
              subst (λ (x : R). B k x) z (subst (λ (x : ℕ). B x t) (sym p) b)
          pick (no n) = snd k q (sym (get_or-set_other rows j k (Some t) None n) ∙ e)

      abbrev Handed : Rows R → List ℕ → Hand R → Rows R → List ℕ → Type 0
      Handed rows work h rows' work' = Later rows work rows' work' × Held ρ rows' h × SoundBy rows'

      put_post : (rows : Rows R) (work : List ℕ) (j : ℕ) (s t : R) → j < length rows → SoundBy rows → B j t
          → ((q : R) → row_at rows j ≡ Some q → Below ρ t q) → ρ.height t < load ρ (row_at rows j) → Below ρ t s
          → (work' : List ℕ) → In j work' → ((k : ℕ) → In k work → In k work') → length work' ≤ suc (length work)
          → Handed rows work (j, s) (set rows j (Some t)) work'
      put_post rows work j s t h snd b fits l u work' here more short =
          (later_set rows work j t h fits l work' here more short, (t, get_or-set_same rows j (Some t) None h, u), set_sound rows j t h snd b)

      hand_post : (rows : Rows R) (work : List ℕ) (j : ℕ) (s : R) → j < length rows → SoundBy rows → B j s
          → Cases (Handed rows work (j, s)) (Caused ρ B) (hand ρ rows work j s)
      unfolding hand hand_at hand_met load
      hand_post rows work j s h snd b = see (row_at rows j) refl
        where
          meeting : (q : R) → row_at rows j ≡ Some q → (m : Met R) → ρ.meet q s ≡ m → Cases (Handed rows work (j, s)) (Caused ρ B) (hand_met ρ m rows work j)
          meeting q e keep m = (later_same rows work, (q, e, m), snd)
          meeting q e (lower t) m =
              let u = law.under q s t m in
              put_post rows work j s t h snd (cl.meets j q s t (snd j q e) b m)
              (λ q' e'. let z : q ≡ q' = cc in subst (λ (x : R). Below ρ t x) z u.0)
              (rw e (law.falls q s t m)) u.1 (wait j work) (wait_in j work) (wait_more j work) (wait_short j work)
          meeting q e clash m = inr (q, s, snd j q e, b, m, refl)

          see : (o : Option R) → row_at rows j ≡ o → Cases (Handed rows work (j, s)) (Caused ρ B) (hand_at ρ o rows work j s)
          see None e =
              put_post rows work j s s h snd b (λ q f. absurd (none-some q (sym e ∙ f)))
              (let v = law.small s in rw e (omega arith)) (law.same s) (j ∷ work) (inl refl) (λ k i. inr i) (omega arith)
          see (Some q) e = meeting q e (ρ.meet q s) refl

      abbrev pub AllHanded : Rows R → List ℕ → List (Hand R) → Rows R → List ℕ → Type 0
      AllHanded rows work hs rows' work' = Later rows work rows' work' × All (Held ρ rows') hs × SoundBy rows'

      pub hand_all_post : (hs : List (Hand R)) (rows : Rows R) (work : List ℕ) → length rows ≡ ρ.size → All (λ h. h.0 < ρ.size) hs → SoundBy rows
          → All (λ h. B h.0 h.1) hs → Cases (AllHanded rows work hs) (Caused ρ B) (hand_all ρ hs rows work)
      unfolding hand_all
      hand_all_post [] rows work w ins snd b = (later_same rows work, tt, snd)
      hand_all_post (h ∷ hs) rows work w ins snd b =
          then_post (Handed rows work h) (AllHanded rows work (h ∷ hs)) (Caused ρ B) (hand ρ rows work h.0 h.1) (λ rows' work'. hand_all ρ hs rows' work')
          (hand_post rows work h.0 h.1 (rw w ins.0) snd b.0)
          (λ rows' work' x.
          post_map (AllHanded rows' work' hs) (AllHanded rows work (h ∷ hs)) (Caused ρ B) (hand_all ρ hs rows' work')
          (hand_all_post hs rows' work' (x.0.long ∙ w) ins.1 x.2 b.1)
          (λ rows'' work'' y. (
            later_later rows work rows' work' rows'' work'' x.0 y.0,
            (held_down rows' rows'' y.0.down h x.1, y.1),
            y.2,
          )))

      abbrev Judged : Rows R → List ℕ → Rows R → List ℕ → Type 0
      Judged rows work rows' work' = Later rows work rows' work' × UnsettledWait rows' work' × SoundBy rows'

      judge_one_post : (i : ℕ) (rows : Rows R) (work : List ℕ) → length rows ≡ ρ.size → SoundBy rows → UnsettledWait rows (i ∷ work)
          → Cases (Judged rows work) (Caused ρ B) (judge_one ρ i rows work)
      unfolding judge_one judge_at judge_by
      judge_one_post i rows work w snd opn = see (row_at rows i) refl
        where
          other : (k : ℕ) (q : R) → (k ≡ i → In k work ⊎ Settled ρ rows k q) → In k (i ∷ work) ⊎ Settled ρ rows k q → In k work ⊎ Settled ρ rows k q
          other k q f (inl (inl p)) = f p
          other k q f (inl (inr m)) = inl m
          other k q f (inr s) = inr s

          after : (r : R) → row_at rows i ≡ Some r → (hs : List (Hand R)) → ρ.transfer i r ≡ hands_on hs → (rows' : Rows R) (work' : List ℕ) → AllHanded rows work hs rows' work'
              → (k : ℕ) (q : R) → In k (i ∷ work) ⊎ Settled ρ rows k q → row_at rows k ≡ Some q → In k work' ⊎ Settled ρ rows' k q
          after r e hs o rows' work' x k q (inl (inl p)) f =
              let g : row_at rows k ≡ Some r = rw p e in
              let z : r ≡ q = cc in
              inr (hs, subst (λ (y : R). ρ.transfer k y ≡ hands_on hs) z (rw p o), x.1)
          after r e hs o rows' work' x k q (inl (inr m)) f = inl (x.0.more k m)
          after r e hs o rows' work' x k q (inr s) f =
              inr (s.0, s.1, all_map (Held ρ rows) (Held ρ rows') s.0 (held_down rows rows' x.0.down) s.2)

          outcome : (r : R) → row_at rows i ≡ Some r → (o : Transfer R F) → ρ.transfer i r ≡ o → Cases (Judged rows work) (Caused ρ B) (judge_by ρ o i rows work)
          outcome r e (breaks f) o = inl (r, snd i r e, o)
          outcome r e (hands_on hs) o =
              post_map (AllHanded rows work hs) (Judged rows work) (Caused ρ B) (hand_all ρ hs rows work)
              (hand_all_post hs rows work w (law.inside.goes i r hs o) snd (cl.goes i r hs (snd i r e) o))
              (λ rows' work' x. (
                x.0,
                λ k q f. ⊎_elim (λ m. inl m) (λ g. after r e hs o rows' work' x k q (opn k q g) g) (x.0.same k q f),
                x.2,
              ))

          see : (o : Option R) → row_at rows i ≡ o → Cases (Judged rows work) (Caused ρ B) (judge_at ρ o i rows work)
          see None e = (later_same rows work, λ k q f. other k q (λ p. absurd (none-some q (sym (rw p e) ∙ f))) (opn k q f), snd)
          see (Some r) e = outcome r e (ρ.transfer i r) refl

      -- a run to the end
      pub record Done (rows rows' : Rows R) : Type 0 where
        pub long : length rows' ≡ length rows
        pub down : (k : ℕ) (q : R) → row_at rows k ≡ Some q → (p : R) × (row_at rows' k ≡ Some p) × Below ρ p q
        pub sound : SoundBy rows'
        pub settled : (k : ℕ) (q : R) → row_at rows' k ≡ Some q → Settled ρ rows' k q

      done_refl : (rows : Rows R) → SoundBy rows → UnsettledWait rows [] → Done rows rows
      done_refl rows snd opn = record {
        long = refl;
        down = λ k q e. (q, e, law.same q);
        sound = snd;
        settled = λ k q e. ⊎_elim (λ i. absurd i) (λ s. s) (opn k q e);
      }

      done_after : (r₁ r₂ r₃ : Rows R) → length r₂ ≡ length r₁ → ((k : ℕ) (q : R) → row_at r₁ k ≡ Some q → (p : R) × (row_at r₂ k ≡ Some p) × Below ρ p q)
          → Done r₂ r₃ → Done r₁ r₃
      done_after r₁ r₂ r₃ l d b = record {
        long = b.long ∙ l;
        down = λ k q e. (
            let x = d k q e in
            let y = b.down k x.0 x.1 in
            (y.0, y.1, law.chain y.0 x.0 q y.2 x.2));
        sound = b.sound;
        settled = b.settled;
      }

      run_post : (k : ℕ) (rows : Rows R) (work : List ℕ) → weight ρ rows + length work ≤ k → length rows ≡ ρ.size → SoundBy rows → UnsettledWait rows work
          → Cases (λ rows' work'. Done rows rows') (Caused ρ B) (run ρ k rows work)
      unfolding run
      run_post zero rows [] l w snd opn = done_refl rows snd opn
      run_post zero rows (i ∷ work) l w snd opn = absurd (omega arith)
      run_post (suc k) rows [] l w snd opn = done_refl rows snd opn
      run_post (suc k) rows (i ∷ work) l w snd opn =
          then_post (Judged rows work) (λ rows' work'. Done rows rows') (Caused ρ B) (judge_one ρ i rows work) (λ rows' work'. run ρ k rows' work')
          (judge_one_post i rows work w snd opn)
          (λ rows' work' x.
          post_map (λ rows'' work''. Done rows' rows'') (λ rows'' work''. Done rows rows'') (Caused ρ B) (run ρ k rows' work')
          (run_post k rows' work' (let m = x.0.less in omega arith) (x.0.long ∙ w) x.2 x.1)
          (λ rows'' work'' y. done_after rows rows' rows'' x.0.long x.0.down y))

      enter_post : (es : List (Hand R)) (rows : Rows R) → length rows ≡ ρ.size → SoundBy rows → UnsettledWait rows [] → All (λ h. h.0 < ρ.size) es
          → All (λ h. B h.0 h.1) es → Cases (λ rows' work'. Done rows rows' × All (Held ρ rows') es) (Caused ρ B) (enter ρ es rows)
      unfolding enter settle
      enter_post [] rows w snd opn ins b = (done_refl rows snd opn, tt)
      enter_post (e ∷ es) rows w snd opn ins b =
          then_post (Handed rows [] e) (λ rows' work'. Done rows rows' × All (Held ρ rows') (e ∷ es)) (Caused ρ B) (hand ρ rows [] e.0 e.1)
          (λ rows' work'. then (settle ρ rows' work') (λ rows'' work''. enter ρ es rows''))
          (hand_post rows [] e.0 e.1 (rw w ins.0) snd b.0)
          (λ rows₁ work₁ x.
          then_post (λ rows₂ work₂. Done rows₁ rows₂) (λ rows' work'. Done rows rows' × All (Held ρ rows') (e ∷ es)) (Caused ρ B) (settle ρ rows₁ work₁)
          (λ rows'' work''. enter ρ es rows'')
          (run_post (weight ρ rows₁ + length work₁) rows₁ work₁ (omega arith) (x.0.long ∙ w) x.2 (opened rows₁ work₁ x))
          (λ rows₂ work₂ y.
          post_map (λ rows₃ work₃. Done rows₂ rows₃ × All (Held ρ rows₃) es) (λ rows' work'. Done rows rows' × All (Held ρ rows') (e ∷ es)) (Caused ρ B)
          (enter ρ es rows₂)
          (enter_post es rows₂ (y.long ∙ (x.0.long ∙ w)) y.sound (λ k q f. inr (y.settled k q f)) ins.1 b.1)
          (λ rows₃ work₃ z.
          let d : Done rows₁ rows₃ = done_after rows₁ rows₂ rows₃ y.long y.down z.0 in
          (done_after rows rows₁ rows₃ x.0.long x.0.down d, (held_down rows₁ rows₃ d.down e x.1, z.1)))))
        where
          opened : (rows₁ : Rows R) (work₁ : List ℕ) → Handed rows [] e rows₁ work₁ → UnsettledWait rows₁ work₁
          opened rows₁ work₁ x k q f =
              ⊎_elim (λ m. inl m)
              (λ g. ⊎_elim (λ i. absurd i) (λ s. inr (s.0, s.1, all_map (Held ρ rows) (Held ρ rows₁) s.0 (held_down rows rows₁ x.0.down) s.2)) (opn k q g))
              (x.0.same k q f)

      -- where judging accepts, its rows hold locally and keep B; where it refuses, the fault is there
      pub judge_keeps : Cases (λ rows work. Local ρ rows × SoundBy rows) (Caused ρ B) (judge ρ)
      unfolding judge
      judge_keeps =
          post_map (λ rows work. Done empty rows × All (Held ρ rows) ρ.entries) (λ rows work. Local ρ rows × SoundBy rows) (Caused ρ B) (enter ρ ρ.entries empty)
          (enter_post ρ.entries empty wide (λ k q e. absurd (none-some q (sym (row_at_replicate ρ.size k) ∙ e)))
          (λ k q e. absurd (none-some q (sym (row_at_replicate ρ.size k) ∙ e))) law.inside.starts cl.begins)
          (λ rows work x. (record { wide = x.0.long ∙ wide; entered = x.1; kept = x.0.settled }, x.0.sound))
        where
          empty : Rows R
          empty = replicate ρ.size None

          wide : length empty ≡ ρ.size
          wide = length-replicate ρ.size None
