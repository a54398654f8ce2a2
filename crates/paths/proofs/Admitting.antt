-- The scan passes exactly the rows that hold locally and fit, and names the first fault. Assumes nothing.
use Rattle.std.proofs.Common.{◌≡◌, ℕ, zero, suc, ◌+◌, ◌-◌, ◌<◌, ◌≤◌, Bool, true, false, eqb, ◌⊎◌, List, [], ◌∷◌, map, length, Some, None, Option, sym, refl, ap, ◌∙◌, subst, inl, inr, add-one, arith}
use native.Mathlib.Decide.{ℕ_discrete}
use Rattle.std.proofs.lemmas.Bool.{eqb-true, eq-eqb, ne_eqb}
use Rattle.std.proofs.lemmas.Option.{none-some}
use Rattle.paths.specs.Lists.{In, All, Distinct}
use Rattle.paths.specs.Flows.{Hand, Transfer, breaks, hands_on, Met, keep, lower, clash, Flow, Below}
use Rattle.paths.specs.Rows.{Rows, row_at, Held, Settled, Local}
use Rattle.paths.specs.Admitting.{Fault, or_else, entry_is, entry_at, fault_of, hold_met, hold_at, hold_all, transfer_fault, row_fault, fit_fault, head_fault}
use Rattle.paths.specs.Admitting.{fault_at, scan, admit}
use Rattle.paths.specs.Admitted.{Apart, Fits, Admits, ScanLoop}
use Rattle.paths.proofs.Lists.{all_of, all_in, row_low}

or_left : {F : Type 0} (x y : Fault F) → or_else x y ≡ None → x ≡ None
unfolding or_else
or_left None y e = refl
or_left (Some x) y e = e

or_right : {F : Type 0} (x y : Fault F) → or_else x y ≡ None → y ≡ None
unfolding or_else
or_right None y e = e
or_right (Some x) y e = cc

or_both : {F : Type 0} (x y : Fault F) → x ≡ None → y ≡ None → or_else x y ≡ None
unfolding or_else
or_both None y p q = q
or_both (Some x) y p q = p

or_first : {F : Type 0} (x y : Fault F) (v : F × ℕ) → or_else x y ≡ Some v → (x ≡ Some v) ⊎ ((x ≡ None) × (y ≡ Some v))
unfolding or_else
or_first None y v e = inr (refl, e)
or_first (Some x) y v e = inl e

-- an entry is in the list of entries
entry_in : {R : Type 0} (es : List (Hand R)) (i : ℕ) (p : R) → entry_at es i ≡ Some p → In (i, p) es
unfolding entry_at entry_is
entry_in [] i p e = absurd (none-some p e)
entry_in (h ∷ es) i p e = see (eqb h.0 i) refl e (entry_in es i p)
  where
    see : (b : Bool) → eqb h.0 i ≡ b → entry_is b h.1 (entry_at es i) ≡ Some p → (entry_at es i ≡ Some p → In (i, p) es) → In (i, p) (h ∷ es)
    see true g f rec = let z : h.1 ≡ p = cc in let g' = eqb-true h.0 i g in inl (λ k. (sym g' k, sym z k))
    see false g f rec = inr (rec f)

firsts : {R : Type 0} (es : List (Hand R)) (i : ℕ) (p : R) → In (i, p) es → In i (map (λ g. g.0) es)
firsts [] i p m = m
firsts (g ∷ es) i p (inl e) = inl (ap (λ x. x.0) e)
firsts (g ∷ es) i p (inr m) = inr (firsts es i p m)

-- entries at instructions that differ lie apart
pub entries_apart : {R : Type 0} (es : List (Hand R)) → Distinct (map (λ h. h.0) es) → (i : ℕ) (p : R) → In (i, p) es → entry_at es i ≡ Some p
unfolding entry_at entry_is
entries_apart [] d i p m = absurd m
entries_apart (h ∷ es) d i p (inl e) =
    let z : eqb h.0 i ≡ true = eq-eqb h.0 i (ap (λ x. x.0) (sym e)) in
    rw z (ap (λ x. Some x.1) (sym e))
entries_apart (h ∷ es) d i p (inr m) =
    let z : eqb h.0 i ≡ false = ne_eqb h.0 i (λ q. d.0 (subst (λ (k : ℕ). In k (map (λ g. g.0) es)) (sym q) (firsts es i p m))) in
    rw z (entries_apart es d.1 i p m)

module _ {R F : Type 0} (ρ : Flow R F) (fit : ℕ → R → Option F) where
  held_of : (o : Option R) (j : ℕ) (s : R) → hold_at ρ o j s ≡ None → (q : R) × (o ≡ Some q) × Below ρ q s
  unfolding hold_at hold_met
  held_of None j s e = absurd (none-some _ (sym e))
  held_of (Some q) j s e = (q, refl, see (ρ.meet q s) refl e)
    where
      see : (m : Met R) → ρ.meet q s ≡ m → hold_met ρ m j ≡ None → ρ.meet q s ≡ keep
      see keep p f = p
      see (lower t) p f = absurd (none-some _ (sym f))
      see clash p f = absurd (none-some _ (sym f))

  of_held : (o : Option R) (j : ℕ) (s : R) → ((q : R) × (o ≡ Some q) × Below ρ q s) → hold_at ρ o j s ≡ None
  unfolding hold_at hold_met
  of_held None j s x = let e = x.1 in cc
  of_held (Some q) j s x = see (ρ.meet q s) refl
    where
      see : (m : Met R) → ρ.meet q s ≡ m → hold_met ρ m j ≡ None
      see keep p = refl
      see (lower t) p = let e = x.1 in let b = x.2 in cc
      see clash p = let e = x.1 in let b = x.2 in cc

  all_held : (rows : Rows R) (hs : List (Hand R)) → hold_all ρ rows hs ≡ None → All (Held ρ rows) hs
  unfolding hold_all
  all_held rows [] e = tt
  all_held rows (h ∷ hs) e =
      let x = hold_at ρ (row_at rows h.0) h.0 h.1 in
      let y = hold_all ρ rows hs in
      (held_of (row_at rows h.0) h.0 h.1 (or_left x y e), all_held rows hs (or_right x y e))

  held_all : (rows : Rows R) (hs : List (Hand R)) → All (Held ρ rows) hs → hold_all ρ rows hs ≡ None
  unfolding hold_all
  held_all rows [] a = refl
  held_all rows (h ∷ hs) a =
      or_both (hold_at ρ (row_at rows h.0) h.0 h.1) (hold_all ρ rows hs) (of_held (row_at rows h.0) h.0 h.1 a.0) (held_all rows hs a.1)

  -- what one instruction's rows should be
  pub record GoodAt (rows : Rows R) (i : ℕ) : Type 0 where
    pub begun : (p : R) → entry_at ρ.entries i ≡ Some p → Held ρ rows (i, p)
    pub fits : (r : R) → entry_at ρ.entries i ≡ None → row_at rows i ≡ Some r → fit i r ≡ None
    pub kept : (r : R) → row_at rows i ≡ Some r → Settled ρ rows i r

  module _ (rows : Rows R) (i : ℕ) where
    row_good : (o : Option R) → row_fault ρ rows i o ≡ None → (r : R) → o ≡ Some r → Settled ρ rows i r
    unfolding row_fault transfer_fault
    row_good None e r p = absurd (none-some r p)
    row_good (Some q) e r p =
        let z : q ≡ r = cc in
        subst (λ (x : R). Settled ρ rows i x) z (see (ρ.transfer i q) refl e)
      where
        see : (o : Transfer R F) → ρ.transfer i q ≡ o → transfer_fault ρ rows i o ≡ None → Settled ρ rows i q
        see (breaks f) p e = absurd (none-some _ (sym e))
        see (hands_on hs) p e = (hs, p, all_held rows hs e)

    good_row : (o : Option R) → ((r : R) → o ≡ Some r → Settled ρ rows i r) → row_fault ρ rows i o ≡ None
    unfolding row_fault transfer_fault
    good_row None g = refl
    good_row (Some q) g = let s = g q refl in rw s.1 (held_all rows s.0 s.2)

    head_begun : (e : Option R) (o : Option R) → head_fault ρ fit e i o ≡ None → (p : R) → e ≡ Some p → (q : R) × (o ≡ Some q) × Below ρ q p
    unfolding head_fault
    head_begun None o x p e = absurd (none-some p e)
    head_begun (Some p') o x p e = let z : p' ≡ p = cc in subst (λ (y : R). (q : R) × (o ≡ Some q) × Below ρ q y) z (held_of o i p' x)

    fit_none : (f : Option F) → fault_of i f ≡ None → f ≡ None
    unfolding fault_of
    fit_none None e = refl
    fit_none (Some f) e = absurd (none-some _ (sym e))

    head_fits : (e : Option R) (o : Option R) → head_fault ρ fit e i o ≡ None → e ≡ None → (r : R) → o ≡ Some r → fit i r ≡ None
    unfolding head_fault fit_fault
    head_fits (Some p) o x n r e = absurd (none-some p (sym n))
    head_fits None None x n r e = absurd (none-some r e)
    head_fits None (Some q) x n r e = let z : q ≡ r = cc in subst (λ (y : R). fit i y ≡ None) z (fit_none (fit i q) x)

    good_head : (e : Option R) (o : Option R) → ((p : R) → e ≡ Some p → (q : R) × (o ≡ Some q) × Below ρ q p)
        → (e ≡ None → (r : R) → o ≡ Some r → fit i r ≡ None) → head_fault ρ fit e i o ≡ None
    unfolding head_fault fit_fault fault_of
    good_head (Some p) o b f = of_held o i p (b p refl)
    good_head None None b f = refl
    good_head None (Some q) b f = rw (f refl q refl)

    pub good_of : fault_at ρ fit rows i ≡ None → GoodAt rows i
    unfolding fault_at
    good_of e =
        let x = head_fault ρ fit (entry_at ρ.entries i) i (row_at rows i) in
        let y = row_fault ρ rows i (row_at rows i) in
        record {
          begun = head_begun (entry_at ρ.entries i) (row_at rows i) (or_left x y e);
          fits = λ r n f. head_fits (entry_at ρ.entries i) (row_at rows i) (or_left x y e) n r f;
          kept = row_good (row_at rows i) (or_right x y e);
        }

    pub of_good : GoodAt rows i → fault_at ρ fit rows i ≡ None
    unfolding fault_at
    of_good g =
        or_both (head_fault ρ fit (entry_at ρ.entries i) i (row_at rows i)) (row_fault ρ rows i (row_at rows i))
        (good_head (entry_at ρ.entries i) (row_at rows i) g.begun (λ n r e. g.fits r n e)) (good_row (row_at rows i) g.kept)

  scan_all : (rows : Rows R) (k i : ℕ) → scan ρ fit rows i k ≡ None → (j : ℕ) → i ≤ j → j < i + k → fault_at ρ fit rows j ≡ None
  unfolding scan
  scan_all rows zero i e j a b = absurd (omega arith)
  scan_all rows (suc k) i e j a b = see (ℕ_discrete i j) (scan_all rows k (suc i) (or_right x y e) j)
    where
      x : Fault F
      x = fault_at ρ fit rows i

      y : Fault F
      y = scan ρ fit rows (suc i) k

      see : Dec (i ≡ j) → (suc i ≤ j → j < suc i + k → fault_at ρ fit rows j ≡ None) → fault_at ρ fit rows j ≡ None
      see (yes p) rec = rw (← p) (or_left x y e)
      see (no n) rec = rec (omega arith) (omega arith)

  all_scan : (rows : Rows R) (k i : ℕ) → ((j : ℕ) → fault_at ρ fit rows j ≡ None) → scan ρ fit rows i k ≡ None
  unfolding scan
  all_scan rows zero i g = refl
  all_scan rows (suc k) i g = or_both (fault_at ρ fit rows i) (scan ρ fit rows (suc i) k) (g i) (all_scan rows k (suc i) g)

  abbrev First : Rows R → ℕ → ℕ → F × ℕ → Type 0
  First rows i k v = (j : ℕ) × (i ≤ j) × (j < i + k) × (fault_at ρ fit rows j ≡ Some v) × ((m : ℕ) → i ≤ m → m < j → fault_at ρ fit rows m ≡ None)

  scan_first : (rows : Rows R) (k i : ℕ) (v : F × ℕ) → scan ρ fit rows i k ≡ Some v → First rows i k v
  unfolding scan
  scan_first rows zero i v e = absurd (none-some v e)
  scan_first rows (suc k) i v e = see (or_first (fault_at ρ fit rows i) (scan ρ fit rows (suc i) k) v e) (scan_first rows k (suc i) v)
    where
      see : (fault_at ρ fit rows i ≡ Some v) ⊎ ((fault_at ρ fit rows i ≡ None) × (scan ρ fit rows (suc i) k ≡ Some v))
          → (scan ρ fit rows (suc i) k ≡ Some v → First rows (suc i) k v) → First rows i (suc k) v
      see (inl f) rec = (i, omega arith, omega arith, f, λ m a b. absurd (omega arith))
      see (inr f) rec =
          let x = rec f.1 in
          (x.0, omega (arith, x.1), omega (arith, x.2), x.3, λ m a b. before m a b (ℕ_discrete i m) x)
        where
          before : (m : ℕ) → i ≤ m → (b : m < (rec f.1).0) → Dec (i ≡ m) → First rows (suc i) k v → fault_at ρ fit rows m ≡ None
          before m a b (yes p) x = rw (← p) f.0
          before m a b (no n) x = (rec f.1).4 m (omega arith) b

  pub scan_loop : ScanLoop ρ fit
  unfolding admit scan or_else
  scan_loop = record {
    begins = λ rows. let z : ρ.size - 0 ≡ ρ.size = omega arith in ap (scan ρ fit rows 0) (sym z);
    turn_on = λ rows i l e. one_more rows i l ∙ ap (λ (x : Fault F). or_else x (scan ρ fit rows (i + 1) (ρ.size - (i + 1)))) e;
    turn_out = λ rows i x l e. one_more rows i l ∙ ap (λ (y : Fault F). or_else y (scan ρ fit rows (i + 1) (ρ.size - (i + 1)))) e;
    ended = λ rows i l. let z : ρ.size - i ≡ 0 = omega arith in ap (scan ρ fit rows i) z;
  }
    where
      one_more : (rows : Rows R) (i : ℕ) → i < ρ.size → scan ρ fit rows i (ρ.size - i) ≡ or_else (fault_at ρ fit rows i) (scan ρ fit rows (i + 1) (ρ.size - (i + 1)))
      one_more rows i l =
          let z : ρ.size - i ≡ suc (ρ.size - (i + 1)) = omega arith in
          ap (scan ρ fit rows i) z ∙ ap (λ (j : ℕ). or_else (fault_at ρ fit rows i) (scan ρ fit rows j (ρ.size - (i + 1)))) (sym (add-one i))

  pub admit_exact : All (λ h. h.0 < ρ.size) ρ.entries → Apart ρ → Admits ρ fit
  unfolding admit
  admit_exact starts apart = record {
    accepts = λ rows w. (λ e. holds rows w e, λ x. all_scan rows ρ.size 0 (λ j. of_good rows j (good rows x j)));
    first = λ rows v e. let x = scan_first rows ρ.size 0 v e in (x.0, omega (arith, x.2), x.3, λ m b. x.4 m (omega arith) b);
  }
    where
      good : (rows : Rows R) → Local ρ rows × Fits ρ fit rows → (j : ℕ) → GoodAt rows j
      good rows x j = record {
        begun = λ p e. all_in (Held ρ rows) ρ.entries (j, p) x.0.entered (entry_in ρ.entries j p e);
        fits = λ r n e. x.1 j r n e;
        kept = x.0.kept j;
      }

      here : (rows : Rows R) → length rows ≡ ρ.size → scan ρ fit rows 0 ρ.size ≡ None → (j : ℕ) → j < ρ.size → GoodAt rows j
      here rows w e j l = good_of rows j (scan_all rows ρ.size 0 e j (omega arith) (omega arith))

      low : (rows : Rows R) → length rows ≡ ρ.size → (j : ℕ) (r : R) → row_at rows j ≡ Some r → j < ρ.size
      low rows w j r e = rw (← w) (row_low rows j r e)

      holds : (rows : Rows R) → length rows ≡ ρ.size → scan ρ fit rows 0 ρ.size ≡ None → Local ρ rows × Fits ρ fit rows
      holds rows w e = (
        record {
          wide = w;
          entered = all_of (Held ρ rows) ρ.entries (λ h m. (here rows w e h.0 (all_in (λ h. h.0 < ρ.size) ρ.entries h starts m)).begun h.1 (apart h.0 h.1 m));
          kept = λ i r f. (here rows w e i (low rows w i r f)).kept r f;
        },
        λ i r n f. (here rows w e i (low rows w i r f)).fits r n f,
      )
