-- Tests that decide a rule, and the lowest place at which one fails.
use Rattle.std.proofs.Common.{◌≡◌, ℕ, zero, suc, ◌+◌, ◌<◌, ◌≤◌, Bool, true, false, cond, not, leb, ltb, List, [], ◌∷◌, length, is_some, Some, None, Decides, Option, sym, refl, ap, ◌∙◌, subst, add-zero, zero-add, arith}
use Rattle.std.specs.List.{slice_get, position, enumerate_from, prefix_len}
use Rattle.std.specs.Option.{option_map}
use Rattle.std.proofs.lemmas.Bool.{leb-true, le-leb, ltb-true, lt-ltb, false≢true}
use Rattle.std.proofs.lemmas.Bool.Decides.{Decides-ltb, same_from_decides}
use Rattle.rules.specs.Faults.{lowest}
use Rattle.rules.specs.Throughout.{HoldsThroughout, BreaksFirst}

pub no_clash : {X : Type 0} → false ≡ true → X
no_clash e = absurd (false≢true e)

pub decides_leb : (a b : ℕ) → Decides (leb a b) (a ≤ b)
decides_leb a b = (leb-true a b, le-leb a b)

pub decides_none : {X : Type 0} (x : Option X) → Decides (not (is_some x)) (x ≡ None)
decides_none None = ((λ e. refl), λ e. refl)
decides_none (Some x) = ((λ e. no_clash e), λ e. absurd (let z : ◌≡◌ {A = ℕ} 0 1 = cc in omega arith))

-- ---- the search by `position`
ltb-suc : (a b : ℕ) → ltb (1 + a) (suc b) ≡ ltb a b
ltb-suc a b = same_from_decides (ltb (1 + a) (suc b)) (ltb a b) (Decides-ltb (1 + a) (suc b)) ((λ e. let h = ltb-true a b e in omega arith), λ h. lt-ltb a b (omega arith))

from_place : {X : Type 0} (test : ℕ → X → Bool) (i : ℕ) (xs : List X)
    → lowest test i xs ≡ option_map (λ k. i + k) (position (λ x. not (test x.0 x.1)) (enumerate_from i xs))
from_place test i [] = refl
from_place {X} test i (x ∷ xs) = see (test i x) (from_place test (i + 1) xs)
  where
    es : List (ℕ × X)
    es = enumerate_from (i + 1) xs

    m : ℕ
    m = prefix_len (λ x. not (not (test x.0 x.1))) es

    see : (b : Bool) → lowest test (i + 1) xs ≡ option_map (λ k. i + 1 + k) (cond (ltb m (length es)) (Some m) None)
        → cond b (lowest test (i + 1) xs) (Some i)
        ≡ option_map (λ k. i + k) (cond (ltb (cond (not (not b)) (1 + m) 0) (suc (length es))) (Some (cond (not (not b)) (1 + m) 0)) None)
    see true h = h ∙ by (ltb m (length es)) ∙ ap (λ c. option_map (λ k. i + k) (cond c (Some (1 + m)) None)) (sym (ltb-suc m (length es)))
      where
        by : (c : Bool) → option_map (λ k. i + 1 + k) (cond c (Some m) None) ≡ option_map (λ k. i + k) (cond c (Some (1 + m)) None)
        by true = let e : i + 1 + m ≡ i + (1 + m) = omega arith in ap Some e
        by false = refl
    see false h =
        let z : ltb 0 (suc (length es)) ≡ true = lt-ltb 0 (suc (length es)) (omega arith) in
        ap Some (sym (add-zero i)) ∙ ap (λ c. option_map (λ k. i + k) (cond c (Some 0) None)) (sym z)

pub lowest_by_position : {X : Type 0} (test : ℕ → X → Bool) (xs : List X) → lowest test 0 xs ≡ position (λ x. not (test x.0 x.1)) (enumerate_from 0 xs)
lowest_by_position test xs = from_place test 0 xs ∙ same_option (position (λ x. not (test x.0 x.1)) (enumerate_from 0 xs))
  where
    same_option : (o : Option ℕ) → option_map (λ k. 0 + k) o ≡ o
    same_option None = refl
    same_option (Some k) = ap Some (zero-add k)

-- ---- what the lowest place means
holds_from : {X : Type 0} (f : ℕ → X → Bool) (i : ℕ) (xs : List X) → lowest f i xs ≡ None → (j : ℕ) (x : X) → slice_get xs j ≡ Some x → f (i + j) x ≡ true
holds_from f i [] e j x g = cc
holds_from {X} f i (y ∷ xs) e j x g = see (f i y) refl e j g (λ h k. holds_from f (i + 1) xs h k x)
  where
    see : (b : Bool) → f i y ≡ b → cond b (lowest f (i + 1) xs) (Some i) ≡ None → (j : ℕ) → slice_get (y ∷ xs) j ≡ Some x
        → (lowest f (i + 1) xs ≡ None → (k : ℕ) → slice_get xs k ≡ Some x → f (i + 1 + k) x ≡ true) → f (i + j) x ≡ true
    see false p e j g ih = absurd (let z : ◌≡◌ {A = ℕ} 0 1 = cc in omega arith)
    see true p e zero g ih = let q : y ≡ x = cc in subst (λ z. f (i + 0) z ≡ true) q (ap (λ n. f n y) (add-zero i) ∙ p)
    see true p e (suc j) g ih = let q : i + 1 + j ≡ i + suc j = omega arith in subst (λ n. f n x ≡ true) q (ih e j g)

from_holds : {X : Type 0} (f : ℕ → X → Bool) (i : ℕ) (xs : List X) → ((j : ℕ) (x : X) → slice_get xs j ≡ Some x → f (i + j) x ≡ true) → lowest f i xs ≡ None
from_holds f i [] h = refl
from_holds f i (y ∷ xs) h =
    ap (λ b. cond b (lowest f (i + 1) xs) (Some i)) (ap (λ n. f n y) (sym (add-zero i)) ∙ h 0 y refl)
    ∙ from_holds f (i + 1) xs (λ j x g. let q : i + suc j ≡ i + 1 + j = omega arith in subst (λ n. f n x ≡ true) q (h (suc j) x g))

abbrev Fails : {X : Type 0} → (ℕ → X → Bool) → ℕ → List X → ℕ → Type 0
Fails {X} f i xs m =
    (j : ℕ) × (x : X) × (m ≡ i + j) × (slice_get xs j ≡ Some x) × (f (i + j) x ≡ false) × ((k : ℕ) (z : X) → k < j → slice_get xs k ≡ Some z → f (i + k) z ≡ true)

lower : {X : Type 0} (f : ℕ → X → Bool) (i : ℕ) (x : X) (xs : List X) (j : ℕ) → f i x ≡ true → ((k : ℕ) (z : X) → k < j → slice_get xs k ≡ Some z → f (i + 1 + k) z ≡ true)
    → (k : ℕ) (z : X) → k < suc j → slice_get (x ∷ xs) k ≡ Some z → f (i + k) z ≡ true
lower f i x xs j p h zero z l g = let q : x ≡ z = cc in subst (λ v. f (i + 0) v ≡ true) q (ap (λ n. f n x) (add-zero i) ∙ p)
lower f i x xs j p h (suc k) z l g = let q : i + 1 + k ≡ i + suc k = omega arith in subst (λ n. f n z ≡ true) q (h k z (omega arith) g)

fails_from : {X : Type 0} (f : ℕ → X → Bool) (i : ℕ) (xs : List X) (m : ℕ) → lowest f i xs ≡ Some m → Fails f i xs m
fails_from f i [] m e = absurd (let z : ◌≡◌ {A = ℕ} 0 1 = cc in omega arith)
fails_from {X} f i (x ∷ xs) m e = see (f i x) refl e (λ h. fails_from f (i + 1) xs m h)
  where
    see : (b : Bool) → f i x ≡ b → cond b (lowest f (i + 1) xs) (Some i) ≡ Some m → (lowest f (i + 1) xs ≡ Some m → Fails f (i + 1) xs m) → Fails f i (x ∷ xs) m
    see false p e ih = let q : i ≡ m = cc in (0, x, sym q ∙ sym (add-zero i), refl, ap (λ n. f n x) (add-zero i) ∙ p, λ k z l g. absurd (omega arith))
    see true p e ih =
        let r = ih e in
        let q : i + 1 + r.0 ≡ i + suc r.0 = omega arith in
        (suc r.0, r.1, r.2 ∙ q, r.3, subst (λ n. f n r.1 ≡ false) q r.4, lower f i x xs r.0 p r.5)

module _ {X : Type 0} (f : ℕ → X → Bool) (Rule : ℕ → X → Type 0) (each : (n : ℕ) (x : X) → Decides (f n x) (Rule n x)) (xs : List X) where
  pub none_fails : lowest f 0 xs ≡ None → HoldsThroughout Rule xs
  none_fails e n x g = (each n x).0 (subst (λ m. f m x ≡ true) (zero-add n) (holds_from f 0 xs e n x g))

  pub all_hold : HoldsThroughout Rule xs → lowest f 0 xs ≡ None
  all_hold h = from_holds f 0 xs (λ n x g. subst (λ m. f m x ≡ true) (sym (zero-add n)) ((each n x).1 (h n x g)))

  pub first_fails : (n : ℕ) → lowest f 0 xs ≡ Some n → BreaksFirst Rule xs n
  first_fails n e =
      let r = fails_from f 0 xs n e in
      let w : BreaksFirst Rule xs r.0 = (
        (r.1, r.3, λ h. false≢true (sym (subst (λ m. f m r.1 ≡ false) (zero-add r.0) r.4) ∙ (each r.0 r.1).1 h)),
        λ k z l g. (each k z).0 (subst (λ m. f m z ≡ true) (zero-add k) (r.5 k z l g)),
      ) in
      subst (BreaksFirst Rule xs) (sym (r.2 ∙ zero-add r.0)) w
