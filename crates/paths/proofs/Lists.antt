-- Facts on lists. Assumes nothing.
use Rattle.std.proofs.Common.{◌≡◌, ℕ, zero, suc, ◌<◌, ◌≤◌, Bool, true, false, eqb, List, [], ◌∷◌, length, replicate, Some, None, sym, refl, ◌∙◌, subst, inl, inr, ⊎_elim, not-suc-le-zero, arith}
use native.Mathlib.Decide.{ℕ_discrete, dec_lt}
use lib.ListN.{get_or-eq_default}
use Rattle.std.proofs.lemmas.Bool.{eqb-true, eqb-false}
use Rattle.std.proofs.lemmas.Option.{none-some}
use Rattle.paths.specs.Lists.{In, All, Distinct}
use Rattle.paths.specs.Rows.{Rows, row_at}

-- a row past the list is none
pub row_low : {R : Type 0} (rows : Rows R) (k : ℕ) (r : R) → row_at rows k ≡ Some r → k < length rows
row_low rows k r e = see (dec_lt k (length rows))
  where
    see : Dec (k < length rows) → k < length rows
    see (yes l) = l
    see (no n) = absurd (none-some r (sym (get_or-eq_default rows None (omega arith)) ∙ e))

pub all_map : {A : Type 0} (P Q : A → Type 0) (xs : List A) → ((x : A) → P x → Q x) → All P xs → All Q xs
all_map P Q [] f a = tt
all_map P Q (x ∷ xs) f a = (f x a.0, all_map P Q xs f a.1)

pub all_in : {A : Type 0} (P : A → Type 0) (xs : List A) (x : A) → All P xs → In x xs → P x
all_in P [] x a i = absurd i
all_in P (y ∷ ys) x a (inl e) = subst P (sym e) a.0
all_in P (y ∷ ys) x a (inr i) = all_in P ys x a.1 i

pub all_of : {A : Type 0} (P : A → Type 0) (xs : List A) → ((x : A) → In x xs → P x) → All P xs
all_of P [] f = tt
all_of P (x ∷ xs) f = (f x (inl refl), all_of P xs (λ y i. f y (inr i)))

pub row_at_replicate : {R : Type 0} (n i : ℕ) → row_at {R = R} (replicate n None) i ≡ None
row_at_replicate zero i = refl
row_at_replicate (suc n) zero = refl
row_at_replicate (suc n) (suc i) = row_at_replicate n i

-- numbers below n, none twice, are at most n
without : ℕ → List ℕ → List ℕ
without k [] = []
without k (x ∷ xs) = elim (eqb k x) [ true ↦ xs | false ↦ x ∷ without k xs ]

without_some : (k : ℕ) (xs : List ℕ) → Distinct xs → ((y : ℕ) → In y (without k xs) → In y xs × (k ≡ y → ⊥)) × Distinct (without k xs) × (length xs ≤ suc (length (without k xs)))
unfolding without
without_some k [] a = (λ y i. absurd i, tt, omega arith)
without_some k (x ∷ xs) a = see (eqb k x) refl (without_some k xs a.1)
  where
    W : Bool → List ℕ
    W b = elim b [ true ↦ xs | false ↦ x ∷ without k xs ]

    see : (b : Bool) → eqb k x ≡ b → ((y : ℕ) → In y (without k xs) → In y xs × (k ≡ y → ⊥)) × Distinct (without k xs) × (length xs ≤ suc (length (without k xs)))
        → ((y : ℕ) → In y (W b) → In y (x ∷ xs) × (k ≡ y → ⊥)) × Distinct (W b) × (suc (length xs) ≤ suc (length (W b)))
    see true e r = (λ y i. (inr i, λ z. a.0 (subst (λ (v : ℕ). In v xs) (sym z ∙ eqb-true k x e) i)), a.1, omega arith)
    see false e r = (
      λ y i. ⊎_elim (λ p. (inl p, λ z. eqb-false k x e (z ∙ p))) (λ j. (inr (r.0 y j).0, (r.0 y j).1)) i,
      (λ i. a.0 (r.0 x i).0, r.1),
      omega (arith, r.2),
    )

pub pigeons : (n : ℕ) (xs : List ℕ) → Distinct xs → ((y : ℕ) → In y xs → y < n) → length xs ≤ n
pigeons zero [] a f = omega arith
pigeons zero (x ∷ xs) a f = absurd (not-suc-le-zero (f x (inl refl)))
pigeons (suc n) xs a f =
    let w = without_some n xs a in
    let r = pigeons n (without n xs) w.1 (λ y i. let b = f y (w.0 y i).0 in let c = (w.0 y i).1 in lt_of n y b c) in
    omega (arith, w.2)
  where
    lt_of : (n y : ℕ) → y < suc n → (n ≡ y → ⊥) → y < n
    lt_of n y b c = see (ℕ_discrete n y)
      where
        see : Dec (n ≡ y) → y < n
        see (yes p) = absurd (c p)
        see (no m) = omega arith
