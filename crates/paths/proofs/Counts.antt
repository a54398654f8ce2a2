-- How many instructions have a row. Assumes nothing.
use Rattle.std.proofs.Common.{◌≡◌, ℕ, zero, suc, ◌+◌, ◌<◌, ◌≤◌, ◌↔◌, List, [], ◌∷◌, length, set, replicate, Some, None, Option, sym, refl, ap, subst, inl, inr, le_of_suc-le-suc, not-suc-le-zero, zero-add, arith}
use Rattle.std.proofs.lemmas.Option.{none-some}
use Rattle.paths.specs.Lists.{In, Distinct, Exactly}
use Rattle.paths.specs.Rows.{Rows, row_at, count}

-- a loop that counts as it goes: none at first, one more with each row taken, none with a row replaced
pub count_none : (R : Type 0) (n : ℕ) → count {R = R} (replicate n None) ≡ 0
count_none R zero = refl
count_none R (suc n) = count_none R n

pub count_taken : {R : Type 0} (rows : Rows R) (j : ℕ) (s : R) → j < length rows → row_at rows j ≡ None → count (set rows j (Some s)) ≡ suc (count rows)
count_taken [] j s h e = absurd (not-suc-le-zero h)
count_taken (None ∷ rows) zero s h e = refl
count_taken (Some r ∷ rows) zero s h e = absurd (none-some r (sym e))
count_taken (None ∷ rows) (suc j) s h e = count_taken rows j s (le_of_suc-le-suc h) e
count_taken (Some r ∷ rows) (suc j) s h e = ap suc (count_taken rows j s (le_of_suc-le-suc h) e)

pub count_replaced : {R : Type 0} (rows : Rows R) (j : ℕ) (q s : R) → row_at rows j ≡ Some q → count (set rows j (Some s)) ≡ count rows
count_replaced [] j q s e = refl
count_replaced (None ∷ rows) zero q s e = absurd (none-some q e)
count_replaced (Some r ∷ rows) zero q s e = refl
count_replaced (None ∷ rows) (suc j) q s e = count_replaced rows j q s e
count_replaced (Some r ∷ rows) (suc j) q s e = ap suc (count_replaced rows j q s e)

-- a loop that counts over the rows in place
pub count_skip : {R : Type 0} (rows : Rows R) (n : ℕ) (o : Option R) → o ≡ None → n + count (o ∷ rows) ≡ n + count rows
count_skip rows n None e = refl
count_skip rows n (Some r) e = absurd (none-some r (sym e))

pub count_one : {R : Type 0} (rows : Rows R) (n : ℕ) (o : Option R) (r : R) → o ≡ Some r → n + count (o ∷ rows) ≡ n + 1 + count rows
count_one rows n None r e = absurd (none-some r e)
count_one rows n (Some q) r e = omega arith

pub count_short : {R : Type 0} (rows : Rows R) → count rows ≤ length rows
count_short [] = omega arith
count_short (None ∷ rows) = let h = count_short rows in omega arith
count_short (Some r ∷ rows) = let h = count_short rows in omega arith

-- the instructions that have a row, the first numbered k
places : {R : Type 0} → ℕ → Rows R → List ℕ
places k [] = []
places k (None ∷ rows) = places (suc k) rows
places k (Some r ∷ rows) = k ∷ places (suc k) rows

length_places : {R : Type 0} (k : ℕ) (rows : Rows R) → length (places k rows) ≡ count rows
unfolding places
length_places k [] = refl
length_places k (None ∷ rows) = length_places (suc k) rows
length_places k (Some r ∷ rows) = ap suc (length_places (suc k) rows)

in_places : {R : Type 0} (k : ℕ) (rows : Rows R) (i : ℕ) (r : R) → row_at rows i ≡ Some r → (x : ℕ) → x ≡ k + i → In x (places k rows)
unfolding places
in_places k [] i r e x p = absurd (none-some r e)
in_places k (None ∷ rows) zero r e x p = absurd (none-some r e)
in_places k (Some q ∷ rows) zero r e x p = inl (omega arith)
in_places k (None ∷ rows) (suc i) r e x p = in_places (suc k) rows i r e x (omega arith)
in_places k (Some q ∷ rows) (suc i) r e x p = inr (in_places (suc k) rows i r e x (omega arith))

abbrev Rowed : {R : Type 0} → ℕ → Rows R → ℕ → Type 0
Rowed {R} k rows x = (i : ℕ) × (r : R) × (x ≡ k + i) × (row_at rows i ≡ Some r)

places_in : {R : Type 0} (k : ℕ) (rows : Rows R) (x : ℕ) → In x (places k rows) → Rowed k rows x
unfolding places
places_in k [] x m = absurd m
places_in k (None ∷ rows) x m = let y = places_in (suc k) rows x m in (suc y.0, y.1, omega (arith, y.2), y.3)
places_in k (Some r ∷ rows) x (inl e) = (zero, r, omega arith, refl)
places_in k (Some r ∷ rows) x (inr m) = let y = places_in (suc k) rows x m in (suc y.0, y.1, omega (arith, y.2), y.3)

places_distinct : {R : Type 0} (k : ℕ) (rows : Rows R) → Distinct (places k rows)
unfolding places
places_distinct k [] = tt
places_distinct k (None ∷ rows) = places_distinct (suc k) rows
places_distinct k (Some r ∷ rows) = (λ m. let y = places_in (suc k) rows k m in omega (arith, y.2), places_distinct (suc k) rows)

pub counts_rows : {R : Type 0} (rows : Rows R) → Exactly (count rows) (λ i. (r : R) × (row_at rows i ≡ Some r))
counts_rows {R = R} rows = (
  places 0 rows,
  places_distinct 0 rows,
  length_places 0 rows,
  λ x. (
    λ m. (
        let y = places_in 0 rows x m in
        let e : y.0 ≡ x = omega (arith, y.2) in
        (y.1, subst (λ (i : ℕ). row_at rows i ≡ Some y.1) e y.3)),
    λ y. in_places 0 rows x y.0 y.1 x (sym (zero-add x)),
  ),
)

pub counts_as : (n : ℕ) (P Q : ℕ → Type 0) → Exactly n P → ((x : ℕ) → P x ↔ Q x) → Exactly n Q
counts_as n P Q c f = (c.0, c.1, c.2, λ x. (λ m. (f x).0 ((c.3 x).0 m), λ q. (c.3 x).1 ((f x).1 q)))
