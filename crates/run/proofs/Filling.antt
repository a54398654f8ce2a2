-- A list is overwritten place by place; the whole of it, and then its first five.
use Rattle.std.proofs.Common.{◌≡◌, ℕ, zero, suc, ◌+◌, ◌-◌, ◌<◌, ◌≤◌, List, [], ◌∷◌, ◌++◌, length, drop, set, replicate, sym, refl, ap, ◌∙◌, subst, append-nil, add-one, arith}
use Rattle.std.proofs.lemmas.List.{drop_all}

module _ {X : Type 0} (x : X) where
  fill_suc : (xs : List X) (i : ℕ) → i < length xs → set (replicate i x ++ drop i xs) i x ≡ replicate (suc i) x ++ drop (suc i) xs
  fill_suc [] i h = absurd (omega arith)
  fill_suc (y ∷ ys) zero h = refl
  fill_suc (y ∷ ys) (suc i) h = ap (λ (r : List X). x ∷ r) (fill_suc ys i (omega arith))

  pub fill_more : (xs : List X) (i : ℕ) → i < length xs → set (replicate i x ++ drop i xs) i x ≡ replicate (i + 1) x ++ drop (i + 1) xs
  fill_more xs i h = rw add-one (fill_suc xs i h)

  fill_all : (xs ys : List X) (n : ℕ) → n ≡ length xs → ys ≡ replicate n x ++ drop n xs → ys ≡ replicate n x
  fill_all xs ys n e q = let d : drop n xs ≡ [] = drop_all n xs (omega arith) in q ∙ rw (d, append-nil)

  pub fill_five : (y : X) (xs ys zs : List X) (n : ℕ) → n ≡ length xs → 5 ≤ n → ys ≡ replicate n x ++ drop n xs → zs ≡ replicate 5 y ++ drop 5 ys
      → zs ≡ replicate 5 y ++ replicate (n - 5) x
  fill_five y xs ys zs n e h p q =
      let k : n ≡ suc (suc (suc (suc (suc (n - 5))))) = omega arith in
      q ∙ (ap (λ (l : List X). replicate 5 y ++ drop 5 l) (fill_all xs ys n e p)
      ∙ subst (λ (m : ℕ). replicate 5 y ++ drop 5 (replicate m x) ≡ replicate 5 y ++ replicate (n - 5) x) (sym k) refl)
