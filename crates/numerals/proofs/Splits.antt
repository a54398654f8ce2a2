-- The first line of a text.
use Rattle.std.proofs.Common.{◌≡◌, ℕ, suc, ◌+◌, ◌<◌, ◌≤◌, Bool, true, false, cond, not, eqb, List, [], ◌∷◌, length, take, drop, Some, None, sym, refl, ap, ◌∙◌, subst, arith}
use Rattle.std.specs.List.{position, position_or_len}
use Rattle.std.proofs.lemmas.List.{take_all, drop_all}
use Rattle.std.proofs.lemmas.Bool.Decides.{nat_tests}
use Rattle.numerals.specs.Lines.{lines, onto}

-- before the first byte that ends a line, or all
abbrev before_end : List ℕ → ℕ
before_end s = position_or_len (λ b. eqb b 10) s

first_line : (s : List ℕ) → 0 < length s → lines s ≡ take (suc (before_end s)) s ∷ lines (drop (suc (before_end s)) s)
first_line [] h = grind arith
first_line (c ∷ []) h = by (eqb c 10)
  where
    by : (b : Bool) → cond b ((c ∷ []) ∷ []) (onto c []) ≡ take (suc (cond (not b) (1 + 0) 0)) (c ∷ []) ∷ lines (drop (suc (cond (not b) (1 + 0) 0)) (c ∷ []))
    by true = refl
    by false = refl
first_line (c ∷ d ∷ ds) h = by (first_line (d ∷ ds) (omega arith)) (eqb c 10)
  where
    by : lines (d ∷ ds) ≡ take (suc (before_end (d ∷ ds))) (d ∷ ds) ∷ lines (drop (suc (before_end (d ∷ ds))) (d ∷ ds)) → (b : Bool)
        → cond b ((c ∷ []) ∷ lines (d ∷ ds)) (onto c (lines (d ∷ ds)))
        ≡ take (suc (cond (not b) (1 + before_end (d ∷ ds)) 0)) (c ∷ d ∷ ds) ∷ lines (drop (suc (cond (not b) (1 + before_end (d ∷ ds)) 0)) (c ∷ d ∷ ds))
    by e true = refl
    by e false = let k : 1 + before_end (d ∷ ds) ≡ suc (before_end (d ∷ ds)) = omega arith in subst (λ (j : ℕ). onto c (lines (d ∷ ds)) ≡ take (suc j) (c ∷ d ∷ ds) ∷ lines (drop (suc j) (c ∷ d ∷ ds))) (sym k) (ap (onto c) e)

pub first_ended : (s : List ℕ) (i : ℕ) → position (λ b. eqb b 10) s ≡ Some i → 0 < length s → lines s ≡ take (i + 1) s ∷ lines (drop (i + 1) s)
first_ended s i e h = let f = first_line s h in grind (arith, nat_tests)

pub first_open : (s : List ℕ) → position (λ b. eqb b 10) s ≡ None → 0 < length s → lines s ≡ take (length s) s ∷ lines (drop (length s) s)
first_open s e h =
    let f = first_line s h in
    let l : length s ≤ suc (before_end s) = grind (arith, nat_tests) in
    let t : take (suc (before_end s)) s ≡ take (length s) s = take_all (suc (before_end s)) s l ∙ sym (take_all (length s) s (omega arith)) in
    let d : drop (suc (before_end s)) s ≡ drop (length s) s = drop_all (suc (before_end s)) s l ∙ sym (drop_all (length s) s (omega arith)) in
    f ∙ ap (λ x. x ∷ lines (drop (suc (before_end s)) s)) t ∙ ap (λ x. take (length s) s ∷ lines x) d

onto_within : (c : ℕ) (ls : List (List ℕ)) (n : ℕ) → length ls ≤ n → length (onto c ls) ≤ suc n
onto_within c [] n h = omega arith
onto_within c (l ∷ ls) n h = omega arith

-- each line has a byte at least
pub length-lines-le : (s : List ℕ) → length (lines s) ≤ length s
length-lines-le [] = omega arith
length-lines-le (c ∷ cs) = by (length-lines-le cs) (eqb c 10)
  where
    by : length (lines cs) ≤ length cs → (b : Bool) → length (cond b ((c ∷ []) ∷ lines cs) (onto c (lines cs))) ≤ suc (length cs)
    by h true = omega arith
    by h false = onto_within c (lines cs) (length cs) h
