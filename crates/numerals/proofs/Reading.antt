-- Steps of the reader.
use Rattle.std.proofs.Common.{◌≡◌, ◌+◌, ℕ, suc, cond, Bool, true, false, eqb, List, [], ◌∷◌, drop, refl, arith}
use Rattle.std.specs.List.{prefix_len}
use Rattle.numerals.specs.Numbers.{after_blanks}

pub without_blanks : (s : List ℕ) → drop (prefix_len (λ b. eqb b 32) s) s ≡ after_blanks s
without_blanks [] = refl
without_blanks (c ∷ cs) = by (without_blanks cs) (eqb c 32)
  where
    by : drop (prefix_len (λ b. eqb b 32) cs) cs ≡ after_blanks cs → (b : Bool) → drop (cond b (1 + prefix_len (λ b. eqb b 32) cs) 0) (c ∷ cs) ≡ cond b (after_blanks cs) (c ∷ cs)
    by e true = let k : 1 + prefix_len (λ b. eqb b 32) cs ≡ suc (prefix_len (λ b. eqb b 32) cs) = omega arith in rw k e
    by e false = refl
