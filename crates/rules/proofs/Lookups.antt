-- Steps of the climb to an ancestor, and the count of procedures.
use Rattle.std.proofs.Common.{◌≡◌, ℕ, zero, suc, ◌+◌, ◌-◌, ◌<◌, ◌≤◌, Bool, true, false, cond, leb, List, [], ◌∷◌, length, sym, refl, ◌∙◌, add-zero, zero-add, sub-one, arith}
use Rattle.std.specs.List.{prefix_len, take_while}
use Rattle.std.proofs.lemmas.List.{length-take-le}
use Rattle.sheet.specs.declared.procedure.Procedure.{Procedure}
use Rattle.sheet.specs.Tables.{Contents}
use Rattle.rules.specs.Lookups.{procedure_at, ancestor, begun}

pub climb_more : (T : Contents) (left a : ℕ) → 0 < left → (a ≡ 0 → ⊥) → ancestor T left a ≡ ancestor T (left - 1) (procedure_at T a).parent
climb_more T zero a h e = absurd (omega arith)
climb_more T (suc j) zero h e = absurd (e refl)
climb_more T (suc j) (suc n) h e = rw (sub-one (suc j))

-- those that begin at or below n stand in front
begun_from : (i : ℕ) (Ps : List Procedure) (n : ℕ) → begun i Ps n ≡ i + prefix_len (λ P. leb P.first n) Ps
begun_from i [] n = sym (add-zero i)
begun_from i (P ∷ Ps) n = see (leb P.first n) (begun_from (i + 1) Ps n)
  where
    m : ℕ
    m = prefix_len (λ P. leb P.first n) Ps

    see : (b : Bool) → begun (i + 1) Ps n ≡ i + 1 + m → cond b (begun (i + 1) Ps n) i ≡ i + cond b (1 + m) 0
    see true h = omega arith
    see false h = sym (add-zero i)

few : {X : Type 0} (p : X → Bool) (xs : List X) → prefix_len p xs ≤ length xs
few p [] = omega arith
few {X} p (x ∷ xs) = see (p x) (few p xs)
  where
    see : (b : Bool) → prefix_len p xs ≤ length xs → cond b (1 + prefix_len p xs) 0 ≤ suc (length xs)
    see true h = omega arith
    see false h = omega arith

pub begun_counts : (Ps : List Procedure) (n : ℕ) → length (take_while (λ P. leb P.first n) Ps) ≡ begun 0 Ps n
begun_counts Ps n =
    length-take-le (prefix_len (λ P. leb P.first n) Ps) Ps (few (λ P. leb P.first n) Ps)
    ∙ sym (begun_from 0 Ps n ∙ zero-add (prefix_len (λ P. leb P.first n) Ps))
