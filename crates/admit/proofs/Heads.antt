-- Which procedure begins at an instruction, and with which row.
use Rattle.std.proofs.Common.{◌≡◌, ℕ, zero, suc, ◌<◌, true, false, eqb, List, [], ◌∷◌, map, length, get_or, Some, None, sym, refl, ap, ◌∙◌, subst, arith}
use Rattle.std.proofs.lemmas.Bool.{eqb-true, eqb-false, eq-eqb, ne_eqb}
use Rattle.sheet.specs.declared.procedure.Procedure.{Procedure}
use Rattle.sheet.specs.Tables.{Contents}
use Rattle.rules.specs.Lookups.{procedure_at, no_procedure, owner}
use Rattle.rules.proofs.LookupLaws.{owner_begins_last, owner_of_first}
use Rattle.paths.specs.Admitting.{entry_is, entry_at}
use Rattle.transfer.specs.Transfer.{Checked}
use Rattle.transfer.proofs.Checking.{table_rule}
use Rattle.judge.specs.Flow.{entry_of}
use Rattle.admit.specs.Local.{owning}

-- ---- in any list of procedures
abbrev first_of : List Procedure → ℕ → ℕ
first_of Ps j = (get_or Ps j no_procedure).first

module _ (T : Contents) (i : ℕ) where
  -- procedure k alone begins at i
  found : (Ps : List Procedure) (k : ℕ) → k < length Ps → first_of Ps k ≡ i → ((j : ℕ) → j < length Ps → first_of Ps j ≡ i → j ≡ k)
      → entry_at (map (entry_of T) Ps) i ≡ Some (entry_of T (get_or Ps k no_procedure)).1
  unfolding entry_at entry_is
  found [] k l e only = absurd (omega arith)
  found (P ∷ Ps) zero l e only = rw (eq-eqb P.first i e)
  found (P ∷ Ps) (suc k) l e only =
      let z : eqb P.first i ≡ false = ne_eqb P.first i (λ q. let h = only 0 (omega arith) q in omega (arith, h)) in
      rw z (found Ps k (omega arith) e (λ j m q. let h = only (suc j) (omega arith) q in omega (arith, h)))

  -- none does
  none : (Ps : List Procedure) → ((j : ℕ) → j < length Ps → first_of Ps j ≡ i → ⊥) → entry_at (map (entry_of T) Ps) i ≡ None
  unfolding entry_at entry_is
  none [] h = refl
  none (P ∷ Ps) h = let z : eqb P.first i ≡ false = ne_eqb P.first i (h 0 (omega arith)) in rw z (none Ps (λ j m q. h (suc j) (omega arith) q))

-- ---- in a table that keeps the rules
module _ (T : Contents) (checked : Checked T) (i : ℕ) where
  there : owner T i < length T.procedures
  there = (owner_begins_last T (table_rule T checked) i).there

  owns : (j : ℕ) → j < length T.procedures → (procedure_at T j).first ≡ i → owner T i ≡ j
  owns j l e = subst (λ (n : ℕ). owner T n ≡ j) e (owner_of_first T (table_rule T checked) j l)

  pub begins_here : eqb (owning T i).first i ≡ true → entry_at (map (entry_of T) T.procedures) i ≡ Some (entry_of T (owning T i)).1
  begins_here e = found T i T.procedures (owner T i) there (eqb-true (owning T i).first i e) (λ j l q. sym (owns j l q))

  pub none_begins_here : eqb (owning T i).first i ≡ false → entry_at (map (entry_of T) T.procedures) i ≡ None
  none_begins_here e = none T i T.procedures (λ j l q. eqb-false (owning T i).first i e (ap (λ (o : ℕ). (procedure_at T o).first) (owns j l q) ∙ q))
