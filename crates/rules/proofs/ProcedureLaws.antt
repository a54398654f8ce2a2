-- The check of the rules of tables finds a fault exactly where one is broken, and names the lowest procedure.
use Rattle.std.proofs.Common.{◌≡◌, ℕ, zero, suc, ◌-◌, ◌<◌, Bool, true, false, cond, ◌&&◌, ltb, ◌⊎◌, Some, None, Decides, Option, sym, refl, ap, ◌∙◌, inl, inr, arith}
use Rattle.std.specs.Option.{option_map}
use Rattle.std.proofs.lemmas.Bool.{ne_eqb}
use Rattle.std.proofs.lemmas.Bool.Decides.{Decides-eqb, Decides-ltb, Decides-and, Decides-like, Decides-at, not_from_Decides}
use Rattle.sheet.specs.declared.procedure.Procedure.{Procedure}
use Rattle.sheet.specs.Tables.{Contents}
use Rattle.rules.specs.declared.fault.TableFault.{TableFault}
use Rattle.rules.specs.declared.fault.TableFault.TheVariants.{IllFormed}
use Rattle.rules.specs.Faults.{lowest}
use Rattle.rules.specs.Lookups.{procedure_at, ancestor}
use Rattle.rules.specs.Procedures.{main_ok, form_ok, procedure_ok, counts_ok, table_fault}
use Rattle.rules.specs.ProcedureLaws.{CountsRule, ProcedureRule, TableRule, TableIsChecked, TableNames}
use Rattle.rules.specs.Throughout.{BreaksFirst}
use Rattle.rules.proofs.Decided.{decides_leb, decides_none, none_fails, all_hold, first_fails}

abbrev Main : Procedure → Type 0
Main P = (P.parent ≡ 0) × (P.first ≡ 0) × (P.parameters ≡ 0) × (P.result ≡ None)

abbrev Form : Contents → ℕ → Procedure → Type 0
Form T n P = (n ≡ 0 → Main P) × (0 < n → P.parent < n) × (0 < n → (procedure_at T (n - 1)).first < P.first)

main : (P : Procedure) → Decides (main_ok P) (Main P)
main P =
    Decides-like (main_ok P) (λ h. (h.0, h.1.0, h.1.1.0, h.1.1.1)) (λ h. (h.0, (h.1, (h.2, h.3))))
    (Decides-and _ _ (Decides-eqb P.parent 0) (Decides-and _ _ (Decides-eqb P.first 0) (Decides-and _ _ (Decides-eqb P.parameters 0) (decides_none P.result))))

form : (T : Contents) (n : ℕ) (P : Procedure) → Decides (form_ok T n P) (Form T n P)
form T zero P =
    Decides-like (main_ok P) (λ h. ((λ _. h), (λ l. absurd (omega arith)), λ l. absurd (omega arith))) (λ h. h.0 refl) (main P)
form T (suc m) P =
    let b = ltb P.parent (suc m) && ltb (procedure_at T (suc m - 1)).first P.first in
    Decides-at (form_ok T (suc m) P) b (ap (λ t. cond t (main_ok P) b) (ne_eqb (suc m) 0 (λ w. omega arith)))
    (Decides-like b (λ h. ((λ e. absurd (omega arith)), (λ _. h.0), λ _. h.1)) (λ h. (h.1 (omega arith), h.2 (omega arith)))
    (Decides-and _ _ (Decides-ltb P.parent (suc m)) (Decides-ltb (procedure_at T (suc m - 1)).first P.first)))

pub procedure_rule : (T : Contents) (n : ℕ) (P : Procedure) → Decides (procedure_ok T n P) (ProcedureRule T n P)
procedure_rule T n P =
    Decides-like (procedure_ok T n P)
    (λ h. record {
      main = h.0.0;
      parent_is_lower = h.0.1;
      first_rises = h.0.2;
      first_is_inside = h.1.0;
      depth = h.1.1.0;
      few_parameters = h.1.1.1.0.0;
      parameters_are_cells = h.1.1.1.0.1.0;
      few_cells = h.1.1.1.0.1.1;
      cells_follow = h.1.1.1.1.0;
      cells_are_there = h.1.1.1.1.1;
    })
    (λ r. (
      (r.main, r.parent_is_lower, r.first_rises),
      (r.first_is_inside, (r.depth, ((r.few_parameters, (r.parameters_are_cells, r.few_cells)), (r.cells_follow, r.cells_are_there)))),
    ))
    (Decides-and _ _ (form T n P) (Decides-and _ _ (Decides-ltb _ _) (Decides-and _ _ (decides_none (ancestor T 8 n))
    (Decides-and _ _ (Decides-and _ _ (decides_leb _ _) (Decides-and _ _ (decides_leb _ _) (decides_leb _ _))) (Decides-and _ _ (Decides-eqb _ _) (decides_leb _ _))))))

pub counts_rule : (T : Contents) → Decides (counts_ok T) (CountsRule T)
counts_rule T =
    Decides-like (counts_ok T)
    (λ h. record { some_code = h.0.0; code_fits = h.0.1; some_procedures = h.1.0; procedures_fit = h.1.1 })
    (λ r. ((r.some_code, r.code_fits), (r.some_procedures, r.procedures_fit)))
    (Decides-and _ _ (Decides-and _ _ (decides_leb _ _) (decides_leb _ _)) (Decides-and _ _ (decides_leb _ _) (decides_leb _ _)))

-- the place of a fault
pub unmapped : (o : Option ℕ) (F : ℕ → TableFault) (f : TableFault) → option_map F o ≡ Some f → (n : ℕ) × (f ≡ F n) × (o ≡ Some n)
unmapped None F f e = absurd (let z : ◌≡◌ {A = ℕ} 0 1 = cc in omega arith)
unmapped (Some n) F f e = (n, (let q : F n ≡ f = cc in sym q), refl)

pub unmapped_none : (o : Option ℕ) (F : ℕ → TableFault) → option_map F o ≡ None → o ≡ None
unmapped_none None F e = refl
unmapped_none (Some n) F e = absurd (let z : ◌≡◌ {A = ℕ} 0 1 = cc in omega arith)

abbrev found : Contents → Option TableFault
found T = option_map IllFormed (lowest (procedure_ok T) 0 T.procedures)

pub table_is_checked : TableIsChecked
table_is_checked T = (see (counts_ok T) refl, back)
  where
    see : (b : Bool) → counts_ok T ≡ b → cond b (found T) (Some (IllFormed 0)) ≡ None → TableRule T
    see false c e = absurd (let z : ◌≡◌ {A = ℕ} 0 1 = cc in omega arith)
    see true c e = record {
      counts = (counts_rule T).0 c;
      each = none_fails (procedure_ok T) (ProcedureRule T) (procedure_rule T) T.procedures (unmapped_none _ IllFormed e);
    }

    back : TableRule T → table_fault T ≡ None
    back r =
        ap (λ b. cond b (found T) (Some (IllFormed 0))) ((counts_rule T).1 r.counts)
        ∙ ap (option_map IllFormed) (all_hold (procedure_ok T) (ProcedureRule T) (procedure_rule T) T.procedures r.each)

pub table_names : TableNames
table_names T f e = see (counts_ok T) refl e
  where
    see : (b : Bool) → counts_ok T ≡ b → cond b (found T) (Some (IllFormed 0)) ≡ Some f
        → (n : ℕ) × (f ≡ IllFormed n) × (((n ≡ 0) × (CountsRule T → ⊥)) ⊎ (CountsRule T × BreaksFirst (ProcedureRule T) T.procedures n))
    see false c e = (0, (let q : IllFormed 0 ≡ f = cc in sym q), inl (refl, not_from_Decides (counts_ok T) (counts_rule T) c))
    see true c e =
        let u = unmapped _ IllFormed f e in
        (u.0, u.1, inr ((counts_rule T).0 c, first_fails (procedure_ok T) (ProcedureRule T) (procedure_rule T) T.procedures u.0 u.2))
