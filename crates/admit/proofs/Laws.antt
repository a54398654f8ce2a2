-- Which tables pass, from what admitting means.
use Rattle.std.proofs.Common.{◌≡◌, ℕ, ◌≤◌, Bool, true, false, cond, leb, List, length, take, IfOk, Some, None, Ok, Err, Option, Result, sym, refl, ap, ◌∙◌, subst, arith, Bor}
use Rattle.std.specs.Option.{option_or}
use Rattle.std.proofs.lemmas.List.{length-map, length-take-le}
use Rattle.std.proofs.lemmas.Bool.{leb-true}
use Rattle.sheet.specs.declared.table.Table.{Table}
use Rattle.rules.specs.declared.fault.TableFault.{TableFault}
use Rattle.rules.specs.declared.fault.TableFault.TheVariants.{TooFewPlaces}
use Rattle.rules.specs.Faults.{passed}
use Rattle.rules.specs.Lookups.{contents_of}
use Rattle.rules.specs.Operands.{operand_fault}
use Rattle.rules.specs.Procedures.{table_fault}
use Rattle.rules.proofs.EffectLaws.{neither_left, neither_right}
use Rattle.paths.specs.Admitting.{admit}
use Rattle.rows.specs.declared.row.Row.{Row}
use Rattle.rows.specs.Rows.{meaning}
use Rattle.judge.specs.Admission.{rows_fault, named, admitted}
use Rattle.judge.specs.AdmissionLaws.{LocallyRight}
use Rattle.judge.specs.Flow.{stacks, fit}
use Rattle.judge.proofs.Admission.{admit_accepts_exactly_local_rows}
use Rattle.admit.specs.declared.Passed.{Passed}
use Rattle.admit.specs.Admissions.{rows_for, passing, admission}
use Rattle.admit.specs.Laws.{Right, PassesExactlyRightRows}

-- what passes has no fault, and is what is passed on
pub passing_ok : (o : Option TableFault) (q p : Passed) → passing (passed o) q ≡ Ok p → (o ≡ None) × (p ≡ q)
passing_ok None q p e = (refl, cc)
passing_ok (Some f) q p e = let z : ◌≡◌ {A = ℕ} 0 1 = cc in absurd (omega arith)

enough : (n r : ℕ) (b : Bool) → leb n r ≡ b → ◌≡◌ {A = Option TableFault} (cond b None (Some TooFewPlaces)) None → n ≤ r
enough n r true e f = leb-true n r e
enough n r false e f = let z : ◌≡◌ {A = ℕ} 0 1 = cc in absurd (omega arith)

module _ (t : Table) (rs : Bor (List Row)) where
  abbrev fault : Option TableFault
  fault = admitted (contents_of t) (length rs.now) (rows_for t rs.now)

  long : fault ≡ None → length t.code.now ≤ length rs.now
  long e =
      let T = contents_of t in
      let d = option_or (operand_fault T) (named (admit (stacks T) (fit T) (rows_for t rs.now))) in
      let q = neither_left (rows_fault T (length rs.now)) d (neither_right (table_fault T) (option_or (rows_fault T (length rs.now)) d) e) in
      enough (length t.code.now) (length rs.now) (leb (length t.code.now) (length rs.now)) refl q

  wide : length t.code.now ≤ length rs.now → length (rows_for t rs.now) ≡ length t.code.now
  wide l = length-map (take (length t.code.now) rs.now) meaning ∙ length-take-le (length t.code.now) rs.now l

  to : (p : Passed) → admission t rs ≡ Ok p → (length t.code.now ≤ length rs.now) × LocallyRight (contents_of t) (rows_for t rs.now)
  to p e =
      let none = (passing_ok fault (record { table = t; rows = rs }) p e).0 in
      let l = long none in
      (l, (admit_accepts_exactly_local_rows (contents_of t) (length rs.now) (rows_for t rs.now) l (wide l)).0 none)

  from : length t.code.now ≤ length rs.now → LocallyRight (contents_of t) (rows_for t rs.now) → admission t rs ≡ Ok (record { table = t; rows = rs })
  from l r = ap (λ o. passing (passed o) (record { table = t; rows = rs })) ((admit_accepts_exactly_local_rows (contents_of t) (length rs.now) (rows_for t rs.now) l (wide l)).1 r)

pub right : (t : Table) (rs : Bor (List Row)) (r : Result Passed TableFault) → r ≡ admission t rs → IfOk r Right
right t rs (Err f) e = tt
right t rs (Ok p) e = subst Right (sym (passing_ok (fault t rs) (record { table = t; rows = rs }) p (sym e)).1) (to t rs p (sym e)).1

pub passes_exactly_right_rows : PassesExactlyRightRows
passes_exactly_right_rows t rs = (λ x. to t rs x.0 x.1, λ x. (record { table = t; rows = rs }, from t rs x.0 x.1))
