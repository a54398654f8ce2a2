-- An admitted table keeps the rule of frames at each instruction with a row, and so its runs stay typed.
use Rattle.std.proofs.Common.{◌≡◌, ℕ, ◌<◌, ◌≤◌, Bool, true, false, cond, eqb, leb, ◌⊎◌, [], length, get_or, take, drop, pos, Some, None, Option, sym, refl, ap, ◌∙◌, subst, inl, inr, arith}
use Rattle.std.specs.List.{slice_get}
use Rattle.std.proofs.lemmas.List.{get_or_past}
use Rattle.std.proofs.lemmas.Option.{slice_get-get_or}
use Rattle.std.proofs.lemmas.Bool.{leb-true, eq-eqb, ne_eqb, cases_lt}
use Rattle.sheet.specs.declared.instruction.Instruction.{Instruction}
use Rattle.sheet.specs.declared.mnemonic.Mnemonic.TheVariants.{Hlt}
use Rattle.sheet.specs.Shapes.{shape_of}
use Rattle.sheet.specs.Tables.{Contents}
use Rattle.rules.specs.declared.fault.TableFault.TheVariants.{TooFewPlaces}
use Rattle.rules.specs.Lookups.{no_procedure, procedure_at, owner, natural, enters, room_of}
use Rattle.rules.specs.OperandLaws.{InstructionRule}
use Rattle.rules.specs.Procedures.{table_fault}
use Rattle.rules.proofs.EffectLaws.{neither_left, neither_right}
use Rattle.rules.proofs.LookupLaws.{owner_begins_last, owner_of_first}
use Rattle.paths.specs.Rows.{Rows as RowList, row_at}
use Rattle.rows.specs.declared.entry.Entry.TheVariants as entry
use Rattle.transfer.specs.Stacks.{Stack}
use Rattle.transfer.specs.Transfer.{goes_from}
use Rattle.judge.specs.Admission.{rows_fault}
use Rattle.judge.specs.AdmissionLaws.{LocallyRight}
use Rattle.judge.proofs.Admission.{admit_accepts_exactly_local_rows}
use Rattle.machine.specs.Steps.{decoded}
use Rattle.soundness.specs.Runs.{AdmittedRunsStayTyped}
use Rattle.soundness.proofs.Rules.{declaration, laid, room, Rule, Ruled}
use Rattle.soundness.proofs.Takes.{parameters_begin}
use Rattle.soundness.proofs.Flows.{by_mnemonic}
use Rattle.soundness.proofs.Steps.{starts}
use Rattle.soundness.proofs.Runs.{stays}

-- stands where there is no instruction
no_instruction : Instruction
no_instruction = record { mnemonic = Hlt; t = None; t2 = None; p = pos 0; q = pos 0 }

module _ (T : Contents) (rows : RowList Stack) (wide : length rows ≡ length T.code) (L : LocallyRight T rows) where
  with_row : (n : ℕ) (ρ : Stack) → row_at rows n ≡ Some ρ → n < length T.code
  with_row n ρ e = by (cases_lt n (length T.code))
    where
      by : (n < length T.code) ⊎ (length T.code ≤ n) → n < length T.code
      by (inl l) = l
      by (inr g) = let z = get_or_past rows n None (omega arith) in absurd (let y : ◌≡◌ {A = ℕ} 0 1 = cc in omega arith)

  begin : (i : ℕ) → i < length T.procedures → row_at rows (procedure_at T i).first ≡ Some (laid entry.Value (declaration T i).parameters [])
  begin i l =
      L.firsts i (procedure_at T i) (slice_get-get_or T.procedures i no_procedure l) ∙ ap {B = Option Stack} (λ s. Some s) (parameters_begin T L.table i)

  rule : (n : ℕ) (ρ : Stack) → row_at rows n ≡ Some ρ → Rule T (row_at rows) n ρ
  rule n ρ e =
      let l = with_row n ρ e in
      let c = L.table.counts.code_fits in
      let x = get_or T.code n no_instruction in
      let here = slice_get-get_or T.code n no_instruction l in
      let R = L.operands n x here in
      let f = L.follows n ρ e in
      let g = ap (λ (i : Option Instruction). goes_from T n i ρ) (sym here) ∙ f.1 in
      let w = by_mnemonic T (row_at rows) n ρ L.table f.0 f.2 begin x.mnemonic x.t x.t2 x.p x.q R.letters R.operands (entered x here R) g in
      record {
        operation = w.0;
        inside = omega arith;
        there = ap decoded here ∙ w.1;
        starts = w.2 ∙ first x R (enters (shape_of x.mnemonic).rule) refl;
        flow = w.3;
      }
    where
      first : (x : Instruction) → InstructionRule T n x → (b : Bool) → enters (shape_of x.mnemonic).rule ≡ b → b ≡ eqb n (procedure_at T (owner T n)).first
      first x R true b = sym (eq-eqb n (procedure_at T (owner T n)).first (R.ent_is_first b))
      first x R false b = sym (ne_eqb n (procedure_at T (owner T n)).first (λ z. let y = R.first_is_ent z in let w : ◌≡◌ {A = ℕ} 0 1 = cc in omega arith))

      entered : (x : Instruction) → slice_get T.code n ≡ Some x → InstructionRule T n x → enters (shape_of x.mnemonic).rule ≡ true
          → (ρ ≡ laid entry.Value (declaration T (owner T n)).parameters []) × (room T (owner T n) ≡ natural x.p)
      entered x here R b =
          let z = R.ent_is_first b in
          let q : row_at rows n ≡ Some (laid entry.Value (declaration T (owner T n)).parameters [])
          = subst (λ (i : ℕ). row_at rows i ≡ Some (laid entry.Value (declaration T (owner T n)).parameters [])) (sym z) (begin (owner T n) (owner_begins_last T L.table n).there) in (
            (let y : Some ρ ≡ Some (laid entry.Value (declaration T (owner T n)).parameters []) = sym e ∙ q in cc),
            ap (λ (i : ℕ). room_of (slice_get T.code i)) (sym z) ∙ (ap room_of here ∙ ap (λ (c : Bool). cond c (natural x.p) 0) b),
          )

  pub ruled : Ruled T (row_at rows)
  ruled =
      let c = L.table.counts.some_procedures in
      let M = (L.table.each 0 (procedure_at T 0) (slice_get-get_or T.procedures 0 no_procedure (omega arith))).main refl in
      let z : (procedure_at T 0).first ≡ 0 = M.1 in
      record {
        rule = rule;
        begin = subst (λ (i : ℕ). row_at rows i ≡ Some []) z
            (subst (λ (k : ℕ). row_at rows (procedure_at T 0).first ≡ Some (laid entry.Value (take k (take (procedure_at T 0).count (drop (procedure_at T 0).offset T.cells))) [])) M.2 (begin 0 (omega arith)));
        own = subst (λ (i : ℕ). owner T i ≡ 0) z (owner_of_first T L.table 0 (omega arith));
        first = z;
      }

pub admitted_runs_stay_typed : AdmittedRunsStayTyped
admitted_runs_stay_typed T r rows wide ok len h cs five =
    let enough = rows_enough (neither_left (rows_fault T r) _ (neither_right (table_fault T) _ ok)) in
    let L = (admit_accepts_exactly_local_rows T r rows enough wide).0 ok in
    let J = ruled T rows wide L in
    stays T (row_at rows) J cs _ (starts T (row_at rows) J len h five)
  where
    rows_enough : rows_fault T r ≡ None → length T.code ≤ r
    rows_enough e = by (leb (length T.code) r) refl e
      where
        by : (b : Bool) → leb (length T.code) r ≡ b → cond b None (Some TooFewPlaces) ≡ None → length T.code ≤ r
        by true q e = leb-true (length T.code) r q
        by false q e = absurd (let z : ◌≡◌ {A = ℕ} 0 1 = cc in omega arith)
