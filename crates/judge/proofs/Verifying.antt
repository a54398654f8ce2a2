-- What a hand finds in the verifier, and that it leaves it ready.
use Rattle.std.proofs.Common.{◌≡◌, ℕ, ◌+◌, ◌<◌, true, false, List, [], ◌∷◌, map, length, get_or, drop, set, Ok, Result, sym, ap, ◌∙◌, arith}
use Rattle.std.proofs.Math.Logic.{∥∥₁_elim, ∥∥₁_map}
use Rattle.std.specs.Coded.{le_prop}
use Rattle.std.proofs.lemmas.Bool.{cond-true, lt-ltb}
use Rattle.std.proofs.lemmas.List.{length-map, drop_more}
use Rattle.sheet.specs.declared.procedure.Procedure.{Procedure}
use Rattle.sheet.specs.Tables.{Contents}
use Rattle.rules.specs.Lookups.{contents_of, no_procedure}
use Rattle.rules.specs.ProcedureLaws.{ProcedureRule}
use Rattle.paths.specs.Judging.{Progress, going, refused, enter}
use Rattle.paths.specs.Loops.{Ready}
use Rattle.paths.specs.Rows.{Rows}
use Rattle.pile.specs.declared.Full.{Full}
use Rattle.pile.specs.Piles.{held, depth, room, answer}
use Rattle.pile.proofs.Stacks.{length_held}
use Rattle.rows.specs.declared.row.Row.{Row}
use Rattle.rows.specs.Rows.{is_row, meaning}
use Rattle.transfer.specs.Stacks.{Stack}
use Rattle.transfer.specs.Transfer.{stack_of}
use Rattle.judge.specs.declared.flaw.Flaw.{Flaw}
use Rattle.judge.specs.declared.verifier.Verifier.{Verifier}
use Rattle.judge.specs.Flow.{entry_of, stacks}
use Rattle.judge.specs.Handing.{meanings, entered}
use Rattle.judge.specs.Verifying.{Kept}
use Rattle.judge.proofs.Entering.{next_procedure, out_of_procedure, procedure_keeps}
use Rattle.judge.proofs.Following.{past}
use Rattle.judge.proofs.Handing.{none_there, taken}
use Rattle.judge.proofs.Readying.{room_for_one, still_ready}

module _ (v : Verifier) (j : ℕ) (row : Row) (inside : j < length v.rows.now) (new : is_row (get_or v.rows.now j past) ≡ false) where
  -- an instruction without a row does not wait yet, so there is a place for it
  pub few : depth v.work.now < length v.rows.now
  few = ∥∥₁_elim v.ready le_prop (λ y. room_for_one v.rows.now (held v.work.now) (depth v.work.now) j (length_held v.work.now) y inside (none_there v.rows.now (held v.work.now) j row inside new))

  pub pushed : (r : Result (Unit {0}) Full) → r ≡ answer v.work.now → r ≡ Ok tt
  pushed r e = let left : depth v.work.now < room v.work.now = omega (arith, few, v.roomy) in e ∙ cond-true _ _ _ (lt-ltb (depth v.work.now) (room v.work.now) left)

  -- with its row it may wait
  pub still_waits : (work : List ℕ) → is_row row ≡ true → work ≡ j ∷ held v.work.now → ∥ Ready (meanings (set v.rows.now j row)) work ∥₁
  still_waits work is e =
      ∥∥₁_map v.ready (λ y.
      (still_ready (meanings v.rows.now) (meanings (set v.rows.now j row)) (held v.work.now) work j (stack_of row)
      (let m = length-map v.rows.now meaning in omega (arith, m, inside)) y (taken v.rows.now (held v.work.now) j row inside work new is e)).0)

-- one step after another
pub kept_on : {u v w : Verifier} → Kept v w → Kept u v → Kept u w
kept_on q p = record { table = q.table ∙ p.table; rows = q.rows ∙ p.rows; work = q.work ∙ p.work; places = q.places ∙ p.places; rest = q.rest ∙ p.rest }

-- ---- the procedures from i on, over what those before it left
module _ (v u : Verifier) (kept : Kept v u) (i : ℕ) (inside : i < length v.table.procedures.now) where
  abbrev T : Contents
  T = contents_of v.table

  abbrev P : Procedure
  P = get_or v.table.procedures.now i no_procedure

  abbrev from : ℕ → Rows Stack → Progress Stack Flaw
  from n rows = enter (stacks T) (map (entry_of T) (drop n v.table.procedures.now)) rows

  pub rule : ProcedureRule T i P
  rule = procedure_keeps T v.checked i inside

  pub first_inside : P.first < length u.table.code.now
  first_inside = let k = rule.first_is_inside in let l = ap (λ t. length t.code.now) kept.table in omega (arith, k, l)

  wide : length (meanings u.rows.now) ≡ length T.code
  wide = length-map u.rows.now meaning ∙ u.wide ∙ ap (λ t. length t.code.now) kept.table

  here : from i (meanings u.rows.now) ≡ enter (stacks T) (map (entry_of T) (P ∷ drop (i + 1) v.table.procedures.now)) (meanings u.rows.now)
  here = ap (λ (Qs : List Procedure). enter (stacks T) (map (entry_of T) Qs) (meanings u.rows.now)) (drop_more v.table.procedures.now i no_procedure inside)

  same_table : entered T P (meanings u.rows.now) ≡ entered (contents_of u.table) P (meanings u.rows.now)
  same_table = sym (ap (λ t. entered (contents_of t) P (meanings u.rows.now)) kept.table)

  low : P.first < length (meanings u.rows.now)
  low = let k = rule.first_is_inside in omega (arith, k, wide)

  pub goes_on : (rows : Rows Stack) (work : List ℕ) → entered (contents_of u.table) P (meanings u.rows.now) ≡ going rows work → (from i (meanings u.rows.now) ≡ from (i + 1) rows) × (work ≡ [])
  goes_on rows work e =
      let n = next_procedure T v.checked P (drop (i + 1) v.table.procedures.now) (meanings u.rows.now) wide low rows work (same_table ∙ e) in
      (here ∙ n.0, n.1)

  pub goes_out : (f : Flaw) (n : ℕ) → entered (contents_of u.table) P (meanings u.rows.now) ≡ refused f n → from i (meanings u.rows.now) ≡ refused f n
  goes_out f n e = here ∙ out_of_procedure T v.checked P (drop (i + 1) v.table.procedures.now) (meanings u.rows.now) wide low f n (same_table ∙ e)
