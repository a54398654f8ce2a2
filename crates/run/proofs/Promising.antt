-- Lists of calls that were undergone keep the promise.
use Rattle.std.proofs.Common.{◌≡◌, ℕ, ◌+◌, ◌<◌, ◌≤◌, List, [], ◌∷◌, map, length, take, Some, None, Ok, Err, Option, Result, sym, refl, ap, ◌∙◌, subst, arith, Bor}
use Rattle.std.proofs.lemmas.List.{length-map, length-take-le}
use Rattle.sheet.specs.declared.table.Table.{Table}
use Rattle.sheet.specs.Tables.{Contents}
use Rattle.rules.specs.declared.fault.TableFault.{TableFault}
use Rattle.rules.specs.Faults.{passed}
use Rattle.rules.specs.Lookups.{contents_of}
use Rattle.rows.specs.declared.row.Row.{Row}
use Rattle.rows.specs.Rows.{meaning}
use Rattle.judge.specs.Admission.{admitted}
use Rattle.admit.specs.declared.Passed.{Passed}
use Rattle.admit.specs.Admissions.{rows_for, passing, admission}
use Rattle.admit.proofs.Laws.{passes_exactly_right_rows}
use Rattle.store.specs.declared.cell.Cell.{Cell}
use Rattle.host.specs.Hosts.{Meaning}
use Rattle.machine.specs.declared.ending.Ending.{Ending}
use Rattle.machine.specs.Endings.{ending_of}
use Rattle.machine.specs.Runs.{begun, go}
use Rattle.machine.specs.States.{State}
use Rattle.soundness.specs.Frames.{Rows}
use Rattle.soundness.specs.Runs.{total, StaysTyped}
use Rattle.soundness.proofs.Admits.{admitted_runs_stay_typed}
use Rattle.soundness.proofs.Runs.{one_go}
use Rattle.run.specs.declared.answer.Answer.{Answer}
use Rattle.run.specs.declared.answer.Answer.TheVariants.{Looked}
use Rattle.run.specs.declared.answer.Call.{Call}
use Rattle.run.specs.declared.answer.Call.TheVariants as c
use Rattle.run.specs.declared.answer.LookFault.{LookFault}
use Rattle.run.specs.declared.answer.LookFault.TheVariants.{OtherStore, NotReached}
use Rattle.run.specs.Answers.{finish_of, finish_number, number_of, tally}
use Rattle.run.specs.Calls.{look_at}
use Rattle.run.specs.Promise.{Below, Kept, EqualCountsLeaveEqualStates}
use Rattle.run.specs.Undergone.{meant, told, state_after}

tallied : (T : Contents) (cs : List Call) (s : State) → tally (told T cs s) ≡ total T (map meant cs) s
unfolding told
tallied T [] s = refl
tallied T (c.Go n ∷ cs) s = ap (λ (k : ℕ). (go T n s).count + k) (tallied T cs (go T n s).state)
tallied T (c.Look x ∷ cs) s = ap (λ (k : ℕ). 0 + k) (tallied T cs s)
tallied T (c.Report ∷ cs) s = ap (λ (k : ℕ). 0 + k) (tallied T cs s)

finish_is : (o : Option Ending) → ending_of o < 60 → finish_number (finish_of o) < 60
finish_is None h = h
finish_is (Some e) h = h

found_low : (r : Result Cell LookFault) → number_of (Looked r) < 60
found_low (Ok x) = omega arith
found_low (Err OtherStore) = omega arith
found_low (Err NotReached) = omega arith

below : (T : Contents) (rows : Rows) (cs : List Call) (s : State) → StaysTyped T rows (map meant cs) s → Below 60 (told T cs s)
unfolding told
below T rows [] s h = tt
below T rows (c.Go n ∷ cs) s h = (finish_is (go T n s).ending h.1, below T rows cs (go T n s).state h.2)
below T rows (c.Look x ∷ cs) s h = (found_low (look_at x.0 s.regs.height s.cells), below T rows cs s h.2)
below T rows (c.Report ∷ cs) s h = (omega arith, below T rows cs s h.2)

passing_ok : (o : Option TableFault) (q p : Passed) → passing (passed o) q ≡ Ok p → (o ≡ None) × (p ≡ q)
passing_ok None q p e = (refl, cc)
passing_ok (Some f) q p e = let z : ◌≡◌ {A = ℕ} 0 1 = cc in absurd (omega arith)

pub admits : (t : Table) (rs : Bor (List Row)) (p : Passed) → Ok p ≡ admission t rs
    → (admitted (contents_of t) (length rs.now) (rows_for t rs.now) ≡ None) × (p ≡ record { table = t; rows = rs })
admits t rs p e = passing_ok (admitted (contents_of t) (length rs.now) (rows_for t rs.now)) (record { table = t; rows = rs }) p (sym e)

wide : (t : Table) (rs : Bor (List Row)) (p : Passed) → Ok p ≡ admission t rs → length (rows_for t rs.now) ≡ length t.code.now
wide t rs p e =
    length-map (take (length t.code.now) rs.now) meaning
    ∙ length-take-le (length t.code.now) rs.now ((passes_exactly_right_rows t rs).0 (p, sym e)).0

pub kept : (t : Table) (rs : Bor (List Row)) (p : Passed) (len : ℕ) (h : Meaning) (calls : List Call) (s : State) (xs : List Answer)
    → Ok p ≡ admission t rs → 5 ≤ len → s ≡ state_after (contents_of t) calls (begun len h) → xs ≡ told (contents_of t) calls (begun len h)
    → Kept (contents_of t) (length rs.now) (rows_for t rs.now) len h calls s xs
unfolding state_after
kept t rs p len h calls s xs e five l a =
    let T = contents_of t in
    let A = (admits t rs p e).0 in
    let F = admitted_runs_stay_typed T (length rs.now) (rows_for t rs.now) (wide t rs p e) A len h (map meant calls) five in
    record {
      admitted_with = A;
      frames = F;
      answers = a;
      low = subst (λ (ys : List Answer). Below 60 ys) (sym a) (below T _ calls (begun len h) F);
      total = l ∙ (one_go T (map meant calls) (begun len h)
          ∙ ap (λ (n : ℕ). (go T n (begun len h)).state) (sym (ap tally a ∙ tallied T calls (begun len h))));
    }

pub equal_counts : EqualCountsLeaveEqualStates
equal_counts T len h r r' rows rows' calls calls' s s' xs xs' k k' e =
    k.total ∙ (ap (λ (n : ℕ). (go T n (begun len h)).state) e ∙ sym k'.total)
