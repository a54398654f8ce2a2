use Rattle.std.proofs.Common.{List, map, sym, ap, ◌∙◌}
use Rattle.std.proofs.lemmas.List.{drop_all}
use Rattle.std.proofs.lemmas.Result.{err_from_is_err_and}
use Rattle.sheet.specs.declared.procedure.Procedure.{Procedure}
use Rattle.rules.specs.Lookups.{contents_of}
use Rattle.paths.specs.Judging.{enter}
use Rattle.judge.specs.Flow.{entry_of, stacks}
use Rattle.judge.specs.Verifying.{rows_of, waiting}
use Rattle.judge.proofs.Entering.{no_procedures}
use Rattle.judge.proofs.Verifying.{kept_on, rule, first_inside, goes_on, goes_out}
use Rattle.judge.proofs.verifier.Verifier.enter_all.Goals as goal

pub enter-requires-clause-inside : goal.enter-requires-clause-inside
enter-requires-clause-inside c = first_inside c.args.self.now c.loop-procedure.self c.loop-procedure.invariant.kept c.loop-procedure.procedure-index c.loop-procedure-test.true

pub enter-requires-clause-few : goal.enter-requires-clause-few
enter-requires-clause-few c = (rule c.args.self.now c.loop-procedure.self c.loop-procedure.invariant.kept c.loop-procedure.procedure-index c.loop-procedure-test.true).few_parameters

pub loop-procedure-preserved : goal.loop-procedure-preserved
loop-procedure-preserved c =
    let u = c.enter.new.self in
    let q = c.in_ok-enter.ensures in
    let n = goes_on c.args.self.now c.loop-procedure.self c.loop-procedure.invariant.kept c.loop-procedure.procedure-index c.loop-procedure-test.true (rows_of u) (waiting u) q.after in
    record { same = sym n.0 ∙ c.loop-procedure.invariant.same; none = n.1; kept = kept_on q.kept c.loop-procedure.invariant.kept }

pub returns-in_err-enter-clause-after : goal.returns-in_err-enter-clause-after
returns-in_err-enter-clause-after c =
    let q = c.in_err-enter.ensures.after in
    let r = err_from_is_err_and c.from_residual.result c.from_residual.ensures.1 in
    let out = goes_out c.args.self.now c.loop-procedure.self c.loop-procedure.invariant.kept c.loop-procedure.procedure-index c.loop-procedure-test.true q.0 q.1 q.2 in
    rw (r.1, r.2) (q.0, q.1, sym c.loop-procedure.invariant.same ∙ out, q.3)

pub returns-clause-after : goal.returns-clause-after
returns-clause-after c =
    let v = c.args.self.now in
    let u = c.loop-procedure.self in
    let T = contents_of v.table in
    let e = drop_all c.loop-procedure.procedure-index v.table.procedures.now c.loop-procedure-test.false in
    sym c.loop-procedure.invariant.same ∙ ap (λ (Qs : List Procedure). enter (stacks T) (map (entry_of T) Qs) (rows_of u)) e ∙ no_procedures T v.checked (rows_of u) (waiting u) c.loop-procedure.invariant.none
