use Rattle.std.proofs.Common.{sym, ◌∙◌, arith}
use Rattle.std.proofs.lemmas.Result.{err_from_is_err_and}
use Rattle.rules.specs.Lookups.{contents_of}
use Rattle.judge.specs.Handing.{meanings}
use Rattle.admit.proofs.Scanning.{begins, row_passes, head_refused, step_refused, ended}
use Rattle.admit.proofs.local.Admission.check_rows.Goals as goal

pub loop-i-init : goal.loop-i-init
loop-i-init c = begins (contents_of c.args.self.now.table) c.args.self.now.checked (meanings c.args.self.now.rows.now)

pub loop-i-preserved : goal.loop-i-preserved
loop-i-preserved c =
    let v = c.args.self.now in
    sym (row_passes (contents_of v.table) v.checked v.rows.now v.wide c.loop-i.i _ c.loop-i-test.true c.in_ok-check_head.ensures c.in_ok-check_step.ensures) ∙ c.loop-i.invariant

pub returns-in_err-check_head : goal.returns-in_err-check_head
returns-in_err-check_head c =
    let v = c.args.self.now in
    let r = err_from_is_err_and c.from_residual.result c.from_residual.ensures.1 in
    rw (r.1, r.2) (sym (head_refused (contents_of v.table) v.checked v.rows.now v.wide c.loop-i.i _ c.loop-i-test.true _ c.in_err-check_head.ensures) ∙ c.loop-i.invariant)

pub returns-in_err-check_step : goal.returns-in_err-check_step
returns-in_err-check_step c =
    let v = c.args.self.now in
    let r = err_from_is_err_and c.from_residual-in_err-check_step.result c.from_residual-in_err-check_step.ensures.1 in
    rw (r.1, r.2) (sym (step_refused (contents_of v.table) v.checked v.rows.now v.wide c.loop-i.i _ c.loop-i-test.true c.in_ok-check_head.ensures _ c.in_err-check_step.ensures) ∙ c.loop-i.invariant)

pub returns : goal.returns
returns c =
    let v = c.args.self.now in
    sym (ended (contents_of v.table) v.checked (meanings v.rows.now) c.loop-i.i (omega (arith, v.wide, c.loop-i-test.false))) ∙ c.loop-i.invariant
