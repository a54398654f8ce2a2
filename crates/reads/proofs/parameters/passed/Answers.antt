use Rattle.std.proofs.Common.{length, ⊎_elim, ap, ◌∙◌, arith}
use Rattle.std.proofs.lemmas.Result.{err_from_is_err_and}
use Rattle.reads.proofs.Walks.{passed_on, passed_off, passed_end}
use Rattle.reads.proofs.parameters.passed.Goals as goal

pub loop-kind-preserved : goal.loop-kind-preserved
loop-kind-preserved g c =
    let s = c.in-Some.ensures.steps in
    (passed_on _ _ _ _ _ _ _ _ s.0 s.1.0 s.1.1 c.in_ok-parameter_at.ensures ∙ c.loop-kind.invariant.0, omega (arith, s.1.0, s.1.1, ap length s.0, c.loop-kind.invariant.1))

pub returns-in_err-parameter_at : goal.returns-in_err-parameter_at
returns-in_err-parameter_at g c =
    let s = c.in-Some.ensures.steps in
    let p = err_from_is_err_and c.from_residual.result c.from_residual.ensures.1 in
    rw (p.1, p.2) (passed_off _ _ _ _ _ _ _ s.0 s.1.0 c.in_err-parameter_at.ensures ∙ c.loop-kind.invariant.0)

pub returns : goal.returns
returns g c = passed_end _ _ _ (⊎_elim (λ e. e.1.0) (λ e. omega (arith, e.1.0, c.loop-kind.invariant.1)) c.in-None.ensures.steps) ∙ c.loop-kind.invariant.0
