use Rattle.std.proofs.Common.{sym, ◌∙◌}
use Rattle.std.proofs.lemmas.Result.{err_from_is_err_and}
use Rattle.reads.proofs.Walks.{base_on, base_off, base_end}
use Rattle.reads.proofs.links.base_of.Goals as goal

pub returns-in_err-x : goal.returns-in_err-x
returns-in_err-x g c =
    let p = err_from_is_err_and c.from_residual.result c.from_residual.ensures.1 in
    rw (p.1, p.2) (base_off _ _ _ _ _ _ c.loop-test.true c.in_err-x.ensures ∙ c.loop.invariant)

pub loop-preserved : goal.loop-preserved
loop-preserved g c = sym (base_on _ _ _ _ _ _ c.loop-test.true c.in_ok-x.ensures) ∙ c.loop.invariant

pub returns : goal.returns
returns g c = base_end _ _ _ _ _ c.loop-test.false ∙ c.loop.invariant
