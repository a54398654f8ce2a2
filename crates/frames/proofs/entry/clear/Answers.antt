use Rattle.std.proofs.Common.{sym, ◌∙◌, arith}
use Rattle.frames.proofs.Walks.{clear_on, clear_end}
use Rattle.frames.proofs.entry.clear.Goals as goal

pub loop-kind-preserved : goal.loop-kind-preserved
loop-kind-preserved g c = (sym (clear_on _ _ _ _ _ _ c.loop-kind-test.true c.put_at.ensures) ∙ c.loop-kind.invariant.0, omega arith)

pub returns : goal.returns
returns g c = clear_end _ _ _ _ c.loop-kind-test.false ∙ c.loop-kind.invariant.0
