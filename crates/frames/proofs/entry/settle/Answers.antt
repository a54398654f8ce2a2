use Rattle.std.proofs.Common.{sym, ap, ◌∙◌, arith}
use Rattle.store.specs.declared.cell.Cell.{Cell}
use Rattle.store.specs.Cells.{put}
use Rattle.machine.specs.Frames.{settled}
use Rattle.frames.proofs.Walks.{settle_on, settle_begin, settle_end}
use Rattle.frames.proofs.entry.settle.Goals as goal

pub loop-place-init : goal.loop-place-init
loop-place-init g c = (settle_begin _ _ _, omega arith)

pub loop-place-preserved : goal.loop-place-preserved
loop-place-preserved g c =
    let i = c.loop-place.invariant in
    (sym (settle_on _ _ _ _ _ i.1 c.loop-place-test.true (c.put_at.ensures ∙ ap (λ (y : Cell). put (g.S.Store.cells c.loop-place.store) c.loop-place.place y) (c.settled-cell.ensures ∙ ap settled c.cell_at.ensures))) ∙ i.0, omega (arith, i.1))

pub returns : goal.returns
returns g c = settle_end _ _ _ _ c.loop-place-test.false ∙ c.loop-place.invariant.0
