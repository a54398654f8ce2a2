use Rattle.std.proofs.Common.{sym, ◌∙◌, subst, SFits}
use mir.Syntax.{w128}
use Rattle.arith.proofs.Ranges.{reach_fits, reach_is, reach_held}
use Rattle.arith.proofs.exact.indexed.Goals as goal

pub overflow_add-from : goal.overflow_add-from
overflow_add-from c =
    subst
    (SFits w128)
    (sym (reach_is _ _ _ _ _ _ c.ranges.a c.ranges.i c.ranges.q c.from.ensures c.from-2.ensures c.from-3.ensures))
    (reach_fits _ _ _ c.ranges.a c.ranges.i c.ranges.q)

pub returns : goal.returns
returns c =
    c.narrowed.ensures ∙ reach_held _ _ (reach_fits _ _ _ c.ranges.a c.ranges.i c.ranges.q) (reach_is _ _ _ _ _ _ c.ranges.a c.ranges.i c.ranges.q c.from.ensures c.from-2.ensures c.from-3.ensures)
