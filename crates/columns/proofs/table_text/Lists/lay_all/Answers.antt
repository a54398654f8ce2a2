use Rattle.std.proofs.Common.{refl, arith}
use Rattle.columns.proofs.Laying.{laid_none, cells_fit}
use Rattle.columns.proofs.table_text.Lists.lay_all.Goals as goal

pub loop-line-init : goal.loop-line-init
loop-line-init c =
    (tt, tt, rw c.new-lines.ensures.lines (laid_none c.args.text.now c.args.self.now.procedures.now c.args.self.now.cells.now c.args.self.now.code.now c.requires), (omega arith, omega arith, omega arith), (refl, refl, refl))

pub lay-requires : goal.lay-requires
lay-requires c = grind (arith, cells_fit, c.loop-line.invariant.2.ordered, c.loop-line.invariant.2.few)
