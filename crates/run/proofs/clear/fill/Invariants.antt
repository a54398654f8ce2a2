use Rattle.std.proofs.Common.{◌≡◌, ◌++◌, drop, replicate}
use Rattle.store.specs.Cells.{clean}
use Rattle.run.proofs.clear.fill.Given as goal

abbrev pub invariant-loop-i : goal.invariant-loop-i
invariant-loop-i g l = g.S.Store.cells l.store ≡ replicate l.i (clean l.cell) ++ drop l.i (g.S.Store.cells l.initial.store)
