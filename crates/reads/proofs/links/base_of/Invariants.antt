use Rattle.std.proofs.Common.{◌≡◌, ◌-◌}
use Rattle.machine.specs.Leaves.{base}
use Rattle.reads.proofs.links.base_of.Given as goal

abbrev pub invariant-loop : goal.invariant-loop
invariant-loop g l = base (l.links - l.counter) l.x l.mp (g.S.Store.cells l.store) ≡ base l.links l.mp l.mp (g.S.Store.cells l.store)
