use Rattle.std.proofs.Common.{◌≡◌, ◌+◌, drop}
use Rattle.machine.specs.Frames.{clear}
use Rattle.frames.proofs.entry.clear.Given as goal

abbrev pub invariant-loop-kind : goal.invariant-loop-kind
invariant-loop-kind g l =
    (clear (drop l.kind-index l.kinds) l.place (g.S.Store.cells l.store) ≡ clear l.kinds l.initial.place (g.S.Store.cells l.initial.store))
    × (l.place ≡ l.initial.place + l.kind-index)
