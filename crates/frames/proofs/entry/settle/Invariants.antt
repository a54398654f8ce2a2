use Rattle.std.proofs.Common.{◌≡◌, ◌-◌, ◌≤◌, drop}
use Rattle.machine.specs.Frames.{settle}
use Rattle.frames.proofs.entry.settle.Given as goal

abbrev pub invariant-loop-place : goal.invariant-loop-place
invariant-loop-place g l = (settle (drop (l.place - l.x) l.kinds) l.place (g.S.Store.cells l.store) ≡ settle l.kinds l.x (g.S.Store.cells l.initial.store)) × (l.x ≤ l.place)
