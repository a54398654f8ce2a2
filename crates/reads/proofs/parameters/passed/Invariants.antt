use Rattle.std.proofs.Common.{◌≡◌, ◌+◌, ◌^◌, ◌<◌, length}
use Rattle.rules.specs.Lookups.{contents_of}
use Rattle.machine.specs.Frames.{passed, parameter_kinds}
use Rattle.reads.proofs.parameters.passed.Given as goal

abbrev pub invariant-loop-kind : goal.invariant-loop-kind
invariant-loop-kind g l =
    (passed l.kind-iterator.a.rest.now l.kind-iterator.b.start (g.S.Store.cells l.store) ≡ passed (parameter_kinds (contents_of l.table) l.fn.procedure) (l.m + 5) (g.S.Store.cells l.store))
    × (l.kind-iterator.b.start + length l.kind-iterator.a.rest.now < 2 ^ 32)
