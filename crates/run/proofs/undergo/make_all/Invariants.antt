use Rattle.std.proofs.Common.{◌≡◌, ◌+◌, length}
use Rattle.rules.specs.Lookups.{contents_of}
use Rattle.machine.specs.States.{at}
use Rattle.run.proofs.Listing.{Walk}
use Rattle.run.proofs.undergo.make_all.Given as goal

abbrev pub invariant-loop-i : goal.invariant-loop-i
invariant-loop-i g l =
    Walk (contents_of l.initial.run.passed.table) l.calls (at l.initial.run.regs (g.S.Store.cells l.initial.store) (g.H.Host.means l.initial.host)) l.initial.answers
    l.i (at l.run.regs (g.S.Store.cells l.store) (g.H.Host.means l.host)) l.answers
    × (l.run.passed ≡ l.initial.run.passed)
    × (length (g.S.Store.cells l.store) ≡ l.run.regs.last + 1)
