use Rattle.std.proofs.Common.{◌≡◌, ◌-◌, length}
use Rattle.rules.specs.Lookups.{contents_of}
use Rattle.machine.specs.Machine.{state_of}
use Rattle.machine.specs.Runs.{go, go_on}
use Rattle.steps.proofs.go.go_on.Given as goal

abbrev pub invariant-loop-i : goal.invariant-loop-i
invariant-loop-i g l = record {
  value : go_on (contents_of l.table) (l.n - l.i) l.i (state_of g.S.Store.cells l.machine (g.H.Host.means l.host))
      ≡ go (contents_of l.table) l.n (state_of g.S.Store.cells l.initial.machine (g.H.Host.means l.initial.host));
  store : l.machine.store.ghost_name ≡ l.initial.machine.store.ghost_name;
  long : length (g.S.Store.cells l.machine.store.now) ≡ length (g.S.Store.cells l.initial.machine.store.now);
  last : l.machine.regs.last ≡ l.initial.machine.regs.last;
}
