use Rattle.std.proofs.Common.{sym, ap, Ok, arith}
use Rattle.run.specs.declared.answer.Went.{Went}
use Rattle.pegs.specs.SetOuts.{store_cells}
use Rattle.pegs.proofs.Running.{answer_is, host_is}
use Rattle.pegs.proofs.judged.run_over.Goals as goal

pub returns-clause-value : goal.returns-clause-value
returns-clause-value g c =
    ap (λ (w : Went). Ok w)
    (answer_is store_cells (omega arith) (omega arith) c.args.passed (g.S.Store.cells c.args.store.now) (g.S.Store.cells c.begin.new.store) (g.H.Host.means c.args.host.now) c.in_ok-run.run' _ c.args.steps
    c.requires (sym c.in_ok-run.ensures.value) c.in_ok-run.ensures.after c.go.ensures.value)

pub returns-clause-after : goal.returns-clause-after
returns-clause-after g c =
    host_is store_cells (omega arith) (omega arith) c.args.passed (g.S.Store.cells c.args.store.now) (g.S.Store.cells c.begin.new.store) (g.H.Host.means c.args.host.now) c.in_ok-run.run' _ c.args.steps
    c.requires (sym c.in_ok-run.ensures.value) c.in_ok-run.ensures.after c.go.ensures.value
