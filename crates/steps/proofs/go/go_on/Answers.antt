use Rattle.std.proofs.Common.{Some, sym, refl, ap, ◌∙◌}
use Rattle.rules.specs.Lookups.{contents_of}
use Rattle.machine.specs.Machine.{state_of}
use Rattle.machine.specs.States.{State}
use Rattle.machine.specs.Steps.{step}
use Rattle.steps.proofs.Going.{made, ended_by, went, go_more, go_off, go_all, go_none}
use Rattle.steps.proofs.go.go_on.Goals as goal

pub loop-i-init : goal.loop-i-init
loop-i-init g c = record {
  value = go_none (contents_of c.args.table) c.args.n (state_of g.S.Store.cells c.args.machine.now (g.H.Host.means c.args.host.now));
  store = refl;
  long = refl;
  last = refl;
}

pub returns-in-Err : goal.returns-in-Err
returns-in-Err g c =
    let T = contents_of c.args.table in
    let s = state_of g.S.Store.cells c.loop-i.machine (g.H.Host.means c.loop-i.host) in
    let t = state_of g.S.Store.cells c.step.new.machine (g.H.Host.means c.step.new.host) in
    let d = ended_by c.in-Err.ending s t (step T s) c.in-Err.ensures.value.state in
    record {
      store = c.in-Err.ensures.value.store ∙ c.loop-i.invariant.store;
      value = ap (λ (x : State). went x c.loop-i.i (Some c.in-Err.ending)) d.1 ∙ (sym (go_off T c.args.n c.loop-i.i s c.in-Err.ending c.loop-i-test.true d.0) ∙ c.loop-i.invariant.value);
      long = c.in-Err.ensures.long ∙ c.loop-i.invariant.long;
      last = c.in-Err.ensures.last ∙ c.loop-i.invariant.last;
    }

pub loop-i-preserved : goal.loop-i-preserved
loop-i-preserved g c =
    let T = contents_of c.args.table in
    let s = state_of g.S.Store.cells c.loop-i.machine (g.H.Host.means c.loop-i.host) in
    let t = state_of g.S.Store.cells c.step.new.machine (g.H.Host.means c.step.new.host) in
    let d = made tt s t (step T s) c.in_default.ensures.value.state in
    record {
      value = sym (go_more T c.args.n c.loop-i.i s t c.loop-i-test.true d) ∙ c.loop-i.invariant.value;
      store = c.in_default.ensures.value.store ∙ c.loop-i.invariant.store;
      long = c.in_default.ensures.long ∙ c.loop-i.invariant.long;
      last = c.in_default.ensures.last ∙ c.loop-i.invariant.last;
    }

pub returns : goal.returns
returns g c = record {
  store = c.loop-i.invariant.store;
  value = sym (go_all (contents_of c.args.table) c.args.n c.loop-i.i (state_of g.S.Store.cells c.loop-i.machine (g.H.Host.means c.loop-i.host)) c.loop-i-test.false c.loop-i.auto.i-end) ∙ c.loop-i.invariant.value;
  long = c.loop-i.invariant.long;
  last = c.loop-i.invariant.last;
}
