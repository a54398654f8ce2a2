use Rattle.std.proofs.Common.{◌≡◌, Result, Ok, refl}
use Rattle.std.proofs.lemmas.Result.{err_from_is_err_and}
use Rattle.rules.specs.Lookups.{contents_of}
use Rattle.machine.specs.declared.ending.Ending.{Ending}
use Rattle.machine.specs.Endings.{stopping}
use Rattle.machine.specs.Frames.{return_plain}
use Rattle.machine.specs.Leaves.{load, store}
use Rattle.machine.specs.Machine.{CarriesOutWith}
use Rattle.machine.specs.Steps.{two, one, ldc, dpl, lod, str, lda, ind, sto, ujp, fjp, inp, out, mst, cup, ent, retf, perform}
use Rattle.steps.proofs.Outcomes.{carried_out, carried_out_with, stopped, went_on}
use Rattle.steps.proofs.perform.perform.Given as given
use Rattle.steps.proofs.perform.perform.Goals as goal
use Rattle.steps.proofs.perform.perform.Goals.{After-branch-done, in-Two, in-One, in-Ldc, in-Dpl, in-Ldo, in-Sro, in-Lod, in-Str, in-Lda, in-Ind, in-Sto, in-Ujp, in-Fjp, in-In, in-Out, in-Mst, in-Cup, in-Ent, in-Retf, in-Retp}

-- whichever operation it is, and whatever it answers
each : (g : given.Over) (c : After-branch-done g) (r : Result (Unit {0}) Ending) → r ≡ stopping c.match-operation.done
    → CarriesOutWith g.S.Store.cells r c.args.machine.now (g.H.Host.means c.args.host.now) c.match-operation.machine (g.H.Host.means c.match-operation.host) (perform (contents_of c.args.table) c.args.n c.args.operation)
each g c r e =
    let T = contents_of c.args.table in
    elim c.match-operation.branch [
      | in-Two w ↦ carried_out g.S.Store.cells T c.args.n g.H.Host.means w.in-Two.is c.next_place-next.ensures (two w.in-Two.op) (λ _. refl) e w.done-is w.machine-is w.host-is w.two-done.ensures
      | in-One w ↦ carried_out g.S.Store.cells T c.args.n g.H.Host.means w.in-One.is c.next_place-next.ensures (one w.in-One.op) (λ _. refl) e w.done-is w.machine-is w.host-is w.one-done.ensures
      | in-Ldc w ↦ carried_out g.S.Store.cells T c.args.n g.H.Host.means w.in-Ldc.is c.next_place-next.ensures (ldc w.in-Ldc.x) (λ _. refl) e w.done-is w.machine-is w.host-is w.ldc-done.ensures
      | in-Dpl w ↦ carried_out g.S.Store.cells T c.args.n g.H.Host.means w.in-Dpl.is c.next_place-next.ensures (dpl w.in-Dpl.t) (λ _. refl) e w.done-is w.machine-is w.host-is w.dpl-done.ensures
      | in-Ldo w ↦ carried_out g.S.Store.cells T c.args.n g.H.Host.means w.in-Ldo.is c.next_place-next.ensures (λ p. load p w.in-Ldo.t w.in-Ldo.q) (λ _. refl) e w.done-is w.machine-is w.host-is w.ldo-done.ensures
      | in-Sro w ↦ carried_out g.S.Store.cells T c.args.n g.H.Host.means w.in-Sro.is c.next_place-next.ensures (λ p. store p w.in-Sro.t w.in-Sro.q) (λ _. refl) e w.done-is w.machine-is w.host-is w.sro-done.ensures
      | in-Lod w ↦ carried_out g.S.Store.cells T c.args.n g.H.Host.means w.in-Lod.is c.next_place-next.ensures (lod w.in-Lod.t w.in-Lod.p w.in-Lod.q) (λ _. refl) e w.done-is w.machine-is w.host-is w.lod-done.ensures
      | in-Str w ↦ carried_out g.S.Store.cells T c.args.n g.H.Host.means w.in-Str.is c.next_place-next.ensures (str w.in-Str.t w.in-Str.p w.in-Str.q) (λ _. refl) e w.done-is w.machine-is w.host-is w.str-done.ensures
      | in-Lda w ↦ carried_out g.S.Store.cells T c.args.n g.H.Host.means w.in-Lda.is c.next_place-next.ensures (lda w.in-Lda.p w.in-Lda.q) (λ _. refl) e w.done-is w.machine-is w.host-is w.lda-done.ensures
      | in-Ind w ↦ carried_out g.S.Store.cells T c.args.n g.H.Host.means w.in-Ind.is c.next_place-next.ensures (ind w.in-Ind.t) (λ _. refl) e w.done-is w.machine-is w.host-is w.ind-done.ensures
      | in-Sto w ↦ carried_out g.S.Store.cells T c.args.n g.H.Host.means w.in-Sto.is c.next_place-next.ensures (sto w.in-Sto.t) (λ _. refl) e w.done-is w.machine-is w.host-is w.sto-done.ensures
      | in-Ujp w ↦ carried_out g.S.Store.cells T c.args.n g.H.Host.means w.in-Ujp.is c.next_place-next.ensures (λ _. ujp w.in-Ujp.q) (λ _. refl) e w.done-is w.machine-is w.host-is w.ujp-done.ensures
      | in-Fjp w ↦ carried_out g.S.Store.cells T c.args.n g.H.Host.means w.in-Fjp.is c.next_place-next.ensures (fjp w.in-Fjp.q) (λ _. refl) e w.done-is w.machine-is w.host-is w.fjp-done.ensures
      | in-In w ↦ carried_out_with g.S.Store.cells T c.args.n g.H.Host.means w.in-In.is c.next_place-next.ensures (inp w.in-In.t) (λ _. refl) e w.done-is w.machine-is w.host-is w.input-done.ensures
      | in-Out w ↦ carried_out_with g.S.Store.cells T c.args.n g.H.Host.means w.in-Out.is c.next_place-next.ensures (out w.in-Out.t) (λ _. refl) e w.done-is w.machine-is w.host-is w.output-done.ensures
      | in-Mst w ↦ carried_out g.S.Store.cells T c.args.n g.H.Host.means w.in-Mst.is c.next_place-next.ensures (mst w.in-Mst.p) (λ _. refl) e w.done-is w.machine-is w.host-is w.mst-done.ensures
      | in-Cup w ↦ carried_out g.S.Store.cells T c.args.n g.H.Host.means w.in-Cup.is c.next_place-next.ensures (cup T w.in-Cup.p w.in-Cup.q) (λ _. refl) e w.done-is w.machine-is w.host-is w.cup-done.ensures
      | in-Ent w ↦ carried_out g.S.Store.cells T c.args.n g.H.Host.means w.in-Ent.is c.next_place-next.ensures (ent T c.args.n w.in-Ent.p w.in-Ent.q) (λ _. refl) e w.done-is w.machine-is w.host-is w.ent-done.ensures
      | in-Retf w ↦ carried_out g.S.Store.cells T c.args.n g.H.Host.means w.in-Retf.is c.next_place-next.ensures (λ _. retf T c.args.n) (λ _. refl) e w.done-is w.machine-is w.host-is w.retf-done.ensures
      | in-Retp w ↦ carried_out g.S.Store.cells T c.args.n g.H.Host.means w.in-Retp.is c.next_place-next.ensures (λ _. return_plain) (λ _. refl) e w.done-is w.machine-is w.host-is w.retp-done.ensures
    ]

pub returns-in_err-done : goal.returns-in_err-done
returns-in_err-done g c =
    let p = err_from_is_err_and c.from_residual.result c.from_residual.ensures.1 in
    each g c.before.before c.from_residual.result (stopped p.1 p.2 c.in_err-done.was)

pub returns : goal.returns
returns g c = each g c.before (Ok tt) (went_on c.in_ok-done.was)
