use Rattle.std.proofs.Common.{◌≡◌, length, Some, sym, refl, ap, ◌∙◌}
use Rattle.std.specs.List.{slice_get}
use Rattle.std.proofs.lemmas.Option.{slice_get_read}
use Rattle.std.proofs.lemmas.Bool.{ltb-true}
use Rattle.rules.specs.declared.effects.Effect.{Effect}
use Rattle.rules.specs.Lookups.{contents_of}
use Rattle.transfer.specs.Stacks.{fitting}
use Rattle.transfer.specs.Transfer.{stack_of}
use Rattle.transfer.proofs.Fitting.{goes_by}
use Rattle.transfer.proofs.Checking.{rooms, fits_the_stack}
use Rattle.transfer.proofs.transfer.transfer.Goals as goal

pub returns-in_default-way-clause-value : goal.returns-in_default-way-clause-value
returns-in_default-way-clause-value c ok v =
    let T = contents_of c.args.table in
    let n = c.args.n in
    let x = c.in-Some.x.now in
    let q = c.in-Some.ensures.lookup in
    let there : slice_get T.code n ≡ Some x = slice_get_read T.code (length T.code) n x refl (ltb-true n (length T.code) (sym q.0)) q.1 in
    c.hand_on.ensures.value (rooms T ok n) (ap (λ (e : Effect). fitting e.gives) c.effect_of-effect.ensures.value ∙ fits_the_stack T ok n x there)
    ∙ goes_by T n c.effect_of-effect.result x (stack_of c.args.row) c.effect_of-effect.ensures.value there c.in_default-way.not-Halt
