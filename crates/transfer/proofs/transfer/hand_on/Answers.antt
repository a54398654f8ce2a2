use Rattle.std.proofs.Common.{◌≡◌, Some, sym, ap, ◌∙◌, arith}
use Rattle.std.proofs.lemmas.Bool.{leb-true}
use Rattle.pile.specs.Piles.{held}
use Rattle.rules.specs.Lookups.{contents_of, owner, room_at}
use Rattle.transfer.specs.Stacks.{cells_on, less, more}
use Rattle.transfer.specs.Transfer.{stack_of}
use Rattle.transfer.proofs.Fitting.{row_proper, less_proper, passes}
use Rattle.transfer.proofs.transfer.hand_on.Goals as goal

pub returns-clause-value : goal.returns-clause-value
returns-clause-value c small fit =
    let T = contents_of c.args.table in
    let n = c.args.n in
    let e = c.args.effect in
    let s = held c.take.new.self.pile in
    let took : less T (owner T n) e.takes (stack_of c.args.row) ≡ Some s
    = ap (λ o. less T o e.takes (stack_of c.args.row)) (sym c.owner.ensures) ∙ ap (λ x. less T c.owner.result e.takes x) (sym c.load.ensures) ∙ c.in_ok-take.ensures in
    let fits = sym c.fits.ensures ∙ c.if-not-fits.false in
    c.leave.ensures.value (let l = leb-true (cells_on (more e.gives s)) (room_at T n) fits in omega arith) fit
    (less_proper T (owner T n) e.takes (stack_of c.args.row) s took (row_proper c.args.row c.requires.row)) n
    ∙ passes T n e.gives e.way s _ took fits (sym c.stays.ensures ∙ c.if-not-stays.false)
