use Rattle.std.proofs.Common.{Ok, sym, ap, ◌∙◌, arith}
use Rattle.pile.specs.Piles.{held, bottom_first}
use Rattle.pile.proofs.Stacks.{length_held}
use Rattle.transfer.specs.Stacks.{more}
use Rattle.transfer.specs.Transfer.{handed}
use Rattle.transfer.proofs.Stacking.{none_there, some_there}
use Rattle.transfer.proofs.Fitting.{entries_in_cells, length_more, more_proper, packs, packed_is}
use Rattle.transfer.proofs.transfer.leave.Goals as goal

pub returns-in_err-give-clause-value : goal.returns-in_err-give-clause-value
returns-in_err-give-clause-value c cells fit pr n =
    let g = c.args.effect.gives in
    let s = held c.args.stack.now.pile in
    absurd (c.in_err-give.ensures fit (omega (arith, cells, entries_in_cells (more g s), length_more g s, length_held c.args.stack.now.pile, c.args.stack.now.forty)))

pub returns-in_err-row-clause-value : goal.returns-in_err-row-clause-value
returns-in_err-row-clause-value c cells fit pr n =
    let g = c.args.effect.gives in
    let s = held c.args.stack.now.pile in
    absurd (packs (bottom_first c.give.new.self.pile) (more g s) c.in_ok-give.ensures (omega (arith, cells, entries_in_cells (more g s))) (more_proper g s fit pr)
    (sym c.pack.ensures ∙ none_there c.pack.result _ _ (sym c.ok_or.ensures.value ∙ c.in_err-row.was)))

pub returns-clause-value : goal.returns-clause-value
returns-clause-value c cells fit pr n =
    let q = packed_is (bottom_first c.give.new.self.pile) c.in_ok-row.row (sym c.pack.ensures ∙ some_there c.pack.result _ _ (sym c.ok_or.ensures.value ∙ c.in_ok-row.was)) in
    ap (λ x. Ok (handed c.args.effect.way n x)) (q.1 ∙ c.in_ok-give.ensures)

pub invariant_of-result : goal.invariant_of-result
invariant_of-result c =
    record { reached = (packed_is (bottom_first c.give.new.self.pile) c.in_ok-row.row (sym c.pack.ensures ∙ some_there c.pack.result _ _ (sym c.ok_or.ensures.value ∙ c.in_ok-row.was))).0 }
