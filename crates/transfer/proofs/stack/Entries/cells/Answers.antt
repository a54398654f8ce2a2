use Rattle.std.proofs.Common.{ap, ◌∙◌, arith}
use Rattle.std.specs.List.{sum_by}
use Rattle.pile.specs.Piles.{held, bottom_first}
use Rattle.pile.proofs.Stacks.{length_held, depth_in_room}
use Rattle.rows.specs.Entries.{cells_of_entry}
use Rattle.transfer.proofs.Stacking.{cells_sum, cells_few}
use Rattle.transfer.proofs.stack.Entries.cells.Goals as goal

pub cells_of-requires : goal.cells_of-requires
cells_of-requires c =
    let p = c.args.self.now.pile in
    let s = ap (λ es. sum_by cells_of_entry es) c.as_slice.ensures ∙ cells_sum (bottom_first p) in
    let f = cells_few (held p) in
    let l = length_held p in
    let d = depth_in_room p in
    omega (arith, s, c.args.self.now.forty)

pub returns-clause-cells : goal.returns-clause-cells
returns-clause-cells c = c.cells_of.ensures ∙ ap (λ es. sum_by cells_of_entry es) c.as_slice.ensures ∙ cells_sum (bottom_first c.args.self.now.pile)

pub returns-clause-few : goal.returns-clause-few
returns-clause-few c =
    let p = c.args.self.now.pile in
    let s = ap (λ es. sum_by cells_of_entry es) c.as_slice.ensures ∙ cells_sum (bottom_first p) in
    let f = cells_few (held p) in
    let l = length_held p in
    let d = depth_in_room p in
    omega (arith, s, c.cells_of.ensures, c.args.self.now.forty)
