use Rattle.std.proofs.Common.{ℕ, List, IfOk, vec_items, ◌∙◌, subst}
use Rattle.lister.specs.Listings.{EndsIn}
use Rattle.lister.proofs.Rooms.{verdict_by_lines}
use Rattle.lister.proofs.text.listed.Goals as goal

pub returns : goal.returns
returns c =
    let e =
    verdict_by_lines c.args.text.now c.in_ok-body.verdict c.line_count-lines.result _ _
    c.deref_mut.result.now c.deref_mut-2.result.now c.deref_mut-3.result.now
    c.line_count-lines.ensures
    (c.deref_mut.ensures.len ∙ c.in_ok-procedures.ensures.len)
    (c.deref_mut-2.ensures.len ∙ c.in_ok-cells.ensures.len)
    (c.deref_mut-3.ensures.len ∙ c.in_ok-code.ensures.len)
    (c.deref_mut-4.ensures.len ∙ c.in_ok-rows.ensures.len)
    (c.deref_mut-5.ensures.len ∙ c.in_ok-places.ensures.len)
    c.in_ok-body.ensures
    in
    let P : List ℕ → Type 0 = λ v. IfOk c.ended.result (λ out. EndsIn v (vec_items out)) in
    subst P e c.ended.ensures
