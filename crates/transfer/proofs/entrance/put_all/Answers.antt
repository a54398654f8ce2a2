use Rattle.std.proofs.Common.{◌≡◌, map, reverse, take, sym, ap, ◌∙◌, arith}
use Rattle.std.proofs.lemmas.List.{take_all, reverse-reverse}
use Rattle.pile.specs.Piles.{bottom_first}
use Rattle.rows.specs.declared.entry.Entry.TheVariants.{Value}
use Rattle.transfer.proofs.entrance.put_all.Goals as goal

pub returns : goal.returns
returns c =
    let kinds = c.args.kinds.now in
    let whole : take c.loop-kind.kind-index kinds ≡ kinds = take_all c.loop-kind.kind-index kinds (omega arith) in
    sym (reverse-reverse (bottom_first c.loop-kind.stack)) ∙ ap reverse (c.loop-kind.invariant.held ∙ ap (λ ks. reverse (map Value ks)) whole)
    ∙ reverse-reverse (map Value kinds)
