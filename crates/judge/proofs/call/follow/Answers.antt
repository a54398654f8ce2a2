use Rattle.std.proofs.Common.{◌≡◌, ℕ, length, drop, ap, ◌∙◌, subst, rules}
use Rattle.std.proofs.lemmas.List.{length-replicate}
use Rattle.rules.specs.Lookups.{contents_of}
use Rattle.pile.specs.Piles.{places_of, held}
use Rattle.paths.specs.Judging.{judge}
use Rattle.rows.specs.Rows.{no_row}
use Rattle.judge.specs.Flow.{stacks}
use Rattle.judge.specs.Handing.{meanings, ComesTo}
use Rattle.judge.proofs.Calling.{comes_to}
use Rattle.judge.proofs.call.follow.Goals as goal

pub returns-clause-after : goal.returns-clause-after
returns-clause-after c =
    let v = c.enter_all.new.self in
    let a : ComesTo c.enter_all.result (judge (stacks (contents_of c.args.table))) (meanings v.rows.now)
    = comes_to (contents_of c.args.table) c.args.rows.now c.requires.blank c.enter_all.result (meanings v.rows.now) (held v.work.now) c.enter_all.ensures.after in
    search rules

pub returns-clause-rest : goal.returns-clause-rest
returns-clause-rest c =
    let n = length c.args.table.code.now in
    let v = c.enter_all.new.self in
    let k = c.enter_all.ensures.kept in
    let w : length c.args.rows.now ≡ n = ap length c.requires.blank ∙ length-replicate n no_row in
    let l : length v.rows.now ≡ n = v.wide ∙ ap (λ t. length t.code.now) k.table in
    let d : drop n (places_of v.work.now) ≡ drop n c.args.places.now
    = subst (λ (m : ℕ). drop m (places_of v.work.now) ≡ drop n c.args.places.now) l (k.rest ∙ ap (λ m. drop m (places_of c.over-work.result)) w ∙ ap (drop n) c.over-work.ensures.places) in
    search rules
