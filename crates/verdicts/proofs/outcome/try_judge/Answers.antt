use Rattle.std.proofs.Common.{◌≡◌, length, take, drop, replicate, count_by, nat_eq, ap, ◌∙◌, subst, rules}
use Rattle.std.proofs.lemmas.List.{take_at}
use Rattle.rules.specs.Lookups.{contents_of}
use Rattle.paths.specs.Judging.{judge}
use Rattle.rows.specs.Rows.{is_row, equal_records, empty_row}
use Rattle.judge.specs.Flow.{stacks}
use Rattle.judge.specs.Handing.{meanings}
use Rattle.judge.specs.Judgement.{checked, followed, left_in_rows, left_in_places, RecordsLeft}
use Rattle.verdicts.proofs.outcome.try_judge.Goals as goal
use Rattle.verdicts.proofs.Leaving.{rows_shown, places_shown}

pub returns-clause-rows : goal.returns-clause-rows
returns-clause-rows c =
    let T = contents_of c.args.table in
    let old = c.deref_mut.result.now in
    let places = c.deref_mut-2.result.now in
    let after = c.judge-answer.new.rows in
    let o = checked T (length old) (length places) in
    let v = followed (judge (stacks T)) in
    let e : old ≡ replicate c.args.rows empty_row = search rules in
    let w : length places ≡ c.args.places = search rules in
    let l : length after ≡ c.in_ok-lent.lent.len = search rules in
    let d : c.deref.result.now ≡ after = c.deref.ensures.value ∙ take_at after _ c.in_ok-lent.lent.len l in
    rows_shown T c.args.rows c.args.places after c.rows_left.result o v
    (c.judge-answer.ensures.rows ∙ ap (λ k. left_in_rows T k (meanings old)) w ∙ ap (λ rs. left_in_rows T c.args.places (meanings rs)) e)
    (subst (λ rs. RecordsLeft o v (length T.code) rs after) e c.judge-answer.ensures.records)
    (c.rows_left.ensures.own ∙ ap (λ rs. count_by is_row (take (length T.code) rs)) d)
    (c.rows_left.ensures.rest ∙ ap (λ rs. count_by (λ row. equal_records row empty_row) (drop (length T.code) rs)) d)

pub returns-clause-places : goal.returns-clause-places
returns-clause-places c =
    let T = contents_of c.args.table in
    let old = c.deref_mut-2.result.now in
    let rows = c.deref_mut.result.now in
    let after = c.judge-answer.new.places in
    let e : old ≡ replicate c.args.places 7 = search rules in
    let r : length rows ≡ c.args.rows = search rules in
    let l : length after ≡ c.in_ok-work.work.len = search rules in
    let d : c.deref-2.result.now ≡ after = c.deref-2.ensures.value ∙ take_at after _ c.in_ok-work.work.len l in
    places_shown T c.args.rows c.args.places after c.places_left.result
    (c.judge-answer.ensures.places ∙ ap (λ k. left_in_places T k old) r ∙ ap (left_in_places T c.args.rows) e)
    (c.places_left.ensures.own ∙ ap (λ ps. count_by (λ place. nat_eq place 0) (take (length T.code) ps)) d)
    (c.places_left.ensures.rest ∙ ap (λ ps. count_by (λ place. nat_eq place 7) (drop (length T.code) ps)) d)
