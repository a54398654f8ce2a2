use Rattle.std.proofs.Common.{◌≡◌, ◌++◌, length, take, drop, replicate, Ok, sym, ap, ◌∙◌, rules}
use Rattle.std.proofs.lemmas.List.{take_at, drop_at}
use Rattle.paths.specs.Rows.{count}
use Rattle.rows.specs.Rows.{no_row}
use Rattle.judge.specs.Handing.{meanings}
use Rattle.judge.specs.Judgement.{followed, answered, followed_rows}
use Rattle.judge.proofs.Calling.{counted, blank_means, again}
use Rattle.judge.proofs.call.judge_checked.Goals as goal

pub returns-in-Ok-clause-value : goal.returns-in-Ok-clause-value
returns-in-Ok-clause-value c =
    let n = length c.args.table.code.now in
    let fs = c.follow-verdict.new.rows in
    let l : length fs ≡ n = search rules in
    let after = drop n (c.fill.new.self ++ drop n c.args.rows.now) in
    ap Ok (c.reached.ensures ∙ counted (take n (fs ++ after)) ∙ ap (λ rs. count (meanings rs)) (take_at fs after n l)) ∙ ap (λ q. answered (followed q)) (sym c.in-Ok.ensures.after.1)

pub returns-in-Ok-clause-rows : goal.returns-in-Ok-clause-rows
returns-in-Ok-clause-rows c =
    let n = length c.args.table.code.now in
    let l : length c.fill.new.self ≡ n = search rules in
    again c.follow-verdict.new.rows c.fill.new.self c.args.rows.now n l ∙ ap (λ q. followed_rows n (followed q) ++ drop n (meanings c.args.rows.now)) (sym c.in-Ok.ensures.after.1)

pub returns-in-Err-clause-rows : goal.returns-in-Err-clause-rows
returns-in-Err-clause-rows c =
    let n = length c.args.table.code.now in
    let us = c.fill-in-Err.new.self in
    let u : us ≡ replicate n no_row = search rules in
    let l : length c.fill.new.self ≡ n = search rules in
    let m : length c.follow-verdict.new.rows ≡ n = search rules in
    ap (λ r. meanings (us ++ r)) (drop_at c.follow-verdict.new.rows _ n m) ∙ again us c.fill.new.self c.args.rows.now n l
    ∙ ap (λ rows. rows ++ drop n (meanings c.args.rows.now)) (ap meanings u ∙ blank_means n)
    ∙ ap (λ q. followed_rows n (followed q) ++ drop n (meanings c.args.rows.now)) (sym c.in-Err.ensures.after.2)
