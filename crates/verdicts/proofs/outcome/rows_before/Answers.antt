use Rattle.std.proofs.Common.{◌≡◌, length, take, max, replicate, sym, ap, ◌∙◌, rules}
use Rattle.std.proofs.lemmas.List.{take_at, take-map}
use Rattle.rules.specs.Lookups.{contents_of}
use Rattle.rows.specs.Rows.{meaning, no_row}
use Rattle.judge.specs.Handing.{meanings}
use Rattle.judge.specs.Judgement.{left_in_rows}
use Rattle.verdicts.proofs.outcome.rows_before.Goals as goal
use Rattle.verdicts.proofs.Leaving.{unreached_rows}

pub returns : goal.returns
returns c =
    let T = contents_of c.args.table in
    let n = length T.code in
    let k = max c.args.rows n in
    let old = c.deref_mut.result.now in
    let after = c.judge.new.rows in
    let e : old ≡ replicate k no_row = search rules in
    let w : length c.deref_mut-2.result.now ≡ n = search rules in
    let l : length after ≡ c.in_ok-lent.lent.len = search rules in
    ap meanings (c.truncate.ensures.items ∙ ap (take c.args.rows) (take_at after _ c.in_ok-lent.lent.len l))
    ∙ sym (take-map meaning c.args.rows after)
    ∙ ap (take c.args.rows)
    (c.judge.ensures.rows ∙ ap (λ m. left_in_rows T m (meanings old)) w ∙ ap (λ rs. left_in_rows T n (meanings rs)) e
    ∙ ap (left_in_rows T n) (unreached_rows k))
