use Rattle.std.proofs.Common.{◌≡◌, length, ◌∙◌, rules}
use Rattle.rows.specs.Rows.{equal_records}
use Rattle.rows.proofs.Laws.{equal_records_are_one}
use Rattle.rows.proofs.row.RowPartialEq.eq.Goals as goal

pub returns-then-self-other-clause-law : goal.returns-then-self-other-clause-law
returns-then-self-other-clause-law c = equal_records_are_one

pub returns-then-self-other-clause-stacks : goal.returns-then-self-other-clause-stacks
returns-then-self-other-clause-stacks c v w =
    let a = c.args.self.now in
    let b = c.args.other.now in
    let e : c.eq.result ≡ equal_records a b = search rules in
    let m : length a.bytes ≡ 40 = search rules in
    let n : length b.bytes ≡ 40 = search rules in
    e ∙ (equal_records_are_one a b).stacks m n v w

pub returns-else-self-other-clause-law : goal.returns-else-self-other-clause-law
returns-else-self-other-clause-law c = equal_records_are_one
