use Rattle.std.proofs.Common.{◌≡◌, ◌≤◌, length, sym, ◌∙◌, arith, rules}
use Rattle.rows.proofs.Laws.{proper_part, blank_part, valid_last, invalid}
use Rattle.rows.proofs.row.Row.is_reached.Goals as goal

pub returns-then-all_proper : goal.returns-then-all_proper
returns-then-all_proper c =
    let r = c.args.self in
    let parts = c.in-Some.ensures.cases in
    let n : length r.bytes ≡ 40 = search rules in
    let l : r.len ≤ 40 = omega (arith, n, parts.0) in
    blank_part r c.in-Some.rest.now c.all_blank.result parts.2 c.all_blank.ensures
    ∙ sym (valid_last r l (sym (proper_part r c.in-Some.entries.now c.all_proper.result parts.1 c.all_proper.ensures) ∙ c.if-all_proper.true))

pub returns-else-all_proper : goal.returns-else-all_proper
returns-else-all_proper c =
    let r = c.args.self in
    let parts = c.in-Some.ensures.cases in
    c.if-all_proper.false
    ∙ sym (invalid r (sym (proper_part r c.in-Some.entries.now c.all_proper.result parts.1 c.all_proper.ensures) ∙ c.if-all_proper.false))
