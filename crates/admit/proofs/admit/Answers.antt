use Rattle.std.proofs.Common.{◌≡◌, Ok, rules}
use Rattle.judge.proofs.Admission.{admit_accepts_exactly_local_rows, judge_leaves_rows_that_admit_accepts}
use Rattle.admit.specs.Admissions.{admission}
use Rattle.admit.proofs.Laws.{right, passes_exactly_right_rows}
use Rattle.admit.proofs.admit.Goals as goal

pub returns-in_err-check_rules-clause-passes : goal.returns-in_err-check_rules-clause-passes
returns-in_err-check_rules-clause-passes c = passes_exactly_right_rows

pub returns-in_err-check_rules-clause-exact : goal.returns-in_err-check_rules-clause-exact
returns-in_err-check_rules-clause-exact c = admit_accepts_exactly_local_rows

pub returns-in_err-check_rules-clause-judged : goal.returns-in_err-check_rules-clause-judged
returns-in_err-check_rules-clause-judged c = judge_leaves_rows_that_admit_accepts

pub returns-in_err-check_rows-clause-passes : goal.returns-in_err-check_rows-clause-passes
returns-in_err-check_rows-clause-passes c = passes_exactly_right_rows

pub returns-in_err-check_rows-clause-exact : goal.returns-in_err-check_rows-clause-exact
returns-in_err-check_rows-clause-exact c = admit_accepts_exactly_local_rows

pub returns-in_err-check_rows-clause-judged : goal.returns-in_err-check_rows-clause-judged
returns-in_err-check_rows-clause-judged c = judge_leaves_rows_that_admit_accepts

pub returns : goal.returns
returns c =
    let v : Ok (record { table = c.args.table; rows = c.args.rows }) ≡ admission c.args.table c.args.rows = search rules in
    record {
      value = v;
      right = right c.args.table c.args.rows (Ok (record { table = c.args.table; rows = c.args.rows })) v;
      passes = passes_exactly_right_rows;
      exact = admit_accepts_exactly_local_rows;
      judged = judge_leaves_rows_that_admit_accepts;
    }
