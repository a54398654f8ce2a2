use Rattle.judge.proofs.Laws.{judge_accepts_exactly_clean_tables}
use Rattle.judge.proofs.call.judge.Goals as goal

pub returns-in_err-check_rules-clause-accepts : goal.returns-in_err-check_rules-clause-accepts
returns-in_err-check_rules-clause-accepts c = judge_accepts_exactly_clean_tables

pub returns-clause-accepts : goal.returns-clause-accepts
returns-clause-accepts c = judge_accepts_exactly_clean_tables
