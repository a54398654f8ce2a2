use Rattle.columns.proofs.Causes.{refused_for_cause}
use Rattle.columns.proofs.table_text.read_table.Goals as goal

pub returns-in_err-check-clause-cause : goal.returns-in_err-check-clause-cause
returns-in_err-check-clause-cause c = refused_for_cause

pub returns-clause-cause : goal.returns-clause-cause
returns-clause-cause c = refused_for_cause
