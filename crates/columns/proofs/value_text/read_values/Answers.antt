use Rattle.columns.proofs.ValueCauses.{values_refused_for_cause}
use Rattle.columns.proofs.Values.{written_values_read_back}
use Rattle.columns.proofs.value_text.read_values.Goals as goal

pub returns-in_err-check-clause-cause : goal.returns-in_err-check-clause-cause
returns-in_err-check-clause-cause c = values_refused_for_cause

pub returns-in_err-check-clause-written : goal.returns-in_err-check-clause-written
returns-in_err-check-clause-written c = written_values_read_back

pub returns-clause-cause : goal.returns-clause-cause
returns-clause-cause c = values_refused_for_cause

pub returns-clause-written : goal.returns-clause-written
returns-clause-written c = written_values_read_back
