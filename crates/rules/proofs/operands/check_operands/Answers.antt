use Rattle.rules.proofs.OperandLaws.{operands_are_checked}
use Rattle.rules.proofs.operands.check_operands.Goals as goal

pub returns-clause-law : goal.returns-clause-law
returns-clause-law c = operands_are_checked
