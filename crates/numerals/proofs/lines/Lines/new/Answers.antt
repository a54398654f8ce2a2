use Rattle.std.proofs.Common.{arith}
use Rattle.numerals.proofs.Splits.{length-lines-le}
use Rattle.numerals.proofs.lines.Lines.new.Goals as goal

pub returns-clause-within : goal.returns-clause-within
returns-clause-within c = grind (arith, length-lines-le)
