use Rattle.std.proofs.Common.{rules}
use Rattle.arith.proofs.Patterns.{bits_back}
use Rattle.arith.proofs.real.real_from_pattern.Goals as goal

pub returns-clause-back : goal.returns-clause-back
returns-clause-back c = λ x e. bits_back c.args.bits x c.ranges.bits.fits (search (rules, e))
