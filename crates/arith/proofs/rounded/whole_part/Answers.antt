use Rattle.std.proofs.Common.{rules}
use Rattle.arith.proofs.Truncating.{capped}
use Rattle.arith.proofs.rounded.whole_part.Goals as goal

pub returns : goal.returns
returns c = search (rules, capped)
