use Rattle.std.proofs.Common.{◌∙◌, SFits, rules}
use mir.Syntax.{w128}
use Rattle.arith.proofs.Ranges.{quotient_held}
use Rattle.arith.proofs.exact.ratio.Goals as goal

pub returns-clause-value : goal.returns-clause-value
returns-clause-value c =
    let fits : SFits w128 c.in-Some.z = search rules in
    c.narrowed.ensures ∙ quotient_held _ _ _ _ _ c.ranges.x c.ranges.y fits c.from.ensures c.from-2.ensures c.in-Some.ensures.value
