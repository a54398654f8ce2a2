use Rattle.std.proofs.Common.{arith, ap, sym, ◌∙◌}
use Rattle.std.proofs.lemmas.Int.{ints}
use Rattle.arith.specs.Operations.{unary_result}
use Rattle.arith.proofs.Steps.{decrement_increment}
use Rattle.arith.proofs.operation.unary.Goals as goal

pub returns-in-Decrement-clause-value : goal.returns-in-Decrement-clause-value
returns-in-Decrement-clause-value c =
    c.stepped-in-Decrement.ensures
    ∙ decrement_increment c.in-Decrement.ordinal c.in-Decrement.q _ c.args.x (omega (arith, ints))
    ∙ ap (λ op. unary_result op c.args.x) (sym c.in-Decrement.is)
