use Rattle.std.proofs.Common.{◌≡◌}
use Rattle.numerals.specs.Lines.{lines, lines_left}
use Rattle.pegs.specs.Parts.{value_text}
use Rattle.pegs.proofs.parts.value_text.Given as goal

abbrev pub invariant-loop-line : goal.invariant-loop-line
invariant-loop-line l = (lines l.rest ≡ lines_left l.lines) × (value_text l.rest ≡ value_text l.fn.input)
