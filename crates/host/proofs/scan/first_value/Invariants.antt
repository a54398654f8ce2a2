use Rattle.std.proofs.Common.{◌≡◌, map}
use Rattle.numerals.specs.Lines.{lines_left}
use Rattle.columns.specs.ValueLines.{read_value}
use Rattle.columns.specs.ValueText.{good_values}
use Rattle.host.specs.Texts.{values_in}
use Rattle.host.proofs.scan.first_value.Given as goal

abbrev pub invariant-loop-line : goal.invariant-loop-line
invariant-loop-line l =
    (goal.iterator-loop-line).can_next l.lines
    × (goal.iterator-loop-line).is_finite l.lines
    × (values_in l.text ≡ good_values (map read_value (lines_left l.lines)))
