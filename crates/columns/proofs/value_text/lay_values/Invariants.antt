use Rattle.std.proofs.Common.{◌+◌, ◌≤◌, map, length}
use Rattle.numerals.specs.Lines.{lines_left}
use Rattle.columns.specs.ValueLines.{read_value}
use Rattle.columns.specs.ValueText.{values_of}
use Rattle.columns.proofs.ValueLaying.{Laying}
use Rattle.columns.proofs.value_text.lay_values.Given as goal

abbrev pub invariant-loop-line : goal.invariant-loop-line
invariant-loop-line l =
    (goal.iterator-loop-line).can_next l.line-iterator
    × (goal.iterator-loop-line).is_finite l.line-iterator
    × Laying (map read_value (lines_left l.line-iterator)) (values_of l.text) l.initial.values l.count l.values
    × (l.count + length (lines_left l.line-iterator) ≤ length l.text)
