use Rattle.std.proofs.Common.{map, length}
use Rattle.numerals.specs.Lines.{lines_left}
use Rattle.columns.specs.Laying.{SameLists}
use Rattle.columns.specs.TableLines.{read_line}
use Rattle.columns.specs.TableText.{lines_of}
use Rattle.columns.proofs.Laying.{Laying, Short}
use Rattle.columns.proofs.table_text.Lists.lay_all.Given as goal

abbrev pub invariant-loop-line : goal.invariant-loop-line
invariant-loop-line l =
    (goal.iterator-loop-line).can_next l.lines
    × (goal.iterator-loop-line).is_finite l.lines
    × Laying (map read_line (lines_left l.lines)) (lines_of l.text) l.initial.self.procedures.now l.initial.self.cells.now l.initial.self.code.now l.counts l.self.procedures.now l.self.cells.now l.self.code.now
    × Short l.counts (length (lines_left l.lines)) (length l.text)
    × SameLists l.initial.self l.self
