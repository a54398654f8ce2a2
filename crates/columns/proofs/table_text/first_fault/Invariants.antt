use Rattle.std.proofs.Common.{◌≡◌, ◌+◌, ◌≤◌, Bool, map, length}
use Rattle.std.specs.Iterator.Adapters.{enumerate_source, enumerate_count}
use Rattle.numerals.specs.Lines.{lines_left}
use Rattle.columns.specs.Scans.{Computes, first_failing}
use Rattle.columns.specs.TableLines.{read_line}
use Rattle.columns.specs.TableText.{Said, start, counted, lines_of}
use Rattle.columns.specs.declared.table_text.Counts.{Counts}
use Rattle.columns.proofs.Scanning.{Below}
use Rattle.columns.proofs.table_text.first_fault.Given as goal

abbrev pub invariant-loop-i : goal.invariant-loop-i
invariant-loop-i g l =
    (goal.iterator-loop-i g).can_next l.i-iterator
    × (goal.iterator-loop-i g).is_finite l.i-iterator
    × ((test : Counts → Said → Bool) → Computes (goal.F-post g l.passes) test
    → first_failing counted test l.counts (enumerate_count l.i-iterator + 1) (map read_line (lines_left (enumerate_source l.i-iterator))) ≡ first_failing counted test start 1 (lines_of l.text))
    × (enumerate_count l.i-iterator + length (lines_left (enumerate_source l.i-iterator)) ≤ length l.text)
    × Below l.counts (enumerate_count l.i-iterator + 1)
