-- The cells that each kind of store means. Cited by their makers and by their methods. Assumes nothing.
--   cells_of_records: those of a list of records
--   cells_of_packed: those of codes beside words
use Rattle.std.specs.Prelude.{List}
use Rattle.store.specs.declared.cell.Cell.{Cell}
use Rattle.store.specs.declared.packed.Packed.{Packed}
use Rattle.store.specs.declared.records.Records.{Records}
use Rattle.store.specs.Cells.{all_cells}
use Rattle.store.specs.Packing.{packed_cells}

abbrev pub cells_of_records : Records → List Cell
cells_of_records s = all_cells s.records.now

abbrev pub cells_of_packed : Packed → List Cell
cells_of_packed s = packed_cells s.codes.now s.words.now
