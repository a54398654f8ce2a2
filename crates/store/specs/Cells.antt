-- Cells and lists of them: what a store means. Cited by the interface of stores and by the machine. Assumes nothing.
--   clean: a record that is no cell is a free one
--   all_cells: the cells that a list of records means
--   found: cell x of the list; past its end it is refused
--   put_answer, put: what a write of cell x answers and leaves
--   peek: cell x, a free one past the end
use Rattle.std.specs.Prelude.{ℕ, cond, List, map, length, Some, None, Ok, Err, Option, Result, nat_lt, slice_set}
use Rattle.std.specs.List.{slice_get}
use Rattle.sheet.specs.Kinds.{is_value}
use Rattle.store.specs.declared.cell.Cell.{Cell}
use Rattle.store.specs.declared.cell.Cell.TheVariants.{Free, Mark, Working, Data, Blank}
use Rattle.store.specs.declared.slot.PastTheEnd.{PastTheEnd}

abbrev pub clean : Cell → Cell
clean Free = Free
clean (Mark z) = Mark z
clean (Working x) = cond (is_value x) (Working x) Free
clean (Data x) = cond (is_value x) (Data x) Free
clean (Blank t) = Blank t

abbrev pub all_cells : List Cell → List Cell
all_cells cs = map clean cs

abbrev pub or_past : {A : Type 0} → Option A → Result A PastTheEnd
or_past None = Err (record {})
or_past (Some x) = Ok x

abbrev pub found : List Cell → ℕ → Result Cell PastTheEnd
found cs x = or_past (slice_get cs x)

abbrev pub put_answer : List Cell → ℕ → Result (Unit {0}) PastTheEnd
put_answer cs x = cond (nat_lt x (length cs)) (Ok tt) (Err (record {}))

abbrev pub put : List Cell → ℕ → Cell → List Cell
put cs x c = slice_set cs x (clean c)

abbrev pub or_free : Option Cell → Cell
or_free None = Free
or_free (Some c) = c

abbrev pub peek : List Cell → ℕ → Cell
peek cs x = or_free (slice_get cs x)
