-- What a write does to a store, read back. Cited by the maker of a store of records. Assumes nothing.
--   AWriteReplacesOneCell: slot x then reads as the cell written, a free one where the record is no cell; every other
--     slot reads as before; and the store is as long as before
use Rattle.std.specs.Prelude.{◌≡◌, ℕ, ◌<◌, List, length, Ok, ◌≢◌}
use Rattle.store.specs.declared.cell.Cell.{Cell}
use Rattle.store.specs.Cells.{clean, found, put}

abbrev pub AWriteReplacesOneCell : Type 0
AWriteReplacesOneCell = (cs : List Cell) (x : ℕ) (c : Cell)
    → (x < length cs → found (put cs x c) x ≡ Ok (clean c))
    × ((y : ℕ) → (y ≢ x) → found (put cs x c) y ≡ found cs y)
    × (length (put cs x c) ≡ length cs)
