-- How high an entry is, by its byte. Cited by the function that adds them up. Assumes nothing.
use Rattle.std.specs.Prelude.{ℕ}
use Rattle.rows.specs.Entries.{entry_of, cells_of_entry}

abbrev pub cells_at : ℕ → ℕ
cells_at b = cells_of_entry (entry_of b)
