-- What a count stays below.
use Rattle.std.proofs.Common.{ℕ, ◌<◌}
use Rattle.columns.specs.declared.table_text.Counts.{Counts}

-- each count is below n
abbrev pub Below : Counts → ℕ → Type 0
Below c n = (c.total.procedures < n) × (c.total.cells < n) × (c.total.code < n) × (c.own < n)
