-- The verdict on a table's text. Cited by what tries one. Assumes nothing.
--   number_of: 0 where the text was read, else the number of the refusal
--   place_of: the count of instructions, or the line refused
use Rattle.std.specs.Prelude.{ℕ, Ok, Err, Result}
use Rattle.columns.specs.declared.fault.TextFault.{TextFault}
use Rattle.columns.specs.declared.table_text.Extent.{Extent}
use Rattle.columns.specs.Faults.{fault_number, fault_line}

abbrev pub number_of : Result Extent TextFault → ℕ
number_of (Ok extent) = 0
number_of (Err fault) = fault_number fault

abbrev pub place_of : Result Extent TextFault → ℕ
place_of (Ok extent) = extent.code
place_of (Err fault) = fault_line fault
