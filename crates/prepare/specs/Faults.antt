-- The number, the place and the words of what refuses a text that is to be prepared. Cited by the fault's methods.
-- Assumes nothing.
use Rattle.std.specs.Prelude.{ℕ, List}
use Rattle.columns.specs.Faults as text
use Rattle.columns.specs.Faults.{fault_number, fault_line}
use Rattle.rules.specs.Faults as table
use Rattle.prepare.specs.declared.fault.PrepareFault.{PrepareFault}
use Rattle.prepare.specs.declared.fault.PrepareFault.TheVariants.{Text, Table}

abbrev pub number_of : PrepareFault → ℕ
number_of (Text f) = fault_number f
number_of (Table f) = table.fault_number f

abbrev pub place_of : PrepareFault → ℕ
place_of (Text f) = fault_line f
place_of (Table f) = table.fault_place f

abbrev pub cause_of : PrepareFault → List ℕ
cause_of (Text f) = text.cause_of f
cause_of (Table f) = table.cause_of f
