-- Why nothing is set out. Cited by the refusal's methods. Assumes nothing.
--   refusal_number, refusal_place: its number and its place; lines are counted through the whole input
--   Countable: the line is one that a word of 64 bits holds
use Rattle.std.specs.Prelude.{ℕ, ◌+◌, ◌^◌, ◌<◌}
use Rattle.columns.specs.Faults.{fault_number, fault_line}
use Rattle.rules.specs.Faults as table
use Rattle.pegs.specs.declared.fault.Refusal.{Refusal}
use Rattle.pegs.specs.declared.fault.Refusal.TheVariants.{TooLong, Text, Values, Table, StoreLength}

abbrev pub refusal_number : Refusal → ℕ
refusal_number (TooLong line) = 13
refusal_number (Text f) = fault_number f
refusal_number (Values before f) = fault_number f
refusal_number (Table f) = table.fault_number f
refusal_number StoreLength = 34

abbrev pub refusal_place : Refusal → ℕ
refusal_place (TooLong line) = line
refusal_place (Text f) = fault_line f
refusal_place (Values before f) = before + fault_line f
refusal_place (Table f) = table.fault_place f
refusal_place StoreLength = 0

abbrev pub Countable : Refusal → Type 0
Countable (TooLong line) = Unit {0}
Countable (Text f) = Unit {0}
Countable (Values before f) = before + fault_line f < 2 ^ 64
Countable (Table f) = Unit {0}
Countable StoreLength = Unit {0}
