-- Why a list of calls is refused whole. Cited by the fault's methods. Assumes nothing.
--   undergo_number, undergo_place: the number of a refusal, and the procedure or instruction that it names, 0 where none
use Rattle.std.specs.Prelude.{ℕ}
use Rattle.rules.specs.Faults as table
use Rattle.run.specs.declared.fault.UndergoFault.{UndergoFault}
use Rattle.run.specs.declared.fault.UndergoFault.TheVariants.{Table, TooFewAnswers, StoreLength}

abbrev pub undergo_number : UndergoFault → ℕ
undergo_number (Table f) = table.fault_number f
undergo_number TooFewAnswers = 13
undergo_number StoreLength = 34

abbrev pub undergo_place : UndergoFault → ℕ
undergo_place (Table f) = table.fault_place f
undergo_place TooFewAnswers = 0
undergo_place StoreLength = 0
