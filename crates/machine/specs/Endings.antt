-- What ends a run of steps. Cited by the steps, by go and by the promises on both. Assumes nothing.
--   ending_number: 1 at hlt, else the number of the cause
--   ending_of: the number that a call answers, 0 where nothing ended it
--   stopping: the answer of an instruction as that of a step
use Rattle.std.specs.Prelude.{ℕ, Some, None, Ok, Err, Option, Result}
use Rattle.sheet.specs.Stops.{stop_number}
use Rattle.arith.specs.Answers.{Answer}
use Rattle.machine.specs.declared.ending.Ending.{Ending}
use Rattle.machine.specs.declared.ending.Ending.TheVariants.{Halted, Stopped}

abbrev pub ending_number : Ending → ℕ
ending_number Halted = 1
ending_number (Stopped w) = stop_number w

abbrev pub ending_of : Option Ending → ℕ
ending_of None = 0
ending_of (Some e) = ending_number e

abbrev pub stopping : {A : Type 0} → Answer A → Result A Ending
stopping (Ok x) = Ok x
stopping (Err w) = Err (Stopped w)
