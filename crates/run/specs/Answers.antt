-- What the calls on a run answer, and their numbers. Cited by the types of answers and by the promise. Assumes nothing.
--   finish_of, finish_number: how a go came to its end, and its number: 0 where all steps are done, 1 at hlt
--   fault_number: the number of a look that finds no cell
--   number_of: the number of an answer, 0 where a cell or the registers are answered
--   count_of: the steps that a call made, by its answer
--   tally: the total of the counts answered
use Rattle.std.specs.Prelude.{ℕ, ◌+◌, List, [], ◌∷◌, Some, None, Ok, Err, Option}
use Rattle.machine.specs.declared.ending.Ending.{Ending}
use Rattle.machine.specs.Endings.{ending_number}
use Rattle.run.specs.declared.answer.Answer.{Answer}
use Rattle.run.specs.declared.answer.Answer.TheVariants as a
use Rattle.run.specs.declared.answer.Finish.{Finish}
use Rattle.run.specs.declared.answer.Finish.TheVariants as f
use Rattle.run.specs.declared.answer.LookFault.{LookFault}
use Rattle.run.specs.declared.answer.LookFault.TheVariants as l

abbrev pub finish_of : Option Ending → Finish
finish_of None = f.Spent
finish_of (Some e) = f.Ended e

abbrev pub finish_number : Finish → ℕ
finish_number f.Spent = 0
finish_number (f.Ended e) = ending_number e
finish_number f.OtherStore = 34

abbrev pub fault_number : LookFault → ℕ
fault_number l.OtherStore = 34
fault_number l.NotReached = 35

abbrev pub number_of : Answer → ℕ
number_of (a.Went w) = finish_number w.finish
number_of (a.Looked (Ok c)) = 0
number_of (a.Looked (Err e)) = fault_number e
number_of (a.Registers r) = 0

abbrev pub count_of : Answer → ℕ
count_of (a.Went w) = w.count
count_of (a.Looked r) = 0
count_of (a.Registers r) = 0

abbrev pub tally : List Answer → ℕ
tally [] = 0
tally (x ∷ xs) = count_of x + tally xs
