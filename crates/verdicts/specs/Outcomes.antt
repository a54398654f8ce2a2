-- The verdict on a table as two numbers, and what judge leaves of what it is lent. Cited by what tries tables and rows. Assumes
-- nothing.
--   number_of: the number of the refusal, or 0 where there is none
--   place_of: the count of instructions that have rows, or the procedure or instruction refused
--   rows_left: of so many empty rows lent, how many of those for the instructions are rows afterwards, and how many more
--     were lent, each as it was
--   places_left: of so many places that hold 7, how many of those for the instructions are 0 afterwards, and likewise
--   rows_before: so many rows, unreached before judge, as it leaves them
use Rattle.std.specs.Prelude.{ℕ, ◌-◌, [], length, take, replicate, count_by, nat_eq, max, Some, None, Ok, Err, Option, Result}
use Rattle.sheet.specs.Tables.{Contents}
use Rattle.rules.specs.declared.fault.TableFault.{TableFault}
use Rattle.rules.specs.Faults.{fault_number, fault_place}
use Rattle.paths.specs.Rows.{Rows, count}
use Rattle.transfer.specs.Stacks.{Stack}
use Rattle.judge.specs.Judgement.{left_in_rows, left_in_places}
use Rattle.verdicts.specs.declared.outcome.Left.{Left}

abbrev pub number_of : Option TableFault → ℕ
number_of None = 0
number_of (Some fault) = fault_number fault

abbrev pub place_of : Result ℕ TableFault → ℕ
place_of (Ok count) = count
place_of (Err fault) = fault_place fault

abbrev pub rows_left : Contents → (rows places : ℕ) → Left
rows_left T r w = record { own = count (take (length T.code) (left_in_rows T w (replicate r (Some [])))); rest = r - length T.code }

abbrev pub places_left : Contents → (rows places : ℕ) → Left
places_left T r w = record { own = count_by (λ p. nat_eq p 0) (take (length T.code) (left_in_places T r (replicate w 7))); rest = w - length T.code }

abbrev pub rows_before : Contents → (rows : ℕ) → Rows Stack
rows_before T r = take r (left_in_rows T (length T.code) (replicate (max r (length T.code)) None))
