-- What judge answers. Cited by its contract and by the laws on it; ruled by admit too. Assumes nothing.
--   ruled: what is refused where there is room for so many instructions, in the order 20, 26, 21
--   places_fault: rows or a work list of fewer places than there are instructions
--   checked: the refusals before any path is followed, in the order 20, 26, 21
--   judged: the rows that the paths leave, or the refusal
--   answered: how many instructions have rows, or the refusal
--   left_in_rows, left_in_places: what the lent rows mean afterwards, and what the lent places hold: a refusal before any
--     path is followed leaves both as they were; else the rows are those of the paths, or unreached where it is refused,
--     the places are 0, one of each for every instruction, and the rest is as it was
--   RecordsLeft: what this leaves of the records before
use Rattle.std.specs.Prelude.{◌≡◌, ℕ, cond, ◌&&◌, List, ◌++◌, length, drop, replicate, Some, None, Ok, Err, Option, Result, nat_le}
use Rattle.std.specs.Option.{option_or}
use Rattle.sheet.specs.Tables.{Contents}
use Rattle.rules.specs.declared.fault.TableFault.{TableFault}
use Rattle.rules.specs.declared.fault.TableFault.TheVariants.{TooFewPlaces}
use Rattle.rules.specs.Operands.{operand_fault}
use Rattle.rules.specs.Procedures.{table_fault}
use Rattle.paths.specs.Judging.{Progress, going, refused, judge}
use Rattle.paths.specs.Rows.{Rows, count}
use Rattle.rows.specs.declared.row.Row.{Row}
use Rattle.rows.specs.Rows.{no_row}
use Rattle.transfer.specs.Stacks.{Stack}
use Rattle.judge.specs.declared.flaw.Flaw.{Flaw}
use Rattle.judge.specs.Admission.{rows_fault}
use Rattle.judge.specs.Flaws.{flaw_at}
use Rattle.judge.specs.Flow.{stacks}

abbrev pub ruled : Contents → (room : ℕ) → Option TableFault
ruled T n = option_or (table_fault T) (option_or (rows_fault T n) (operand_fault T))

abbrev pub places_fault : Contents → (rows work : ℕ) → Option TableFault
places_fault T r w = cond (nat_le (length T.code) r && nat_le (length T.code) w) None (Some TooFewPlaces)

abbrev pub checked : Contents → (rows work : ℕ) → Option TableFault
checked T r w = option_or (table_fault T) (option_or (places_fault T r w) (operand_fault T))

abbrev pub followed : Progress Stack Flaw → Result (Rows Stack) TableFault
followed (going rows work) = Ok rows
followed (refused f n) = Err (flaw_at f n)

abbrev pub judged_after : Option TableFault → Contents → Result (Rows Stack) TableFault
judged_after (Some f) T = Err f
judged_after None T = followed (judge (stacks T))

abbrev pub judged : Contents → (rows work : ℕ) → Result (Rows Stack) TableFault
judged T r w = judged_after (checked T r w) T

abbrev pub answered : Result (Rows Stack) TableFault → Result ℕ TableFault
answered (Ok rows) = Ok (count rows)
answered (Err f) = Err f

-- the rows that an answer leaves, n in all
abbrev pub followed_rows : (n : ℕ) → Result (Rows Stack) TableFault → Rows Stack
followed_rows n (Ok rows) = rows
followed_rows n (Err f) = replicate n None

abbrev pub rows_after : Option TableFault → Contents → Rows Stack → Rows Stack
rows_after (Some f) T rows = rows
rows_after None T rows = followed_rows (length T.code) (followed (judge (stacks T))) ++ drop (length T.code) rows

abbrev pub left_in_rows : Contents → (work : ℕ) → Rows Stack → Rows Stack
left_in_rows T w rows = rows_after (checked T (length rows) w) T rows

abbrev pub places_after : Option TableFault → Contents → List ℕ → List ℕ
places_after (Some f) T places = places
places_after None T places = replicate (length T.code) 0 ++ drop (length T.code) places

abbrev pub left_in_places : Contents → (rows : ℕ) → List ℕ → List ℕ
left_in_places T r places = places_after (checked T r (length places)) T places

-- the records themselves: n unreached ones where a path is refused, and the rest as it was
abbrev pub RecordsLeft : Option TableFault → Result (Rows Stack) TableFault → ℕ → (before after : List Row) → Type 0
RecordsLeft (Some f) v n before after = after ≡ before
RecordsLeft None (Ok rows) n before after = drop n after ≡ drop n before
RecordsLeft None (Err f) n before after = after ≡ replicate n no_row ++ drop n before
