-- A table's text, read and then judged: what is answered, and what is left in the lists. Cited by prepare.
-- Assumes nothing.
--   contents_in: the table that the front of each list holds
--   prepared: how much was read and how many instructions have rows; or the fault of the part that refused, whole
--   rows_left, places_left, RecordsKept: what judging the table that was read leaves in the rows and the places; a text
--     that is refused leaves both as they were
use Rattle.std.specs.Prelude.{◌≡◌, ℕ, List, length, take, Ok, Err, Result}
use Rattle.sheet.specs.declared.instruction.Instruction.{Instruction}
use Rattle.sheet.specs.declared.kind.Kind.{Kind}
use Rattle.sheet.specs.declared.procedure.Procedure.{Procedure}
use Rattle.sheet.specs.Tables.{Contents}
use Rattle.columns.specs.declared.fault.TextFault.{TextFault}
use Rattle.columns.specs.declared.table_text.Extent.{Extent}
use Rattle.columns.specs.TableText.{extent_of}
use Rattle.rules.specs.declared.fault.TableFault.{TableFault}
use Rattle.paths.specs.Judging.{judge}
use Rattle.paths.specs.Rows.{Rows}
use Rattle.rows.specs.declared.row.Row.{Row}
use Rattle.transfer.specs.Stacks.{Stack}
use Rattle.judge.specs.Flow.{stacks}
use Rattle.judge.specs.Judgement.{checked, followed, judged, answered, left_in_rows, left_in_places, RecordsLeft}
use Rattle.prepare.specs.declared.fault.PrepareFault.{PrepareFault}
use Rattle.prepare.specs.declared.fault.PrepareFault.TheVariants.{Text, Table}
use Rattle.prepare.specs.declared.prepare.Prepared.{Prepared}

abbrev pub contents_in : Extent → List Procedure → List Kind → List Instruction → Contents
contents_in e ps ts is = record { procedures = take e.procedures ps; cells = take e.cells ts; code = take e.code is }

abbrev pub ready : Extent → Result ℕ TableFault → Result Prepared PrepareFault
ready e (Ok k) = Ok (record { extent = e; reached = k })
ready e (Err f) = Err (Table f)

abbrev pub prepared : Result Contents TextFault → (rows places : ℕ) → Result Prepared PrepareFault
prepared (Ok T) r w = ready (extent_of T) (answered (judged T r w))
prepared (Err f) r w = Err (Text f)

abbrev pub rows_left : Result Contents TextFault → (places : ℕ) → Rows Stack → Rows Stack
rows_left (Ok T) w rows = left_in_rows T w rows
rows_left (Err f) w rows = rows

abbrev pub places_left : Result Contents TextFault → (rows : ℕ) → List ℕ → List ℕ
places_left (Ok T) r places = left_in_places T r places
places_left (Err f) r places = places

abbrev pub RecordsKept : Result Contents TextFault → (places : ℕ) → (before after : List Row) → Type 0
RecordsKept (Ok T) w before after = RecordsLeft (checked T (length before) w) (followed (judge (stacks T))) (length T.code) before after
RecordsKept (Err f) w before after = after ≡ before
