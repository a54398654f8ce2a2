-- How one line changes the three lists while a table's text is laid into them. Cited by the loop that does so.
-- Assumes nothing.
use Rattle.std.specs.Prelude.{◌≡◌, ℕ, List, Ok, Err, slice_set}
use Rattle.sheet.specs.declared.kind.Kind.{Kind}
use Rattle.sheet.specs.declared.procedure.Procedure.{Procedure}
use Rattle.sheet.specs.declared.instruction.Instruction.{Instruction}
use Rattle.columns.specs.declared.line.Line.TheVariants as line
use Rattle.columns.specs.declared.table_text.Counts.{Counts}
use Rattle.columns.specs.declared.table_text.Lists.{Lists}
use Rattle.columns.specs.TableText.{Said, record_of}

-- n cell lines follow
abbrev pub with_procedure : Said → Counts → ℕ → List Procedure → List Procedure
with_procedure (Ok (line.Procedure h)) c n ps = slice_set ps c.total.procedures (record_of h c.total.cells n)
with_procedure (Ok (line.Cell t)) c n ps = ps
with_procedure (Ok (line.Code m i)) c n ps = ps
with_procedure (Err e) c n ps = ps

abbrev pub with_cell : Said → Counts → List Kind → List Kind
with_cell (Ok (line.Procedure h)) c ts = ts
with_cell (Ok (line.Cell t)) c ts = slice_set ts c.total.cells t
with_cell (Ok (line.Code m i)) c ts = ts
with_cell (Err e) c ts = ts

abbrev pub with_code : Said → Counts → List Instruction → List Instruction
with_code (Ok (line.Procedure h)) c is = is
with_code (Ok (line.Cell t)) c is = is
with_code (Ok (line.Code m i)) c is = slice_set is c.total.code i
with_code (Err e) c is = is

-- each of the three is still the list that was lent, whatever it holds now
abbrev pub SameLists : Lists → Lists → Type 0
SameLists before after =
    (after.procedures.ghost_name ≡ before.procedures.ghost_name) × (after.cells.ghost_name ≡ before.cells.ghost_name) × (after.code.ghost_name ≡ before.code.ghost_name)
