-- What it is that an open frame holds its row and its declaration, in places and cells. Cited by the promise on runs.
-- Assumes nothing.
--   Rows: the row of each instruction, if it has one
--   operation_at: the operation of instruction n
--   Form: what a cell is: free, a mark, a working cell or a data cell of a kind; a record that is no cell is free
--   Lies: the cells from place x up have these forms
--   entry_forms, row_forms, result_form, body_forms: the forms of an entry, of a row, of the cell for a result, and of what follows
--     the marks
--   frame_forms: the forms of a frame, from its place up: a data cell of the result's kind, or a mark if it has no result or is
--     before its ent; four marks; before its ent working cells of the parameters' kinds, after it its data cells and the row
--   Open: the open frames, each by its place, the instruction that it is at, its last cell, and whether it waits:
--     the one at MP is at PC and ends at SP; below a frame lies its caller, at the place that the mark at offset 2 says,
--     which waits at the cup before the number in the mark at offset 4, and ends just below it
--   HasRow: the row of instruction n, or, of a caller that waits, the row of its cup without mark and parameters
--   forms_at: the forms of the frame that instruction n runs in
--   Linked: a frame is at place 0, or its marks lead to a caller lower down
--   Holds: a frame holds its row and its declaration, and is at place 0 or has marks that lead to a caller lower down
--   AllHold: there is a frame at PC, and every open frame holds
--   OpenFramesLeadToPlace0: where all hold, one is open at MP, and from each the callers lead down to place 0
use Rattle.std.specs.Prelude.{◌≡◌, ℕ, ◌+◌, ◌-◌, ◌<◌, Bool, true, false, cond, not, ◌⊎◌, List, [], ◌∷◌, ◌++◌, map, length, pos, Some, None, Option, ◌==◌, ◌≢◌}
use Rattle.std.specs.List.{slice_get}
use Rattle.sheet.specs.declared.kind.Kind.{Kind}
use Rattle.sheet.specs.declared.procedure.Procedure.{Procedure}
use Rattle.sheet.specs.Kinds.{kind_of, is_value}
use Rattle.sheet.specs.Tables.{Contents}
use Rattle.rules.specs.declared.effects.Takes.TheVariants.{Call}
use Rattle.rules.specs.Lookups.{procedure_at, owner}
use Rattle.rows.specs.declared.entry.Entry.{Entry}
use Rattle.rows.specs.declared.entry.Entry.TheVariants as entry
use Rattle.transfer.specs.Stacks.{Stack, less}
use Rattle.store.specs.declared.cell.Cell.{Cell}
use Rattle.store.specs.declared.cell.Cell.TheVariants.{Free, Mark, Working, Data, Blank}
use Rattle.store.specs.Cells.{peek}
use Rattle.machine.specs.declared.operation.Operation.{Operation}
use Rattle.machine.specs.declared.operation.Operation.TheVariants.{Cup}
use Rattle.machine.specs.Frames.{data_kinds, parameter_kinds}
use Rattle.machine.specs.States.{State, height, mp, code_at}
use Rattle.machine.specs.Steps.{decoded}

abbrev pub Rows : Type 0
Rows = ℕ → Option Stack

abbrev pub operation_at : Contents → ℕ → Option Operation
operation_at T n = decoded (slice_get T.code n)

pub data Form : Type 0 where
  a_free a_mark : Form
  a_working a_data : Kind → Form

abbrev pub form : Cell → Form
form Free = a_free
form (Mark z) = a_mark
form (Working x) = cond (is_value x) (a_working (kind_of x)) a_free
form (Data x) = cond (is_value x) (a_data (kind_of x)) a_free
form (Blank t) = a_data t

abbrev pub Lies : State → ℕ → List Form → Type 0
Lies s x [] = Unit {0}
Lies s x (f ∷ fs) = (form (peek s.cells x) ≡ f) × Lies s (x + 1) fs

-- a working cell for a value, five marks for a mark
abbrev pub entry_forms : Entry → List Form
entry_forms (entry.Value t) = a_working t ∷ []
entry_forms (entry.Mark j) = a_mark ∷ a_mark ∷ a_mark ∷ a_mark ∷ a_mark ∷ []

-- a row has its top first
abbrev pub row_forms : Stack → List Form
row_forms [] = []
row_forms (x ∷ row) = row_forms row ++ entry_forms x

abbrev pub result_form : (entered : Bool) → Option Kind → Form
result_form true None = a_mark
result_form true (Some t) = a_data t
result_form false r = a_mark

-- after its ent the data cells and the row, before it the parameters
abbrev pub body_forms : Contents → (entered : Bool) → Procedure → Stack → List Form
body_forms T true P row = map a_data (data_kinds T P) ++ row_forms row
body_forms T false P row = map a_working (parameter_kinds T P)

abbrev pub frame_forms : Contents → (entered : Bool) → Procedure → Stack → List Form
frame_forms T entered P row = result_form entered P.result ∷ a_mark ∷ a_mark ∷ a_mark ∷ a_mark ∷ body_forms T entered P row

pub data Open (s : State) : (place at last : ℕ) → (waits : Bool) → Type 0 where
  top : {n : ℕ} → s.regs.pc ≡ code_at n → Open s (mp s) n (height s - 1) false
  caller : {m n e : ℕ} {w : Bool} → Open s m n e w → (m ≢ 0) → {m' n' : ℕ} → peek s.cells (m + 2) ≡ Mark (pos m')
      → peek s.cells (m + 4) ≡ Mark (pos (n' + 1)) → Open s m' n' (m - 1) true

abbrev pub HasRow : Contents → Rows → ℕ → (waits : Bool) → Stack → Type 0
HasRow T rows n false row = rows n ≡ Some row
HasRow T rows n true row = (p m : ℕ) × (full : Stack) × (operation_at T n ≡ Some (Cup p (code_at m))) × (rows n ≡ Some full)
    × (less T (owner T n) (Call (procedure_at T (owner T m))) full ≡ Some row)

-- a frame is past its ent where it is not at its procedure's first instruction
abbrev pub forms_at : Contents → ℕ → Stack → List Form
forms_at T n row = frame_forms T (not (n == (procedure_at T (owner T n)).first)) (procedure_at T (owner T n)) row

abbrev pub Linked : State → ℕ → Type 0
Linked s m = (m ≡ 0) ⊎ ((m' n' : ℕ) × (m' < m) × (peek s.cells (m + 2) ≡ Mark (pos m')) × (peek s.cells (m + 4) ≡ Mark (pos (n' + 1))))

pub record Holds (T : Contents) (rows : Rows) (s : State) (place at last : ℕ) (waits : Bool) : Type 0 where
  pub row : Stack
  pub row_is : HasRow T rows at waits row
  pub cells : Lies s place (forms_at T at row)
  pub ends : last + 1 ≡ place + length (forms_at T at row)
  pub linked : Linked s place

pub record AllHold (T : Contents) (rows : Rows) (s : State) : Type 0 where
  pub running : (n : ℕ) × (s.regs.pc ≡ code_at n)
  pub frames : (place at last : ℕ) (waits : Bool) → Open s place at last waits → Holds T rows s place at last waits

abbrev pub OpenFramesLeadToPlace0 : Type 0
OpenFramesLeadToPlace0 = (T : Contents) (rows : Rows) (s : State) → AllHold T rows s
    → ((n : ℕ) × Open s (mp s) n (height s - 1) false)
    × ((place at last : ℕ) (waits : Bool) → Open s place at last waits → (n e : ℕ) × (w : Bool) × Open s 0 n e w)
