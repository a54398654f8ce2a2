-- The text of a table. Cited by the reader of tables and by the laws on it. Assumes nothing.
--   Said, lines_of: what each line of a text says by itself
--   start, counted: what is counted before the first line, and with a line more: the records of each list, and the cells of
--     the last procedure
--   in_order, has_room: a line is in order, and its record has a place in the lists
--   Scan, passes: the scans, in the order of the refusals 11, 12, 13, and the test of each
--   record_of, own_cells: the record of a procedure, and how many cell lines follow its own
--   procedures_of, cells_of, code_of, contents: the three lists that the lines make
--   first_fault, verdict: the first line that fails a scan, and the first under the lowest number
--   read_by, read_table: that, or the three lists
--   room_of, extent_of: the room that three lists give, and what a table takes of it
--   answered, left: what the call answers, and what it leaves in a list; one for each of the three
use Rattle.std.specs.Prelude.{ℕ, ◌+◌, Bool, true, false, ◌&&◌, List, [], ◌∷◌, map, length, Ok, Err, Option, Result, ◌==◌, nat_lt}
use Rattle.numerals.specs.Lines.{lines}
use Rattle.sheet.specs.declared.kind.Kind.{Kind}
use Rattle.sheet.specs.declared.procedure.Procedure.{Procedure}
use Rattle.sheet.specs.declared.instruction.Instruction.{Instruction}
use Rattle.sheet.specs.Tables.{Contents}
use Rattle.columns.specs.declared.fault.LineFault.{LineFault}
use Rattle.columns.specs.declared.fault.TextFault.{TextFault}
use Rattle.columns.specs.declared.fault.TextFault.TheVariants.{Malformed, Misplaced, TooLong}
use Rattle.columns.specs.declared.line.Heading.{Heading}
use Rattle.columns.specs.declared.line.Line.{Line}
use Rattle.columns.specs.declared.line.Line.TheVariants as line
use Rattle.columns.specs.declared.table_text.Extent.{Extent}
use Rattle.columns.specs.declared.table_text.Counts.{Counts}
use Rattle.columns.specs.Faults.{refuse, well_formed}
use Rattle.columns.specs.Scans.{first_failing, laid}
use Rattle.columns.specs.TableLines.{read_line}

abbrev pub Said : Type 0
Said = Result Line LineFault

abbrev pub lines_of : List ℕ → List Said
lines_of text = map read_line (lines text)

-- ---- counting
abbrev counts : (procedures cells code own : ℕ) → Counts
counts p c i o = record { total = record { procedures = p; cells = c; code = i }; own = o }

abbrev pub start : Counts
start = counts 0 0 0 0

abbrev pub counted : Counts → Said → Counts
counted c (Ok (line.Procedure h)) = counts (c.total.procedures + 1) c.total.cells c.total.code 0
counted c (Ok (line.Cell t)) = counts c.total.procedures (c.total.cells + 1) c.total.code (c.own + 1)
counted c (Ok (line.Code n i)) = counts c.total.procedures c.total.cells (c.total.code + 1) c.own
counted c (Err e) = c

-- ---- the tests
-- a text is gone over once for each refusal, in the order of their numbers
pub data Scan : Type 0 where
  Form : Scan
  Order : Scan
  Room : Extent → Scan

-- a procedure or an instruction has the next number; procedures and their cells come before all instructions,
-- a cell after its procedure, of which there are at most 250
abbrev pub in_order : Counts → Said → Bool
in_order c (Ok (line.Procedure h)) = c.total.code == 0 && h.number == c.total.procedures
in_order c (Ok (line.Cell t)) = c.total.code == 0 && (nat_lt 0 c.total.procedures && nat_lt c.own 250)
in_order c (Ok (line.Code n i)) = n == c.total.code
in_order c (Err e) = false

abbrev pub has_room : Extent → Counts → Said → Bool
has_room room c (Ok (line.Procedure h)) = nat_lt c.total.procedures room.procedures
has_room room c (Ok (line.Cell t)) = nat_lt c.total.cells room.cells
has_room room c (Ok (line.Code n i)) = nat_lt c.total.code room.code
has_room room c (Err e) = true

abbrev pub passes : Scan → Counts → Said → Bool
passes Form c x = well_formed x
passes Order c x = in_order c x
passes (Room room) c x = has_room room c x

-- ---- the lists
-- how many cell lines come first
abbrev pub own_cells : List Said → ℕ
own_cells [] = 0
own_cells (Ok (line.Procedure h) ∷ xs) = 0
own_cells (Ok (line.Cell t) ∷ xs) = own_cells xs + 1
own_cells (Ok (line.Code n i) ∷ xs) = 0
own_cells (Err e ∷ xs) = 0

-- with n data cells from place `at` on in the list of cells
abbrev pub record_of : Heading → ℕ → ℕ → Procedure
record_of h at n = record { parent = h.parent; first = h.first; parameters = h.parameters; result = h.result; offset = at; count = n }

-- `at` cells come before the list
abbrev pub procedures_of : ℕ → List Said → List Procedure
procedures_of at [] = []
procedures_of at (Ok (line.Procedure h) ∷ xs) = record_of h at (own_cells xs) ∷ procedures_of at xs
procedures_of at (Ok (line.Cell t) ∷ xs) = procedures_of (at + 1) xs
procedures_of at (Ok (line.Code n i) ∷ xs) = procedures_of at xs
procedures_of at (Err e ∷ xs) = procedures_of at xs

abbrev pub cells_of : List Said → List Kind
cells_of [] = []
cells_of (Ok (line.Procedure h) ∷ xs) = cells_of xs
cells_of (Ok (line.Cell t) ∷ xs) = t ∷ cells_of xs
cells_of (Ok (line.Code n i) ∷ xs) = cells_of xs
cells_of (Err e ∷ xs) = cells_of xs

abbrev pub code_of : List Said → List Instruction
code_of [] = []
code_of (Ok (line.Procedure h) ∷ xs) = code_of xs
code_of (Ok (line.Cell t) ∷ xs) = code_of xs
code_of (Ok (line.Code n i) ∷ xs) = i ∷ code_of xs
code_of (Err e ∷ xs) = code_of xs

abbrev pub contents : List Said → Contents
contents xs = record { procedures = procedures_of 0 xs; cells = cells_of xs; code = code_of xs }

-- ---- the text
abbrev pub first_fault : Scan → List ℕ → Option ℕ
first_fault s text = first_failing counted (passes s) start 1 (lines_of text)

-- the lowest number first, over the whole text
abbrev pub verdict : Extent → List ℕ → Result (Unit {0}) TextFault
verdict room text =
    refuse Malformed (first_fault Form text)
    (refuse Misplaced (first_fault Order text)
    (refuse TooLong (first_fault (Room room) text)
    (Ok tt)))

abbrev pub read_by : Result (Unit {0}) TextFault → List ℕ → Result Contents TextFault
read_by (Ok x) text = Ok (contents (lines_of text))
read_by (Err f) text = Err f

abbrev pub read_table : Extent → List ℕ → Result Contents TextFault
read_table room text = read_by (verdict room text) text

-- the room that three lists give
abbrev pub room_of : List Procedure → List Kind → List Instruction → Extent
room_of ps ts is = record { procedures = length ps; cells = length ts; code = length is }

-- ---- what the call answers, and what it leaves in the lists
abbrev pub extent_of : Contents → Extent
extent_of t = record { procedures = length t.procedures; cells = length t.cells; code = length t.code }

abbrev pub answered : Result Contents TextFault → Result Extent TextFault
answered (Ok t) = Ok (extent_of t)
answered (Err f) = Err f

-- a refused text leaves the list as it was; a list longer than needed keeps its rest
abbrev pub left : {X : Type 0} → (Contents → List X) → Result Contents TextFault → List X → List X
left part (Ok t) xs = laid (part t) xs
left part (Err f) xs = xs

abbrev pub procedures_left : Result Contents TextFault → List Procedure → List Procedure
procedures_left r xs = left (λ t. t.procedures) r xs

abbrev pub cells_left : Result Contents TextFault → List Kind → List Kind
cells_left r xs = left (λ t. t.cells) r xs

abbrev pub code_left : Result Contents TextFault → List Instruction → List Instruction
code_left r xs = left (λ t. t.code) r xs
