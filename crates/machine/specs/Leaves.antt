-- What an instruction reads from the store. Cited by the instructions and by the functions that read for them.
-- Assumes nothing.
--   working_in: the value of a working cell
--   mark_in, place_in: a mark's number, and that as a place in the store
--   of_kind: a value of kind t, else the cause w
--   held, writable: the value of a data cell of kind t, and whether such a cell may be written;
--     w where it is no data cell, u where it has another kind
--   stacked, typed: the working value i cells below the top of a stack of x cells; typed asks that it has kind t
--   link: the static link of the frame at x, which lies below MP = m
--   base: the frame n static links up from the one at x
--   reached: a place from 0 to SP
--   load, store: the cell at place x is pushed, and the top is stored there; PC becomes q
use Rattle.std.specs.Prelude.{ℕ, zero, suc, ◌+◌, ◌-◌, List, ℤ, pos, negsuc, Ok, Err, nat_lt}
use Rattle.sheet.specs.declared.kind.Kind.{Kind}
use Rattle.sheet.specs.declared.place.CodePlace.{CodePlace}
use Rattle.sheet.specs.declared.stop.Stop.{Stop}
use Rattle.sheet.specs.declared.stop.Stop.TheVariants.{NoDataCell, NoValueYet, WrongCell, WrongMark}
use Rattle.sheet.specs.declared.value.Value.{Value}
use Rattle.sheet.specs.Kinds.{kind_of, same}
use Rattle.arith.specs.Answers.{Answer, demand, ◌>>=◌, ◌>>◌}
use Rattle.store.specs.declared.cell.Cell.{Cell}
use Rattle.store.specs.declared.cell.Cell.TheVariants.{Free, Mark, Working, Data, Blank}
use Rattle.store.specs.Cells.{peek}
use Rattle.machine.specs.States.{State, height, dropped, pushed, with_cell}

abbrev pub working_in : Cell → Answer Value
working_in Free = Err WrongCell
working_in (Mark z) = Err WrongCell
working_in (Working x) = Ok x
working_in (Data x) = Err WrongCell
working_in (Blank t) = Err WrongCell

abbrev pub mark_in : Cell → Answer ℤ
mark_in Free = Err WrongMark
mark_in (Mark z) = Ok z
mark_in (Working x) = Err WrongMark
mark_in (Data x) = Err WrongMark
mark_in (Blank t) = Err WrongMark

abbrev pub place_of : ℤ → Answer ℕ
place_of (pos n) = Ok n
place_of (negsuc n) = Err WrongMark

abbrev pub place_in : Cell → Answer ℕ
place_in c = mark_in c >>= λ z. place_of z

abbrev pub of_kind : Stop → Kind → Value → Answer Value
of_kind w t x = demand (same (kind_of x) t) w >> Ok x

abbrev pub held : (w u : Stop) → Kind → Cell → Answer Value
held w u t Free = Err w
held w u t (Mark z) = Err w
held w u t (Working x) = Err w
held w u t (Data x) = of_kind u t x
held w u t (Blank k) = demand (same k t) u >> Err NoValueYet

abbrev pub writable : (w u : Stop) → Kind → Cell → Answer (Unit {0})
writable w u t Free = Err w
writable w u t (Mark z) = Err w
writable w u t (Working x) = Err w
writable w u t (Data x) = demand (same (kind_of x) t) u
writable w u t (Blank k) = demand (same k t) u

abbrev pub stacked : (x i : ℕ) → List Cell → Answer Value
stacked x i cs = demand (nat_lt i x) WrongCell >> working_in (peek cs (x - (i + 1)))

abbrev pub typed : Kind → (x i : ℕ) → List Cell → Answer Value
typed t x i cs = stacked x i cs >>= λ y. of_kind WrongCell t y

abbrev pub link : (x m : ℕ) → List Cell → Answer ℕ
link x m cs = place_in (peek cs (x + 1)) >>= λ y. demand (nat_lt y m) WrongMark >> Ok y

unfoldable pub base : ℕ → (x m : ℕ) → List Cell → Answer ℕ
base zero x m cs = Ok x
base (suc n) x m cs = link x m cs >>= λ y. base n y m cs

abbrev pub reached : ℤ → ℕ → Answer ℕ
reached (pos x) top = demand (nat_lt x top) NoDataCell >> Ok x
reached (negsuc x) top = Err NoDataCell

abbrev pub load : CodePlace → Kind → ℕ → State → Answer State
load q t x s = held WrongCell WrongCell t (peek s.cells x) >>= λ y. pushed y (dropped q 0 s)

abbrev pub store : CodePlace → Kind → ℕ → State → Answer State
store q t x s =
    typed t (height s) 0 s.cells >>= λ y. writable WrongCell WrongCell t (peek s.cells x) >> Ok (with_cell (dropped q 1 s) x (Data y))
