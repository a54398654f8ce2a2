-- Frames: the marks of a call, the call, the entry and the return. Cited by mst, cup, ent, retf and retp. Assumes nothing.
--   data_kinds: the kinds of a procedure's data cells, of which the first are its parameters
--   parameter_kinds, local_kinds: those of the parameters, and those of the rest
--   place: the mark of a place in the store
--   marks: the five marks of a call, from x up
--   passes, passed: the working cell at x has kind t, and those from x up have these kinds
--   settle, clear: the working cells from x up become data cells with their values, and data cells of these kinds without one
--   settled: the data cell that a working cell becomes
--   result_cell, opened: the cell for a result, if there is one, and all cells of a frame from its ent on
--   enter: ent p q of procedure P
--   marked: five marks are those of a call
--   call, call_at: cup of P with n parameters, which begins at q and comes back to c
--   back: the registers that a return to a stack of x cells takes from the marks
--   result_in: the result that a cell holds
--   return_value, return_plain: retf of a procedure with this result, and retp
use Rattle.std.specs.Prelude.{ℕ, ◌+◌, ◌-◌, ◌&&◌, List, [], ◌∷◌, length, take, drop, pos, Some, None, Ok, Err, Option, nat_le, nat_lt}
use Rattle.sheet.specs.declared.kind.Kind.{Kind}
use Rattle.sheet.specs.declared.place.CodePlace.{CodePlace}
use Rattle.sheet.specs.declared.procedure.Procedure.{Procedure}
use Rattle.sheet.specs.declared.stop.Stop.TheVariants.{StoreFull, WrongCell, WrongMark}
use Rattle.sheet.specs.declared.value.Value.{Value}
use Rattle.sheet.specs.Tables.{Contents}
use Rattle.arith.specs.Answers.{Answer, demand, ◌>>=◌, ◌>>◌}
use Rattle.store.specs.declared.cell.Cell.{Cell}
use Rattle.store.specs.declared.cell.Cell.TheVariants.{Free, Mark, Working, Data, Blank}
use Rattle.store.specs.Cells.{peek, put}
use Rattle.machine.specs.declared.registers.Registers.{Registers}
use Rattle.machine.specs.Leaves.{working_in, mark_in, place_in, of_kind, held}
use Rattle.machine.specs.States.{State, height, mp, ep, last, regs_at}

abbrev pub data_kinds : Contents → Procedure → List Kind
data_kinds T P = take P.count (drop P.offset T.cells)

abbrev pub parameter_kinds : Contents → Procedure → List Kind
parameter_kinds T P = take P.parameters (data_kinds T P)

abbrev pub local_kinds : Contents → Procedure → List Kind
local_kinds T P = drop P.parameters (data_kinds T P)

abbrev pub place : ℕ → Cell
place x = Mark (pos x)

abbrev pub marks : (x link mp ep : ℕ) → List Cell → List Cell
marks x link m e cs = put (put (put (put (put cs x (place 0)) (x + 1) (place link)) (x + 2) (place m)) (x + 3) (place e)) (x + 4) (place 0)

abbrev pub passes : Kind → ℕ → List Cell → Answer Value
passes t x cs = working_in (peek cs x) >>= λ y. of_kind WrongCell t y

unfoldable pub passed : List Kind → ℕ → List Cell → Answer (Unit {0})
passed [] x cs = Ok tt
passed (t ∷ ts) x cs = passes t x cs >> passed ts (x + 1) cs

-- a working cell becomes a data cell with its value
abbrev pub settled : Cell → Cell
settled Free = Free
settled (Mark z) = Mark z
settled (Working x) = Data x
settled (Data x) = Data x
settled (Blank t) = Blank t

unfoldable pub settle : List Kind → ℕ → List Cell → List Cell
settle [] x cs = cs
settle (t ∷ ts) x cs = settle ts (x + 1) (put cs x (settled (peek cs x)))

unfoldable pub clear : List Kind → ℕ → List Cell → List Cell
clear [] x cs = cs
clear (t ∷ ts) x cs = clear ts (x + 1) (put cs x (Blank t))

abbrev pub result_cell : Option Kind → ℕ → List Cell → List Cell
result_cell None x cs = cs
result_cell (Some t) x cs = put cs x (Blank t)

-- the cells of P's frame at m, from its ent on
abbrev pub opened : Contents → Procedure → ℕ → List Cell → List Cell
opened T P m cs =
    result_cell P.result m (clear (local_kinds T P) (m + 5 + length (parameter_kinds T P)) (settle (parameter_kinds T P) (m + 5) cs))

-- PC becomes c; EP must stay below NP
abbrev pub enter : Contents → Procedure → (c : CodePlace) → (p q : ℕ) → State → Answer State
enter T P c p q s =
    passed (parameter_kinds T P) (mp s + 5) s.cells >>
    demand (nat_le (mp s + q - 1 + p) (last s)) StoreFull >>
    Ok (record { regs = regs_at c (mp s + q) (mp s) (mp s + q - 1 + p) (last s); cells = opened T P (mp s) s.cells; host = s.host })

-- the five marks that begin at m: links below m, an EP from SP to the last cell
abbrev pub marked : ℕ → State → Answer (Unit {0})
marked m s =
    mark_in (peek s.cells m) >>= λ z.
    place_in (peek s.cells (m + 1)) >>= λ link.
    place_in (peek s.cells (m + 2)) >>= λ old.
    place_in (peek s.cells (m + 3)) >>= λ e.
    mark_in (peek s.cells (m + 4)) >>= λ w.
    demand (nat_lt link m && (nat_lt old m && (nat_le (height s) (e + 1) && nat_le e (last s)))) WrongMark

abbrev pub call_at : Contents → Procedure → (c q : CodePlace) → (m : ℕ) → State → Answer State
call_at T P c q m s =
    marked m s >>
    passed (parameter_kinds T P) (m + 5) s.cells >>
    Ok (record { regs = regs_at q (height s) m (ep s) (last s); cells = put s.cells (m + 4) (Mark c.0); host = s.host })

-- the five marks must lie in the store
abbrev pub call : Contents → Procedure → (c q : CodePlace) → (n : ℕ) → State → Answer State
call T P c q n s =
    demand (nat_le (n + 5) (height s) && nat_le (height s - (n + 5)) (last s)) WrongMark >> call_at T P c q (height s - (n + 5)) s

abbrev pub back : ℕ → State → Answer Registers
back x s =
    mark_in (peek s.cells (mp s + 4)) >>= λ z.
    place_in (peek s.cells (mp s + 3)) >>= λ e.
    place_in (peek s.cells (mp s + 2)) >>= λ m.
    demand (nat_lt m (mp s) && (nat_le x (e + 1) && nat_le e (last s))) WrongMark >>
    Ok (regs_at (record { 0 = z }) x m e (last s))

abbrev pub result_in : Option Kind → Cell → Answer Value
result_in None c = Err WrongCell
result_in (Some t) c = held WrongCell WrongCell t c

abbrev pub return_value : Option Kind → State → Answer State
return_value r s =
    back (mp s + 1) s >>= λ regs. result_in r (peek s.cells (mp s)) >>= λ y.
    Ok (record { regs = regs; cells = put s.cells (mp s) (Working y); host = s.host })

abbrev pub return_plain : State → Answer State
return_plain s = back (mp s) s >>= λ regs. Ok (record { regs = regs; cells = s.cells; host = s.host })
