-- The state of a run, and what a call answers and leaves. Cited by every instruction and by the contract of its code.
-- Assumes nothing.
--   State: the registers, the cells of the store, and what the host means
--   height, mp, ep, last: the registers as numbers; the stack's height is SP + 1, and last is NP - 1
--   code_at: a place in the code
--   moved: the registers once PC is q and the stack has x cells
--   dropped: the state once PC is q and the n topmost cells are taken
--   with_cell, with_host: the state with another cell x, and with another host
--   pushed: a value pushed, unless SP would pass EP
--   Outcome: what a call answers and the state that it leaves
--   by: an instruction as a call: what stops it leaves the state as it was
--   at, gives: a state, and an outcome, by parts
use Rattle.std.specs.Prelude.{ℕ, ◌+◌, ◌-◌, List, pos, Ok, Err, Result, nat_le}
use Rattle.sheet.specs.declared.place.CodePlace.{CodePlace}
use Rattle.sheet.specs.declared.stop.Stop.TheVariants.{StackFull}
use Rattle.sheet.specs.declared.value.Value.{Value}
use Rattle.arith.specs.Answers.{Answer, demand, ◌>>◌}
use Rattle.store.specs.declared.cell.Cell.{Cell}
use Rattle.store.specs.declared.cell.Cell.TheVariants.{Working}
use Rattle.store.specs.Cells.{put}
use Rattle.host.specs.Hosts.{Meaning}
use Rattle.machine.specs.declared.registers.Registers.{Registers}

pub record State : Type 0 where
  pub regs : Registers
  pub cells : List Cell
  pub host : Meaning

abbrev pub height : State → ℕ
height s = s.regs.height

abbrev pub mp : State → ℕ
mp s = s.regs.mp

abbrev pub ep : State → ℕ
ep s = s.regs.ep

abbrev pub last : State → ℕ
last s = s.regs.last

abbrev pub code_at : ℕ → CodePlace
code_at n = record { 0 = pos n }

abbrev pub regs_at : CodePlace → (height mp ep last : ℕ) → Registers
regs_at q x m e l = record { pc = q; height = x; mp = m; ep = e; last = l }

abbrev pub moved : CodePlace → ℕ → State → Registers
moved q x s = regs_at q x (mp s) (ep s) (last s)

abbrev pub dropped : CodePlace → (n : ℕ) → State → State
dropped q n s = record { regs = moved q (height s - n) s; cells = s.cells; host = s.host }

abbrev pub with_cell : State → ℕ → Cell → State
with_cell s x c = record { regs = s.regs; cells = put s.cells x c; host = s.host }

abbrev pub with_host : State → Meaning → State
with_host s h = record { regs = s.regs; cells = s.cells; host = h }

abbrev pub pushed : Value → State → Answer State
pushed y s =
    demand (nat_le (height s) (ep s)) StackFull >>
    Ok (record { regs = moved s.regs.pc (height s + 1) s; cells = put s.cells (height s) (Working y); host = s.host })

pub record Outcome (E : Type 0) : Type 0 where
  pub answer : Result (Unit {0}) E
  pub state : State

abbrev pub ended : {E : Type 0} → State → Result State E → Outcome E
ended s (Ok t) = record { answer = Ok tt; state = t }
ended s (Err w) = record { answer = Err w; state = s }

abbrev pub by : {E : Type 0} → (State → Result State E) → State → Outcome E
by f s = ended s (f s)

abbrev pub at : Registers → List Cell → Meaning → State
at r cs h = record { regs = r; cells = cs; host = h }

abbrev pub gives : {E : Type 0} → Result (Unit {0}) E → State → Outcome E
gives a s = record { answer = a; state = s }
