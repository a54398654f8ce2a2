-- A machine, and a call that carries out an instruction on it. Cited by the contract of each instruction, of a step and of
-- many. Assumes nothing.
--   state_of: the state of a machine whose store means these cells, beside a host that means h
--   CarriesOut: the call answers and leaves what f answers and leaves, whatever the host means, over the store that was lent
--   CarriesOutWith: that of a call that takes the host too, which meant h and now means k
use Rattle.std.specs.Prelude.{◌≡◌, List, Result}
use Rattle.store.specs.declared.cell.Cell.{Cell}
use Rattle.host.specs.Hosts.{Meaning}
use Rattle.machine.specs.declared.machine.Machine.{Machine}
use Rattle.machine.specs.States.{State, at, by, gives}

abbrev pub state_of : {S : Type 0} → (S → List Cell) → Machine S → Meaning → State
state_of cells m h = at m.regs (cells m.store.now) h

pub record CarriesOut {S E : Type 0} (cells : S → List Cell) (result : Result (Unit {0}) E) (before after : Machine S) (f : State → Result State E) : Type 0 where
  pub store : after.store.ghost_name ≡ before.store.ghost_name
  pub state : (h : Meaning) → gives result (state_of cells after h) ≡ by f (state_of cells before h)

pub record CarriesOutWith {S E : Type 0} (cells : S → List Cell) (result : Result (Unit {0}) E) (before : Machine S) (h : Meaning) (after : Machine S) (k : Meaning) (f : State → Result State E) : Type 0 where
  pub store : after.store.ghost_name ≡ before.store.ghost_name
  pub state : gives result (state_of cells after k) ≡ by f (state_of cells before h)
