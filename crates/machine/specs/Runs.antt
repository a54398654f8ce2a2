-- Many steps. Cited by go and by the promises on runs. Assumes nothing.
--   begun_cells, begun: the cells and the state with which a run over len cells begins
--   Went: the state that a go leaves, the steps made, and what ended it sooner
--   go_on: go on for n steps, with c made already
--   go: n steps, or as many as there are
use Rattle.std.specs.Prelude.{ℕ, zero, suc, ◌+◌, ◌-◌, List, ◌++◌, replicate, Some, None, Ok, Err, Option}
use Rattle.sheet.specs.Tables.{Contents}
use Rattle.store.specs.declared.cell.Cell.{Cell}
use Rattle.store.specs.declared.cell.Cell.TheVariants.{Free}
use Rattle.host.specs.Hosts.{Meaning}
use Rattle.machine.specs.declared.ending.Ending.{Ending}
use Rattle.machine.specs.Frames.{place}
use Rattle.machine.specs.States.{State, code_at, regs_at}
use Rattle.machine.specs.Steps.{step}

-- five marks with 0, and the others free
abbrev pub begun_cells : ℕ → List Cell
begun_cells len = replicate 5 (place 0) ++ replicate (len - 5) Free

abbrev pub begun : (len : ℕ) → Meaning → State
begun len h = record { regs = regs_at (code_at 0) 5 0 4 (len - 1); cells = begun_cells len; host = h }

pub record Went : Type 0 where
  pub state : State
  pub count : ℕ
  pub ending : Option Ending

unfoldable pub go_on : Contents → (n c : ℕ) → State → Went
go_on T zero c s = record { state = s; count = c; ending = None }
go_on T (suc n) c s = elim (step T s) [ Ok t ↦ go_on T n (c + 1) t | Err e ↦ record { state = s; count = c; ending = Some e } ]

abbrev pub go : Contents → ℕ → State → Went
go T n s = go_on T n 0 s
