-- A table as its paths see it: stacks that meet only where they are equal. Cited by judge and admit and by the laws on
-- both. Assumes nothing.
--   same_stack: whether two stacks are equal
--   entry_of: where the paths of a procedure begin, and with which stack: its parameters, the last on top
--   step: what an instruction does with its stack, as the path engine takes it
--   stacks: the flow of a table
--   fit: a row must not exceed the cells that the procedure's ent allows
use Rattle.std.specs.Prelude.{ℕ, Bool, true, false, cond, ◌&&◌, List, [], ◌∷◌, map, length, Some, None, Ok, Err, Option, Result, ◌==◌, nat_le}
use Rattle.sheet.specs.declared.procedure.Procedure.{Procedure}
use Rattle.sheet.specs.Kinds.{same}
use Rattle.sheet.specs.Tables.{Contents}
use Rattle.rules.specs.Lookups.{room_at}
use Rattle.paths.specs.Flows.{Hand, Transfer, breaks, hands_on, Flow}
use Rattle.paths.specs.Exact.{strict}
use Rattle.rows.specs.declared.entry.Entry.{Entry}
use Rattle.rows.specs.declared.entry.Entry.TheVariants.{Value, Mark}
use Rattle.transfer.specs.declared.breach.Breach.{Breach}
use Rattle.transfer.specs.Stacks.{Stack, cells_on, parameters_down}
use Rattle.transfer.specs.Transfer.{transfer}
use Rattle.judge.specs.declared.flaw.Flaw.{Flaw}
use Rattle.judge.specs.declared.flaw.Flaw.TheVariants.{Broken, Differs, TooHigh}

abbrev pub same_entry : Entry → Entry → Bool
same_entry (Value s) (Value t) = same s t
same_entry (Value s) (Mark j) = false
same_entry (Mark i) (Value t) = false
same_entry (Mark i) (Mark j) = i == j

abbrev pub same_stack : Stack → Stack → Bool
same_stack [] [] = true
same_stack [] (y ∷ t) = false
same_stack (x ∷ s) [] = false
same_stack (x ∷ s) (y ∷ t) = same_entry x y && same_stack s t

abbrev pub entry_of : Contents → Procedure → Hand Stack
entry_of T P = (P.first, map Value (parameters_down T P))

abbrev pub as_step : Result (List (Hand Stack)) Breach → Transfer Stack Flaw
as_step (Ok hs) = hands_on hs
as_step (Err b) = breaks (Broken b)

abbrev pub step : Contents → ℕ → Stack → Transfer Stack Flaw
step T n s = as_step (transfer T n s)

abbrev pub stacks : Contents → Flow Stack Flaw
stacks T = strict same_stack (length T.code) (map (entry_of T) T.procedures) (step T) Differs

abbrev pub fit : Contents → ℕ → Stack → Option Flaw
fit T n s = cond (nat_le (cells_on s) (room_at T n)) None (Some TooHigh)
