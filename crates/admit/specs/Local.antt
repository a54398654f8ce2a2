-- The local rule at one instruction, as the code checks it. Cited by the functions that do; that it is the path engine's
-- is proved. Assumes nothing.
--   Check: the answer of a check
--   and_then: a check after another, which must pass
--   all_there: each stack handed on must be the row of the instruction that it goes to, one after another
--   step_right: what instruction i does with its row breaks no stack rule, and all that it hands on is there
--   low_enough: a row must not exceed the cells that the procedure's ent allows
--   owning: the procedure that instruction i lies in
--   head_right: at a first instruction the row must be its procedure's parameters; any other must be low enough
--   right_at: the whole rule at instruction i, over all rows, with its own row o
use Rattle.std.specs.Prelude.{ℕ, cond, List, [], ◌∷◌, Some, None, Ok, Err, Option, Result, ◌==◌, nat_le}
use Rattle.sheet.specs.declared.procedure.Procedure.{Procedure}
use Rattle.sheet.specs.Tables.{Contents}
use Rattle.rules.specs.declared.fault.TableFault.{TableFault}
use Rattle.rules.specs.Lookups.{procedure_at, owner, room_at}
use Rattle.paths.specs.Flows.{Hand}
use Rattle.paths.specs.Rows.{Rows, row_at}
use Rattle.transfer.specs.declared.breach.Breach.{Breach}
use Rattle.transfer.specs.Stacks.{Stack, cells_on}
use Rattle.transfer.specs.Transfer.{transfer}
use Rattle.judge.specs.declared.flaw.Flaw.TheVariants.{Broken, TooHigh}
use Rattle.judge.specs.Flaws.{flaw_at}
use Rattle.judge.specs.Flow.{entry_of}
use Rattle.judge.specs.Handing.{must_be}

abbrev pub Check : Type 0
Check = Result (Unit {0}) TableFault

abbrev pub and_then : Check → Check → Check
and_then (Ok x) c = c
and_then (Err f) c = Err f

abbrev pub all_there : Rows Stack → List (Hand Stack) → Check
all_there rows [] = Ok tt
all_there rows (h ∷ hs) = and_then (must_be (row_at rows h.0) h.0 h.1) (all_there rows hs)

abbrev pub on_from : Rows Stack → ℕ → Result (List (Hand Stack)) Breach → Check
on_from rows i (Ok hs) = all_there rows hs
on_from rows i (Err b) = Err (flaw_at (Broken b) i)

abbrev pub step_right : Contents → Rows Stack → ℕ → Option Stack → Check
step_right T rows i None = Ok tt
step_right T rows i (Some s) = on_from rows i (transfer T i s)

abbrev pub low_enough : Contents → ℕ → Option Stack → Check
low_enough T i None = Ok tt
low_enough T i (Some s) = cond (nat_le (cells_on s) (room_at T i)) (Ok tt) (Err (flaw_at TooHigh i))

abbrev pub owning : Contents → ℕ → Procedure
owning T i = procedure_at T (owner T i)

abbrev pub head_right : Contents → ℕ → Option Stack → Check
head_right T i o = cond ((owning T i).first == i) (must_be o i (entry_of T (owning T i)).1) (low_enough T i o)

abbrev pub right_at : Contents → Rows Stack → ℕ → Option Stack → Check
right_at T rows i o = and_then (head_right T i o) (step_right T rows i o)
