-- What a list of calls answers and leaves. Cited by the call that undergoes one. Assumes nothing.
--   meant: a call as the promises on runs speak of it
--   answered: what a call answers over the store that the run began over
--   One, one: that, with the state that the call leaves
--   told: what a list of calls answers, each in its place
--   Undergone: what the call that undergoes them answers, and what it leaves
--   undergone: that: the table is admitted, answers enough are lent, the run begins, and each call is made in turn; a refusal
--     leaves everything as it was, and answers past the calls stay in any case
use Rattle.std.specs.Prelude.{cond, List, [], ◌∷◌, ◌++◌, map, length, drop, Ok, Err, Result, nat_le}
use Rattle.std.specs.Borrow.{Bor}
use Rattle.sheet.specs.declared.table.Table.{Table}
use Rattle.sheet.specs.Tables.{Contents}
use Rattle.rules.specs.declared.fault.TableFault.{TableFault}
use Rattle.rules.specs.Lookups.{contents_of}
use Rattle.rows.specs.declared.row.Row.{Row}
use Rattle.admit.specs.declared.Passed.{Passed}
use Rattle.admit.specs.Admissions.{admission}
use Rattle.store.specs.declared.cell.Cell.{Cell}
use Rattle.host.specs.Hosts.{Meaning}
use Rattle.machine.specs.Runs.{begun, go}
use Rattle.machine.specs.States.{State}
use Rattle.soundness.specs.Runs as runs
use Rattle.soundness.specs.Runs.{left}
use Rattle.run.specs.declared.answer.Answer.{Answer}
use Rattle.run.specs.declared.answer.Answer.TheVariants as a
use Rattle.run.specs.declared.answer.Call.{Call}
use Rattle.run.specs.declared.answer.Call.TheVariants as c
use Rattle.run.specs.declared.fault.UndergoFault.{UndergoFault}
use Rattle.run.specs.declared.fault.UndergoFault.TheVariants as fault
use Rattle.run.specs.declared.run.Run.{Run}
use Rattle.run.specs.Calls.{sized, as_answer, look_at, reported}

abbrev pub meant : Call → runs.Call
meant (c.Go n) = runs.goes n
meant (c.Look x) = runs.looks x.0
meant c.Report = runs.reports

abbrev pub answered : Contents → Call → State → Answer
answered T (c.Go n) s = a.Went (as_answer (go T n s))
answered T (c.Look x) s = a.Looked (look_at x.0 s.regs.height s.cells)
answered T c.Report s = a.Registers (reported s.regs)

abbrev pub after : Contents → Call → State → State
after T c s = runs.after T (meant c) s

pub record One : Type 0 where
  pub answer : Answer
  pub state : State

abbrev pub one : Contents → Call → State → One
one T c s = record { answer = answered T c s; state = after T c s }

unfoldable pub told : Contents → List Call → State → List Answer
told T [] s = []
told T (c ∷ cs) s = answered T c s ∷ told T cs (after T c s)

unfoldable pub state_after : Contents → List Call → State → State
state_after T cs s = left T (map meant cs) s

pub record Undergone : Type 0 where
  pub answer : Result Run UndergoFault
  pub cells : List Cell
  pub host : Meaning
  pub answers : List Answer

abbrev pub refused : UndergoFault → List Cell → Meaning → List Answer → Undergone
refused f cs h xs = record { answer = Err f; cells = cs; host = h; answers = xs }

-- the calls undergone from state s on
abbrev pub made : Passed → State → List Answer → List Answer → Undergone
made p s told rest = record { answer = Ok (record { passed = p; regs = s.regs }); cells = s.cells; host = s.host; answers = told ++ rest }

abbrev pub undergone_by : Result Passed TableFault → List Call → List Cell → Meaning → List Answer → Undergone
undergone_by (Err f) calls cs h xs = refused (fault.Table f) cs h xs
undergone_by (Ok p) calls cs h xs =
    cond (nat_le (length calls) (length xs))
    (cond (sized (length cs))
    (made p (state_after (contents_of p.table) calls (begun (length cs) h)) (told (contents_of p.table) calls (begun (length cs) h)) (drop (length calls) xs))
    (refused fault.StoreLength cs h xs))
    (refused fault.TooFewAnswers cs h xs)

abbrev pub undergone : Table → Bor (List Row) → List Call → List Cell → Meaning → List Answer → Undergone
undergone t rs calls cs h xs = undergone_by (admission t rs) calls cs h xs
