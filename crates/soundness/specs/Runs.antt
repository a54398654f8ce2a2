-- What is promised of the runs of an admitted table. Cited by the laws below and by the call that undergoes a list of calls.
-- Assumes nothing.
--   Call: go n, look at a place, report
--   answer, count: the number that a call answers, and the steps that it made
--   after, left: the state after a call, and after a list of calls
--   total: the steps that a list of calls made, by the counts answered
--   StaysTyped: before and after each call every open frame holds, and no answer is 60 or above
--   AdmittedRunsStayTyped: so it is for every admitted table, over every store and every host
--   CallsLeaveWhatOneGoLeaves: a list of calls leaves the state that one go of their total leaves
--   EqualTotalsLeaveEqualStates: so what is left depends on the total alone
use Rattle.std.specs.Prelude.{◌≡◌, ℕ, ◌+◌, ◌<◌, ◌≤◌, Bool, false, cond, List, [], ◌∷◌, length, ℤ, pos, negsuc, None, nat_lt}
use Rattle.sheet.specs.Tables.{Contents}
use Rattle.paths.specs.Rows.{Rows as RowList, row_at}
use Rattle.transfer.specs.Stacks.{Stack}
use Rattle.judge.specs.Admission.{admitted}
use Rattle.host.specs.Hosts.{Meaning}
use Rattle.machine.specs.Endings.{ending_of}
use Rattle.machine.specs.Runs.{begun, go}
use Rattle.machine.specs.States.{State, height}
use Rattle.soundness.specs.Frames.{Rows, AllHold}

pub data Call : Type 0 where
  goes : ℕ → Call
  looks : ℤ → Call
  reports : Call

-- a place from 0 to SP
abbrev pub in_reach : ℤ → State → Bool
in_reach (pos x) s = nat_lt x (height s)
in_reach (negsuc x) s = false

abbrev pub answer : Contents → Call → State → ℕ
answer T (goes n) s = ending_of (go T n s).ending
answer T (looks x) s = cond (in_reach x s) 0 35
answer T reports s = 0

abbrev pub count : Contents → Call → State → ℕ
count T (goes n) s = (go T n s).count
count T (looks x) s = 0
count T reports s = 0

abbrev pub after : Contents → Call → State → State
after T (goes n) s = (go T n s).state
after T (looks x) s = s
after T reports s = s

abbrev pub left : Contents → List Call → State → State
left T [] s = s
left T (c ∷ cs) s = left T cs (after T c s)

abbrev pub total : Contents → List Call → State → ℕ
total T [] s = 0
total T (c ∷ cs) s = count T c s + total T cs (after T c s)

abbrev pub StaysTyped : Contents → Rows → List Call → State → Type 0
StaysTyped T rows [] s = AllHold T rows s
StaysTyped T rows (c ∷ cs) s = AllHold T rows s × (answer T c s < 60) × StaysTyped T rows cs (after T c s)

-- r records were lent, of which the first, one for each instruction, mean these rows; the store has len cells
abbrev pub AdmittedRunsStayTyped : Type 0
AdmittedRunsStayTyped = (T : Contents) (r : ℕ) (rows : RowList Stack) → length rows ≡ length T.code → admitted T r rows ≡ None
    → (len : ℕ) (h : Meaning) (cs : List Call) → 5 ≤ len → StaysTyped T (row_at rows) cs (begun len h)

abbrev pub CallsLeaveWhatOneGoLeaves : Type 0
CallsLeaveWhatOneGoLeaves = (T : Contents) (cs : List Call) (s : State) → left T cs s ≡ (go T (total T cs s) s).state

abbrev pub EqualTotalsLeaveEqualStates : Type 0
EqualTotalsLeaveEqualStates = (T : Contents) (cs ds : List Call) (s : State) → total T cs s ≡ total T ds s → left T cs s ≡ left T ds s
