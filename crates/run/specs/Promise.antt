-- What is promised of a list of calls that was undergone. Cited by the call that undergoes it. Assumes nothing.
--   Below: no answer has a number from n on
--   Kept: of a table with r records of rows, a store of len cells and a host that means h: of the calls, the state s that they
--     leave, and their answers xs. The table was admitted with these rows; before and after each call every open frame holds
--     its row and its declaration; no answer has a number of 60 or above; and what is left is what one go of the total of the
--     counts answered leaves
--   KeptOf: that of what the call answers and leaves; a refusal promises nothing more
--   EqualCountsLeaveEqualStates: of two lists of calls that were undergone, whatever the rows, the calls and the kinds of
--     store and host, over stores of one length and hosts of one meaning: where the totals of the counts answered are equal,
--     so are the registers, the cells and the meanings of the hosts that are left
use Rattle.std.specs.Prelude.{◌≡◌, ℕ, ◌<◌, List, [], ◌∷◌, map, length, take, None, Result, MatchResult}
use Rattle.sheet.specs.declared.table.Table.{Table}
use Rattle.sheet.specs.Tables.{Contents}
use Rattle.rules.specs.Lookups.{contents_of}
use Rattle.paths.specs.Rows.{Rows, row_at}
use Rattle.rows.specs.declared.row.Row.{Row}
use Rattle.transfer.specs.Stacks.{Stack}
use Rattle.judge.specs.Admission.{admitted}
use Rattle.admit.specs.Admissions.{rows_for}
use Rattle.store.specs.declared.cell.Cell.{Cell}
use Rattle.host.specs.Hosts.{Meaning}
use Rattle.machine.specs.Runs.{begun, go}
use Rattle.machine.specs.States.{State, at}
use Rattle.soundness.specs.Runs.{StaysTyped}
use Rattle.run.specs.declared.answer.Answer.{Answer}
use Rattle.run.specs.declared.answer.Call.{Call}
use Rattle.run.specs.declared.fault.UndergoFault.{UndergoFault}
use Rattle.run.specs.declared.run.Run.{Run}
use Rattle.run.specs.Answers.{number_of, tally}
use Rattle.run.specs.Undergone.{meant, told}

abbrev pub Below : ℕ → List Answer → Type 0
Below n [] = Unit {0}
Below n (x ∷ xs) = (number_of x < n) × Below n xs

pub record Kept (T : Contents) (r : ℕ) (rows : Rows Stack) (len : ℕ) (h : Meaning) (calls : List Call) (s : State) (xs : List Answer) : Type 0 where
  pub admitted_with : admitted T r rows ≡ None
  pub frames : StaysTyped T (row_at rows) (map meant calls) (begun len h)
  pub answers : xs ≡ told T calls (begun len h)
  pub low : Below 60 xs
  pub total : s ≡ (go T (tally xs) (begun len h)).state

abbrev pub KeptOf : Table → List Row → (len : ℕ) → Meaning → List Call → Result Run UndergoFault → List Cell → Meaning → List Answer → Type 0
KeptOf t rs len h calls r cs k xs = MatchResult r
    (λ run. Kept (contents_of t) (length rs) (rows_for t rs) len h calls (at run.regs cs k) (take (length calls) xs))
    (λ f. Unit {0})

abbrev pub EqualCountsLeaveEqualStates : Type 0
EqualCountsLeaveEqualStates = (T : Contents) (len : ℕ) (h : Meaning) (r r' : ℕ) (rows rows' : Rows Stack) (calls calls' : List Call) (s s' : State) (xs xs' : List Answer)
    → Kept T r rows len h calls s xs → Kept T r' rows' len h calls' s' xs' → tally xs ≡ tally xs' → s ≡ s'
