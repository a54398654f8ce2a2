-- A stack comes to an instruction, over rows as records. Cited by the functions of judge; meanings by prepare and admit too,
-- and must_be by admit. Assumes nothing.
--   meanings: the rows that records mean
--   handed_to: an instruction without a row takes the stack and waits; one with a row must have the same
--   handed_all: stacks handed on one after another
--   entered: what comes of a procedure's entry over these rows, until none waits
--   Follows: what is left after an answer is what the judgement comes to
--   ComesTo: the same of the rows alone, once nothing waits
--   must_be: the row in place at j, if any, must be this stack
use Rattle.std.specs.Prelude.{◌≡◌, ℕ, cond, List, [], ◌∷◌, map, Some, None, Ok, Err, Option, Result, slice_set}
use Rattle.sheet.specs.declared.procedure.Procedure.{Procedure}
use Rattle.sheet.specs.Tables.{Contents}
use Rattle.rules.specs.declared.fault.TableFault.{TableFault}
use Rattle.paths.specs.Flows.{Hand}
use Rattle.paths.specs.Judging.{Progress, going, refused, settle}
use Rattle.paths.specs.Rows.{Rows, row_at}
use Rattle.rows.specs.declared.row.Row.{Row}
use Rattle.rows.specs.Rows.{meaning}
use Rattle.transfer.specs.Stacks.{Stack}
use Rattle.judge.specs.declared.flaw.Flaw.{Flaw}
use Rattle.judge.specs.declared.flaw.Flaw.TheVariants.{Differs}
use Rattle.judge.specs.Flaws.{flaw_at}
use Rattle.judge.specs.Flow.{same_stack, entry_of, stacks}

abbrev pub meanings : List Row → Rows Stack
meanings rs = map meaning rs

abbrev pub handed_by : Option Stack → Rows Stack → List ℕ → ℕ → Stack → Progress Stack Flaw
handed_by None rows work j s = going (slice_set rows j (Some s)) (j ∷ work)
handed_by (Some q) rows work j s = cond (same_stack q s) (going rows work) (refused Differs j)

abbrev pub handed_to : Rows Stack → List ℕ → ℕ → Stack → Progress Stack Flaw
handed_to rows work j s = handed_by (row_at rows j) rows work j s

abbrev pub on_with : Progress Stack Flaw → (Rows Stack → List ℕ → Progress Stack Flaw) → Progress Stack Flaw
on_with (going rows work) k = k rows work
on_with (refused f n) k = refused f n

-- one after another
abbrev pub handed_all : List (Hand Stack) → Rows Stack → List ℕ → Progress Stack Flaw
handed_all [] rows work = going rows work
handed_all (h ∷ hs) rows work = on_with (handed_to rows work h.0 h.1) (λ rows' work'. handed_all hs rows' work')

abbrev pub entered : Contents → Procedure → Rows Stack → Progress Stack Flaw
entered T P rows = on_with (handed_to rows [] (entry_of T P).0 (entry_of T P).1) (λ rows' work'. settle (stacks T) rows' work')

abbrev pub Follows : Result (Unit {0}) TableFault → Progress Stack Flaw → Rows Stack → List ℕ → Type 0
Follows (Ok x) p rows work = p ≡ going rows work
Follows (Err x) p rows work = (f : Flaw) × (n : ℕ) × (p ≡ refused f n) × (x ≡ flaw_at f n)

abbrev pub ComesTo : Result (Unit {0}) TableFault → Progress Stack Flaw → Rows Stack → Type 0
ComesTo (Ok x) p rows = (work : List ℕ) × (p ≡ going rows work)
ComesTo (Err x) p rows = (f : Flaw) × (n : ℕ) × (p ≡ refused f n) × (x ≡ flaw_at f n)

abbrev pub must_be : Option Stack → ℕ → Stack → Result (Unit {0}) TableFault
must_be None j s = Err (flaw_at Differs j)
must_be (Some q) j s = cond (same_stack q s) (Ok tt) (Err (flaw_at Differs j))
