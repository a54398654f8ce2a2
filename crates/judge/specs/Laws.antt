-- What judging means, in terms of paths. Cited by the contract of judge. Assumes nothing.
--   KeepsTheRules: the table keeps the rules of tables and of operands, no path breaks a stack rule, and no two paths
--     bring different stacks to one instruction
--   JudgeAcceptsExactlyCleanTables: given lists long enough, judge accepts exactly the tables that keep the rules
--   JudgeLeavesWhatPathsBring: its rows are exactly the stacks that paths bring
--   JudgeCountsWhatPathsReach: its answer is how many instructions some path reaches
--   JudgeRefusesForCause: a refusal is that of the rules of tables, of too few places, of the rules of operands, in
--     this order, or a flaw that is met on a path
use Rattle.std.specs.Prelude.{◌≡◌, ℕ, ◌≤◌, ◌↔◌, length, Some, Ok, Err}
use Rattle.sheet.specs.Tables.{Contents}
use Rattle.rules.specs.declared.fault.TableFault.{TableFault}
use Rattle.rules.specs.declared.fault.TableFault.TheVariants.{TooFewPlaces}
use Rattle.rules.specs.OperandLaws.{InstructionRule}
use Rattle.rules.specs.Operands.{operand_fault}
use Rattle.rules.specs.ProcedureLaws.{TableRule}
use Rattle.rules.specs.Procedures.{table_fault}
use Rattle.rules.specs.Throughout.{HoldsThroughout}
use Rattle.paths.specs.Lists.{Exactly}
use Rattle.paths.specs.Paths.{PathTo, Reached, Clean, MetOnAPath}
use Rattle.paths.specs.Rows.{Rows, row_at}
use Rattle.transfer.specs.Stacks.{Stack}
use Rattle.judge.specs.declared.flaw.Flaw.{Flaw}
use Rattle.judge.specs.Flaws.{flaw_at}
use Rattle.judge.specs.Flow.{stacks}
use Rattle.judge.specs.Judgement.{judged, answered}

pub record KeepsTheRules (T : Contents) : Type 0 where
  pub table : TableRule T
  pub operands : HoldsThroughout (InstructionRule T) T.code
  pub paths : Clean (stacks T)

abbrev pub LongEnough : Contents → (rows work : ℕ) → Type 0
LongEnough T r w = (length T.code ≤ r) × (length T.code ≤ w)

abbrev pub JudgeAcceptsExactlyCleanTables : Type 0
JudgeAcceptsExactlyCleanTables = (T : Contents) (r w : ℕ) → LongEnough T r w → ((rows : Rows Stack) × (judged T r w ≡ Ok rows)) ↔ KeepsTheRules T

abbrev pub JudgeLeavesWhatPathsBring : Type 0
JudgeLeavesWhatPathsBring = (T : Contents) (r w : ℕ) (rows : Rows Stack) → judged T r w ≡ Ok rows → (n : ℕ) (s : Stack) → (row_at rows n ≡ Some s) ↔ PathTo (stacks T) n s

abbrev pub JudgeCountsWhatPathsReach : Type 0
JudgeCountsWhatPathsReach = (T : Contents) (r w k : ℕ) → answered (judged T r w) ≡ Ok k → Exactly k (Reached (stacks T))

pub data Cause (T : Contents) (r w : ℕ) : TableFault → Type 0 where
  ill_formed : (x : TableFault) → table_fault T ≡ Some x → Cause T r w x
  too_few_places : TableRule T → (LongEnough T r w → ⊥) → Cause T r w TooFewPlaces
  not_allowed : (x : TableFault) → TableRule T → LongEnough T r w → operand_fault T ≡ Some x → Cause T r w x
  met_on_a_path : (f : Flaw) (n : ℕ) → TableRule T → LongEnough T r w → HoldsThroughout (InstructionRule T) T.code → MetOnAPath (stacks T) f n → Cause T r w (flaw_at f n)

abbrev pub JudgeRefusesForCause : Type 0
JudgeRefusesForCause = (T : Contents) (r w : ℕ) (x : TableFault) → judged T r w ≡ Err x → Cause T r w x
