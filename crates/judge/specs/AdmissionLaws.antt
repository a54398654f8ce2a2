-- What admitting means, row by row. Cited by the contract of admit. Assumes nothing.
--   LocallyRight: the table keeps the rules of tables and of operands; each first instruction's row is its procedure's
--     parameters; no other row exceeds the cells that its ent allows; and each instruction with a row breaks no stack rule
--     and hands its successors just their rows
--   AdmitAcceptsExactlyLocalRows: given rows enough, admit accepts exactly these
--   JudgeLeavesRowsThatAdmitAccepts: the rows of judge are such
use Rattle.std.specs.Prelude.{◌≡◌, ℕ, ◌≤◌, ◌↔◌, List, map, length, Some, None, Ok}
use Rattle.std.specs.List.{slice_get}
use Rattle.sheet.specs.declared.procedure.Procedure.{Procedure}
use Rattle.sheet.specs.Tables.{Contents}
use Rattle.rules.specs.Lookups.{room_at}
use Rattle.rules.specs.OperandLaws.{InstructionRule}
use Rattle.rules.specs.ProcedureLaws.{TableRule}
use Rattle.rules.specs.Throughout.{HoldsThroughout}
use Rattle.paths.specs.Flows.{Hand}
use Rattle.paths.specs.Lists.{All}
use Rattle.paths.specs.Rows.{Rows, row_at}
use Rattle.rows.specs.declared.entry.Entry.TheVariants.{Value}
use Rattle.transfer.specs.Stacks.{Stack, cells_on, parameters_down}
use Rattle.transfer.specs.Transfer.{transfer}
use Rattle.judge.specs.Admission.{admitted}
use Rattle.judge.specs.Judgement.{judged}

-- a procedure begins at n
abbrev pub Begins : Contents → ℕ → Type 0
Begins T n = (i : ℕ) × (P : Procedure) × (slice_get T.procedures i ≡ Some P) × (P.first ≡ n)

pub record LocallyRight (T : Contents) (rows : Rows Stack) : Type 0 where
  pub table : TableRule T
  pub operands : HoldsThroughout (InstructionRule T) T.code
  pub firsts : (i : ℕ) (P : Procedure) → slice_get T.procedures i ≡ Some P → row_at rows P.first ≡ Some (map Value (parameters_down T P))
  pub others : (n : ℕ) (s : Stack) → (Begins T n → ⊥) → row_at rows n ≡ Some s → cells_on s ≤ room_at T n
  pub follows : (n : ℕ) (s : Stack) → row_at rows n ≡ Some s → (hs : List (Hand Stack)) × (transfer T n s ≡ Ok hs) × All (λ h. row_at rows h.0 ≡ Some h.1) hs

abbrev pub AdmitAcceptsExactlyLocalRows : Type 0
AdmitAcceptsExactlyLocalRows = (T : Contents) (r : ℕ) (rows : Rows Stack) → length T.code ≤ r → length rows ≡ length T.code → (admitted T r rows ≡ None) ↔ LocallyRight T rows

abbrev pub JudgeLeavesRowsThatAdmitAccepts : Type 0
JudgeLeavesRowsThatAdmitAccepts = (T : Contents) (r w : ℕ) (rows : Rows Stack) → judged T r w ≡ Ok rows → admitted T r rows ≡ None
