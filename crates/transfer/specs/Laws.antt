-- What the transfer function keeps in a table that keeps the rules. Cited by its contract and by the verifier.
-- Assumes nothing.
--   Each: a property of every stack handed on, and of the instruction that it goes to
--   FitsRows: what a table must have for its stacks to be rows
--   CheckedTablesFitRows: the rules of tables and of operands give that
--   TransferStaysInside: stacks go to instructions of the same procedure alone
--   TransferFits: no stack handed on exceeds the room of the instruction that it goes to
--   TransferHandsRows: from a stack of proper entries come stacks that are rows
use Rattle.std.specs.Prelude.{◌≡◌, ℕ, ◌+◌, ◌<◌, ◌≤◌, true, List, [], ◌∷◌, length, Some, Ok}
use Rattle.std.specs.List.{slice_get}
use Rattle.sheet.specs.declared.instruction.Instruction.{Instruction}
use Rattle.sheet.specs.Tables.{Contents}
use Rattle.rules.specs.Effects.{effect_of}
use Rattle.rules.specs.Lookups.{procedure_at, owner, room_at}
use Rattle.rows.specs.Entries.{proper}
use Rattle.rows.specs.Rows.{every}
use Rattle.transfer.specs.Stacks.{Stack, cells_on, fitting}
use Rattle.transfer.specs.Transfer.{transfer, Checked}

abbrev pub Each : (ℕ → Stack → Type 0) → List (ℕ × Stack) → Type 0
Each Q [] = Unit {0}
Each Q (h ∷ hs) = Q h.0 h.1 × Each Q hs

pub record FitsRows (T : Contents) : Type 0 where
  pub room : (n : ℕ) → room_at T n ≤ 40
  pub parameters : (i : ℕ) → (procedure_at T i).offset + (procedure_at T i).parameters ≤ length T.cells
  -- a mark is given only below 8
  pub marks : (n : ℕ) (x : Instruction) → slice_get T.code n ≡ Some x → fitting (effect_of T n x).gives ≡ true

abbrev pub CheckedTablesFitRows : Type 0
CheckedTablesFitRows = (T : Contents) → Checked T → FitsRows T

abbrev pub TransferStaysInside : Type 0
TransferStaysInside = (T : Contents) (n : ℕ) (s : Stack) (hs : List (ℕ × Stack)) → Checked T → transfer T n s ≡ Ok hs
    → Each (λ j r. (j < length T.code) × (owner T j ≡ owner T n)) hs

abbrev pub TransferFits : Type 0
TransferFits = (T : Contents) (n : ℕ) (s : Stack) (hs : List (ℕ × Stack)) → Checked T → transfer T n s ≡ Ok hs
    → Each (λ j r. cells_on r ≤ room_at T j) hs

abbrev pub TransferHandsRows : Type 0
TransferHandsRows = (T : Contents) (n : ℕ) (s : Stack) (hs : List (ℕ × Stack)) → Checked T → every proper s ≡ true → transfer T n s ≡ Ok hs
    → Each (λ j r. (length r ≤ 40) × (every proper r ≡ true)) hs
