-- What is found in a table that keeps the rules, stated on the functions that find it. Assumes nothing.
--   Owner: the procedure that instruction n lies in is there, begins at or below n, and is the last that does
--   OwnersBeginLast: so it is for every instruction of a table without a fault
--   RoomsAreSmall: no ent of a table without a fault of operands allows more than 40 cells
use Rattle.std.specs.Prelude.{◌≡◌, ℕ, ◌<◌, ◌≤◌, length, None}
use Rattle.sheet.specs.Tables.{Contents}
use Rattle.rules.specs.Lookups.{procedure_at, owner, room_at}
use Rattle.rules.specs.Operands.{operand_fault}
use Rattle.rules.specs.Procedures.{table_fault}

pub record Owner (T : Contents) (n o : ℕ) : Type 0 where
  pub there : o < length T.procedures
  pub begins : (procedure_at T o).first ≤ n
  pub last : (j : ℕ) → o < j → j < length T.procedures → n < (procedure_at T j).first

abbrev pub OwnersBeginLast : Type 0
OwnersBeginLast = (T : Contents) → table_fault T ≡ None → (n : ℕ) → Owner T n (owner T n)

abbrev pub RoomsAreSmall : Type 0
RoomsAreSmall = (T : Contents) → operand_fault T ≡ None → (n : ℕ) → room_at T n ≤ 40
