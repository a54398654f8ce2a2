-- What the check of the rules of tables means, stated on its contract. Assumes nothing.
--   CountsRule, ProcedureRule, TableRule: the rules of tables
--   TableIsChecked: no fault is found exactly where the rules hold
--   TableNames: a fault names 0 where the counts are wrong, else the lowest procedure that breaks its rule
use Rattle.std.specs.Prelude.{◌≡◌, ℕ, ◌-◌, ◌<◌, ◌≤◌, ◌⊎◌, length, Some, None}
use Rattle.sheet.specs.declared.procedure.Procedure.{Procedure}
use Rattle.sheet.specs.Tables.{Contents}
use Rattle.rules.specs.declared.fault.TableFault.{TableFault}
use Rattle.rules.specs.declared.fault.TableFault.TheVariants.{IllFormed}
use Rattle.rules.specs.Lookups.{procedure_at, ancestor}
use Rattle.rules.specs.Procedures.{start_of, end_of, table_fault}
use Rattle.rules.specs.Throughout.{HoldsThroughout, BreaksFirst}

pub record CountsRule (T : Contents) : Type 0 where
  pub some_code : 1 ≤ length T.code
  pub code_fits : length T.code ≤ 4096
  pub some_procedures : 1 ≤ length T.procedures
  pub procedures_fit : length T.procedures ≤ 64

-- procedure n, which is P
pub record ProcedureRule (T : Contents) (n : ℕ) (P : Procedure) : Type 0 where
  pub main : n ≡ 0 → (P.parent ≡ 0) × (P.first ≡ 0) × (P.parameters ≡ 0) × (P.result ≡ None)
  pub parent_is_lower : 0 < n → P.parent < n
  pub first_rises : 0 < n → (procedure_at T (n - 1)).first < P.first
  pub first_is_inside : P.first < length T.code
  -- at most 7 parents lead to procedure 0
  pub depth : ancestor T 8 n ≡ None
  pub few_parameters : P.parameters ≤ 35
  pub parameters_are_cells : P.parameters ≤ P.count
  pub few_cells : P.count ≤ 250
  pub cells_follow : P.offset ≡ start_of T n
  pub cells_are_there : end_of P ≤ length T.cells

pub record TableRule (T : Contents) : Type 0 where
  pub counts : CountsRule T
  pub each : HoldsThroughout (ProcedureRule T) T.procedures

abbrev pub TableIsChecked : Type 0
TableIsChecked = (T : Contents) → (table_fault T ≡ None → TableRule T) × (TableRule T → table_fault T ≡ None)

abbrev pub TableNames : Type 0
TableNames = (T : Contents) (f : TableFault) → table_fault T ≡ Some f
    → (n : ℕ) × (f ≡ IllFormed n) × (((n ≡ 0) × (CountsRule T → ⊥)) ⊎ (CountsRule T × BreaksFirst (ProcedureRule T) T.procedures n))
