-- What is promised of setting out, whatever the input. Cited by set_out. Assumes nothing.
--   Told: a text is the lines of some values, no more of them than there is room for, and one verdict behind them, whose
--     number is not 60 or above
--   EveryInputIsTold: so is whatever comes of an input
--   Runnable: an input is short enough, its table and its values are read, and the table keeps the rules of tables and of
--     operands, and breaks no stack rule on any path
--   OnlyRunnableInputsAreRun: exactly such an input is run, and any other is refused
use Rattle.std.specs.Prelude.{◌≡◌, ℕ, ◌/◌, ◌<◌, ◌≤◌, ◌↔◌, List, ◌++◌, length, Ok}
use Rattle.sheet.specs.declared.value.Value.{Value}
use Rattle.sheet.specs.Tables.{Contents}
use Rattle.columns.specs.Verdicts.{write_verdict}
use Rattle.judge.specs.Laws.{KeepsTheRules}
use Rattle.prepare.specs.Freely.{read_freely}
use Rattle.host.specs.Texts.{checked_values, lines_of, AllValues}
use Rattle.pegs.specs.Parts.{most_bytes, table_text, value_text}
use Rattle.pegs.specs.SetOuts.{attempted, set_out}

pub record Told (text : List ℕ) : Type 0 where
  pub values : List Value
  pub number : ℕ
  pub place : ℕ
  pub is : text ≡ lines_of values ++ write_verdict number place
  pub good : AllValues values
  pub few : length values ≤ most_bytes / 22
  pub low : number < 60

abbrev pub EveryInputIsTold : Type 0
EveryInputIsTold = (input : List ℕ) → Told (set_out input)

pub record Runnable (input : List ℕ) : Type 0 where
  pub short : length input ≤ most_bytes
  pub table : Contents
  pub read : read_freely (table_text input) ≡ Ok table
  pub values : List Value
  pub typed : checked_values (value_text input) ≡ Ok values
  pub keeps : KeepsTheRules table

abbrev pub OnlyRunnableInputsAreRun : Type 0
OnlyRunnableInputsAreRun = (input : List ℕ) → ((text : List ℕ) × (attempted input ≡ Ok text)) ↔ Runnable input
