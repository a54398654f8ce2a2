-- What admit answers. Cited by its contract and by the laws on it. Assumes nothing.
--   rows_fault: fewer rows than there are instructions
--   admitted: the refusal of a table with these rows, if any: 20, 26, 21, then the first row at fault
use Rattle.std.specs.Prelude.{ℕ, cond, length, Some, None, Option, nat_le}
use Rattle.std.specs.Option.{option_or}
use Rattle.sheet.specs.Tables.{Contents}
use Rattle.rules.specs.declared.fault.TableFault.{TableFault}
use Rattle.rules.specs.declared.fault.TableFault.TheVariants.{TooFewPlaces}
use Rattle.rules.specs.Operands.{operand_fault}
use Rattle.rules.specs.Procedures.{table_fault}
use Rattle.paths.specs.Admitting.{Fault, admit}
use Rattle.paths.specs.Rows.{Rows}
use Rattle.transfer.specs.Stacks.{Stack}
use Rattle.judge.specs.declared.flaw.Flaw.{Flaw}
use Rattle.judge.specs.Flaws.{flaw_at}
use Rattle.judge.specs.Flow.{stacks, fit}

abbrev pub rows_fault : Contents → ℕ → Option TableFault
rows_fault T r = cond (nat_le (length T.code) r) None (Some TooFewPlaces)

abbrev pub named : Fault Flaw → Option TableFault
named None = None
named (Some x) = Some (flaw_at x.0 x.1)

-- r records are lent, and the first of them, one for each instruction, mean these rows
abbrev pub admitted : Contents → (r : ℕ) → Rows Stack → Option TableFault
admitted T r rows = option_or (table_fault T) (option_or (rows_fault T r) (option_or (operand_fault T) (named (admit (stacks T) (fit T) rows))))
