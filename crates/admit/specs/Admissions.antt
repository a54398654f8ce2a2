-- What admit answers, as a value. Cited by its contract and by the loop over the rows. Assumes nothing.
--   answer: the answer of a check that finds this fault, or none
--   rows_for: the rows that count: what the first records mean, one for each instruction
--   passing: a table passes where its checks do
--   admission: the passed table that holds just this table and these records, or the refusal
use Rattle.std.specs.Prelude.{List, length, take, Ok, Err, Result}
use Rattle.std.specs.Borrow.{Bor}
use Rattle.sheet.specs.declared.table.Table.{Table}
use Rattle.rules.specs.declared.fault.TableFault.{TableFault}
use Rattle.rules.specs.Faults.{passed}
use Rattle.rules.specs.Lookups.{contents_of}
use Rattle.paths.specs.Admitting.{Fault}
use Rattle.paths.specs.Rows.{Rows}
use Rattle.rows.specs.declared.row.Row.{Row}
use Rattle.transfer.specs.Stacks.{Stack}
use Rattle.judge.specs.declared.flaw.Flaw.{Flaw}
use Rattle.judge.specs.Admission.{named, admitted}
use Rattle.judge.specs.Handing.{meanings}
use Rattle.admit.specs.declared.Passed.{Passed}
use Rattle.admit.specs.Local.{Check}

abbrev pub answer : Fault Flaw → Check
answer f = passed (named f)

abbrev pub rows_for : Table → List Row → Rows Stack
rows_for t rs = meanings (take (length t.code.now) rs)

abbrev pub passing : Check → Passed → Result Passed TableFault
passing (Ok x) p = Ok p
passing (Err f) p = Err f

abbrev pub admission : Table → Bor (List Row) → Result Passed TableFault
admission t rs = passing (passed (admitted (contents_of t) (length rs.now) (rows_for t rs.now))) (record { table = t; rows = rs })
