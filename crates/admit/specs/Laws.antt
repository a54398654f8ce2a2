-- Which tables pass. Cited by the contract of admit. Assumes nothing.
--   Right: the rows that the records of a passed table mean are locally right
--   PassesExactlyRightRows: a table passes exactly where records enough are lent for it and the rows that they mean are
--     locally right
use Rattle.std.specs.Prelude.{◌≡◌, ◌≤◌, ◌↔◌, List, length, Ok}
use Rattle.std.specs.Borrow.{Bor}
use Rattle.sheet.specs.declared.table.Table.{Table}
use Rattle.rules.specs.Lookups.{contents_of}
use Rattle.rows.specs.declared.row.Row.{Row}
use Rattle.judge.specs.AdmissionLaws.{LocallyRight}
use Rattle.admit.specs.declared.Passed.{Passed}
use Rattle.admit.specs.Admissions.{rows_for, admission}

abbrev pub Right : Passed → Type 0
Right p = LocallyRight (contents_of p.table) (rows_for p.table p.rows.now)

abbrev pub PassesExactlyRightRows : Type 0
PassesExactlyRightRows = (t : Table) (rs : Bor (List Row)) → ((p : Passed) × (admission t rs ≡ Ok p)) ↔ ((length t.code.now ≤ length rs.now) × LocallyRight (contents_of t) (rows_for t rs.now))
