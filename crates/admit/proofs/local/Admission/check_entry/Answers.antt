use Rattle.std.proofs.Common.{◌≡◌, Some, None, take, drop, sym, ap, ◌∙◌, arith}
use Rattle.std.proofs.lemmas.Result.{err_from_is_err_and}
use Rattle.rules.specs.Lookups.{contents_of}
use Rattle.rows.specs.Rows.{meaning}
use Rattle.judge.specs.Handing.{must_be}
use Rattle.judge.proofs.Entering.{entry_is}
use Rattle.admit.proofs.Lengths.{no_row_so_long}
use Rattle.admit.proofs.local.Admission.check_entry.Goals as goal

pub returns-in_err-parameters : goal.returns-in_err-parameters
returns-in_err-parameters c =
    let o : c.entry_row.result ≡ None = grind arith in
    let x : c.in_err-parameters.field-0.0 ≡ c.at.result = grind arith in
    let r = err_from_is_err_and c.from_residual.result c.from_residual.ensures.1 in
    rw (r.1, r.2) (
    no_row_so_long c.args.row (take c.args.procedure.parameters (drop c.args.procedure.offset c.args.self.now.table.cells.now)) c.args.i c.in_err-parameters.field-0.0
    (sym c.entry_row.ensures ∙ o) (x ∙ c.at.ensures))

pub returns : goal.returns
returns c =
    let o : c.entry_row.result ≡ Some c.in_ok-parameters.parameters = grind arith in
    let q = entry_is (contents_of c.args.self.now.table) c.args.procedure c.in_ok-parameters.parameters (sym c.entry_row.ensures ∙ o) in
    c.must_be.ensures.rows q.0 ∙ ap (must_be (meaning c.args.row) c.args.i) q.1
