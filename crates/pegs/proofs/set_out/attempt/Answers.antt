use Rattle.std.proofs.Common.{length, take, Err, sym, ap, ◌∙◌}
use Rattle.std.proofs.lemmas.Result.{err_from_is_err_and}
use Rattle.sheet.specs.Tables.{Contents}
use Rattle.rules.specs.Lookups.{contents_of}
use Rattle.prepare.proofs.Reading.{fronts_are, reads}
use Rattle.host.specs.Hosts.{Meaning}
use Rattle.host.specs.Meanings.{meaning_of_lines}
use Rattle.host.specs.Texts.{checked_values}
use Rattle.pegs.specs.declared.fault.Failure.TheVariants as failure
use Rattle.pegs.specs.declared.fault.Refusal.TheVariants as refusal
use Rattle.pegs.specs.SetOuts.{run_if_right, waiting, attempted}
use Rattle.pegs.proofs.Attempting.{comes_to, refuses, by_text, by_values, by_run, values_refused, values_typed, written}
use Rattle.pegs.proofs.set_out.attempt.Goals as goal

pub returns-in_err-extent : goal.returns-in_err-extent
returns-in_err-extent c =
    let r = err_from_is_err_and c.from_residual-in_err-extent.result c.from_residual-in_err-extent.ensures.1 in
    let p = c.in_ok-parts.ensures in
    refuses _ (attempted c.args.input.now) (failure.Refused (refusal.Text c.in_err-extent.field-0.0)) c.from_residual-in_err-extent.result (r.1 ∙ ap Err r.2)
    (by_text c.args.input.now c.in_ok-parts.parts.table.now c.in_ok-parts.parts.values.now p.short p.table p.values
    c.in_ok-parts.parts.lines c.deref_mut.result.now c.deref_mut-2.result.now c.deref_mut-3.result.now p.lines
    (c.deref_mut.ensures.len ∙ c.in_ok-procedures.ensures.len) (c.deref_mut-2.ensures.len ∙ c.in_ok-cells.ensures.len) (c.deref_mut-3.ensures.len ∙ c.in_ok-code.ensures.len)
    c.in_err-extent.field-0.0 c.in_err-extent.ensures.value)

pub returns-in_err-host : goal.returns-in_err-host
returns-in_err-host c =
    let r = err_from_is_err_and c.from_residual-in_err-host.result c.from_residual-in_err-host.ensures.1 in
    let p = c.in_ok-parts.ensures in
    let q = c.in_ok-extent.ensures in
    let t = reads c.in_ok-parts.parts.table.now c.deref_mut.result.now c.read_table.new.procedures c.deref_mut-2.result.now c.read_table.new.cells c.deref_mut-3.result.now c.read_table.new.code c.in_ok-extent.extent
    q.value q.procedures q.cells q.code in
    let v = values_refused (checked_values c.in_ok-parts.parts.values.now) (length c.deref_mut-4.result.now) c.in_ok-parts.parts.lines c.in_err-host.field-0.0 c.in_err-host.ensures in
    refuses _ (attempted c.args.input.now) (failure.Refused c.in_err-host.field-0.0) c.from_residual-in_err-host.result (r.1 ∙ ap Err r.2)
    (by_values c.args.input.now c.in_ok-parts.parts.table.now c.in_ok-parts.parts.values.now p.short p.table p.values
    c.in_ok-parts.parts.lines c.deref_mut.result.now c.deref_mut-2.result.now c.deref_mut-3.result.now p.lines
    (c.deref_mut.ensures.len ∙ c.in_ok-procedures.ensures.len) (c.deref_mut-2.ensures.len ∙ c.in_ok-cells.ensures.len) (c.deref_mut-3.ensures.len ∙ c.in_ok-code.ensures.len)
    t.table t.answer v.0 v.1 ∙ ap Err (sym v.2))

pub run_if_right-requires : goal.run_if_right-requires
run_if_right-requires c =
    let v = values_typed (checked_values c.in_ok-parts.parts.values.now) (length c.deref_mut-4.result.now) c.in_ok-parts.parts.lines (meaning_of_lines c.in_ok-host.host) (c.deref_mut-4.ensures.len ∙ c.in_ok-written.ensures.len) c.in_ok-host.ensures in
    ap (λ (h : Meaning). h.written) v.means

pub returns : goal.returns
returns c =
    let p = c.in_ok-parts.ensures in
    let q = c.in_ok-extent.ensures in
    let e = c.in_ok-extent.extent in
    let U = contents_of c.table_in.result in
    let t = reads c.in_ok-parts.parts.table.now c.deref_mut.result.now c.read_table.new.procedures c.deref_mut-2.result.now c.read_table.new.cells c.deref_mut-3.result.now c.read_table.new.code e
    q.value q.procedures q.cells q.code in
    let f = c.table_in.ensures in
    let same = fronts_are U e c.read_table.new.procedures c.read_table.new.cells c.read_table.new.code
    (f.procedures ∙ ap (take e.procedures) (written _ _ _ _ (sym (c.read_table.auto.procedures ∙ c.deref_mut.ensures.len)) c.deref.ensures.value))
    (f.cells ∙ ap (take e.cells) (written _ _ _ _ (sym (c.read_table.auto.cells ∙ c.deref_mut-2.ensures.len)) c.deref-2.ensures.value))
    (f.code ∙ ap (take e.code) (written _ _ _ _ (sym (c.read_table.auto.code ∙ c.deref_mut-3.ensures.len)) c.deref-3.ensures.value))
    ∙ t.holds in
    let v = values_typed (checked_values c.in_ok-parts.parts.values.now) (length c.deref_mut-4.result.now) c.in_ok-parts.parts.lines (meaning_of_lines c.in_ok-host.host) (c.deref_mut-4.ensures.len ∙ c.in_ok-written.ensures.len) c.in_ok-host.ensures in
    comes_to _ (attempted c.args.input.now) (run_if_right U (meaning_of_lines c.in_ok-host.host)) c.run_if_right.result
    (by_run c.args.input.now c.in_ok-parts.parts.table.now c.in_ok-parts.parts.values.now p.short p.table p.values
    c.in_ok-parts.parts.lines c.deref_mut.result.now c.deref_mut-2.result.now c.deref_mut-3.result.now p.lines
    (c.deref_mut.ensures.len ∙ c.in_ok-procedures.ensures.len) (c.deref_mut-2.ensures.len ∙ c.in_ok-cells.ensures.len) (c.deref_mut-3.ensures.len ∙ c.in_ok-code.ensures.len)
    t.table t.answer v.values v.good
    ∙ ap (λ (T : Contents). run_if_right T (waiting v.values)) (sym same)
    ∙ ap (λ (h : Meaning). run_if_right U h) (sym v.means))
    c.run_if_right.ensures
