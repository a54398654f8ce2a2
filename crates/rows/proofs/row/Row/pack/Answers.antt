use Rattle.std.proofs.Common.{sym, ap, ◌∙◌, set, arith}
use Rattle.rows.specs.Entries.{proper}
use Rattle.rows.proofs.Laws.{every_on}
use Rattle.rows.proofs.Packing.{written_more}
use Rattle.rows.proofs.row.Row.pack.Goals as goal

pub loop-i-preserved : goal.loop-i-preserved
loop-i-preserved c =
    let es = c.as_slice-entries.result.now in
    let i = c.loop-i.i in (
      ap (λ b. set c.loop-i.bytes i b) c.from.ensures ∙ written_more es i _ c.loop-i.bytes (omega arith) c.loop-i-test.true c.loop-i.invariant.0,
      every_on proper es i _ c.loop-i-test.true (sym c.is_proper.ensures ∙ c.if-not-is_proper.false) c.loop-i.invariant.1,
    )
