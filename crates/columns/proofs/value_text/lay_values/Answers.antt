use Rattle.std.proofs.Common.{◌≡◌, length, ap, arith}
use Rattle.numerals.specs.Lines.{lines, lines_left}
use Rattle.columns.specs.ValueText.{values_of, good_values}
use Rattle.columns.proofs.Laying.{over_laid}
use Rattle.columns.proofs.value_text.lay_values.Goals as goal

pub loop-line-init : goal.loop-line-init
loop-line-init c =
    let e : lines_left c.into_iter-line-iterator.result ≡ lines c.args.text.now = cc in
    (tt, tt, rw e (record { values = over_laid (good_values (values_of c.args.text.now)) c.args.values.now; how_many = omega arith }), omega (arith, ap length e, ap length c.new-line-items.ensures.lines))
