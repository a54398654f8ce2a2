use Rattle.std.proofs.Common.{◌<◌, decimal, arith, rules}
use Rattle.std.proofs.lemmas.Fmt.{length-decimal-le}
use Rattle.numerals.proofs.Laws.{written_numbers_read_back}
use Rattle.numerals.proofs.Writing.{minus_written, signed_down}
use Rattle.numerals.proofs.write.write_signed.Goals as goal

pub overflow_sub-columns : goal.overflow_sub-columns
overflow_sub-columns c = omega (arith, c.write_natural-start.ensures.place, length-decimal-le 19 c.unsigned_abs.result (omega arith) (omega arith) (omega arith))

pub returns-then-z-lt0-clause-value : goal.returns-then-z-lt0-clause-value
returns-then-z-lt0-clause-value c =
    let k : 0 < c.write_natural-start.result.1 = omega (arith, c.write_natural-start.ensures.place, length-decimal-le 19 c.unsigned_abs.result (omega arith) (omega arith) (omega arith)) in
    grind (arith, minus_written c.write_natural-start.result.0 (decimal c.unsigned_abs.result) c.write_natural-start.result.1 c.write_natural-start.ensures.columns, signed_down c.args.z (search rules))

pub returns-then-z-lt0-clause-read : goal.returns-then-z-lt0-clause-read
returns-then-z-lt0-clause-read c = written_numbers_read_back

pub returns-else-z-lt0-clause-read : goal.returns-else-z-lt0-clause-read
returns-else-z-lt0-clause-read c = written_numbers_read_back
