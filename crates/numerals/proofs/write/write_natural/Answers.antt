use Rattle.std.proofs.Common.{arith}
use Rattle.numerals.proofs.Writing.{part_more, part_room}
use Rattle.numerals.proofs.write.write_natural.Goals as goal

pub loop-i-preserved : goal.loop-i-preserved
loop-i-preserved c =
    part_more c.loop-i.columns c.args.n c.loop-i.n c.loop-i.i _ _ c.last_digit-front.ensures.front c.last_digit-front.ensures.digit (omega arith) (omega arith) c.if-n-eq0.false c.loop-i.invariant

pub returns : goal.returns
returns c = absurd (part_room c.loop-i.columns c.args.n c.loop-i.n c.loop-i.i (omega arith) c.loop-i.invariant)
