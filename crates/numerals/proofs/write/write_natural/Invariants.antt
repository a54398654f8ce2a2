use Rattle.numerals.proofs.Writing.{Part}
use Rattle.numerals.proofs.write.write_natural.Given as goal

abbrev pub invariant-loop-i : goal.invariant-loop-i
invariant-loop-i l = Part l.columns l.initial.n l.n l.i
