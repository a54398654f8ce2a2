-- The refusal of a flaw at an instruction. Cited by judge and admit. Assumes nothing.
use Rattle.std.specs.Prelude.{ℕ}
use Rattle.rules.specs.declared.fault.TableFault.{TableFault}
use Rattle.rules.specs.declared.fault.TableFault.TheVariants as fault
use Rattle.transfer.specs.declared.breach.Breach.TheVariants.{WrongStack, StackTooHigh, PastTheEnd}
use Rattle.judge.specs.declared.flaw.Flaw.{Flaw}
use Rattle.judge.specs.declared.flaw.Flaw.TheVariants.{Broken, Differs, TooHigh}

abbrev pub flaw_at : Flaw → ℕ → TableFault
flaw_at (Broken WrongStack) n = fault.WrongStack n
flaw_at (Broken StackTooHigh) n = fault.StackTooHigh n
flaw_at (Broken PastTheEnd) n = fault.PastTheEnd n
flaw_at Differs n = fault.StacksDiffer n
flaw_at TooHigh n = fault.RowTooHigh n
