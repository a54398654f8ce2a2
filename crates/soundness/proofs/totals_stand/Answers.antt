use Rattle.soundness.proofs.Runs.{one_go, equal_totals}
use Rattle.soundness.proofs.totals_stand.Goals as goal

pub returns : goal.returns
returns c = record { one_go = one_go; law = equal_totals }
