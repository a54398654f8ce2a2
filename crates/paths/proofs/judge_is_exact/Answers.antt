use Rattle.paths.proofs.Exact.{judge_is_exact}
use Rattle.paths.proofs.judge_is_exact.Goals as goal

pub returns : goal.returns
returns c = judge_is_exact
