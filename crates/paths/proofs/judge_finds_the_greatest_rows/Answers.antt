use Rattle.paths.proofs.Greatest.{judge_solves}
use Rattle.paths.proofs.judge_finds_the_greatest_rows.Goals as goal

pub returns : goal.returns
returns c = λ ρ law mono great. judge_solves ρ law mono great
