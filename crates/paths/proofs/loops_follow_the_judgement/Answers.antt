use Rattle.paths.proofs.Entering.{entry_loop}
use Rattle.paths.proofs.Loops.{order, work_loop}
use Rattle.paths.proofs.loops_follow_the_judgement.Goals as goal

pub returns : goal.returns
returns c = λ ρ law. (order ρ, work_loop ρ law, entry_loop ρ)
