use Rattle.std.proofs.Common.{◌≡◌, true}
use Rattle.paths.proofs.Judging.{judge_keeps}
use Rattle.paths.proofs.judge_keeps_invariants.Goals as goal

pub returns : goal.returns
returns c = λ ρ law b closed. judge_keeps ρ law (λ i r. b i r ≡ true) closed
