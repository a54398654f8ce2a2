use Rattle.paths.proofs.Admitting.{admit_exact, scan_loop}
use Rattle.paths.proofs.Passes.{judge_passes}
use Rattle.paths.proofs.admit_is_exact.Goals as goal

pub returns : goal.returns
returns c = λ ρ fit starts apart. (admit_exact ρ fit starts apart, scan_loop ρ fit, λ law suits. judge_passes ρ fit law apart suits)
