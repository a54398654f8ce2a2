use Rattle.soundness.proofs.Admits.{admitted_runs_stay_typed}
use Rattle.soundness.proofs.Ground.{open_frames_lead_to_place_0}
use Rattle.soundness.proofs.promise_stands.Goals as goal

pub returns : goal.returns
returns c = record { typed = admitted_runs_stay_typed; frames = open_frames_lead_to_place_0 }
