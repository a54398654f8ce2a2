use Rattle.pegs.proofs.Promises.{only_runnable_inputs_are_run}
use Rattle.pegs.proofs.set_out.set_out.Goals as goal

pub returns-in-Ok-clause-run : goal.returns-in-Ok-clause-run
returns-in-Ok-clause-run c = only_runnable_inputs_are_run

pub returns-in-Err-NoMemory-clause-run : goal.returns-in-Err-NoMemory-clause-run
returns-in-Err-NoMemory-clause-run c = only_runnable_inputs_are_run

pub returns-clause-run : goal.returns-clause-run
returns-clause-run c = only_runnable_inputs_are_run
