-- What an instruction answers and leaves, as what a step does.
use Rattle.std.proofs.Common.{◌≡◌, ℕ, ◌+◌, List, Ok, Err, Result, sym, refl, ap, ◌∙◌}
use Rattle.sheet.specs.declared.place.CodePlace.{CodePlace}
use Rattle.sheet.specs.declared.stop.Stop.{Stop}
use Rattle.sheet.specs.Tables.{Contents}
use Rattle.arith.specs.Answers.{Answer}
use Rattle.store.specs.declared.cell.Cell.{Cell}
use Rattle.host.specs.Hosts.{Meaning}
use Rattle.machine.specs.declared.ending.Ending.{Ending}
use Rattle.machine.specs.declared.ending.Ending.TheVariants.{Stopped}
use Rattle.machine.specs.declared.machine.Machine.{Machine}
use Rattle.machine.specs.declared.operation.Operation.{Operation}
use Rattle.machine.specs.Endings.{stopping}
use Rattle.machine.specs.Machine.{CarriesOut, CarriesOutWith, state_of}
use Rattle.machine.specs.States.{State, Outcome, code_at, ended, gives}
use Rattle.machine.specs.Steps.{perform}

abbrev as_step : Outcome Stop → Outcome Ending
as_step o = gives (stopping o.answer) o.state

ended_step : (s : State) (a : Answer State) → as_step (ended s a) ≡ ended s (stopping a)
ended_step s (Ok t) = refl
ended_step s (Err w) = refl

-- operation i is j, which is carried out as f
carried : (T : Contents) (n : ℕ) (s : State) {i j : Operation} {next : CodePlace} {t : State} {b : Answer (Unit {0})} {r : Result (Unit {0}) Ending}
    → i ≡ j → next ≡ code_at (n + 1) → (f : CodePlace → State → Answer State) → perform T n j s ≡ stopping (f (code_at (n + 1)) s)
    → r ≡ stopping b → gives b t ≡ ended s (f next s) → gives r t ≡ ended s (perform T n i s)
carried T n s {i = i} {j = j} {next = next} {t = t} is at_next f performed answered left =
    ap (λ (x : Result (Unit {0}) Ending). gives x t) answered
    ∙ (ap as_step left
    ∙ (ended_step s (f next s)
    ∙ (ap (λ (x : CodePlace). ended s (stopping (f x s))) at_next
    ∙ (ap (λ (x : Result State Ending). ended s x) (sym performed)
    ∙ ap (λ (x : Operation). ended s (perform T n x s)) (sym is)))))

-- the answer, the machine and the host are those that the call gave and left
module _ {S H : Type 0} (cells : S → List Cell) (T : Contents) (n : ℕ) (means : H → Meaning) {before after m : Machine S} {host k : H} {i j : Operation} {next : CodePlace} {b d : Answer (Unit {0})} {r : Result (Unit {0}) Ending} where
  pub carried_out : i ≡ j → next ≡ code_at (n + 1) → (f : CodePlace → State → Answer State) → ((s : State) → perform T n j s ≡ stopping (f (code_at (n + 1)) s))
      → r ≡ stopping d → d ≡ b → m ≡ after → k ≡ host → CarriesOut cells b before after (f next) → CarriesOutWith cells r before (means host) m (means k) (perform T n i)
  carried_out is at_next f performed answered told machine_is host_is out =
      let s = state_of cells before (means host) in
      rw (machine_is, host_is) (record { store = out.store; state = carried T n s is at_next f (performed s) (answered ∙ ap stopping told) (out.state (means host)) })

  pub carried_out_with : {left : H} → i ≡ j → next ≡ code_at (n + 1) → (f : CodePlace → State → Answer State) → ((s : State) → perform T n j s ≡ stopping (f (code_at (n + 1)) s))
      → r ≡ stopping d → d ≡ b → m ≡ after → k ≡ left → CarriesOutWith cells b before (means host) after (means left) (f next)
      → CarriesOutWith cells r before (means host) m (means k) (perform T n i)
  carried_out_with is at_next f performed answered told machine_is host_is out =
      let s = state_of cells before (means host) in
      rw (machine_is, host_is) (record { store = out.store; state = carried T n s is at_next f (performed s) (answered ∙ ap stopping told) out.state })

pub stopped : {b : Answer (Unit {0})} {r : Result (Unit {0}) Ending} {y : Ending} {w : Stop} → r ≡ Err y → y ≡ Stopped w → b ≡ Err w → r ≡ stopping b
stopped p q e = p ∙ (ap Err q ∙ sym (ap stopping e))

pub went_on : {b : Answer (Unit {0})} {u : Unit {0}} → b ≡ Ok u → Ok u ≡ stopping b
went_on e = sym (ap stopping e)
