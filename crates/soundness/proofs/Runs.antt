-- Lists of calls: the frames hold before and after each, and what they leave depends on the steps made.
use Rattle.std.proofs.Common.{◌≡◌, ℕ, zero, suc, ◌+◌, ◌<◌, Bool, true, false, cond, List, [], ◌∷◌, Some, Ok, Err, Result, sym, refl, ap, ◌∙◌, subst, suc-add, zero-add, arith}
use Rattle.sheet.specs.Tables.{Contents}
use Rattle.machine.specs.declared.ending.Ending.{Ending}
use Rattle.machine.specs.Endings.{ending_of}
use Rattle.machine.specs.Runs.{Went, go_on, go}
use Rattle.machine.specs.States.{State}
use Rattle.machine.specs.Steps.{step}
use Rattle.soundness.specs.Frames.{Rows}
use Rattle.soundness.specs.Runs.{Call, goes, looks, reports, in_reach, left, total, StaysTyped, CallsLeaveWhatOneGoLeaves, EqualTotalsLeaveEqualStates}
use Rattle.soundness.proofs.Rules.{Ruled}
use Rattle.soundness.proofs.Invariant.{Sound, EndsWell}
use Rattle.soundness.proofs.Steps.{keeps}
use Rattle.soundness.proofs.Opens.{all_hold}

-- one turn of a go, by what the step comes to
abbrev went : Contents → (n c : ℕ) → State → Result State Ending → Went
went T n c s (Ok t) = go_on T n (c + 1) t
went T n c s (Err e) = record { state = s; count = c; ending = Some e }

turn : (T : Contents) (n c : ℕ) (s : State) → go_on T (suc n) c s ≡ went T n c s (step T s)
unfolding go_on
turn T n c s = by (step T s)
  where
    by : (r : Result State Ending) → (elim r as (λ _. Went) [ Ok t ↦ go_on T n (c + 1) t | Err e ↦ record { state = s; count = c; ending = Some e } ]) ≡ went T n c s r
    by (Ok t) = refl
    by (Err e) = refl

module _ (T : Contents) (rows : Rows) (J : Ruled T rows) where
  abbrev Well : Went → Type 0
  Well w = Sound T rows w.state × (ending_of w.ending < 60)

  pub go_on_keeps : (n c : ℕ) (s : State) → Sound T rows s → Well (go_on T n c s)
  unfolding go_on
  go_on_keeps zero c s S = (S, omega arith)
  go_on_keeps (suc n) c s S = subst Well (sym (turn T n c s)) (by (step T s) (keeps T rows J s S) (go_on_keeps n (c + 1)))
    where
      by : (r : Result State Ending) → EndsWell (Sound T rows) r → ((t : State) → Sound T rows t → Well (go_on T n (c + 1) t)) → Well (went T n c s r)
      by (Ok t) h more = more t h
      by (Err e) h more = (S, h)

  looked : (b : Bool) → cond b 0 35 < 60
  looked true = omega arith
  looked false = omega arith

  pub stays : (cs : List Call) (s : State) → Sound T rows s → StaysTyped T rows cs s
  stays [] s S = all_hold T rows s J S
  stays (goes n ∷ cs) s S = let g = go_on_keeps n 0 s S in (all_hold T rows s J S, g.1, stays cs (go T n s).state g.0)
  stays (looks x ∷ cs) s S = (all_hold T rows s J S, looked (in_reach x s), stays cs s S)
  stays (reports ∷ cs) s S = (all_hold T rows s J S, omega arith, stays cs s S)

-- Turns: each is a step, or nothing where none can be made.
module _ (T : Contents) where
  abbrev turned : State → Result State Ending → State
  turned s (Ok t) = t
  turned s (Err e) = s

  abbrev turns : ℕ → State → State
  turns zero s = s
  turns (suc n) s = turns n (turned s (step T s))

  turns_add : (m n : ℕ) (s : State) → turns (m + n) s ≡ turns n (turns m s)
  turns_add zero n s = rw zero-add
  turns_add (suc m) n s = rw suc-add (turns_add m n (turned s (step T s)))

  turns_stuck : (n : ℕ) (e : Ending) (s : State) → step T s ≡ Err e → turns n s ≡ s
  turns_stuck zero e s q = refl
  turns_stuck (suc n) e s q = rw q (turns_stuck n e s q)

  -- a go is as many turns as it makes steps, and the turns asked for come to the same
  record Turned (n c : ℕ) (s : State) (w : Went) : Type 0 where
    made : ℕ
    count_is : w.count ≡ c + made
    state_is : w.state ≡ turns n s
    enough : turns made s ≡ turns n s

  go_turned : (n c : ℕ) (s : State) → Turned n c s (go_on T n c s)
  unfolding go_on
  go_turned zero c s = record { made = 0; count_is = omega arith; state_is = refl; enough = refl }
  go_turned (suc n) c s = subst (Turned (suc n) c s) (sym (turn T n c s)) (by (step T s) refl (go_turned n (c + 1)))
    where
      by : (r : Result State Ending) → step T s ≡ r → ((t : State) → Turned n (c + 1) t (go_on T n (c + 1) t)) → Turned (suc n) c s (went T n c s r)
      by (Ok t) e more =
          let m = more t in
          let k = m.count_is in
          record {
            made = suc m.made;
            count_is = omega arith;
            state_is = m.state_is ∙ ap (λ (x : Result State Ending). turns n (turned s x)) (sym e);
            enough = ap (λ (x : Result State Ending). turns m.made (turned s x)) e ∙ (m.enough ∙ ap (λ (x : Result State Ending). turns n (turned s x)) (sym e));
          }
      by (Err x) e more = record { made = 0; count_is = omega arith; state_is = sym (turns_stuck (suc n) x s e); enough = sym (turns_stuck (suc n) x s e) }

  go_is : (n : ℕ) (s : State) → (go T n s).state ≡ turns (go T n s).count s
  go_is n s =
      let g = go_turned n 0 s in
      let k : (go T n s).count ≡ g.made = (let q = g.count_is in omega arith) in
      g.state_is ∙ (sym g.enough ∙ ap (λ (m : ℕ). turns m s) (sym k))

  left_is : (cs : List Call) (s : State) → left T cs s ≡ turns (total T cs s) s
  left_is [] s = refl
  left_is (goes n ∷ cs) s =
      left_is cs (go T n s).state ∙ (ap (λ (t : State). turns (total T cs (go T n s).state) t) (go_is n s)
      ∙ sym (turns_add (go T n s).count (total T cs (go T n s).state) s))
  left_is (looks x ∷ cs) s = left_is cs s ∙ ap (λ (m : ℕ). turns m s) (sym (zero-add (total T cs s)))
  left_is (reports ∷ cs) s = left_is cs s ∙ ap (λ (m : ℕ). turns m s) (sym (zero-add (total T cs s)))

pub one_go : CallsLeaveWhatOneGoLeaves
one_go T cs s = left_is T cs s ∙ sym (go_turned T (total T cs s) 0 s).state_is

pub equal_totals : EqualTotalsLeaveEqualStates
equal_totals T cs ds s e = left_is T cs s ∙ (ap (λ (n : ℕ). turns T n s) e ∙ sym (left_is T ds s))
