-- A take that is refused leaves the host as it was.
use Rattle.std.proofs.Common.{◌≡◌, ℕ, Bool, true, false, cond, List, [], ◌∷◌, Ok, Err, Result, refl, ap, ◌∙◌, arith, MatchResult}
use Rattle.sheet.specs.declared.kind.Kind.{Kind}
use Rattle.sheet.specs.declared.stop.Stop.{Stop}
use Rattle.sheet.specs.declared.stop.Stop.TheVariants.{WrongInput}
use Rattle.sheet.specs.declared.value.Value.{Value}
use Rattle.host.specs.Hosts.{Meaning, suits, next_value, after_next, taken}

one_left : (b : Bool) (x : Value) (xs : List Value) (e : Stop) → ◌≡◌ {A = Result Value Stop} (Err e) (cond b (Ok x) (Err WrongInput)) → cond b xs (x ∷ xs) ≡ x ∷ xs
one_left true x xs e q = let z : ◌≡◌ {A = ℕ} 0 1 = cc in absurd (omega arith)
one_left false x xs e q = refl

all_left : (t : Kind) (ws : List Value) (e : Stop) → Err e ≡ next_value t ws → after_next t ws ≡ ws
all_left t [] e q = refl
all_left t (x ∷ xs) e q = one_left (suits t x) x xs e q

abbrev with_waiting : Meaning → List Value → Meaning
with_waiting h ws = record { waiting = ws; written = h.written; room = h.room }

pub refused_keeps : (t : Kind) (h k : Meaning) (r : Result Value Stop) → r ≡ next_value t h.waiting → k ≡ taken t h
    → MatchResult r (λ _. k ≡ taken t h) (λ _. k ≡ h)
refused_keeps t h k (Ok x) q e = e
refused_keeps t h k (Err w) q e = e ∙ ap (with_waiting h) (all_left t h.waiting w q)
