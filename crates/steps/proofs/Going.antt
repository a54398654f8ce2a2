-- A run of steps, a step at a time.
use Rattle.std.proofs.Common.{◌≡◌, ℕ, suc, ◌+◌, ◌-◌, ◌<◌, ◌≤◌, Some, None, Ok, Err, Option, Result, sym, refl, ap, ◌∙◌, arith}
use Rattle.sheet.specs.Tables.{Contents}
use Rattle.machine.specs.declared.ending.Ending.{Ending}
use Rattle.machine.specs.Runs.{Went, go_on}
use Rattle.machine.specs.States.{State, Outcome, ended, gives}
use Rattle.machine.specs.Steps.{step}

pub made : (u : Unit {0}) (s t : State) (r : Result State Ending) → gives (Ok u) t ≡ ended s r → r ≡ Ok t
made u s t (Ok x) e = ap Ok (sym (ap (λ (z : Outcome Ending). z.state) e))
made u s t (Err w) e = let q : ◌≡◌ {A = Result (Unit {0}) Ending} (Ok u) (Err w) = ap (λ (z : Outcome Ending). z.answer) e in let z : ◌≡◌ {A = ℕ} 0 1 = cc in absurd (omega arith)

pub ended_by : (w : Ending) (s t : State) (r : Result State Ending) → gives (Err w) t ≡ ended s r → (r ≡ Err w) × (t ≡ s)
ended_by w s t (Ok x) e = let q : ◌≡◌ {A = Result (Unit {0}) Ending} (Err w) (Ok tt) = ap (λ (z : Outcome Ending). z.answer) e in let z : ◌≡◌ {A = ℕ} 0 1 = cc in absurd (omega arith)
ended_by w s t (Err v) e = let q : ◌≡◌ {A = Result (Unit {0}) Ending} (Err w) (Err v) = ap (λ (z : Outcome Ending). z.answer) e in let k : v ≡ w = cc in (ap Err k, ap (λ (z : Outcome Ending). z.state) e)

abbrev pub went : State → ℕ → Option Ending → Went
went s c w = record { state = s; count = c; ending = w }

abbrev turn : Contents → (n c : ℕ) → State → Result State Ending → Went
turn T n c s r = elim r [ Ok t ↦ go_on T n (c + 1) t | Err e ↦ went s c (Some e) ]

one_step : (T : Contents) (n c : ℕ) (s : State) → go_on T (suc n) c s ≡ turn T n c s (step T s)
unfolding go_on
one_step T n c s = refl

no_step : (T : Contents) (c : ℕ) (s : State) → go_on T 0 c s ≡ went s c None
unfolding go_on
no_step T c s = refl

pub go_more : (T : Contents) (n i : ℕ) (s t : State) → i < n → step T s ≡ Ok t → go_on T (n - i) i s ≡ go_on T (n - (i + 1)) (i + 1) t
go_more T n i s t h e =
    let k : n - i ≡ suc (n - (i + 1)) = omega arith in
    ap (λ (x : ℕ). go_on T x i s) k ∙ (one_step T (n - (i + 1)) i s ∙ ap (λ (r : Result State Ending). turn T (n - (i + 1)) i s r) e)

pub go_off : (T : Contents) (n i : ℕ) (s : State) (w : Ending) → i < n → step T s ≡ Err w → go_on T (n - i) i s ≡ went s i (Some w)
go_off T n i s w h e =
    let k : n - i ≡ suc (n - (i + 1)) = omega arith in
    ap (λ (x : ℕ). go_on T x i s) k ∙ (one_step T (n - (i + 1)) i s ∙ ap (λ (r : Result State Ending). turn T (n - (i + 1)) i s r) e)

pub go_all : (T : Contents) (n i : ℕ) (s : State) → n ≤ i → i ≤ n → go_on T (n - i) i s ≡ went s n None
go_all T n i s h j =
    let k : n - i ≡ 0 = omega arith in
    let e : i ≡ n = omega arith in
    ap (λ (x : ℕ). go_on T x i s) k ∙ (no_step T i s ∙ ap (λ (x : ℕ). went s x None) e)

pub go_none : (T : Contents) (n : ℕ) (s : State) → go_on T (n - 0) 0 s ≡ go_on T n 0 s
go_none T n s = let k : n - 0 ≡ n = omega arith in ap (λ (x : ℕ). go_on T x 0 s) k
