-- The walk over a list of calls: what is left gives the whole.
use Rattle.std.proofs.Common.{◌≡◌, ℕ, suc, ◌+◌, ◌<◌, ◌≤◌, List, [], ◌∷◌, ◌++◌, length, get_or, take, drop, set, sym, refl, ap, ◌∙◌, arith, take-append-drop}
use Rattle.std.proofs.lemmas.List.{take_more_set, drop_more, drop_all, drop-drop, drop-set-lt, take_at, append_assoc, append-nil}
use Rattle.sheet.specs.Tables.{Contents}
use Rattle.machine.specs.States.{State}
use Rattle.run.specs.declared.answer.Answer.{Answer}
use Rattle.run.specs.declared.answer.Call.{Call}
use Rattle.run.specs.Undergone.{after, One, one, told, state_after}

told_on : (T : Contents) (cs : List Call) (i : ℕ) (d : Call) (s t : State) (x : Answer) (xs : List Answer) → i < length cs → i < length xs
    → ◌≡◌ {A = One} (record { answer = x; state = t }) (one T (get_or cs i d) s) → take (i + 1) (set xs i x) ++ told T (drop (i + 1) cs) t ≡ take i xs ++ told T (drop i cs) s
unfolding told
told_on T cs i d s t x xs h j e =
    rw (take_more_set xs i x j, append_assoc, drop_more cs i d h) (λ k. take i xs ++ ((e k).answer ∷ told T (drop (i + 1) cs) (e k).state))

left_on : (T : Contents) (cs : List Call) (i : ℕ) (d : Call) (s t : State) (x : Answer) → i < length cs
    → ◌≡◌ {A = One} (record { answer = x; state = t }) (one T (get_or cs i d) s) → state_after T (drop (i + 1) cs) t ≡ state_after T (drop i cs) s
unfolding state_after
left_on T cs i d s t x h e = rw (drop_more cs i d h) (λ k. state_after T (drop (i + 1) cs) (e k).state)

-- after i calls of a list
pub record Walk (T : Contents) (calls : List Call) (s₀ : State) (xs₀ : List Answer) (i : ℕ) (s : State) (xs : List Answer) : Type 0 where
  pub tells : take i xs ++ told T (drop i calls) s ≡ told T calls s₀
  pub leaves : state_after T (drop i calls) s ≡ state_after T calls s₀
  pub rest : drop i xs ≡ drop i xs₀

module _ (T : Contents) (calls : List Call) (s₀ : State) (xs₀ : List Answer) where
  pub walk_begins : Walk T calls s₀ xs₀ 0 s₀ xs₀
  walk_begins = record { tells = refl; leaves = refl; rest = refl }

  pub walk_on : (T' : Contents) (i : ℕ) (d : Call) (s t : State) (x : Answer) (xs : List Answer) → T' ≡ T → i < length calls → i < length xs
      → ◌≡◌ {A = One} (record { answer = x; state = t }) (one T' (get_or calls i d) s) → Walk T calls s₀ xs₀ i s xs → Walk T calls s₀ xs₀ (i + 1) t (set xs i x)
  walk_on T' i d s t x xs q h j o w = let e = o ∙ ap (λ (U : Contents). one U (get_or calls i d) s) q in record {
    tells = told_on T calls i d s t x xs h j e ∙ w.tells;
    leaves = left_on T calls i d s t x h e ∙ w.leaves;
    rest = beyond xs i x ∙ (sym (further xs i) ∙ (ap (λ (ys : List Answer). drop 1 ys) w.rest ∙ further xs₀ i));
  }
    where
      further : (ys : List Answer) (i : ℕ) → drop 1 (drop i ys) ≡ drop (i + 1) ys
      further ys i = drop-drop 1 i ys

      beyond : (ys : List Answer) (i : ℕ) (y : Answer) → drop (i + 1) (set ys i y) ≡ drop (i + 1) ys
      beyond ys i y = drop-set-lt (i + 1) ys i y (omega arith)

  pub walk_ends : (i : ℕ) (s : State) (xs : List Answer) → length calls ≤ i → i ≤ length calls → Walk T calls s₀ xs₀ i s xs
      → (xs ≡ told T calls s₀ ++ drop (length calls) xs₀) × (s ≡ state_after T calls s₀)
  unfolding told state_after
  walk_ends i s xs h j w =
      let n : i ≡ length calls = omega arith in
      let d = drop_all i calls h in
      let t : take i xs ≡ told T calls s₀ = sym (rw (d, append-nil)) ∙ w.tells in
      let l : s ≡ state_after T calls s₀ = sym (rw d) ∙ w.leaves in
      (sym (take-append-drop i xs) ∙ (ap (λ (ys : List Answer). ys ++ drop i xs) t ∙ (ap (λ (ys : List Answer). told T calls s₀ ++ ys) w.rest ∙ ap (λ (k : ℕ). told T calls s₀ ++ drop k xs₀) n)), l)

-- the answers are as many as the calls
told_long : (T : Contents) (cs : List Call) (s : State) → length (told T cs s) ≡ length cs
unfolding told
told_long T [] s = refl
told_long T (c ∷ cs) s = ap suc (told_long T cs (after T c s))

pub first_told : (T : Contents) (cs : List Call) (s : State) (rest : List Answer) → take (length cs) (told T cs s ++ rest) ≡ told T cs s
first_told T cs s rest = take_at (told T cs s) rest (length cs) (told_long T cs s)
