-- Every refusal has its cause.
use Rattle.std.proofs.Common.{◌≡◌, ℕ, ◌+◌, Bool, true, false, cond, List, [], ◌∷◌, ◌++◌, Some, None, Ok, Option, refl, ap, subst, arith}
use Rattle.columns.specs.declared.table_text.Extent.{Extent}
use Rattle.columns.specs.declared.fault.TextFault.TheVariants.{Malformed, Misplaced, TooLong}
use Rattle.columns.specs.Faults.{refuse}
use Rattle.columns.specs.Scans.{first_failing}
use Rattle.columns.specs.TableText.{Form, Order, Room, lines_of, counted, start, passes, first_fault, read_by}
use Rattle.columns.specs.Causes.{tally, AllPass, FirstToFail, Clear, Justified, RefusedForCause}

module _ {C X : Type 0} (count : C → X → C) (test : C → X → Bool) where
  none_passes : (c : C) → AllPass count test c []
  none_passes c [] x back e = let z : ◌≡◌ {A = ℕ} 0 1 = cc in absurd (omega arith)
  none_passes c (y ∷ front) x back e = let z : ◌≡◌ {A = ℕ} 0 1 = cc in absurd (omega arith)

  one_more_passes : (c : C) (x : X) (xs : List X) → test c x ≡ true → AllPass count test (count c x) xs → AllPass count test c (x ∷ xs)
  one_more_passes c x xs t all [] y back e = let same : x ≡ y = cc in subst (λ (z : X). test c z ≡ true) same t
  one_more_passes c x xs t all (z ∷ front) y back e =
      let same : x ≡ z = cc in
      let rest : xs ≡ front ++ (y ∷ back) = cc in
      subst (λ (w : X). test (tally count (count c w) front) y ≡ true) same (all front y back rest)

  pub none_by : (c : C) (n : ℕ) (x : X) (xs : List X) (b : Bool) → test c x ≡ b → cond b (first_failing count test (count c x) (n + 1) xs) (Some n) ≡ None
      → (test c x ≡ true) × (first_failing count test (count c x) (n + 1) xs ≡ None)
  none_by c n x xs true e h = (e, h)
  none_by c n x xs false e h = grind arith

  pub all_pass : (c : C) (n : ℕ) (xs : List X) → first_failing count test c n xs ≡ None → AllPass count test c xs
  all_pass c n [] h = none_passes c
  all_pass c n (x ∷ xs) h = let p = none_by c n x xs (test c x) refl h in one_more_passes c x xs p.0 (all_pass (count c x) (n + 1) xs p.1)

  -- counted from n
  abbrev FailsFrom : C → ℕ → List X → ℕ → Type 0
  FailsFrom c n xs m = (k : ℕ) × (m ≡ n + k) × FirstToFail count test c xs (k + 1)

  further : (c : C) (n : ℕ) (x : X) (xs : List X) (m : ℕ) → test c x ≡ true → FailsFrom (count c x) (n + 1) xs m → FailsFrom c n (x ∷ xs) m
  further c n x xs m t (k, e, f) = (
    k + 1,
    omega arith,
    record {
      front = x ∷ f.front;
      line = f.line;
      back = f.back;
      whole = ap (λ l. x ∷ l) f.whole;
      place = omega (arith, f.place);
      fails = f.fails;
      before = one_more_passes c x f.front t f.before;
    },
  )

  at_once : (c : C) (n : ℕ) (x : X) (xs : List X) (m : ℕ) → test c x ≡ false → n ≡ m → FailsFrom c n (x ∷ xs) m
  at_once c n x xs m t e =
      (0, omega arith, record { front = []; line = x; back = xs; whole = refl; place = omega arith; fails = t; before = none_passes c })

  some_by : (c : C) (n : ℕ) (x : X) (xs : List X) (m : ℕ) (b : Bool) → test c x ≡ b → cond b (first_failing count test (count c x) (n + 1) xs) (Some n) ≡ Some m
      → (first_failing count test (count c x) (n + 1) xs ≡ Some m → FailsFrom (count c x) (n + 1) xs m) → FailsFrom c n (x ∷ xs) m
  some_by c n x xs m true e h deeper = further c n x xs m e (deeper h)
  some_by c n x xs m false e h deeper = at_once c n x xs m e (cc)

  fails_from : (c : C) (n : ℕ) (xs : List X) (m : ℕ) → first_failing count test c n xs ≡ Some m → FailsFrom c n xs m
  fails_from c n [] m h = grind arith
  fails_from c n (x ∷ xs) m h = some_by c n x xs m (test c x) refl h (fails_from (count c x) (n + 1) xs m)

  pub first_fails : (c : C) (xs : List X) (m : ℕ) → first_failing count test c 1 xs ≡ Some m → FirstToFail count test c xs m
  first_fails c xs m h =
      let f = fails_from c 1 xs m h in
      let e : f.0 + 1 ≡ m = omega (arith, f.1) in
      subst (λ (k : ℕ). FirstToFail count test c xs k) e f.2

room_by : (room : Extent) (text : List ℕ) (o : Option ℕ) → first_fault (Room room) text ≡ o → Clear Form text → Clear Order text
    → Justified room text (read_by (refuse TooLong o (Ok tt)) text)
room_by room text None e f g = (f, g, all_pass counted (passes (Room room)) start 1 (lines_of text) e)
room_by room text (Some n) e f g = (f, g, first_fails counted (passes (Room room)) start (lines_of text) n e)

order_by : (room : Extent) (text : List ℕ) (o : Option ℕ) → first_fault Order text ≡ o → Clear Form text
    → Justified room text (read_by (refuse Misplaced o (refuse TooLong (first_fault (Room room) text) (Ok tt))) text)
order_by room text None e f = room_by room text (first_fault (Room room) text) refl f (all_pass counted (passes Order) start 1 (lines_of text) e)
order_by room text (Some n) e f = (f, first_fails counted (passes Order) start (lines_of text) n e)

form_by : (room : Extent) (text : List ℕ) (o : Option ℕ) → first_fault Form text ≡ o
    → Justified room text (read_by (refuse Malformed o (refuse Misplaced (first_fault Order text) (refuse TooLong (first_fault (Room room) text) (Ok tt)))) text)
form_by room text None e = order_by room text (first_fault Order text) refl (all_pass counted (passes Form) start 1 (lines_of text) e)
form_by room text (Some n) e = first_fails counted (passes Form) start (lines_of text) n e

pub refused_for_cause : RefusedForCause
refused_for_cause room text = form_by room text (first_fault Form text) refl
