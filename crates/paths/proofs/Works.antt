-- The work list: an instruction that waits once waits no second time. Assumes nothing.
use Rattle.std.proofs.Common.{◌≡◌, ℕ, suc, ◌≤◌, Bool, true, false, eqb, ◌⊎◌, List, [], ◌∷◌, length, refl, inl, inr, ⊎_elim, arith}
use Rattle.std.proofs.lemmas.Bool.{eqb-true, eqb-false, or_cases, or_parts}
use Rattle.paths.specs.Lists.{In, Distinct}
use Rattle.paths.specs.Judging.{waits, wait_unless, wait}

waits_in : (j : ℕ) (work : List ℕ) → waits j work ≡ true → In j work
unfolding waits
waits_in j [] e = let z : ◌≡◌ {A = ℕ} 0 1 = cc in omega arith
waits_in j (k ∷ work) e = ⊎_elim (λ a. inl (eqb-true j k a)) (λ a. inr (waits_in j work a)) (or_cases (eqb j k) (waits j work) e)

in_waits : (j : ℕ) (work : List ℕ) → waits j work ≡ false → In j work → ⊥
unfolding waits
in_waits j [] e i = i
in_waits j (k ∷ work) e (inl p) = eqb-false j k (or_parts (eqb j k) (waits j work) e).0 p
in_waits j (k ∷ work) e (inr i) = in_waits j work (or_parts (eqb j k) (waits j work) e).1 i

pub wait_in : (j : ℕ) (work : List ℕ) → In j (wait j work)
unfolding wait wait_unless
wait_in j work = see (waits j work) refl
  where
    see : (b : Bool) → waits j work ≡ b → In j (wait_unless b j work)
    see true e = waits_in j work e
    see false e = inl refl

pub wait_more : (j : ℕ) (work : List ℕ) (k : ℕ) → In k work → In k (wait j work)
unfolding wait wait_unless
wait_more j work k i = see (waits j work)
  where
    see : (b : Bool) → In k (wait_unless b j work)
    see true = i
    see false = inr i

pub wait_short : (j : ℕ) (work : List ℕ) → length (wait j work) ≤ suc (length work)
unfolding wait wait_unless
wait_short j work = see (waits j work)
  where
    see : (b : Bool) → length (wait_unless b j work) ≤ suc (length work)
    see true = omega arith
    see false = omega arith

pub wait_distinct : (j : ℕ) (work : List ℕ) → Distinct work → Distinct (wait j work)
unfolding wait wait_unless
wait_distinct j work a = see (waits j work) refl
  where
    see : (b : Bool) → waits j work ≡ b → Distinct (wait_unless b j work)
    see true e = a
    see false e = (in_waits j work e, a)

pub wait_only : (j : ℕ) (work : List ℕ) (k : ℕ) → In k (wait j work) → (k ≡ j) ⊎ In k work
unfolding wait wait_unless
wait_only j work k = see (waits j work)
  where
    see : (b : Bool) → In k (wait_unless b j work) → (k ≡ j) ⊎ In k work
    see true i = inr i
    see false i = i
