-- Laws of `Stands`, of `Safe`, and of the reads that a step makes.
use Rattle.std.proofs.Common.{◌≡◌, ℕ, zero, suc, ◌+◌, ◌-◌, ◌<◌, ◌≤◌, Bool, true, false, cond, ◌&&◌, eqb, ◌⊎◌, List, [], ◌∷◌, length, ℤ, pos, Ok, Err, refl, ap, ◌∙◌, inl, inr, arith}
use Rattle.std.proofs.lemmas.Bool.{lt-ltb}
use Rattle.sheet.specs.declared.kind.Kind.{Kind}
use Rattle.sheet.specs.declared.stop.Stop.{Stop}
use Rattle.sheet.specs.declared.stop.Stop.TheVariants.{WrongInput, NoRoom, NoValueYet}
use Rattle.sheet.specs.declared.value.Value.{Value}
use Rattle.sheet.specs.Kinds.{kind_of, is_value, same}
use Rattle.sheet.specs.Stops.{stop_number}
use Rattle.arith.specs.Answers.{Answer, demand, ◌>>=◌, ◌>>◌}
use Rattle.store.specs.declared.cell.Cell.{Cell}
use Rattle.store.specs.declared.cell.Cell.TheVariants.{Free, Mark, Working, Data, Blank}
use Rattle.store.specs.Cells.{clean, put, peek}
use Rattle.host.specs.Hosts.{next_value, put_answer}
use Rattle.machine.specs.Frames.{marks}
use Rattle.machine.specs.Leaves.{working_in, mark_in, place_in, of_kind, held, writable, stacked, link}
use Rattle.judge.proofs.Inside.{same_kind, kind_same}
use Rattle.machine.proofs.Lengths.{length_put}
use Rattle.soundness.proofs.Invariant.{Sort, is_free, is_mark, is_at, is_work, is_data, sort, Stands, Safe}

-- Safe
pub safe_bind : {A B : Type 0} (P : A → Type 0) (Q : B → Type 0) (m : Answer A) (f : A → Answer B) → Safe P m → ((x : A) → P x → Safe Q (f x)) → Safe Q (m >>= f)
safe_bind P Q (Ok x) f h k = k x h
safe_bind P Q (Err n) f h k = h

pub bind_ok : {A B : Type 0} (Q : B → Type 0) (m : Answer A) (x : A) (f : A → Answer B) → m ≡ Ok x → Safe Q (f x) → Safe Q (m >>= f)
bind_ok Q m x f e h = rw e h

pub demand_ok : {B : Type 0} (Q : B → Type 0) (b : Bool) (w : Stop) (r : Answer B) → b ≡ true → Safe Q r → Safe Q (demand b w >> r)
demand_ok Q b w r e h = rw e h

-- a cause that may be met
pub demand_may : {B : Type 0} (Q : B → Type 0) (b : Bool) (w : Stop) (r : Answer B) → stop_number w < 60 → (b ≡ true → Safe Q r) → Safe Q (demand b w >> r)
demand_may Q true n r l h = h refl
demand_may Q false n r l h = l

-- cells
pub peek_put_same : (cs : List Cell) (x : ℕ) (c : Cell) → x < length cs → peek (put cs x c) x ≡ clean c
peek_put_same [] x c l = absurd (omega arith)
peek_put_same (d ∷ cs) zero c l = refl
peek_put_same (d ∷ cs) (suc x) c l = peek_put_same cs x c (omega arith)

pub peek_put_other : (cs : List Cell) (x y : ℕ) (c : Cell) → (y ≡ x → ⊥) → peek (put cs x c) y ≡ peek cs y
peek_put_other [] x y c n = refl
peek_put_other (d ∷ cs) zero zero c n = absurd (n refl)
peek_put_other (d ∷ cs) zero (suc y) c n = refl
peek_put_other (d ∷ cs) (suc x) zero c n = refl
peek_put_other (d ∷ cs) (suc x) (suc y) c n = peek_put_other cs x y c (λ e. n (ap suc e))

pub sort_clean : (c : Cell) → sort (clean c) ≡ sort c
sort_clean Free = refl
sort_clean (Mark z) = refl
sort_clean (Working x) = by (is_value x) refl
  where
    by : (b : Bool) → is_value x ≡ b → sort (cond b (Working x) Free) ≡ cond b (is_work (kind_of x)) is_free
    by true e = rw e
    by false e = refl
sort_clean (Data x) = by (is_value x) refl
  where
    by : (b : Bool) → is_value x ≡ b → sort (cond b (Data x) Free) ≡ cond b (is_data (kind_of x)) is_free
    by true e = rw e
    by false e = refl
sort_clean (Blank t) = refl

-- Stands
pub sort_put : (cs : List Cell) (x : ℕ) (c : Cell) (y : ℕ) → sort c ≡ sort (peek cs x) → sort (peek (put cs x c) y) ≡ sort (peek cs y)
sort_put [] x c y e = refl
sort_put (d ∷ cs) zero c zero e = sort_clean c ∙ e
sort_put (d ∷ cs) zero c (suc y) e = refl
sort_put (d ∷ cs) (suc x) c zero e = refl
sort_put (d ∷ cs) (suc x) c (suc y) e = sort_put cs x c y e

pub stands_same : (cs : List Cell) (K : List Sort) (x : ℕ) (c : Cell) → sort c ≡ sort (peek cs x) → Stands cs K → Stands (put cs x c) K
stands_same cs [] x c e h = tt
stands_same cs (κ ∷ K) x c e h = (sort_put cs x c (length K) e ∙ h.0, stands_same cs K x c e h.1)

pub stands_above : (cs : List Cell) (K : List Sort) (x : ℕ) (c : Cell) → length K ≤ x → Stands cs K → Stands (put cs x c) K
stands_above cs [] x c l h = tt
stands_above cs (κ ∷ K) x c l h =
    (ap sort (peek_put_other cs x (length K) c (λ e. omega arith)) ∙ h.0, stands_above cs K x c (omega arith) h.1)

pub stands_push : (cs : List Cell) (K : List Sort) (x : ℕ) (c : Cell) (κ : Sort) → x ≡ length K → x < length cs → sort c ≡ κ → Stands cs K → Stands (put cs x c) (κ ∷ K)
stands_push cs K x c κ e l q h =
    (rw (← e) (ap sort (peek_put_same cs x c l) ∙ (sort_clean c ∙ q)), stands_above cs K x c (omega arith) h)

-- the sort at a place of a list of sorts
abbrev pub At : List Sort → ℕ → Sort → Type 0
At [] x κ = ⊥
At (h ∷ K) x κ = ((x ≡ length K) × (h ≡ κ)) ⊎ At K x κ

pub stands_at : (cs : List Cell) (K : List Sort) (x : ℕ) (κ : Sort) → Stands cs K → At K x κ → sort (peek cs x) ≡ κ
stands_at cs [] x κ h a = absurd a
stands_at cs (κ' ∷ K) x κ h (inl e) = rw e.0 (h.0 ∙ e.1)
stands_at cs (κ' ∷ K) x κ h (inr a) = stands_at cs K x κ h.1 a

-- no sort of a list is free
abbrev pub Real : Sort → Type 0
Real is_free = ⊥
Real (is_mark z) = Unit {0}
Real (is_work t) = Unit {0}
Real (is_data t) = Unit {0}

abbrev pub Filled : List Sort → Type 0
Filled [] = Unit {0}
Filled (κ ∷ K) = Real κ × Filled K

pub stands_real : (cs : List Cell) (K : List Sort) (x : ℕ) → Stands cs K → Filled K → x < length K → Real (sort (peek cs x))
stands_real cs [] x h f l = absurd (omega arith)
stands_real cs (κ ∷ K) x h f l = at_top (eqb x (length K)) refl (stands_real cs K x h.1 f.1)
  where
    at_top : (b : Bool) → eqb x (length K) ≡ b → (x < length K → Real (sort (peek cs x))) → Real (sort (peek cs x))
    at_top true e r = let q : x ≡ length K = grind arith in rw (q, h.0) f.0
    at_top false e r = r (grind arith)

-- values of a kind
pub record Valid (t : Kind) (x : Value) : Type 0 where
  pub value : is_value x ≡ true
  pub kind : kind_of x ≡ t

work_sort : (t : Kind) (x : Value) (b : Bool) → is_value x ≡ b → cond b (is_work (kind_of x)) is_free ≡ is_work t → Valid t x
work_sort t x true q e = record { value = q; kind = cc }
work_sort t x false q e = absurd (let z : ◌≡◌ {A = ℕ} 0 1 = cc in omega arith)

data_sort : (t : Kind) (x : Value) (b : Bool) → is_value x ≡ b → cond b (is_data (kind_of x)) is_free ≡ is_data t → Valid t x
data_sort t x true q e = record { value = q; kind = cc }
data_sort t x false q e = absurd (let z : ◌≡◌ {A = ℕ} 0 1 = cc in omega arith)

pub sort_work : (t : Kind) (x : Value) → Valid t x → sort (Working x) ≡ is_work t
sort_work t x w = rw (w.value, w.kind)

pub sort_data : (t : Kind) (x : Value) → Valid t x → sort (Data x) ≡ is_data t
sort_data t x w = rw (w.value, w.kind)

-- reads
pub work_is : (t : Kind) (c : Cell) → sort c ≡ is_work t → (x : Value) × (c ≡ Working x) × Valid t x
work_is t Free e = absurd (let z : ◌≡◌ {A = ℕ} 0 1 = cc in omega arith)
work_is t (Mark n) e = absurd (let z : ◌≡◌ {A = ℕ} 0 1 = cc in omega arith)
work_is t (Working x) e = (x, refl, work_sort t x (is_value x) refl e)
work_is t (Data x) e = absurd (other (is_value x) e)
  where
    other : (b : Bool) → cond b (is_data (kind_of x)) is_free ≡ is_work t → ⊥
    other true e = let z : ◌≡◌ {A = ℕ} 0 1 = cc in omega arith
    other false e = let z : ◌≡◌ {A = ℕ} 0 1 = cc in omega arith
work_is t (Blank u) e = absurd (let z : ◌≡◌ {A = ℕ} 0 1 = cc in omega arith)

pub working_is : (t : Kind) (c : Cell) → sort c ≡ is_work t → (x : Value) × (working_in c ≡ Ok x) × Valid t x
working_is t c e = let w = work_is t c e in (w.0, ap working_in w.1, w.2)

pub of_kind_is : (n : Stop) (t : Kind) (x : Value) → Valid t x → of_kind n t x ≡ Ok x
of_kind_is n t x w = rw (w.kind, kind_same t)

pub mark_is : (c : Cell) (z : ℤ) → sort c ≡ is_mark z → c ≡ Mark z
mark_is Free z e = absurd (let w : ◌≡◌ {A = ℕ} 0 1 = cc in omega arith)
mark_is (Mark y) z e = cc
mark_is (Working x) z e = absurd (other (is_value x) e)
  where
    other : (b : Bool) → cond b (is_work (kind_of x)) is_free ≡ is_mark z → ⊥
    other true e = let w : ◌≡◌ {A = ℕ} 0 1 = cc in omega arith
    other false e = let w : ◌≡◌ {A = ℕ} 0 1 = cc in omega arith
mark_is (Data x) z e = absurd (other (is_value x) e)
  where
    other : (b : Bool) → cond b (is_data (kind_of x)) is_free ≡ is_mark z → ⊥
    other true e = let w : ◌≡◌ {A = ℕ} 0 1 = cc in omega arith
    other false e = let w : ◌≡◌ {A = ℕ} 0 1 = cc in omega arith
mark_is (Blank t) z e = absurd (let w : ◌≡◌ {A = ℕ} 0 1 = cc in omega arith)

pub number_is : (z : ℤ) (c : Cell) → sort c ≡ is_mark z → mark_in c ≡ Ok z
number_is z c e = ap mark_in (mark_is c z e)

pub placed_is : (n : ℕ) (c : Cell) → sort c ≡ is_at n → place_in c ≡ Ok n
placed_is n c e = rw (number_is (pos n) c e)

-- a cell that is one, where both numbers are below 60
pub held_may : (n m : Stop) (t : Kind) (c : Cell) → Real (sort c) → stop_number n < 60 → stop_number m < 60 → Safe (Valid t) (held n m t c)
held_may n m t Free r l k = l
held_may n m t (Mark i) r l k = l
held_may n m t (Working x) r l k = l
held_may n m t (Data x) r l k = demand_may (Valid t) (same (kind_of x) t) m (Ok x) k (λ e. record { value = real (is_value x) refl r; kind = same_kind (kind_of x) t e })
  where
    real : (b : Bool) → is_value x ≡ b → Real (cond b (is_data (kind_of x)) is_free) → is_value x ≡ true
    real true q r = q
    real false q r = absurd r
held_may n m t (Blank u) r l k = demand_may (Valid t) (same u t) m (Err NoValueYet) k (λ _. omega arith)

pub data_cases : {A : Type 0} (P : A → Type 0) (n m : Stop) (t : Kind) (c : Cell) (r : Answer A) → Real (sort c) → stop_number n < 60 → stop_number m < 60 → (sort c ≡ is_data t → Safe P r) → Safe P (writable n m t c >> r)
data_cases P n m t Free r w l k h = l
data_cases P n m t (Mark i) r w l k h = l
data_cases P n m t (Working x) r w l k h = l
data_cases P n m t (Data x) r w l k h = demand_may P (same (kind_of x) t) m r k (λ e. h (real (is_value x) w ∙ ap is_data (same_kind (kind_of x) t e)))
  where
    real : (b : Bool) → Real (cond b (is_data (kind_of x)) is_free) → cond b (is_data (kind_of x)) is_free ≡ is_data (kind_of x)
    real true r = refl
    real false r = absurd r
data_cases P n m t (Blank u) r w l k h = demand_may P (same u t) m r k (λ e. h (ap is_data (same_kind u t e)))

pub held_is : (n m : Stop) (t : Kind) (c : Cell) → sort c ≡ is_data t → Safe (Valid t) (held n m t c)
held_is n m t Free e = absurd (let z : ◌≡◌ {A = ℕ} 0 1 = cc in omega arith)
held_is n m t (Mark i) e = absurd (let z : ◌≡◌ {A = ℕ} 0 1 = cc in omega arith)
held_is n m t (Working x) e = absurd (other (is_value x) e)
  where
    other : (b : Bool) → cond b (is_work (kind_of x)) is_free ≡ is_data t → ⊥
    other true e = let z : ◌≡◌ {A = ℕ} 0 1 = cc in omega arith
    other false e = let z : ◌≡◌ {A = ℕ} 0 1 = cc in omega arith
held_is n m t (Data x) e = let w = data_sort t x (is_value x) refl e in rw (of_kind_is m t x w) w
held_is n m t (Blank u) e = let q : u ≡ t = cc in rw (q, kind_same t) (omega arith)

pub data_is : (n m : Stop) (t : Kind) (c : Cell) → sort c ≡ is_data t → writable n m t c ≡ Ok tt
data_is n m t Free e = absurd (let z : ◌≡◌ {A = ℕ} 0 1 = cc in omega arith)
data_is n m t (Mark i) e = absurd (let z : ◌≡◌ {A = ℕ} 0 1 = cc in omega arith)
data_is n m t (Working x) e = absurd (other (is_value x) e)
  where
    other : (b : Bool) → cond b (is_work (kind_of x)) is_free ≡ is_data t → ⊥
    other true e = let z : ◌≡◌ {A = ℕ} 0 1 = cc in omega arith
    other false e = let z : ◌≡◌ {A = ℕ} 0 1 = cc in omega arith
data_is n m t (Data x) e = let w = data_sort t x (is_value x) refl e in rw (w.kind, kind_same t)
data_is n m t (Blank u) e = let q : u ≡ t = cc in rw (q, kind_same t)

-- a value on the stack
pub stacked_is : (cs : List Cell) (top i : ℕ) (t : Kind) → i < top → sort (peek cs (top - (i + 1))) ≡ is_work t → (x : Value) × (stacked top i cs ≡ Ok x) × Valid t x
stacked_is cs top i t l e = let w = working_is t (peek cs (top - (i + 1))) e in (w.0, rw (lt-ltb i top l) w.1, w.2)

-- the five cells of a mark
pub marks_stand : (cs : List Cell) (K : List Sort) (x link mp ep : ℕ) → x ≡ length K → x + 4 < length cs → Stands cs K →
    Stands (marks x link mp ep cs) (is_at 0 ∷ (is_at ep ∷ (is_at mp ∷ (is_at link ∷ (is_at 0 ∷ K)))))
marks_stand cs K x link mp ep e l h =
    let c₁ = put cs x (Mark (pos 0)) in
    let c₂ = put c₁ (x + 1) (Mark (pos link)) in
    let c₃ = put c₂ (x + 2) (Mark (pos mp)) in
    let c₄ = put c₃ (x + 3) (Mark (pos ep)) in
    let k₁ : List Sort = is_at 0 ∷ K in
    let k₂ : List Sort = is_at link ∷ k₁ in
    let k₃ : List Sort = is_at mp ∷ k₂ in
    let k₄ : List Sort = is_at ep ∷ k₃ in
    let l₁ = length_put cs x (Mark (pos 0)) in
    let l₂ = length_put c₁ (x + 1) (Mark (pos link)) in
    let l₃ = length_put c₂ (x + 2) (Mark (pos mp)) in
    let l₄ = length_put c₃ (x + 3) (Mark (pos ep)) in
    stands_push c₄ k₄ (x + 4) (Mark (pos 0)) (is_at 0) (omega arith) (omega arith) refl
    (stands_push c₃ k₃ (x + 3) (Mark (pos ep)) (is_at ep) (omega arith) (omega arith) refl
    (stands_push c₂ k₂ (x + 2) (Mark (pos mp)) (is_at mp) (omega arith) (omega arith) refl
    (stands_push c₁ k₁ (x + 1) (Mark (pos link)) (is_at link) (omega arith) (omega arith) refl
    (stands_push cs K x (Mark (pos 0)) (is_at 0) e (omega arith) refl h))))

pub next_may : (t : Kind) (xs : List Value) → Safe (Valid t) (next_value t xs)
next_may t [] = omega arith
next_may t (x ∷ xs) = by (same (kind_of x) t) (is_value x) refl refl
  where
    by : (a b : Bool) → same (kind_of x) t ≡ a → is_value x ≡ b → Safe (Valid t) (cond (a && b) (Ok x) (Err WrongInput))
    by true true p q = record { value = q; kind = same_kind (kind_of x) t p }
    by true false p q = omega arith
    by false b p q = omega arith

pub put_may : {A : Type 0} (P : A → Type 0) (n : ℕ) (r : Answer A) → Safe P r → Safe P (put_answer n >> r)
put_may P n r h = by (eqb n 0)
  where
    by : (b : Bool) → Safe P (cond {A = Answer (Unit {0})} b (Err NoRoom) (Ok tt) >> r)
    by true = omega arith
    by false = h
