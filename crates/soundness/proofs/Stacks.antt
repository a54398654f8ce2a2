-- Laws of the open frames.
use Rattle.std.proofs.Common.{◌≡◌, ℕ, zero, suc, ◌+◌, ◌≤◌, Bool, true, false, List, [], ◌∷◌, ◌++◌, length, Some, None, Ok, Option, sym, refl, ap, subst, inl, inr, arith}
use Rattle.std.specs.List.{slice_get}
use Rattle.std.proofs.lemmas.Bool.{lt-ltb}
use Rattle.sheet.specs.declared.kind.Kind.{Kind}
use Rattle.sheet.specs.Tables.{Contents}
use Rattle.rules.specs.Lookups.{ancestor}
use Rattle.rows.specs.declared.entry.Entry.TheVariants as entry
use Rattle.transfer.specs.Stacks.{Stack, cells_on}
use Rattle.store.specs.Cells.{peek}
use Rattle.machine.specs.Leaves.{base}
use Rattle.machine.specs.States.{State}
use Rattle.soundness.specs.Frames.{Rows}
use Rattle.soundness.proofs.Rules.{Declaration, declaration, laid, Declared}
use Rattle.soundness.proofs.Invariant.{Sort, is_at, is_data, Stands, Frame, Frames, ground, over, place_of, ep_of, procedure_of, up, Under, row_sorts, result_sort, data_sorts, foot, links, deck, shape, Good}
use Rattle.soundness.proofs.Cells.{Real, Filled, At, stands_at, placed_is}

pub length_row : (e m : ℕ) (l : ℕ → ℕ) (ρ : Stack) (K : List Sort) → length (row_sorts e m l ρ K) ≡ cells_on ρ + length K
length_row e m l [] K = omega arith
length_row e m l (entry.Value t ∷ ρ) K = let h = length_row e m l ρ K in omega arith
length_row e m l (entry.Mark j ∷ ρ) K = let h = length_row e m l ρ K in omega arith

pub length_laid : {A B : Type 0} (f : A → B) (xs : List A) (K : List B) → length (laid f xs K) ≡ length xs + length K
length_laid f [] K = omega arith
length_laid f (x ∷ xs) K = let h = length_laid f xs (f x ∷ K) in omega arith

pub at_row : (e m : ℕ) (l : ℕ → ℕ) (ρ : Stack) (K : List Sort) (x : ℕ) (κ : Sort) → At K x κ → At (row_sorts e m l ρ K) x κ
at_row e m l [] K x κ h = h
at_row e m l (entry.Value t ∷ ρ) K x κ h = inr (at_row e m l ρ K x κ h)
at_row e m l (entry.Mark j ∷ ρ) K x κ h = inr (inr (inr (inr (inr (at_row e m l ρ K x κ h)))))

pub at_laid : {A : Type 0} (f : A → Sort) (xs : List A) (K : List Sort) (x : ℕ) (κ : Sort) → At K x κ → At (laid f xs K) x κ
at_laid f [] K x κ h = h
at_laid f (y ∷ xs) K x κ h = at_laid f xs (f y ∷ K) x κ (inr h)

-- the j-th of what is laid
pub at_laid_in : {A : Type 0} (f : A → Sort) (xs : List A) (K : List Sort) (j : ℕ) (y : A) → slice_get xs j ≡ Some y → At (laid f xs K) (length K + j) (f y)
at_laid_in f [] K j y e = absurd (let z : ◌≡◌ {A = ℕ} 0 1 = cc in omega arith)
at_laid_in f (x ∷ xs) K zero y e = at_laid f xs (f x ∷ K) (length K + 0) (f y) (inl (omega arith, ap f (cc)))
at_laid_in f (x ∷ xs) K (suc j) y e =
    subst (λ (n : ℕ). At (laid f xs (f x ∷ K)) n (f y)) (omega arith) (at_laid_in f xs (f x ∷ K) j y e)

pub at_data : (b : Bool) (P : Declaration) (K : List Sort) (x : ℕ) (κ : Sort) → At K x κ → At (data_sorts b P K) x κ
at_data true P K x κ h = at_laid is_data (P.parameters ++ P.locals) K x κ h
at_data false P K x κ h = h

pub length_data : (b : Bool) (P : Declaration) (K : List Sort) → length K ≤ length (data_sorts b P K)
length_data true P K = let h = length_laid is_data (P.parameters ++ P.locals) K in omega arith
length_data false P K = omega arith

module _ (T : Contents) (rows : Rows) (len : ℕ) where
  pub good_place : (b p : Frames) (f : Frame) → Good T rows len (over b p f) → f.place ≡ length (shape T b)
  good_place ground p f h = h.2
  good_place (over b q g) p f h = h.1.place_is

  pub good_below : (b p : Frames) (f : Frame) → Good T rows len (over b p f) → Good T rows len b
  good_below ground p f h = tt
  good_below (over b q g) p f h = h.0

  pub good_under : (k u : Frames) → Good T rows len k → Under u k → Good T rows len u
  good_under ground u h a = absurd a
  good_under (over b p f) u h (inl e) = rw e h
  good_under (over b p f) u h (inr a) = good_under b u (good_below b p f h) a

  pub under_trans : (k v u : Frames) → Under u v → Under v k → Under u k
  under_trans ground v u a b = absurd b
  under_trans (over c p f) v u a (inl e) = rw e at a
  under_trans (over c p f) v u a (inr b) = inr (under_trans c v u a b)

  pub not_ground : (k : Frames) → Under ground k → ⊥
  not_ground ground a = a
  not_ground (over b p f) (inl e) = let z : ◌≡◌ {A = ℕ} 0 1 = cc in omega arith
  not_ground (over b p f) (inr a) = not_ground b a

  pub under_self : (k u : Frames) → Under u k → Under u u
  under_self k ground a = absurd (not_ground k a)
  under_self k (over b p f) a = inl refl

  pub parent_under : (b p : Frames) (f : Frame) → Good T rows len (over b p f) → (f.of ≡ 0 → ⊥) → Under p b × (procedure_of p ≡ (declaration T f.of).parent)
  parent_under ground p f h n = absurd (n h.1)
  parent_under (over b q g) p f h n = (h.1.under, h.1.whose)

  pub at_foot : (b p : Frames) (f : Frame) (x : ℕ) (κ : Sort) →
      At (foot (result_sort f.entered (declaration T f.of).result) (place_of p) (place_of b) (ep_of b) f.ret (shape T b)) x κ → At (shape T (over b p f)) x κ
  at_foot b p f x κ h = at_row f.ep f.place (links f.place p) f.row _ x κ (at_data f.entered (declaration T f.of) _ x κ h)

  pub at_under : (k u : Frames) (x : ℕ) (κ : Sort) → Under u k → At (shape T u) x κ → At (shape T k) x κ
  at_under ground u x κ a h = absurd a
  at_under (over b p f) u x κ (inl e) h = rw e at h
  at_under (over b p f) u x κ (inr a) h = at_foot b p f x κ (inr (inr (inr (inr (inr (at_under b u x κ a h))))))

  pub shape_more : (b p : Frames) (f : Frame) → length (shape T b) + 5 ≤ length (shape T (over b p f))
  shape_more b p f =
      let d = length_data f.entered (declaration T f.of) (foot (result_sort f.entered (declaration T f.of).result) (place_of p) (place_of b) (ep_of b) f.ret (shape T b)) in
      let r = length_row f.ep f.place (links f.place p) f.row (deck T b p f (shape T b)) in
      omega arith

  pub under_place : (k u : Frames) → Good T rows len k → Under u k → place_of u + 5 ≤ length (shape T k)
  under_place ground u h a = absurd a
  under_place (over b p f) u h (inl e) = let m = shape_more b p f in let q = good_place b p f h in rw e (omega arith)
  under_place (over b p f) u h (inr a) = let m = shape_more b p f in let q = under_place b u (good_below b p f h) a in omega arith

  pub ancestor_more : (j n a : ℕ) → ancestor T (suc j) n ≡ Some a → (n ≡ 0 → ⊥) × (ancestor T j (declaration T n).parent ≡ Some a)
  ancestor_more j zero a e = absurd (let z : ◌≡◌ {A = ℕ} 0 1 = cc in omega arith)
  ancestor_more j (suc n) a e = (λ h. omega arith, e)

  pub up_is : (j : ℕ) (k : Frames) (a : ℕ) → Good T rows len k → Under k k → ancestor T j (procedure_of k) ≡ Some a → Under (up j k) k × (procedure_of (up j k) ≡ a)
  up_is j ground a h n e = absurd n
  up_is zero (over b p f) a h n e = (inl refl, cc)
  up_is (suc j) (over b p f) a h n e =
      let (nz, e₁) = ancestor_more j f.of a e in
      let (u, w) = parent_under b p f h nz in
      let (v, q) = up_is j p a (good_under b p (good_below b p f h) u) (under_self b p u) (rw w e₁) in
      (inr (under_trans b p (up j p) v u), q)

  -- every frame below an entered one is entered
  abbrev pub Entered : Frames → Type 0
  Entered ground = ⊥
  Entered (over b p f) = f.entered ≡ true

  pub entered_under : (k u : Frames) → Good T rows len k → Entered k → Under u k → Entered u
  entered_under ground u h n a = absurd a
  entered_under (over b p f) u h n (inl e) = rw e n
  entered_under (over ground p f) u h n (inr a) = absurd a
  entered_under (over (over b q g) p f) u h n (inr a) = entered_under (over b q g) u h.0 h.1.fitted.in_it a

  -- where a frame's declared cells are
  pub at_declared : (u : Frames) (q : ℕ) (t : Kind) → Good T rows len u → Entered u → Declared (declaration T (procedure_of u)) q t → At (shape T u) (place_of u + q) (is_data t)
  at_declared ground q t h n d = absurd n
  at_declared (over b p f) q t h n (inl d) =
      at_foot b p f (f.place + q) (is_data t) (inr (inr (inr (inr (inl (let m = good_place b p f h in let z = d.0 in omega arith, rw (n, d.1)))))))
  at_declared (over b p f) q t h n (inr d) =
      let m = good_place b p f h in
      let z = d.1 in
      let M = foot (result_sort f.entered (declaration T f.of).result) (place_of p) (place_of b) (ep_of b) f.ret (shape T b) in
      at_row f.ep f.place (links f.place p) f.row _ (f.place + q) (is_data t)
      (subst (λ (b' : Bool). At (data_sorts b' (declaration T f.of) M) (f.place + q) (is_data t)) (sym n)
      (subst (λ (x : ℕ). At (laid is_data ((declaration T f.of).parameters ++ (declaration T f.of).locals) M) x (is_data t)) (omega arith)
      (at_laid_in is_data ((declaration T f.of).parameters ++ (declaration T f.of).locals) M d.0 t d.2)))

  module _ (s : State) (k : Frames) (gk : Good T rows len k) (st : Stands s.cells (shape T k)) (mp : s.regs.mp ≡ place_of k) where
    pub base_is : (n a : ℕ) (u : Frames) → Under u k → place_of u ≤ s.regs.mp → ancestor T n (procedure_of u) ≡ Some a → base n (place_of u) s.regs.mp s.cells ≡ Ok (place_of (up n u))
    unfolding base
    base_is n a ground v l e = absurd (not_ground k v)
    base_is zero a (over b p f) v l e = refl
    base_is (suc n) a (over b p f) v l e =
        let gu = good_under k (over b p f) gk v in
        let (nz, e₁) = ancestor_more n f.of a e in
        let (w, q) = parent_under b p f gu nz in
        let m = good_place b p f gu in
        let lo = under_place b p (good_below b p f gu) w in
        let num = placed_is (place_of p) (peek s.cells (f.place + 1))
        (stands_at s.cells (shape T k) (f.place + 1) (is_at (place_of p)) st
        (at_under k (over b p f) (f.place + 1) (is_at (place_of p)) v
        (at_foot b p f (f.place + 1) (is_at (place_of p)) (inr (inr (inr (inl (omega arith, refl)))))))) in
        rw (num, lt-ltb (place_of p) s.regs.mp (omega arith))
        (base_is n a p (under_trans k (over b p f) p (inr w) v) (omega arith) (rw q e₁))

  -- the frame of procedure 0
  pub main_under : (k : Frames) → Good T rows len k → Under k k → (u : Frames) × Under u k × (place_of u ≡ 0) × (procedure_of u ≡ 0)
  main_under ground h n = absurd n
  main_under (over ground p f) h n = (over ground p f, inl refl, h.2, h.1)
  main_under (over (over b q g) p f) h n = let m = main_under (over b q g) h.0 (inl refl) in (m.0, inr m.1, m.2, m.3)

-- every cell of a frame is one
filled_row : (e m : ℕ) (l : ℕ → ℕ) (ρ : Stack) (K : List Sort) → Filled K → Filled (row_sorts e m l ρ K)
filled_row e m l [] K h = h
filled_row e m l (entry.Value t ∷ ρ) K h = (tt, filled_row e m l ρ K h)
filled_row e m l (entry.Mark j ∷ ρ) K h = (tt, (tt, (tt, (tt, (tt, filled_row e m l ρ K h)))))

filled_laid : (ts : List Kind) (K : List Sort) → Filled K → Filled (laid is_data ts K)
filled_laid [] K h = h
filled_laid (t ∷ ts) K h = filled_laid ts (is_data t ∷ K) (tt, h)

filled_data : (b : Bool) (P : Declaration) (K : List Sort) → Filled K → Filled (data_sorts b P K)
filled_data true P K h = filled_laid (P.parameters ++ P.locals) K h
filled_data false P K h = h

filled_result : (b : Bool) (r : Option Kind) → Real (result_sort b r)
filled_result true (Some t) = tt
filled_result true None = tt
filled_result false r = tt

pub filled_shape : (T : Contents) (u : Frames) → Filled (shape T u)
filled_shape T ground = tt
filled_shape T (over b p f) =
    filled_row f.ep f.place (links f.place p) f.row _
    (filled_data f.entered (declaration T f.of) _ (tt, (tt, (tt, (tt, (filled_result f.entered (declaration T f.of).result, filled_shape T b))))))
