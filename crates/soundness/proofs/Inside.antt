-- The instructions that stay in their frame.
use Rattle.std.proofs.Common.{◌≡◌, ℕ, zero, suc, ◌+◌, ◌-◌, ◌<◌, ◌≤◌, Bool, true, false, cond, not, eqb, ltb, List, ◌∷◌, ◌++◌, length, ℤ, pos, negsuc, Some, Ok, sym, refl, ap, ◌∙◌, subst, inl, inr, arith}
use Rattle.std.proofs.lemmas.Bool.{le-leb}
use Rattle.sheet.specs.declared.kind.Kind.{Kind}
use Rattle.sheet.specs.declared.kind.Kind.TheVariants as k
use Rattle.sheet.specs.declared.operation.Binary.{Binary}
use Rattle.sheet.specs.declared.operation.Unary.{Unary}
use Rattle.sheet.specs.declared.place.CodePlace.{CodePlace}
use Rattle.sheet.specs.declared.stop.Stop.TheVariants.{NoDataCell, OtherKindOfCell, WrongCell, StackFull}
use Rattle.sheet.specs.declared.value.Value.{Value}
use Rattle.sheet.specs.declared.value.Value.TheVariants as v
use Rattle.sheet.specs.Kinds.{kind_of, is_value}
use Rattle.sheet.specs.Tables.{Contents}
use Rattle.rules.specs.Lookups.{ancestor, owner}
use Rattle.rows.specs.declared.entry.Entry.TheVariants as entry
use Rattle.transfer.specs.Stacks.{Stack, cells_on}
use Rattle.store.specs.declared.cell.Cell.{Cell}
use Rattle.store.specs.declared.cell.Cell.TheVariants.{Working, Data}
use Rattle.store.specs.Cells.{put, peek}
use Rattle.host.specs.Hosts.{Meaning, next_value, taken, written}
use Rattle.machine.specs.Frames.{marks}
use Rattle.machine.specs.Leaves.{held, stacked, typed, base, reached, load, store}
use Rattle.machine.specs.States.{State, code_at, regs_at, dropped, with_cell, pushed}
use Rattle.machine.specs.Steps.{two, one, ldc, dpl, lod, str, lda, ind, sto, ujp, fjp, inp, out, mst}
use Rattle.arith.specs.Operations.{binary_result, unary_result}
use Rattle.machine.proofs.Lengths.{length_put, length_marks}
use Rattle.soundness.specs.Frames.{Rows}
use Rattle.soundness.proofs.Rules.{declaration, left, right, both_give, one_takes, one_gives, room, CellOf, Declared, Handed}
use Rattle.soundness.proofs.Invariant.{Sort, is_at, is_work, is_data, sort, Stands, Frame, Frames, ground, over, place_of, ep_of, procedure_of, up, Under, result_sort, foot, links, deck, shape, Good, Sound, Safe}
use Rattle.soundness.proofs.Cells.{safe_bind, bind_ok, demand_ok, demand_may, stands_same, stands_push, stands_at, Real, stands_real, Valid, sort_work, sort_data, of_kind_is, held_is, held_may, next_may, put_may, data_is, data_cases, stacked_is, marks_stand}
use Rattle.soundness.proofs.Stacks.{length_row, length_laid, good_place, up_is, entered_under, at_declared, at_under, base_is, good_under, main_under, filled_shape}
use Rattle.soundness.proofs.Values.{valid, address_is, boolean_is, binary_may, unary_may}

abbrev pub with_row : Frame → Stack → Frame
with_row f σ = record { place = f.place; of = f.of; ret = f.ret; row = σ; ep = f.ep; entered = f.entered }

pub good_row : (T : Contents) (rows : Rows) (len : ℕ) (b p : Frames) (f : Frame) (σ : Stack) → Good T rows len (over b p f) → Good T rows len (over b p (with_row f σ))
good_row T rows len ground p f σ h = h
good_row T rows len (over b q g) p f σ h = h

pub length_deck : (T : Contents) (b p : Frames) (f : Frame) (K : List Sort) → f.entered ≡ true → length (deck T b p f K) ≡ length ((declaration T f.of).parameters ++ (declaration T f.of).locals) + 5 + length K
length_deck T b p f K e = rw e (length_laid is_data ((declaration T f.of).parameters ++ (declaration T f.of).locals) (foot (result_sort true (declaration T f.of).result) (place_of p) (place_of b) (ep_of b) f.ret K) ∙ omega arith)

pub links_is : (b p : Frames) (f : Frame) (j : ℕ) → place_of (up j (over b p f)) ≡ links f.place p j
links_is b p f zero = refl
links_is b p f (suc j) = refl

module _ (T : Contents) (rows : Rows) (s : State) (S : Sound T rows s) (en : S.top.entered ≡ true) where
  -- the shape with another row in the top frame
  abbrev pub shaped : Stack → List Sort
  shaped σ = shape T (over S.below S.parent (with_row S.top σ))

  pub in_room : (n : ℕ) (σ : Stack) → Handed T rows S.now n σ → (length (shaped σ) ≤ s.regs.ep + 1) × (s.regs.ep < length s.cells)
  in_room n σ h =
      let l = length_row S.top.ep S.top.place (links S.top.place S.parent) σ (deck T S.below S.parent S.top (shape T S.below)) in
      let d = length_deck T S.below S.parent S.top (shape T S.below) en in
      let m = good_place T rows (length s.cells) S.below S.parent S.top S.good in
      let f = (S.fitted en).0 in
      let fe = f.ep_is in
      let fi = f.ep_in in
      let e = S.ep_is in
      let z : cells_on σ ≤ room T S.top.of = subst (λ (o : ℕ). cells_on σ ≤ room T o) S.own h.fits in
      (omega arith, omega arith)

  pub went_on : (n sp' : ℕ) (cs' : List Cell) (h' : Meaning) (σ : Stack) → Handed T rows S.now n σ → length cs' ≡ length s.cells → Stands cs' (shaped σ) → sp' ≡ length (shaped σ) →
      Sound T rows (record { regs = regs_at (code_at n) sp' s.regs.mp s.regs.ep s.regs.last; cells = cs'; host = h' })
  went_on n sp' cs' h' σ h l st e = record {
    now = n;
    pc_is = refl;
    below = S.below;
    parent = S.parent;
    top = with_row S.top σ;
    good = subst (λ (n' : ℕ). Good T rows n' (over S.below S.parent (with_row S.top σ))) (sym l) (good_row T rows (length s.cells) S.below S.parent S.top σ S.good);
    stands = st;
    sp_is = e;
    mp_is = S.mp_is;
    ep_is = S.ep_is;
    row_is = h.meets;
    own = h.inside ∙ S.own;
    entered = en ∙ sym (ap not (subst (λ (o : ℕ). eqb n (declaration T o).first ≡ false) S.own h.later));
    last_is = S.last_is ∙ sym l;
    fitted = λ e'. (record { in_it = en; ep_is = (S.fitted en).0.ep_is; ep_in = rw l (S.fitted en).0.ep_in }, subst (λ (o : ℕ). cells_on σ ≤ room T o) S.own h.fits);
  }

  pub low : (σ : Stack) → 5 ≤ length (shaped σ)
  low σ =
      let l = length_row S.top.ep S.top.place (links S.top.place S.parent) σ (deck T S.below S.parent S.top (shape T S.below)) in
      let d = length_deck T S.below S.parent S.top (shape T S.below) en in
      omega arith

  -- n cells are taken, which leaves the row σ, over cells that stand
  dropping : (q n : ℕ) (σ : Stack) (cs : List Cell) (h' : Meaning) → s.regs.height ≡ n + length (shaped σ) → length cs ≡ length s.cells → Stands cs (shaped σ) → Handed T rows S.now q σ →
      Sound T rows (dropped (code_at q) n (record { regs = s.regs; cells = cs; host = h' }))
  dropping q n σ cs h' e l st h = let m = low σ in went_on q (s.regs.height - n) cs h' σ h l st (omega arith)

  -- and a value of kind t is given
  pushing : (q n : ℕ) (t : Kind) (x : Value) (σ : Stack) (cs : List Cell) (h' : Meaning) → Valid t x → s.regs.height ≡ n + length (shaped σ) → length cs ≡ length s.cells → Stands cs (shaped σ) →
      Handed T rows S.now q (entry.Value t ∷ σ) → Safe (Sound T rows) (pushed x (dropped (code_at q) n (record { regs = s.regs; cells = cs; host = h' })))
  pushing q n t x σ cs h' w e l st h =
      let m = low σ in
      let (r₁, r₂) = in_room q (entry.Value t ∷ σ) h in
      demand_ok (Sound T rows) _ StackFull _ (le-leb (s.regs.height - n) s.regs.ep (omega arith))
      (went_on q (s.regs.height - n + 1) (put cs (s.regs.height - n) (Working x)) h' (entry.Value t ∷ σ) h (length_put cs (s.regs.height - n) (Working x) ∙ l)
      (stands_push cs (shaped σ) (s.regs.height - n) (Working x) (is_work t) (omega arith) (omega arith) (sort_work t x w) st)
      (omega arith))

  -- the value on top, and the one below it
  record Top (t : Kind) (σ : Stack) : Type 0 where
    value : Value
    is : stacked s.regs.height 0 s.cells ≡ Ok value
    valid : Valid t value
    stands : Stands s.cells (shaped σ)
    sp_is : s.regs.height ≡ 1 + length (shaped σ)

  top_is : (t : Kind) (σ : Stack) → S.top.row ≡ entry.Value t ∷ σ → Top t σ
  top_is t σ e =
      let st : Stands s.cells (shaped (entry.Value t ∷ σ)) = rw e at S.stands in
      let l : s.regs.height ≡ length (shaped (entry.Value t ∷ σ)) = rw e at S.sp_is in
      let m = low σ in
      let q : s.regs.height ≡ 1 + length (shaped σ) = omega arith in
      let z : s.regs.height - 1 ≡ length (shaped σ) = omega arith in
      let w = stacked_is s.cells s.regs.height 0 t (omega arith) (rw z st.0) in
      record { value = w.0; is = w.1; valid = w.2; stands = st.1; sp_is = q }

  next_is : (t u : Kind) (σ : Stack) → Top t (entry.Value u ∷ σ) → (x : Value) × (stacked s.regs.height 1 s.cells ≡ Ok x) × Valid u x
  next_is t u σ p =
      let q = p.sp_is in
      let m = low σ in
      let z : s.regs.height - 2 ≡ length (shaped σ) = omega arith in
      stacked_is s.cells s.regs.height 1 u (omega arith) (rw z p.stands.0)

  typed_is : (t : Kind) (σ : Stack) (p : Top t σ) → typed t s.regs.height 0 s.cells ≡ Ok p.value
  typed_is t σ p = rw (p.is, of_kind_is WrongCell t p.value p.valid)

  -- a data cell is replaced by one of its kind
  stored : (t : Kind) (x : ℕ) (σ : Stack) (n : ℕ) (y : Value) → Valid t y → s.regs.height ≡ n + length (shaped σ) → Stands s.cells (shaped σ) → sort (peek s.cells x) ≡ is_data t →
      Handed T rows S.now (S.now + 1) σ → Sound T rows (with_cell (dropped (code_at (S.now + 1)) n s) x (Data y))
  stored t x σ n y w l st e h =
      dropping (S.now + 1) n σ (put s.cells x (Data y)) s.host l (length_put s.cells x (Data y)) (stands_same s.cells (shaped σ) x (Data y) (sort_data t y w ∙ sym e) st) h

  -- base(p, MP) and the data cell that it leads to
  pub based : (p a : ℕ) → ancestor T p (owner T S.now) ≡ Some a → base p s.regs.mp s.regs.mp s.cells ≡ Ok (place_of (up p (over S.below S.parent S.top)))
  based p a e =
      subst (λ (x : ℕ). base p x s.regs.mp s.cells ≡ Ok (place_of (up p (over S.below S.parent S.top)))) (sym S.mp_is)
      (base_is T rows (length s.cells) s (over S.below S.parent S.top) S.good S.stands S.mp_is p a (over S.below S.parent S.top) (inl refl)
      (let m = S.mp_is in omega arith) (rw S.own at e))

  -- a declared cell of an open frame
  declared_at : (u : Frames) (q : ℕ) (t : Kind) → Under u (over S.below S.parent S.top) → Declared (declaration T (procedure_of u)) q t → sort (peek s.cells (place_of u + q)) ≡ is_data t
  declared_at u q t n d =
      let k = over S.below S.parent S.top in
      stands_at s.cells (shape T k) (place_of u + q) (is_data t) S.stands
      (at_under T rows (length s.cells) k u (place_of u + q) (is_data t) n
      (at_declared T rows (length s.cells) u q t (good_under T rows (length s.cells) k u S.good n) (entered_under T rows (length s.cells) k u S.good en n) d))

  pub data_at : (p a q : ℕ) (t : Kind) → ancestor T p (owner T S.now) ≡ Some a → Declared (declaration T a) q t →
      sort (peek s.cells (place_of (up p (over S.below S.parent S.top)) + q)) ≡ is_data t
  data_at p a q t e d =
      let (u, w) = up_is T rows (length s.cells) p (over S.below S.parent S.top) a S.good (inl refl) (rw S.own at e) in
      declared_at (up p (over S.below S.parent S.top)) q t u (rw w d)

  pub main_at : (q : ℕ) (t : Kind) → CellOf (declaration T 0) q t → sort (peek s.cells q) ≡ is_data t
  main_at q t d =
      let m = main_under T rows (length s.cells) (over S.below S.parent S.top) S.good (inl refl) in
      let z = m.2 in
      let e : place_of m.0 + q ≡ q = omega arith in
      subst (λ (x : ℕ). sort (peek s.cells x) ≡ is_data t) e (declared_at m.0 q t m.1 (inr (rw m.3 d)))

  pub two_safe : (f : Binary) (σ : Stack) → S.top.row ≡ entry.Value (right f) ∷ (entry.Value (left f) ∷ σ) → Handed T rows S.now (S.now + 1) (entry.Value (both_give f) ∷ σ) → Safe (Sound T rows) (two f (code_at (S.now + 1)) s)
  two_safe f σ e h =
      let p = top_is (right f) (entry.Value (left f) ∷ σ) e in
      let x = next_is (right f) (left f) σ p in
      bind_ok (Sound T rows) _ p.value _ p.is (bind_ok (Sound T rows) _ x.0 _ x.1
      (safe_bind (Valid (both_give f)) (Sound T rows) (binary_result f x.0 p.value) _ (binary_may f x.0 p.value x.2 p.valid)
      (λ z w. pushing (S.now + 1) 2 (both_give f) z σ s.cells s.host w (let q = p.sp_is in omega arith) refl p.stands.1 h)))

  pub one_safe : (f : Unary) (σ : Stack) → S.top.row ≡ entry.Value (one_takes f) ∷ σ → Handed T rows S.now (S.now + 1) (entry.Value (one_gives f) ∷ σ) → Safe (Sound T rows) (one f (code_at (S.now + 1)) s)
  one_safe f σ e h =
      let p = top_is (one_takes f) σ e in
      bind_ok (Sound T rows) _ p.value _ p.is
      (safe_bind (Valid (one_gives f)) (Sound T rows) (unary_result f p.value) _ (unary_may f p.value p.valid)
      (λ z w. pushing (S.now + 1) 1 (one_gives f) z σ s.cells s.host w (let q = p.sp_is in omega arith) refl p.stands h))

  -- the whole stack stays, and a value is pushed
  more : (q : ℕ) (t : Kind) (x : Value) (h' : Meaning) → Valid t x → Handed T rows S.now q (entry.Value t ∷ S.top.row) → Safe (Sound T rows) (pushed x (dropped (code_at q) 0 (record { regs = s.regs; cells = s.cells; host = h' })))
  more q t x h' w h = pushing q 0 t x S.top.row s.cells h' w (let e = S.sp_is in omega arith) refl S.stands h

  pub ldc_safe : (x : Value) → is_value x ≡ true → Handed T rows S.now (S.now + 1) (entry.Value (kind_of x) ∷ S.top.row) → Safe (Sound T rows) (ldc x (code_at (S.now + 1)) s)
  ldc_safe x e h = more (S.now + 1) (kind_of x) x s.host (valid x e) h

  pub dpl_safe : (t : Kind) (σ : Stack) → S.top.row ≡ entry.Value t ∷ σ → Handed T rows S.now (S.now + 1) (entry.Value t ∷ (entry.Value t ∷ σ)) → Safe (Sound T rows) (dpl t (code_at (S.now + 1)) s)
  dpl_safe t σ e h =
      let p = top_is t σ e in
      bind_ok (Sound T rows) _ p.value _ (typed_is t σ p) (more (S.now + 1) t p.value s.host p.valid (rw e h))

  pub load_safe : (t : Kind) (x : ℕ) → sort (peek s.cells x) ≡ is_data t → Handed T rows S.now (S.now + 1) (entry.Value t ∷ S.top.row) → Safe (Sound T rows) (load (code_at (S.now + 1)) t x s)
  load_safe t x e h =
      safe_bind (Valid t) (Sound T rows) (held WrongCell WrongCell t (peek s.cells x)) _ (held_is WrongCell WrongCell t _ e) (λ y w. more (S.now + 1) t y s.host w h)

  pub store_safe : (t : Kind) (x : ℕ) (σ : Stack) → S.top.row ≡ entry.Value t ∷ σ → sort (peek s.cells x) ≡ is_data t → Handed T rows S.now (S.now + 1) σ → Safe (Sound T rows) (store (code_at (S.now + 1)) t x s)
  store_safe t x σ r e h =
      let p = top_is t σ r in
      bind_ok (Sound T rows) _ p.value _ (typed_is t σ p) (rw (data_is WrongCell WrongCell t _ e) (stored t x σ 1 p.value p.valid (let q = p.sp_is in omega arith) p.stands e h))

  pub ldo_safe : (t : Kind) (q : ℕ) → CellOf (declaration T 0) q t → Handed T rows S.now (S.now + 1) (entry.Value t ∷ S.top.row) → Safe (Sound T rows) (load (code_at (S.now + 1)) t q s)
  ldo_safe t q d h = load_safe t q (main_at q t d) h

  pub sro_safe : (t : Kind) (q : ℕ) (σ : Stack) → S.top.row ≡ entry.Value t ∷ σ → CellOf (declaration T 0) q t → Handed T rows S.now (S.now + 1) σ → Safe (Sound T rows) (store (code_at (S.now + 1)) t q s)
  sro_safe t q σ r d h = store_safe t q σ r (main_at q t d) h

  pub lod_safe : (t : Kind) (p q a : ℕ) → ancestor T p (owner T S.now) ≡ Some a → Declared (declaration T a) q t → Handed T rows S.now (S.now + 1) (entry.Value t ∷ S.top.row) →
      Safe (Sound T rows) (lod t p q (code_at (S.now + 1)) s)
  lod_safe t p q a e d h = bind_ok (Sound T rows) _ _ _ (based p a e) (load_safe t _ (data_at p a q t e d) h)

  pub str_safe : (t : Kind) (p q a : ℕ) (σ : Stack) → S.top.row ≡ entry.Value t ∷ σ → ancestor T p (owner T S.now) ≡ Some a → Declared (declaration T a) q t → Handed T rows S.now (S.now + 1) σ →
      Safe (Sound T rows) (str t p q (code_at (S.now + 1)) s)
  str_safe t p q a σ r e d h = bind_ok (Sound T rows) _ _ _ (based p a e) (store_safe t _ σ r (data_at p a q t e d) h)

  pub lda_safe : (p q a : ℕ) → ancestor T p (owner T S.now) ≡ Some a → Handed T rows S.now (S.now + 1) (entry.Value k.Address ∷ S.top.row) → Safe (Sound T rows) (lda p q (code_at (S.now + 1)) s)
  lda_safe p q a e h = bind_ok (Sound T rows) _ _ _ (based p a e) (more (S.now + 1) k.Address _ s.host (valid (v.Address (record { 0 = pos (place_of (up p (over S.below S.parent S.top)) + q) })) refl) h)

  pub ujp_safe : (q : CodePlace) (m : ℕ) → q ≡ code_at m → Handed T rows S.now m S.top.row → Safe (Sound T rows) (ujp q s)
  ujp_safe q m e h = rw e (dropping m 0 S.top.row s.cells s.host (let l = S.sp_is in omega arith) refl S.stands h)

  pub fjp_safe : (q : CodePlace) (m : ℕ) (σ : Stack) → q ≡ code_at m → S.top.row ≡ entry.Value k.Boolean ∷ σ → Handed T rows S.now (S.now + 1) σ → Handed T rows S.now m σ → Safe (Sound T rows) (fjp q (code_at (S.now + 1)) s)
  fjp_safe q m σ e r h₁ h₂ =
      let p = top_is k.Boolean σ r in
      bind_ok (Sound T rows) _ p.value _ p.is (boolean_is (Sound T rows) p.value _ p.valid (λ b _. rw e (either p b)))
    where
      either : Top k.Boolean σ → (b : Bool) → Sound T rows (dropped (cond b (code_at (S.now + 1)) (code_at m)) 1 s)
      either p true = dropping (S.now + 1) 1 σ s.cells s.host (let l = p.sp_is in omega arith) refl p.stands h₁
      either p false = dropping m 1 σ s.cells s.host (let l = p.sp_is in omega arith) refl p.stands h₂

  pub inp_safe : (t : Kind) → Handed T rows S.now (S.now + 1) (entry.Value t ∷ S.top.row) → Safe (Sound T rows) (inp t (code_at (S.now + 1)) s)
  inp_safe t h =
      let (r₁, r₂) = in_room (S.now + 1) (entry.Value t ∷ S.top.row) h in
      let e = S.sp_is in
      demand_ok (Sound T rows) _ StackFull _ (le-leb s.regs.height s.regs.ep (omega arith))
      (safe_bind (Valid t) (Sound T rows) (next_value t s.host.waiting) _ (next_may t s.host.waiting) (λ x w. more (S.now + 1) t x (taken t s.host) w h))

  pub out_safe : (t : Kind) (σ : Stack) → S.top.row ≡ entry.Value t ∷ σ → Handed T rows S.now (S.now + 1) σ → Safe (Sound T rows) (out t (code_at (S.now + 1)) s)
  out_safe t σ r h =
      let p = top_is t σ r in
      bind_ok (Sound T rows) _ p.value _ (typed_is t σ p)
      (put_may (Sound T rows) s.host.room _ (dropping (S.now + 1) 1 σ s.cells (written p.value s.host) (let l = p.sp_is in omega arith) refl p.stands h))

  -- a place that is reached holds a cell
  reached_may : (z : ℤ) → Safe (λ x. Real (sort (peek s.cells x))) (reached z s.regs.height)
  reached_may (pos x) =
      demand_may (λ (y : ℕ). Real (sort (peek s.cells y))) (ltb x s.regs.height) NoDataCell (Ok x) (omega arith)
      (λ e. let l = S.sp_is in stands_real s.cells _ x S.stands (filled_shape T (over S.below S.parent S.top)) (grind arith))
  reached_may (negsuc x) = omega arith

  pub ind_safe : (t : Kind) (σ : Stack) → S.top.row ≡ entry.Value k.Address ∷ σ → Handed T rows S.now (S.now + 1) (entry.Value t ∷ σ) → Safe (Sound T rows) (ind t (code_at (S.now + 1)) s)
  ind_safe t σ r h =
      let p = top_is k.Address σ r in
      bind_ok (Sound T rows) _ p.value _ p.is (address_is (Sound T rows) p.value _ p.valid (λ z _.
      safe_bind (λ x. Real (sort (peek s.cells x))) (Sound T rows) (reached z.0 s.regs.height) _ (reached_may z.0) (λ x c.
      safe_bind (Valid t) (Sound T rows) (held NoDataCell OtherKindOfCell t (peek s.cells x)) _ (held_may NoDataCell OtherKindOfCell t (peek s.cells x) c (omega arith) (omega arith)) (λ y w.
      pushing (S.now + 1) 1 t y σ s.cells s.host w (let q = p.sp_is in omega arith) refl p.stands h))))

  pub sto_safe : (t : Kind) (σ : Stack) → S.top.row ≡ entry.Value t ∷ (entry.Value k.Address ∷ σ) → Handed T rows S.now (S.now + 1) σ → Safe (Sound T rows) (sto t (code_at (S.now + 1)) s)
  sto_safe t σ r h =
      let p = top_is t (entry.Value k.Address ∷ σ) r in
      let a = next_is t k.Address σ p in
      bind_ok (Sound T rows) _ p.value _ (typed_is t (entry.Value k.Address ∷ σ) p) (bind_ok (Sound T rows) _ a.0 _ a.1 (address_is (Sound T rows) a.0 _ a.2 (λ z _.
      safe_bind (λ x. Real (sort (peek s.cells x))) (Sound T rows) (reached z.0 s.regs.height) _ (reached_may z.0) (λ x c.
      data_cases (Sound T rows) NoDataCell OtherKindOfCell t (peek s.cells x) _ c (omega arith) (omega arith) (λ e.
      stored t x σ 2 p.value p.valid (let q = p.sp_is in omega arith) p.stands.1 e h)))))

  pub mst_safe : (p a : ℕ) → ancestor T p (owner T S.now) ≡ Some a → Handed T rows S.now (S.now + 1) (entry.Mark p ∷ S.top.row) → Safe (Sound T rows) (mst p (code_at (S.now + 1)) s)
  mst_safe p a e h =
      let k = over S.below S.parent S.top in
      let (r₁, r₂) = in_room (S.now + 1) (entry.Mark p ∷ S.top.row) h in
      let e₁ = S.sp_is in
      let st = marks_stand s.cells (shape T k) s.regs.height (place_of (up p k)) s.regs.mp s.regs.ep S.sp_is (omega arith) S.stands in
      bind_ok (Sound T rows) _ _ _ (based p a e)
      (demand_ok (Sound T rows) _ StackFull _ (le-leb (s.regs.height + 4) s.regs.ep (omega arith))
      (went_on (S.now + 1) (s.regs.height + 5) (marks s.regs.height (place_of (up p k)) s.regs.mp s.regs.ep s.cells) s.host (entry.Mark p ∷ S.top.row) h
      (length_marks s.regs.height (place_of (up p k)) s.regs.mp s.regs.ep s.cells) (shifted (shape T k) _ (links_is S.below S.parent S.top p) S.mp_is S.ep_is st) (omega arith)))
    where
      shifted : {l m e l' m' e' : ℕ} (K : List Sort) (cs : List Cell) → l ≡ l' → m ≡ m' → e ≡ e' →
          Stands cs (is_at 0 ∷ (is_at e ∷ (is_at m ∷ (is_at l ∷ (is_at 0 ∷ K))))) → Stands cs (is_at 0 ∷ (is_at e' ∷ (is_at m' ∷ (is_at l' ∷ (is_at 0 ∷ K)))))
      shifted K cs p q r h = (h.0, (h.1.0 ∙ ap is_at r, (h.1.1.0 ∙ ap is_at q, (h.1.1.1.0 ∙ ap is_at p, h.1.1.1.1))))
