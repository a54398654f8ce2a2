-- Where the invariant holds, every open frame holds its row and its declaration.
use Rattle.std.proofs.Common.{◌≡◌, ℕ, ◌+◌, ◌-◌, ◌<◌, Bool, true, false, cond, not, eqb, List, [], ◌∷◌, ◌++◌, map, length, pos, Some, None, Option, sym, refl, ap, ◌∙◌, subst, inl, inr, append_assoc, append-nil, arith, length-append, take-append-drop}
use lib.ListN.{length-map}
use Rattle.sheet.specs.declared.kind.Kind.{Kind}
use Rattle.sheet.specs.declared.place.CodePlace.{CodePlace}
use Rattle.sheet.specs.Kinds.{kind_of, is_value}
use Rattle.sheet.specs.Tables.{Contents}
use Rattle.rules.specs.Lookups.{procedure_at, owner}
use Rattle.transfer.specs.Stacks.{Stack, cells_on}
use Rattle.store.specs.declared.cell.Cell.{Cell}
use Rattle.store.specs.declared.cell.Cell.TheVariants.{Free, Mark, Working, Data, Blank}
use Rattle.store.specs.Cells.{peek}
use Rattle.machine.specs.declared.operation.Operation.TheVariants.{Two, One, Ldc, Dpl, Ldo, Sro, Lod, Str, Lda, Ind, Sto, Ujp, Fjp, In, Out, Mst, Cup, Ent, Retf, Retp, Hlt}
use Rattle.machine.specs.States.{State, code_at}
use Rattle.std.proofs.lemmas.Bool.{not-false}
use Rattle.machine.specs.Frames.{data_kinds}
use Rattle.rows.specs.declared.entry.Entry.TheVariants as entry
use Rattle.machine.specs.declared.operation.Operation.{Operation}
use Rattle.soundness.specs.Frames.{Rows, Form, a_free, a_mark, a_working, a_data, form, Lies, entry_forms, row_forms, result_form, frame_forms, forms_at, Open, top, caller, HasRow, Linked, Holds, AllHold}
use Rattle.soundness.proofs.Rules.{Declaration, declaration, laid, begins, Flow, Ruled}
use Rattle.soundness.proofs.Invariant.{Sort, is_free, is_mark, is_at, is_work, is_data, sort, Stands, Frame, Frames, ground, over, place_of, ep_of, Under, row_sorts, result_sort, data_sorts, foot, links, shape, Sound}
use Rattle.soundness.proofs.Cells.{At, stands_at, mark_is}
use Rattle.soundness.proofs.Stacks.{length_row, length_laid, good_place, good_under, under_trans, shape_more, at_foot, at_under}
use Rattle.soundness.proofs.Laying.{LiesAt, laid_out}
use Rattle.soundness.proofs.Calls.{stands_row, stands_data, stands_foot}

-- the forms of a frame as the invariant has them: before its ent the row alone is above the marks
abbrev data_forms : Bool → Declaration → List Form
data_forms true P = map a_data (P.parameters ++ P.locals)
data_forms false P = []

abbrev whole_forms : Bool → Declaration → Stack → List Form
whole_forms b P row = result_form b P.result ∷ (a_mark ∷ (a_mark ∷ (a_mark ∷ (a_mark ∷ (data_forms b P ++ row_forms row)))))

abbrev footed : Form → List Form → List Form
footed r fs = r ∷ (a_mark ∷ (a_mark ∷ (a_mark ∷ (a_mark ∷ fs))))

laid_forms : (ts : List Kind) (ρ : Stack) → row_forms (laid entry.Value ts ρ) ≡ row_forms ρ ++ map a_working ts
laid_forms [] ρ = sym (append-nil (row_forms ρ))
laid_forms (t ∷ ts) ρ = laid_forms ts (entry.Value t ∷ ρ) ∙ append_assoc (row_forms ρ) (a_working t ∷ []) (map a_working ts)

forms_same : (T : Contents) (o : ℕ) (b : Bool) (row : Stack) → (b ≡ false → row ≡ laid entry.Value (declaration T o).parameters [])
    → whole_forms b (declaration T o) row ≡ frame_forms T b (procedure_at T o) row
forms_same T o true row h =
    ap (λ (ts : List Kind). footed (result_form true (procedure_at T o).result) (map a_data ts ++ row_forms row))
    (take-append-drop (procedure_at T o).parameters (data_kinds T (procedure_at T o)))
forms_same T o false row h = ap (footed a_mark) (ap row_forms (h refl) ∙ laid_forms (declaration T o).parameters [])

-- where a procedure begins, the row is its parameters
at_ent : (T : Contents) (rows : Rows) (n : ℕ) (ρ : Stack) (i : Operation) → begins i ≡ true → Flow T rows n ρ i → ρ ≡ laid entry.Value (declaration T (owner T n)).parameters []
at_ent T rows n ρ (Two g) b f = absurd (let z : ◌≡◌ {A = ℕ} 0 1 = cc in omega arith)
at_ent T rows n ρ (One g) b f = absurd (let z : ◌≡◌ {A = ℕ} 0 1 = cc in omega arith)
at_ent T rows n ρ (Ldc x) b f = absurd (let z : ◌≡◌ {A = ℕ} 0 1 = cc in omega arith)
at_ent T rows n ρ (Dpl t) b f = absurd (let z : ◌≡◌ {A = ℕ} 0 1 = cc in omega arith)
at_ent T rows n ρ (Ldo t q) b f = absurd (let z : ◌≡◌ {A = ℕ} 0 1 = cc in omega arith)
at_ent T rows n ρ (Sro t q) b f = absurd (let z : ◌≡◌ {A = ℕ} 0 1 = cc in omega arith)
at_ent T rows n ρ (Lod t p q) b f = absurd (let z : ◌≡◌ {A = ℕ} 0 1 = cc in omega arith)
at_ent T rows n ρ (Str t p q) b f = absurd (let z : ◌≡◌ {A = ℕ} 0 1 = cc in omega arith)
at_ent T rows n ρ (Lda p q) b f = absurd (let z : ◌≡◌ {A = ℕ} 0 1 = cc in omega arith)
at_ent T rows n ρ (Ind t) b f = absurd (let z : ◌≡◌ {A = ℕ} 0 1 = cc in omega arith)
at_ent T rows n ρ (Sto t) b f = absurd (let z : ◌≡◌ {A = ℕ} 0 1 = cc in omega arith)
at_ent T rows n ρ (Ujp q) b f = absurd (let z : ◌≡◌ {A = ℕ} 0 1 = cc in omega arith)
at_ent T rows n ρ (Fjp q) b f = absurd (let z : ◌≡◌ {A = ℕ} 0 1 = cc in omega arith)
at_ent T rows n ρ (In t) b f = absurd (let z : ◌≡◌ {A = ℕ} 0 1 = cc in omega arith)
at_ent T rows n ρ (Out t) b f = absurd (let z : ◌≡◌ {A = ℕ} 0 1 = cc in omega arith)
at_ent T rows n ρ (Mst p) b f = absurd (let z : ◌≡◌ {A = ℕ} 0 1 = cc in omega arith)
at_ent T rows n ρ (Cup p q) b f = absurd (let z : ◌≡◌ {A = ℕ} 0 1 = cc in omega arith)
at_ent T rows n ρ (Ent p q) b f = f.0
at_ent T rows n ρ Retf b f = absurd (let z : ◌≡◌ {A = ℕ} 0 1 = cc in omega arith)
at_ent T rows n ρ Retp b f = absurd (let z : ◌≡◌ {A = ℕ} 0 1 = cc in omega arith)
at_ent T rows n ρ Hlt b f = absurd (let z : ◌≡◌ {A = ℕ} 0 1 = cc in omega arith)

abbrev plain : Sort → Form
plain is_free = a_free
plain (is_mark z) = a_mark
plain (is_work t) = a_working t
plain (is_data t) = a_data t

form_plain : (c : Cell) → form c ≡ plain (sort c)
form_plain Free = refl
form_plain (Mark z) = refl
form_plain (Working x) = by (is_value x)
  where
    by : (b : Bool) → cond b (a_working (kind_of x)) a_free ≡ plain (cond b (is_work (kind_of x)) is_free)
    by true = refl
    by false = refl
form_plain (Data x) = by (is_value x)
  where
    by : (b : Bool) → cond b (a_data (kind_of x)) a_free ≡ plain (cond b (is_data (kind_of x)) is_free)
    by true = refl
    by false = refl
form_plain (Blank t) = refl

of_sort : (s : State) (x y : ℕ) (κ : Sort) → x ≡ y → sort (peek s.cells y) ≡ κ → form (peek s.cells x) ≡ plain κ
of_sort s x y κ e h = rw e (form_plain (peek s.cells y) ∙ ap plain h)

lies_append : (s : State) (x y : ℕ) (A B : List Form) → y ≡ x + length A → Lies s x A → Lies s y B → Lies s x (A ++ B)
lies_append s x y [] B e a b = subst (λ (z : ℕ). Lies s z B) (omega arith) b
lies_append s x y (κ ∷ A) B e a b = (a.0, lies_append s (x + 1) y A B (omega arith) a.1 b)

lies_data : (s : State) (x : ℕ) (ts : List Kind) → LiesAt is_data s.cells ts x → Lies s x (map a_data ts)
lies_data s x [] h = tt
lies_data s x (t ∷ ts) h = (of_sort s x x (is_data t) refl h.0, lies_data s (x + 1) ts h.1)

length_forms : (ρ : Stack) → length (row_forms ρ) ≡ cells_on ρ
length_forms [] = refl
length_forms (entry.Value t ∷ ρ) = let l = length-append (row_forms ρ) (entry_forms (entry.Value t)) in let h = length_forms ρ in omega arith
length_forms (entry.Mark j ∷ ρ) = let l = length-append (row_forms ρ) (entry_forms (entry.Mark j)) in let h = length_forms ρ in omega arith

lies_row : (s : State) (e m : ℕ) (l : ℕ → ℕ) (ρ : Stack) (K : List Sort) (x : ℕ) → x ≡ length K → Stands s.cells (row_sorts e m l ρ K) → Lies s x (row_forms ρ)
lies_row s e m l [] K x q h = tt
lies_row s e m l (entry.Value t ∷ ρ) K x q h =
    let n = length_row e m l ρ K in
    let n' = length_forms ρ in
    lies_append s x (x + cells_on ρ) (row_forms ρ) (entry_forms (entry.Value t)) (omega arith) (lies_row s e m l ρ K x q h.1) (of_sort s (x + cells_on ρ) _ (is_work t) (omega arith) h.0, tt)
lies_row s e m l (entry.Mark j ∷ ρ) K x q h =
    let n = length_row e m l ρ K in
    let n' = length_forms ρ in
    lies_append s x (x + cells_on ρ) (row_forms ρ) (entry_forms (entry.Mark j)) (omega arith) (lies_row s e m l ρ K x q h.1.1.1.1.1) (
      of_sort s (x + cells_on ρ) _ (is_at 0) (omega arith) h.1.1.1.1.0,
      (
        of_sort s (x + cells_on ρ + 1) _ (is_at (l j)) (omega arith) h.1.1.1.0,
        (
          of_sort s (x + cells_on ρ + 1 + 1) _ (is_at m) (omega arith) h.1.1.0,
          (
            of_sort s (x + cells_on ρ + 1 + 1 + 1) _ (is_at e) (omega arith) h.1.0,
            (of_sort s (x + cells_on ρ + 1 + 1 + 1 + 1) _ (is_at 0) (omega arith) h.0, tt),
          ),
        ),
      ),
    )

plain_result : (b : Bool) (r : Option Kind) → plain (result_sort b r) ≡ result_form b r
plain_result true None = refl
plain_result true (Some t) = refl
plain_result false r = refl

-- the data cells, and how many
lies_decl : (s : State) (b : Bool) (P : Declaration) (K : List Sort) (x : ℕ) → x ≡ length K → Stands s.cells (data_sorts b P K) → Lies s x (data_forms b P)
lies_decl s true P K x q h = lies_data s x (P.parameters ++ P.locals) (laid_out is_data s.cells (P.parameters ++ P.locals) x K q h).1
lies_decl s false P K x q h = tt

length_decl : (b : Bool) (P : Declaration) (K : List Sort) → length (data_sorts b P K) ≡ length (data_forms b P) + length K
length_decl true P K = let l = length-map {B = Form} (P.parameters ++ P.locals) (λ t. a_data t) in let h = length_laid is_data (P.parameters ++ P.locals) K in omega arith
length_decl false P K = omega arith

module _ (T : Contents) (rows : Rows) (s : State) where
  -- a frame by its kinds and by its sorts
  lies_frame : (b p : Frames) (f : Frame) (x : ℕ) → x ≡ length (shape T b) → Stands s.cells (shape T (over b p f)) → Lies s x (whole_forms f.entered (declaration T f.of) f.row)
  lies_frame b p f x q h =
      let F = foot (result_sort f.entered (declaration T f.of).result) (place_of p) (place_of b) (ep_of b) f.ret (shape T b) in
      let D = data_sorts f.entered (declaration T f.of) F in
      let hd : Stands s.cells D = stands_row s.cells f.ep f.place (links f.place p) f.row D h in
      let hf : Stands s.cells F = stands_data s.cells f.entered (declaration T f.of) F hd in
      let ld = length_decl f.entered (declaration T f.of) F in (
        of_sort s x _ (result_sort f.entered (declaration T f.of).result) q hf.1.1.1.1.0 ∙ plain_result f.entered (declaration T f.of).result,
        (
          of_sort s (x + 1) _ (is_at (place_of p)) (omega arith) hf.1.1.1.0,
          (
            of_sort s (x + 1 + 1) _ (is_at (place_of b)) (omega arith) hf.1.1.0,
            (
              of_sort s (x + 1 + 1 + 1) _ (is_at (ep_of b)) (omega arith) hf.1.0,
              (
                of_sort s (x + 1 + 1 + 1 + 1) _ (is_at f.ret) (omega arith) hf.0,
                lies_append s (x + 1 + 1 + 1 + 1 + 1) (length D) (data_forms f.entered (declaration T f.of)) (row_forms f.row) (omega arith)
                    (lies_decl s f.entered (declaration T f.of) F (x + 1 + 1 + 1 + 1 + 1) (omega arith) hd)
                    (lies_row s f.ep f.place (links f.place p) f.row D (length D) refl h),
              ),
            ),
          ),
        ),
      )

  length_frame : (b p : Frames) (f : Frame) → length (shape T (over b p f)) ≡ length (shape T b) + length (whole_forms f.entered (declaration T f.of) f.row)
  length_frame b p f =
      let F = foot (result_sort f.entered (declaration T f.of).result) (place_of p) (place_of b) (ep_of b) f.ret (shape T b) in
      let D = data_sorts f.entered (declaration T f.of) F in
      let a = length_row f.ep f.place (links f.place p) f.row D in
      let ld = length_decl f.entered (declaration T f.of) F in
      let c = length-append (data_forms f.entered (declaration T f.of)) (row_forms f.row) in
      let d = length_forms f.row in
      omega arith

  stands_under : (k u : Frames) → Under u k → Stands s.cells (shape T k) → Stands s.cells (shape T u)
  stands_under ground u a h = absurd a
  stands_under (over b p f) u (inl e) h = rw e h
  stands_under (over b p f) u (inr a) h = stands_under b u a (stands_foot T b p f s.cells h)

  -- which frame of the stack an open frame is
  record Found (k : Frames) (m n e : ℕ) (w : Bool) : Type 0 where
    below : Frames
    parent : Frames
    frame : Frame
    under : Under (over below parent frame) k
    place_is : m ≡ frame.place
    last_is : e + 1 ≡ length (shape T (over below parent frame))
    row_is : HasRow T rows n w frame.row
    own : owner T n ≡ frame.of
    in_it : frame.entered ≡ not (eqb n (declaration T frame.of).first)
    fresh : frame.entered ≡ false → frame.row ≡ laid entry.Value (declaration T frame.of).parameters []

  module _ (J : Ruled T rows) (S : Sound T rows s) where
    abbrev whole : Frames
    whole = over S.below S.parent S.top

    there : (b p : Frames) (f : Frame) → Under (over b p f) whole → (x : ℕ) (κ : Sort) →
        At (foot (result_sort f.entered (declaration T f.of).result) (place_of p) (place_of b) (ep_of b) f.ret (shape T b)) x κ → sort (peek s.cells x) ≡ κ
    there b p f u x κ a =
        stands_at s.cells (shape T whole) x κ S.stands (at_under T rows (length s.cells) whole (over b p f) x κ u (at_foot T rows (length s.cells) b p f x κ a))

    under_next : (k v u : Frames) → Under v k → Under u v → Under u k
    under_next k v u a b = under_trans T rows (length s.cells) k v u b a

    down : (m₁ m n : ℕ) (b p : Frames) (f : Frame) → Under (over b p f) whole → m₁ ≡ f.place → (m₁ ≡ 0 → ⊥) → peek s.cells (m₁ + 2) ≡ Mark (pos m) → peek s.cells (m₁ + 4) ≡ Mark (pos (n + 1)) →
        Found whole m n (m₁ - 1) true
    down m₁ m n ground p f u pi nz p₂ p₄ =
        let g = good_under T rows (length s.cells) whole (over ground p f) S.good u in
        absurd (nz (pi ∙ g.2))
    down m₁ m n (over b q k) p f u pi nz p₂ p₄ =
        let g = good_under T rows (length s.cells) whole (over (over b q k) p f) S.good u in
        let c = g.1 in
        let w = c.waits in
        let pl = c.place_is in
        let k₂ : sort (peek s.cells (m₁ + 2)) ≡ is_at k.place = there (over b q k) p f u (m₁ + 2) (is_at k.place) (inr (inr (inl (omega arith, refl)))) in
        let k₄ : sort (peek s.cells (m₁ + 4)) ≡ is_at f.ret = there (over b q k) p f u (m₁ + 4) (is_at f.ret) (inl (omega arith, refl)) in
        let j₂ = ap sort p₂ in
        let j₄ = ap sort p₄ in
        let m_is : m ≡ k.place = cc in
        let r_is : n + 1 ≡ f.ret = cc in
        let n_is : n ≡ w.n = let x = w.ret_is in omega arith in
        let rl = J.rule w.n _ w.row_is in
        let same_instr : rl.operation ≡ Cup (length (declaration T f.of).parameters) (code_at (declaration T f.of).first) = let x = rl.there in let y = w.calls in cc in
        let not_first : eqb w.n (declaration T (owner T w.n)).first ≡ false = sym rl.starts ∙ ap begins same_instr in
        record {
          below = b;
          parent = q;
          frame = k;
          under = under_next whole (over (over b q k) p f) (over b q k) u (inr (inl refl));
          place_is = m_is;
          last_is = let x = c.place_is in omega (arith, positive);
          row_is = rw n_is (length (declaration T f.of).parameters, (declaration T f.of).first, _, w.calls, w.row_is, rw w.target w.taken);
          own = rw n_is w.own;
          in_it = rw n_is (c.fitted.in_it ∙ sym (ap not (rw w.own at not_first)));
          fresh = λ z. absurd (let y = c.fitted.in_it in let x : ◌≡◌ {A = ℕ} 0 1 = cc in omega arith);
        }
      where
        positive : 0 < m₁
        positive = pos_of m₁ nz
          where
            pos_of : (x : ℕ) → (x ≡ 0 → ⊥) → 0 < x
            pos_of x h = omega arith

    fresh_top : S.top.entered ≡ false → S.top.row ≡ laid entry.Value (declaration T S.top.of).parameters []
    fresh_top z =
        let r = J.rule S.now S.top.row S.row_is in
        let b : not (begins r.operation) ≡ false = ap not r.starts ∙ (rw (← S.own) at (sym S.entered ∙ z)) in
        rw S.own at (at_ent T rows S.now S.top.row r.operation (not-false (begins r.operation) b) r.flow)

    found : (m n e : ℕ) (w : Bool) → Open s m n e w → Found whole m n e w
    found m n e w (top {n = n'} q) =
        let p : pos n ≡ pos S.now = ap (λ (c : CodePlace). c.0) (sym q ∙ S.pc_is) in
        let is : n ≡ S.now = cc in
        record {
          below = S.below;
          parent = S.parent;
          frame = S.top;
          under = inl refl;
          place_is = S.mp_is;
          last_is = let e = S.sp_is in let sm = shape_more T rows (length s.cells) S.below S.parent S.top in omega arith;
          row_is = rw is S.row_is;
          own = rw is S.own;
          in_it = rw is S.entered;
          fresh = fresh_top;
        }
    found m n e w (caller {m = m₁} {n = n₁} {e = e₁} {w = w₁} o nz {m'} {n'} p₂ p₄) =
        let r = found m₁ n₁ e₁ w₁ o in
        down m₁ m n r.below r.parent r.frame r.under r.place_is nz p₂ p₄

    linked : (m₁ : ℕ) (b p : Frames) (f : Frame) → Under (over b p f) whole → m₁ ≡ f.place →
        Linked s m₁
    linked m₁ ground p f u pi = inl (pi ∙ (good_under T rows (length s.cells) whole (over ground p f) S.good u).2)
    linked m₁ (over b q k) p f u pi =
        let g = good_under T rows (length s.cells) whole (over (over b q k) p f) S.good u in
        let pl = g.1.place_is in
        let sm = shape_more T rows (length s.cells) b q k in
        let gp = good_place T rows (length s.cells) b q k g.0 in
        let k₂ = there (over b q k) p f u (m₁ + 2) (is_at k.place) (inr (inr (inl (omega arith, refl)))) in
        let k₄ = there (over b q k) p f u (m₁ + 4) (is_at f.ret) (inl (omega arith, refl)) in
        inr (k.place, g.1.waits.n, omega arith, mark_is _ (pos k.place) k₂, mark_is _ (pos f.ret) k₄ ∙ ap (λ (x : ℕ). Mark (pos x)) g.1.waits.ret_is)

    holds_one : (m n e : ℕ) (w : Bool) → Open s m n e w → Holds T rows s m n e w
    holds_one m n e w o =
        let r = found m n e w o in
        let g = good_under T rows (length s.cells) whole (over r.below r.parent r.frame) S.good r.under in
        let gp = good_place T rows (length s.cells) r.below r.parent r.frame g in
        let st = stands_under whole (over r.below r.parent r.frame) r.under S.stands in
        let pi = r.place_is in
        let li = r.last_is in
        let lf = length_frame r.below r.parent r.frame in
        let f = r.frame in
        let ly : Lies s m (whole_forms f.entered (declaration T f.of) f.row) = lies_frame r.below r.parent f m (omega arith) st in
        let le : e + 1 ≡ m + length (whole_forms f.entered (declaration T f.of) f.row) = omega arith in
        let en : f.entered ≡ not (eqb n (declaration T (owner T n)).first) = rw r.own r.in_it in
        let b = not (eqb n (procedure_at T (owner T n)).first) in
        let ly₁ : Lies s m (whole_forms b (declaration T (owner T n)) f.row) = subst (λ (b : Bool). Lies s m (whole_forms b (declaration T (owner T n)) f.row)) en (subst (λ (o : ℕ). Lies s m (whole_forms f.entered (declaration T o) f.row)) (sym r.own) ly) in
        let le₁ : e + 1 ≡ m + length (whole_forms b (declaration T (owner T n)) f.row) = subst (λ (b : Bool). e + 1 ≡ m + length (whole_forms b (declaration T (owner T n)) f.row)) en (subst (λ (o : ℕ). e + 1 ≡ m + length (whole_forms f.entered (declaration T o) f.row)) (sym r.own) le) in
        let same : whole_forms b (declaration T (owner T n)) f.row ≡ forms_at T n f.row = forms_same T (owner T n) b f.row (λ z. rw (← r.own) at (r.fresh (en ∙ z))) in
        record {
          row = f.row;
          row_is = r.row_is;
          cells = subst (Lies s m) same ly₁;
          ends = subst (λ (fs : List Form). e + 1 ≡ m + length fs) same le₁;
          linked = linked m r.below r.parent f r.under pi;
        }

    pub all_hold : AllHold T rows s
    all_hold = record { running = (S.now, S.pc_is); frames = holds_one }
