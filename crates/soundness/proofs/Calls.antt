-- The instructions that open and close a frame.
use Rattle.std.proofs.Common.{◌≡◌, ℕ, suc, ◌+◌, ◌-◌, ◌<◌, ◌≤◌, Bool, true, false, not, ◌&&◌, eqb, ltb, leb, List, [], ◌∷◌, ◌++◌, length, ℤ, pos, Some, None, Ok, Option, sym, refl, ap, ◌∙◌, subst, inl, inr, arith, length-append}
use Rattle.sheet.specs.declared.kind.Kind.{Kind}
use Rattle.sheet.specs.declared.stop.Stop.TheVariants.{StoreFull, WrongCell, WrongMark}
use Rattle.sheet.specs.Tables.{Contents}
use Rattle.arith.specs.Answers.{Answer, ◌>>◌}
use Rattle.rules.specs.Lookups.{procedure_at, owner}
use Rattle.rows.specs.declared.entry.Entry.TheVariants as entry
use Rattle.transfer.specs.Stacks.{Stack, cells_on}
use Rattle.store.specs.declared.cell.Cell.{Cell}
use Rattle.store.specs.declared.cell.Cell.TheVariants.{Mark, Working, Blank}
use Rattle.store.specs.Cells.{put, peek}
use Rattle.machine.specs.declared.operation.Operation.TheVariants.{Cup}
use Rattle.machine.specs.Frames.{settle, clear, result_cell, enter, marked, call_at, back, return_value, return_plain}
use Rattle.machine.specs.Leaves.{mark_in, place_in, held}
use Rattle.machine.specs.States.{State, code_at, regs_at}
use Rattle.machine.specs.Steps.{cup}
use Rattle.std.proofs.lemmas.Bool.{leb-true, le-leb, lt-ltb, eq-eqb, and_from}
use Rattle.machine.proofs.Lengths.{length_put, length_settle, length_clear, length_result}
use Rattle.soundness.specs.Frames.{Rows, operation_at}
use Rattle.soundness.proofs.Rules.{Declaration, declaration, laid, gave, room, Handed, Calls}
use Rattle.soundness.proofs.Invariant.{Sort, is_at, is_work, is_data, sort, Stands, Frame, Frames, ground, over, place_of, ep_of, procedure_of, up, Under, row_sorts, result_sort, data_sorts, foot, links, deck, shape, Fitted, Called, Good, Sound, Safe}
use Rattle.soundness.proofs.Cells.{Valid, sort_work, safe_bind, bind_ok, demand_ok, demand_may, stands_push, stands_at, At, number_is, placed_is, held_is}
use Rattle.soundness.proofs.Stacks.{length_row, length_laid, good_place, up_is, at_foot, shape_more, under_place}
use Rattle.soundness.proofs.Laying.{laid_append, row_laid, laid_out, passed_is, settle_stands, clear_stands, laid_put}
use Rattle.soundness.proofs.Inside.{with_row, good_row, length_deck, links_is}

four : {a b c d : Bool} → a ≡ true → b ≡ true → c ≡ true → d ≡ true → (a && (b && (c && d))) ≡ true
four p q r t = rw (p, q, r, t)

pub number_at : (cs : List Cell) (x y n : ℕ) → x ≡ y → sort (peek cs y) ≡ is_at n → mark_in (peek cs x) ≡ Ok (pos n)
number_at cs x y n e h = number_is (pos n) (peek cs x) (rw e h)

pub placed_at : (cs : List Cell) (x y n : ℕ) → x ≡ y → sort (peek cs y) ≡ is_at n → place_in (peek cs x) ≡ Ok n
placed_at cs x y n e h = placed_is n (peek cs x) (rw e h)

-- five marks whose numbers are in range
after_marks : {A : Type 0} (P : A → Type 0) (m : ℕ) (s : State) (z w : ℤ) (l o e : ℕ) (r : Answer A) →
    mark_in (peek s.cells m) ≡ Ok z → place_in (peek s.cells (m + 1)) ≡ Ok l → place_in (peek s.cells (m + 2)) ≡ Ok o →
    place_in (peek s.cells (m + 3)) ≡ Ok e → mark_in (peek s.cells (m + 4)) ≡ Ok w →
    (ltb l m && (ltb o m && (leb s.regs.height (e + 1) && leb e s.regs.last))) ≡ true → Safe P r → Safe P (marked m s >> r)
after_marks P m s z w l o e r z₀ z₁ z₂ z₃ z₄ ok h = rw (z₀, z₁, z₂, z₃, z₄, ok) h

module _ (T : Contents) (rows : Rows) (s : State) (S : Sound T rows s) where
  module _ (en : S.top.entered ≡ true) (k q : ℕ) (here : operation_at T S.now ≡ Some (Cup k (code_at q))) (c : Calls T rows S.now S.top.row k q) where
    abbrev pub caller : Frames
    caller = over S.below S.parent (with_row S.top c.rest)

    abbrev pub callee : Frame
    callee = record { place = length (shape T caller); of = owner T q; ret = S.now + 1; row = laid entry.Value (declaration T (owner T q)).parameters []; ep = s.regs.ep; entered = false }

    -- the stack before, its marks and parameters apart
    old : Stands s.cells (laid is_work (declaration T (owner T q)).parameters (is_at 0 ∷ (is_at S.top.ep ∷ (is_at S.top.place ∷ (is_at (place_of (up c.j caller)) ∷ (is_at 0 ∷ shape T caller))))))
    old = rw (links_is S.below S.parent (with_row S.top c.rest) c.j)
        (rw (c.takes_row, row_laid) at S.stands)

    old_sp : s.regs.height ≡ length (declaration T (owner T q)).parameters + 5 + length (shape T caller)
    old_sp =
        let l : s.regs.height ≡ length (laid is_work (declaration T (owner T q)).parameters (is_at 0 ∷ (is_at S.top.ep ∷ (is_at S.top.place ∷ (is_at (links S.top.place S.parent c.j) ∷ (is_at 0 ∷ shape T caller))))))
        = rw (c.takes_row, row_laid) at S.sp_is in
        let n = length_laid is_work (declaration T (owner T q)).parameters (is_at 0 ∷ (is_at S.top.ep ∷ (is_at S.top.place ∷ (is_at (links S.top.place S.parent c.j) ∷ (is_at 0 ∷ shape T caller))))) in
        omega arith

    good_caller : Good T rows (length s.cells) caller
    good_caller = good_row T rows (length s.cells) S.below S.parent S.top c.rest S.good

    linked : Under (up c.j caller) caller × (procedure_of (up c.j caller) ≡ (declaration T (owner T q)).parent)
    linked = up_is T rows (length s.cells) c.j caller (declaration T (owner T q)).parent good_caller (inl refl) (rw S.own at c.whose)

    called : Called T rows (length s.cells) S.below S.parent (with_row S.top c.rest) (up c.j caller) callee.place callee.of callee.ret
    called = record {
      fitted = record { in_it = en; ep_is = (S.fitted en).0.ep_is; ep_in = (S.fitted en).0.ep_in };
      waits = record { n = S.now; j = c.j; ret_is = refl; own = S.own; target = ap (λ (x : ℕ). owner T x) c.first; calls = rw (c.many, c.first) here; row_is = S.row_is ∙ ap Some c.takes_row; taken = rw c.takes_row at c.taken; next = c.handed };
      under = linked.0;
      whose = linked.1;
      not_main = c.below;
      place_is = refl;
    }

    opened : (m : ℕ) → m ≡ length (shape T caller) →
        Sound T rows (record { regs = regs_at (code_at q) s.regs.height m s.regs.ep s.regs.last; cells = put s.cells (m + 4) (Mark (pos (S.now + 1))); host = s.host })
    opened m e =
        let ps = (declaration T (owner T q)).parameters in
        let len = length_put s.cells (m + 4) (Mark (pos (S.now + 1))) in
        let o = old_sp in
        let x₁ = length_row S.top.ep S.top.place (links S.top.place S.parent) S.top.row (deck T S.below S.parent S.top (shape T S.below)) in
        let x₂ = length_deck T S.below S.parent S.top (shape T S.below) en in
        let gp = good_place T rows (length s.cells) S.below S.parent S.top S.good in
        let x₃ = S.sp_is in
        let sz = (S.fitted en).1 in
        let fi = (S.fitted en).0.ep_in in
        let fx = (S.fitted en).0.ep_is in
        let lp = length_laid is_work ps (foot (is_at 0) (place_of (up c.j caller)) (place_of caller) (ep_of caller) (S.now + 1) (shape T caller)) in
        let rp = row_laid s.regs.ep (length (shape T caller)) (links (length (shape T caller)) (up c.j caller)) ps [] (foot (is_at 0) (place_of (up c.j caller)) (place_of caller) (ep_of caller) (S.now + 1) (shape T caller)) in
        record {
          now = q;
          pc_is = refl;
          below = caller;
          parent = up c.j caller;
          top = callee;
          good = subst (λ (n' : ℕ). Good T rows n' (over caller (up c.j caller) callee)) (sym len) (good_caller, called);
          stands = rw rp (laid_put is_work ps s.cells [] (is_at S.top.ep ∷ (is_at S.top.place ∷ (is_at (place_of (up c.j caller)) ∷ (is_at 0 ∷ shape T caller))))
              (m + 4) (Mark (pos (S.now + 1))) (is_at 0) (is_at (S.now + 1)) (omega arith) (omega arith) refl old);
          sp_is = rw rp (omega arith);
          mp_is = e;
          ep_is = refl;
          row_is = c.starts;
          own = refl;
          last_is = S.last_is ∙ sym len;
          entered = sym (ap not (eq-eqb q (declaration T (owner T q)).first (sym c.first)));
          fitted = λ (z : false ≡ true). absurd (let w : ◌≡◌ {A = ℕ} 0 1 = cc in omega arith);
        }

    call_safe : (m : ℕ) → m ≡ length (shape T caller) → Safe (Sound T rows) (call_at T (procedure_at T (owner T q)) (code_at (S.now + 1)) (code_at q) m s)
    call_safe m e =
        let ps = (declaration T (owner T q)).parameters in
        let cs = s.cells in
        let r = laid_out is_work cs ps (m + 5) (is_at 0 ∷ (is_at S.top.ep ∷ (is_at S.top.place ∷ (is_at (place_of (up c.j caller)) ∷ (is_at 0 ∷ shape T caller))))) (omega arith) old in
        let st = r.0 in
        let o = old_sp in
        let lo = under_place T rows (length cs) caller (up c.j caller) good_caller linked.0 in
        let sm = shape_more T rows (length cs) S.below S.parent (with_row S.top c.rest) in
        let gp = good_place T rows (length cs) S.below S.parent S.top S.good in
        let fe = S.ep_is in
        let sz = (S.fitted en).1 in
        let fi = (S.fitted en).0.ep_in in
        let fx = (S.fitted en).0.ep_is in
        let x₁ = length_row S.top.ep S.top.place (links S.top.place S.parent) S.top.row (deck T S.below S.parent S.top (shape T S.below)) in
        let x₂ = length_deck T S.below S.parent S.top (shape T S.below) en in
        let x₃ = S.sp_is in
        let lz = S.last_is in
        let z₀ = number_at cs m _ 0 e st.1.1.1.1.0 in
        let z₁ = placed_at cs (m + 1) (suc (length (shape T caller))) _ (omega arith) st.1.1.1.0 in
        let z₂ = placed_at cs (m + 2) (suc (suc (length (shape T caller)))) _ (omega arith) st.1.1.0 in
        let z₃ = placed_at cs (m + 3) (suc (suc (suc (length (shape T caller))))) _ (omega arith) st.1.0 in
        let z₄ = number_at cs (m + 4) (suc (suc (suc (suc (length (shape T caller)))))) _ (omega arith) st.0 in
        let ok = four (lt-ltb (place_of (up c.j caller)) m (omega arith)) (lt-ltb S.top.place m (omega arith)) (le-leb s.regs.height (S.top.ep + 1) (omega arith)) (le-leb S.top.ep s.regs.last (omega arith)) in
        after_marks (Sound T rows) m s (pos 0) (pos 0) (place_of (up c.j caller)) S.top.place S.top.ep _ z₀ z₁ z₂ z₃ z₄ ok
        (rw (passed_is ps (m + 5) cs r.1) (opened m e))

    pub cup_safe : Safe (Sound T rows) (cup T k (code_at q) (code_at (S.now + 1)) s)
    cup_safe =
        let o = old_sp in
        let n = c.many in
        let lz = S.last_is in
        let fe = S.ep_is in
        let fi = (S.fitted en).0.ep_in in
        let fx = (S.fitted en).0.ep_is in
        let sz = (S.fitted en).1 in
        let gp = good_place T rows (length s.cells) S.below S.parent S.top S.good in
        let x₁ = length_row S.top.ep S.top.place (links S.top.place S.parent) S.top.row (deck T S.below S.parent S.top (shape T S.below)) in
        let x₂ = length_deck T S.below S.parent S.top (shape T S.below) en in
        let x₃ = S.sp_is in
        demand_ok (Sound T rows) _ WrongMark _ (and_from _ _ (le-leb (k + 5) s.regs.height (omega arith)) (le-leb (s.regs.height - (k + 5)) s.regs.last (omega arith)))
        (call_safe (s.regs.height - (k + 5)) (omega arith))

-- the result cell of a frame becomes a data cell
result_stands : (r : Option Kind) (ds : List Kind) (cs : List Cell) (x l m e t : ℕ) (K : List Sort) → x ≡ length K → x < length cs →
    Stands cs (laid is_data ds (foot (is_at 0) l m e t K)) → Stands (result_cell r x cs) (laid is_data ds (foot (result_sort true r) l m e t K))
result_stands None ds cs x l m e t K q b h = h
result_stands (Some u) ds cs x l m e t K q b h =
    laid_put is_data ds cs (is_at t ∷ (is_at e ∷ (is_at m ∷ (is_at l ∷ [])))) K x (Blank u) (is_at 0) (is_data u) q b refl h

good_entered : (T : Contents) (rows : Rows) (len : ℕ) (b p : Frames) (f g : Frame) → f.place ≡ g.place → f.of ≡ g.of → f.ret ≡ g.ret → Good T rows len (over b p f) → Good T rows len (over b p g)
good_entered T rows len ground p f g e₁ e₂ e₃ h = (h.0, sym e₂ ∙ h.1, sym e₁ ∙ h.2)
good_entered T rows len (over b q k) p f g e₁ e₂ e₃ h = (h.0, rw (← e₁, ← e₂, ← e₃) h.1)

module _ (T : Contents) (rows : Rows) (s : State) (S : Sound T rows s) (ne : S.top.entered ≡ false) where
  abbrev entering : (p q : ℕ) → Frame
  entering p q = record { place = S.top.place; of = S.top.of; ret = S.top.ret; row = []; ep = s.regs.mp + q - 1 + p; entered = true }

  abbrev footed : Sort → List Sort
  footed κ = foot κ (place_of S.parent) (place_of S.below) (ep_of S.below) S.top.ret (shape T S.below)

  pub enter_safe : (p q : ℕ) → S.top.row ≡ laid entry.Value (declaration T S.top.of).parameters [] → q ≡ 5 + length ((declaration T S.top.of).parameters ++ (declaration T S.top.of).locals) → room T S.top.of ≡ p →
      Handed T rows S.now (S.now + 1) [] → Safe (Sound T rows) (enter T (procedure_at T S.top.of) (code_at (S.now + 1)) p q s)
  enter_safe p q rw-is q-is room-is h =
      let P = declaration T S.top.of in
      let old : Stands s.cells (laid is_work P.parameters (footed (is_at 0))) = rw (rw-is, ne, row_laid) at S.stands in
      let gp = good_place T rows (length s.cells) S.below S.parent S.top S.good in
      let mp = S.mp_is in
      let r = laid_out is_work s.cells P.parameters (s.regs.mp + 5) (footed (is_at 0)) (omega arith) old in
      rw (passed_is P.parameters (s.regs.mp + 5) s.cells r.1)
      (demand_may (Sound T rows) (leb (s.regs.mp + q - 1 + p) s.regs.last) StoreFull _ (omega arith) (λ fits.
      let lz = S.last_is in
      let lt : s.regs.mp + q - 1 + p < length s.cells = (let w = leb-true (s.regs.mp + q - 1 + p) s.regs.last fits in omega arith) in
      let la = length-append P.parameters P.locals in
      let cs₁ = settle P.parameters (s.regs.mp + 5) s.cells in
      let cs₂ = clear P.locals (s.regs.mp + 5 + length P.parameters) cs₁ in
      let l₁ = length_settle P.parameters (s.regs.mp + 5) s.cells in
      let l₂ = length_clear P.locals (s.regs.mp + 5 + length P.parameters) cs₁ in
      let l₃ = length_result P.result s.regs.mp cs₂ in
      let ll : length (result_cell P.result s.regs.mp cs₂) ≡ length s.cells = omega arith in
      let lp = length_laid is_data P.parameters (footed (is_at 0)) in
      let st₁ = settle_stands P.parameters (s.regs.mp + 5) s.cells (footed (is_at 0)) (omega arith) (omega arith) r.0 r.1 in
      let st₂ = clear_stands P.locals (s.regs.mp + 5 + length P.parameters) cs₁ (laid is_data P.parameters (footed (is_at 0))) (omega arith) (omega arith) st₁ in
      let st₃ : Stands cs₂ (laid is_data (P.parameters ++ P.locals) (footed (is_at 0))) = rw laid_append st₂ in
      let st₄ = result_stands P.result (P.parameters ++ P.locals) cs₂ s.regs.mp (place_of S.parent) (place_of S.below) (ep_of S.below) S.top.ret (shape T S.below) (omega arith) (omega arith) st₃ in
      let lq = length_laid is_data (P.parameters ++ P.locals) (footed (result_sort true P.result)) in
      record {
        now = S.now + 1;
        pc_is = refl;
        below = S.below;
        parent = S.parent;
        top = entering p q;
        good = subst (λ (n' : ℕ). Good T rows n' (over S.below S.parent (entering p q))) (sym ll)
            (good_entered T rows (length s.cells) S.below S.parent S.top (entering p q) refl refl refl S.good);
        stands = st₄;
        sp_is = omega arith;
        mp_is = S.mp_is;
        ep_is = refl;
        last_is = S.last_is ∙ sym ll;
        row_is = h.meets;
        own = h.inside ∙ S.own;
        entered = sym (ap not (subst (λ (o : ℕ). eqb (S.now + 1) (declaration T o).first ≡ false) S.own h.later));
        fitted = λ e'. (record { in_it = refl; ep_is = omega arith; ep_in = rw ll lt }, omega arith);
      }))

pub stands_row : (cs : List Cell) (e m : ℕ) (l : ℕ → ℕ) (ρ : Stack) (K : List Sort) → Stands cs (row_sorts e m l ρ K) → Stands cs K
stands_row cs e m l [] K h = h
stands_row cs e m l (entry.Value t ∷ ρ) K h = stands_row cs e m l ρ K h.1
stands_row cs e m l (entry.Mark j ∷ ρ) K h = stands_row cs e m l ρ K h.1.1.1.1.1

pub stands_data : (cs : List Cell) (b : Bool) (P : Declaration) (K : List Sort) → Stands cs (data_sorts b P K) → Stands cs K
stands_data cs true P K h = (laid_out is_data cs (P.parameters ++ P.locals) (length K) K refl h).0
stands_data cs false P K h = h

-- what stands below a frame
pub stands_foot : (T : Contents) (b p : Frames) (f : Frame) (cs : List Cell) → Stands cs (shape T (over b p f)) → Stands cs (shape T b)
stands_foot T b p f cs h =
    let F = foot (result_sort f.entered (declaration T f.of).result) (place_of p) (place_of b) (ep_of b) f.ret (shape T b) in
    let d : Stands cs F = stands_data cs f.entered (declaration T f.of) F (stands_row cs f.ep f.place (links f.place p) f.row _ h) in
    d.1.1.1.1.1

module _ (T : Contents) (rows : Rows) (s : State) where
  -- The way back: the top frame's marks are read, and the caller k goes on with its row and the result.
  module _ (b q : Frames) (k : Frame) (p : Frames) (f : Frame) (g : Good T rows (length s.cells) (over (over b q k) p f)) (st : Stands s.cells (shape T (over (over b q k) p f)))
      (mp : s.regs.mp ≡ f.place) (fi : Fitted T (length s.cells) f) (la : s.regs.last + 1 ≡ length s.cells) where
    at_mark : (x : ℕ) (κ : Sort) → At (foot (result_sort f.entered (declaration T f.of).result) (place_of p) k.place k.ep f.ret (shape T (over b q k))) x κ → sort (peek s.cells x) ≡ κ
    at_mark x κ a = stands_at s.cells (shape T (over (over b q k) p f)) x κ st (at_foot T rows (length s.cells) (over b q k) p f x κ a)

    back_is : (x : ℕ) → x ≤ k.ep + 1 → back x s ≡ Ok (regs_at (code_at f.ret) x k.place k.ep s.regs.last)
    back_is x l =
        let pl = g.1.place_is in
        let sm = shape_more T rows (length s.cells) b q k in
        let gp = good_place T rows (length s.cells) b q k g.0 in
        let pc = number_is (pos f.ret) (peek s.cells (s.regs.mp + 4)) (at_mark (s.regs.mp + 4) (is_at f.ret) (inl (omega arith, refl))) in
        let ep = placed_is k.ep (peek s.cells (s.regs.mp + 3)) (at_mark (s.regs.mp + 3) (is_at k.ep) (inr (inl (omega arith, refl)))) in
        let om = placed_is k.place (peek s.cells (s.regs.mp + 2)) (at_mark (s.regs.mp + 2) (is_at k.place) (inr (inr (inl (omega arith, refl))))) in
        rw (pc, ep, om, lt-ltb k.place s.regs.mp (omega arith), le-leb x (k.ep + 1) l, le-leb k.ep s.regs.last (let fi₀ = g.1.fitted.ep_in in omega (arith, la)))

    fits : (σ : Stack) → gave (declaration T f.of).result k.row ≡ σ → cells_on σ ≤ room T k.of
    fits σ e = rw (e, g.1.waits.own) at g.1.waits.next.fits

    -- the caller's stack after the call lies within its EP
    within : (σ : Stack) → gave (declaration T f.of).result k.row ≡ σ → cells_on σ + s.regs.mp ≤ k.ep + 1 + cells_on k.row
    within σ e =
        let pl = g.1.place_is in
        let fe = g.1.fitted.ep_is in
        let sz = fits σ e in
        let gp = good_place T rows (length s.cells) b q k g.0 in
        let x₁ = length_row k.ep k.place (links k.place q) k.row (deck T b q k (shape T b)) in
        let x₂ = length_deck T b q k (shape T b) g.1.fitted.in_it in
        omega arith

    closed : (σ : Stack) (sp' : ℕ) (cs' : List Cell) → gave (declaration T f.of).result k.row ≡ σ → length cs' ≡ length s.cells → Stands cs' (shape T (over b q (with_row k σ))) →
        sp' ≡ length (shape T (over b q (with_row k σ))) → Sound T rows (record { regs = regs_at (code_at f.ret) sp' k.place k.ep s.regs.last; cells = cs'; host = s.host })
    closed σ sp' cs' e len st' sp =
        let w = g.1.waits in
        let fk = g.1.fitted in
        record {
          now = w.n + 1;
          pc_is = ap code_at w.ret_is;
          below = b;
          parent = q;
          top = with_row k σ;
          good = subst (λ (n' : ℕ). Good T rows n' (over b q (with_row k σ))) (sym len) (good_row T rows (length s.cells) b q k σ g.0);
          stands = st';
          sp_is = sp;
          mp_is = refl;
          ep_is = refl;
          last_is = la ∙ sym len;
          row_is = w.next.meets ∙ ap Some e;
          own = w.next.inside ∙ w.own;
          entered = fk.in_it ∙ sym (ap not (rw w.own at w.next.later));
          fitted = λ e'. (record { in_it = fk.in_it; ep_is = fk.ep_is; ep_in = rw len fk.ep_in }, fits σ e);
        }

    retf_back : (t : Kind) → (declaration T f.of).result ≡ Some t → Safe (Sound T rows) (return_value (Some t) s)
    retf_back t r =
        let e : gave (declaration T f.of).result k.row ≡ entry.Value t ∷ k.row = rw r in
        let wi = within (entry.Value t ∷ k.row) e in
        let pl = g.1.place_is in
        let fi₁ = fi.ep_is in
        let fi₂ = fi.ep_in in
        bind_ok (Sound T rows) _ _ _ (back_is (s.regs.mp + 1) (omega arith))
        (safe_bind (Valid t) (Sound T rows) (held WrongCell WrongCell t (peek s.cells s.regs.mp)) _
        (held_is WrongCell WrongCell t (peek s.cells s.regs.mp) (at_mark s.regs.mp (is_data t) (inr (inr (inr (inr (inl (omega arith, rw (fi.in_it, r)))))))))
        (λ y w. closed (entry.Value t ∷ k.row) (s.regs.mp + 1) (put s.cells s.regs.mp (Working y)) e (length_put s.cells s.regs.mp (Working y))
        (stands_push s.cells (shape T (over b q k)) s.regs.mp (Working y) (is_work t) (omega arith) (omega arith) (sort_work t y w) (stands_foot T (over b q k) p f s.cells st))
        (omega arith)))

    retp_back : (declaration T f.of).result ≡ None → Safe (Sound T rows) (return_plain s)
    retp_back r =
        let e : gave (declaration T f.of).result k.row ≡ k.row = rw r in
        let wi = within k.row e in
        let pl = g.1.place_is in
        let sm = shape_more T rows (length s.cells) b q k in
        bind_ok (Sound T rows) _ _ _ (back_is s.regs.mp (omega arith))
        (closed k.row s.regs.mp s.cells e refl (stands_foot T (over b q k) p f s.cells st) (omega arith))

  pub leave_safe : (b p : Frames) (f : Frame) (t : Kind) → Good T rows (length s.cells) (over b p f) → Stands s.cells (shape T (over b p f)) → s.regs.mp ≡ f.place →
      Fitted T (length s.cells) f → s.regs.last + 1 ≡ length s.cells → (declaration T f.of).result ≡ Some t → (f.of ≡ 0 → ⊥) → Safe (Sound T rows) (return_value (Some t) s)
  leave_safe ground p f t g st mp fi la r nz = absurd (nz g.1)
  leave_safe (over b q k) p f t g st mp fi la r nz = retf_back b q k p f g st mp fi la t r

  pub leave_plain_safe : (b p : Frames) (f : Frame) → Good T rows (length s.cells) (over b p f) → Stands s.cells (shape T (over b p f)) → s.regs.mp ≡ f.place →
      Fitted T (length s.cells) f → s.regs.last + 1 ≡ length s.cells → (declaration T f.of).result ≡ None → (f.of ≡ 0 → ⊥) → Safe (Sound T rows) (return_plain s)
  leave_plain_safe ground p f g st mp fi la r nz = absurd (nz g.1)
  leave_plain_safe (over b q k) p f g st mp fi la r nz = retp_back b q k p f g st mp fi la r
