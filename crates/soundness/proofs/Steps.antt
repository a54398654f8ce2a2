-- One step of a table that keeps the rules keeps the frames, and a run begins with its frame.
use Rattle.std.proofs.Common.{◌≡◌, ℕ, ◌+◌, ◌-◌, ◌≤◌, Bool, true, false, cond, not, eqb, [], length, pos, Some, None, Ok, Err, Option, Result, sym, refl, ap, ◌∙◌, subst, arith}
use lib.ListN.{length-replicate}
use Rattle.std.proofs.lemmas.Bool.{lt-ltb, eq-eqb}
use Rattle.sheet.specs.declared.kind.Kind.{Kind}
use Rattle.sheet.specs.declared.place.CodePlace.{CodePlace}
use Rattle.sheet.specs.Tables.{Contents}
use Rattle.arith.specs.Answers.{Answer}
use Rattle.rules.specs.Lookups.{procedure_at, owner, natural}
use Rattle.store.specs.declared.cell.Cell.{Cell}
use Rattle.store.specs.declared.cell.Cell.TheVariants.{Free}
use Rattle.machine.specs.declared.ending.Ending.{Ending}
use Rattle.machine.specs.declared.operation.Operation.{Operation}
use Rattle.machine.specs.declared.operation.Operation.TheVariants.{Two, One, Ldc, Dpl, Ldo, Sro, Lod, Str, Lda, Ind, Sto, Ujp, Fjp, In, Out, Mst, Cup, Ent, Retf, Retp, Hlt}
use Rattle.machine.specs.Endings.{stopping}
use Rattle.machine.specs.Frames.{enter, return_value}
use Rattle.machine.specs.Runs.{begun_cells}
use Rattle.machine.specs.States.{State, code_at}
use Rattle.machine.specs.Steps.{ujp, perform, fetched, step_by, step}
use Rattle.soundness.specs.Frames.{Rows, operation_at}
use Rattle.soundness.proofs.Rules.{declaration, begins, Flow}
use Rattle.soundness.proofs.Invariant.{ground, Sound, Safe, EndsWell, Keeps, Starts}
use Rattle.soundness.proofs.Inside.{two_safe, one_safe, ldc_safe, dpl_safe, ldo_safe, sro_safe, lod_safe, str_safe, lda_safe, ind_safe, sto_safe, ujp_safe, fjp_safe, inp_safe, out_safe, mst_safe}
use Rattle.soundness.proofs.Calls.{cup_safe, enter_safe, leave_safe, leave_plain_safe}

ends_well : {A : Type 0} (P : A → Type 0) (r : Answer A) → Safe P r → EndsWell P (stopping r)
ends_well P (Ok x) h = h
ends_well P (Err w) h = h

module _ (T : Contents) (rows : Rows) (s : State) (S : Sound T rows s) where
  in_it : (i : Operation) → begins i ≡ eqb S.now (declaration T (owner T S.now)).first → S.top.entered ≡ not (begins i)
  in_it i e = S.entered ∙ ap not (rw (← S.own) (sym e))

  by_operation : (i : Operation) → operation_at T S.now ≡ Some i → begins i ≡ eqb S.now (declaration T (owner T S.now)).first → Flow T rows S.now S.top.row i → EndsWell (Sound T rows) (perform T S.now i s)
  by_operation (Two g) t e f = ends_well (Sound T rows) _ (two_safe T rows s S (in_it (Two g) e) g f.0 f.1 f.2)
  by_operation (One g) t e f = ends_well (Sound T rows) _ (one_safe T rows s S (in_it (One g) e) g f.0 f.1 f.2)
  by_operation (Ldc x) t e f = ends_well (Sound T rows) _ (ldc_safe T rows s S (in_it (Ldc x) e) x f.0 f.1)
  by_operation (Dpl u) t e f = ends_well (Sound T rows) _ (dpl_safe T rows s S (in_it (Dpl u) e) u f.0 f.1 f.2)
  by_operation (Ldo u q) t e f = ends_well (Sound T rows) _ (ldo_safe T rows s S (in_it (Ldo u q) e) u q f.0 f.1)
  by_operation (Sro u q) t e f = ends_well (Sound T rows) _ (sro_safe T rows s S (in_it (Sro u q) e) u q f.0 f.1 f.2 f.3)
  by_operation (Lod u p q) t e f = ends_well (Sound T rows) _ (lod_safe T rows s S (in_it (Lod u p q) e) u p q f.0 f.1 f.2 f.3)
  by_operation (Str u p q) t e f = ends_well (Sound T rows) _ (str_safe T rows s S (in_it (Str u p q) e) u p q f.2 f.0 f.1 f.3 f.4 f.5)
  by_operation (Lda p q) t e f = ends_well (Sound T rows) _ (lda_safe T rows s S (in_it (Lda p q) e) p q f.0 f.1 f.3)
  by_operation (Ind u) t e f = ends_well (Sound T rows) _ (ind_safe T rows s S (in_it (Ind u) e) u f.0 f.1 f.2)
  by_operation (Sto u) t e f = ends_well (Sound T rows) _ (sto_safe T rows s S (in_it (Sto u) e) u f.0 f.1 f.2)
  by_operation (Ujp q) t e f = ends_well (Sound T rows) (ujp q s) (ujp_safe T rows s S (in_it (Ujp q) e) q f.0 f.1 f.2)
  by_operation (Fjp q) t e f = ends_well (Sound T rows) _ (fjp_safe T rows s S (in_it (Fjp q) e) q f.3.0 f.0 f.3.1 f.1 f.2 f.3.2)
  by_operation (In u) t e f = ends_well (Sound T rows) _ (inp_safe T rows s S (in_it (In u) e) u f)
  by_operation (Out u) t e f = ends_well (Sound T rows) _ (out_safe T rows s S (in_it (Out u) e) u f.0 f.1 f.2)
  by_operation (Mst p) t e f = ends_well (Sound T rows) _ (mst_safe T rows s S (in_it (Mst p) e) p f.0 f.1 f.2)
  by_operation (Cup p q) t e f =
      let q-is = f.1 in
      subst (λ (c : CodePlace). EndsWell (Sound T rows) (perform T S.now (Cup p c) s)) (sym q-is)
      (ends_well (Sound T rows) _ (cup_safe T rows s S (in_it (Cup p q) e) p f.0 (t ∙ ap (λ (c : CodePlace). Some (Cup p c)) q-is) f.2))
  by_operation (Ent p q) t e f =
      subst (λ (o : ℕ). EndsWell (Sound T rows) (stopping (enter T (procedure_at T o) (code_at (S.now + 1)) p q s))) (sym S.own)
      (ends_well (Sound T rows) _ (enter_safe T rows s S (in_it (Ent p q) e) p q (rw S.own at f.0) (rw S.own at f.1) (rw S.own at f.2) f.3))
  by_operation Retf t e f =
      subst (λ (r : Option Kind). EndsWell (Sound T rows) (stopping (return_value r s))) (sym f.0.1)
      (ends_well (Sound T rows) _ (leave_safe T rows s S.below S.parent S.top f.0.0 S.good S.stands S.mp_is (S.fitted (in_it Retf e)).0 S.last_is
      (rw S.own at f.0.1) (rw S.own at f.1)))
  by_operation Retp t e f =
      ends_well (Sound T rows) _ (leave_plain_safe T rows s S.below S.parent S.top S.good S.stands S.mp_is (S.fitted (in_it Retp e)).0 S.last_is
      (rw S.own at f.0) (rw S.own at f.1))
  by_operation Hlt t e f = omega arith

pub keeps : Keeps
keeps T rows J s S =
    let r = J.rule S.now S.top.row S.row_is in
    let there : fetched T (pos S.now) ≡ Some r.operation = ap (λ (b : Bool). cond b (operation_at T S.now) None) (lt-ltb S.now 4096 r.inside) ∙ r.there in
    let e : step T s ≡ perform T S.now r.operation s =
    ap (λ (c : CodePlace). step_by T (natural c.0) (fetched T c.0) s) S.pc_is ∙ ap (λ (i : Option Operation). step_by T S.now i s) there in
    subst (λ (x : Result State Ending). EndsWell (Sound T rows) x) (sym e) (by_operation T rows s S r.operation r.there r.starts r.flow)

length_begun : (len : ℕ) → 5 ≤ len → length (begun_cells len) ≡ len
length_begun len l = let a = length-replicate {A = Cell} (len - 5) Free in omega arith

pub starts : Starts
starts T rows J len h wide = record {
  now = 0;
  pc_is = refl;
  below = ground;
  parent = ground;
  top = record { place = 0; of = 0; ret = 0; row = []; ep = 4; entered = false };
  good = (refl, refl, refl);
  stands = (refl, (refl, (refl, (refl, (refl, tt)))));
  sp_is = refl;
  mp_is = refl;
  ep_is = refl;
  last_is = let e = length_begun len wide in omega arith;
  row_is = J.begin;
  own = J.own;
  entered = sym (ap not (eq-eqb 0 (declaration T 0).first (sym J.first)));
  fitted = λ (z : false ≡ true). absurd (let w : ◌≡◌ {A = ℕ} 0 1 = cc in omega arith);
}
