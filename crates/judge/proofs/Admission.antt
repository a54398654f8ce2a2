-- What admitting means, from the path engine and the checks.
use Rattle.std.proofs.Common.{◌≡◌, ℕ, zero, suc, ◌-◌, ◌<◌, ◌≤◌, Bool, true, false, cond, eqb, leb, List, [], ◌∷◌, map, length, Some, None, Option, refl, ap, ◌∙◌, subst, inl, inr, arith}
use Rattle.std.specs.List.{slice_get}
use Rattle.std.specs.Option.{option_or}
use Rattle.std.proofs.lemmas.Bool.{le-leb, leb-true, eqb-true}
use Rattle.std.proofs.lemmas.Option.{get_or_from_slice_get}
use Rattle.sheet.specs.declared.procedure.Procedure.{Procedure}
use Rattle.sheet.specs.Tables.{Contents}
use Rattle.rules.specs.declared.fault.TableFault.TheVariants.{TooFewPlaces}
use Rattle.rules.specs.Lookups.{procedure_at, no_procedure, room_at}
use Rattle.rules.specs.Operands.{operand_fault, first_fault}
use Rattle.rules.specs.ProcedureLaws.{TableRule}
use Rattle.rules.specs.Procedures.{table_fault}
use Rattle.rules.proofs.EffectLaws.{neither_left, neither_right}
use Rattle.rules.proofs.OperandLaws.{operands_are_checked}
use Rattle.rules.proofs.ProcedureLaws.{table_is_checked}
use Rattle.paths.specs.Admitted.{Apart, Fits, Admits, Suits}
use Rattle.paths.specs.Admitting.{Fault, entry_at, entry_is, admit}
use Rattle.paths.specs.Exact.{agree}
use Rattle.paths.specs.Flows.{Hand, keep, lower, Lawful}
use Rattle.paths.specs.Lists.{In, All, Distinct}
use Rattle.paths.specs.Rows.{Rows, row_at, Held, Local}
use Rattle.paths.proofs.Admitting.{entries_apart, admit_exact}
use Rattle.paths.proofs.Exact.{strict_law}
use Rattle.paths.proofs.Lists.{all_in, all_map}
use Rattle.paths.proofs.Passes.{judge_passes}
use Rattle.rows.specs.declared.entry.Entry.TheVariants.{Value}
use Rattle.transfer.specs.Stacks.{Stack, cells_on, parameters_down}
use Rattle.transfer.specs.Transfer.{transfer}
use Rattle.transfer.proofs.Laws.{transfer_fits}
use Rattle.judge.specs.declared.flaw.Flaw.{Flaw}
use Rattle.judge.specs.declared.flaw.Flaw.TheVariants.{Differs, TooHigh}
use Rattle.judge.specs.Admission.{rows_fault, named, admitted}
use Rattle.judge.specs.AdmissionLaws.{Begins, LocallyRight, AdmitAcceptsExactlyLocalRows, JudgeLeavesRowsThatAdmitAccepts}
use Rattle.judge.specs.Flow.{same_stack, entry_of, as_step, step, stacks, fit}
use Rattle.judge.proofs.Inside.{stepped, each_all, inside, stacks_tell}
use Rattle.judge.proofs.Laws.{unchecked, accepted}

-- ---- procedures begin apart
abbrev Rising : List Procedure → Type 0
Rising Ps = (n : ℕ) (P Q : Procedure) → slice_get Ps n ≡ Some P → slice_get Ps (suc n) ≡ Some Q → P.first < Q.first

rising : (T : Contents) → TableRule T → Rising T.procedures
rising T t n P Q e f =
    let r = (t.each (suc n) Q f).first_rises (omega arith) in
    let z : suc n - 1 ≡ n = omega arith in
    let g : (procedure_at T (suc n - 1)).first ≡ P.first = ap (λ k. (procedure_at T k).first) z ∙ ap (λ (X : Procedure). X.first) (get_or_from_slice_get T.procedures n P no_procedure e) in
    omega (arith, g, r)

above : (T : Contents) (P : Procedure) (Ps : List Procedure) → Rising (P ∷ Ps) → (k : ℕ) → In k (map (λ h. h.0) (map (entry_of T) Ps)) → P.first < k
above T P [] r k m = absurd m
above T P (Q ∷ Rs) r k (inl e) = let h = r 0 P Q refl refl in omega (arith, h, e)
above T P (Q ∷ Rs) r k (inr m) = let h = r 0 P Q refl refl in omega (arith, h, above T Q Rs (λ n X Y a b. r (suc n) X Y a b) k m)

apart_by : (T : Contents) (Ps : List Procedure) → Rising Ps → Distinct (map (λ h. h.0) (map (entry_of T) Ps))
apart_by T [] r = tt
apart_by T (P ∷ Ps) r = ((λ i. let l = above T P Ps r P.first i in omega (arith, l)), apart_by T Ps (λ n X Y a b. r (suc n) X Y a b))

apart : (T : Contents) → TableRule T → Apart (stacks T)
apart T t i p m = entries_apart (map (entry_of T) T.procedures) (apart_by T T.procedures (rising T t)) i p m

-- ---- what is handed on fits where it goes
agree_not_lower : (b : Bool) (t : Stack) {X : Type 0} → agree b ≡ lower t → X
unfolding agree
agree_not_lower true t e = let z : ◌≡◌ {A = ℕ} 0 1 = cc in absurd (omega arith)
agree_not_lower false t e = let z : ◌≡◌ {A = ℕ} 0 1 = cc in absurd (omega arith)

suits : (T : Contents) → first_fault T ≡ None → Suits (stacks T) (fit T)
suits T c = record {
  handed = λ n s hs e.
      each_all (λ j r. cells_on r ≤ room_at T j) (λ h. fit T h.0 h.1 ≡ None) hs
      (λ h l. ap (λ b. cond b None (Some TooHigh)) (le-leb (cells_on h.1) (room_at T h.0) l))
      (transfer_fits T n s hs c (stepped (transfer T n s) hs e));
  lowered = λ n q s t a b e. agree_not_lower (same_stack q s) t e;
}

pub law : (T : Contents) → first_fault T ≡ None → TableRule T → Lawful (stacks T)
law T c t = strict_law same_stack stacks_tell (length T.code) (map (entry_of T) T.procedures) (step T) Differs (inside T c t)

exact : (T : Contents) → first_fault T ≡ None → TableRule T → Admits (stacks T) (fit T)
exact T c t = admit_exact (stacks T) (fit T) (inside T c t).starts (apart T t)

-- ---- rows that meet only where they are equal
agree_keep : (b : Bool) → agree {R = Stack} b ≡ keep → b ≡ true
unfolding agree
agree_keep true e = refl
agree_keep false e = let z : ◌≡◌ {A = ℕ} 0 1 = cc in absurd (omega arith)

keep_agree : (b : Bool) → b ≡ true → agree {R = Stack} b ≡ keep
unfolding agree
keep_agree true e = refl
keep_agree false e = let z : ◌≡◌ {A = ℕ} 0 1 = cc in absurd (omega arith)

held_is : (T : Contents) (rows : Rows Stack) (h : Hand Stack) → Held (stacks T) rows h → row_at rows h.0 ≡ Some h.1
held_is T rows h x = x.1 ∙ ap Some ((stacks_tell x.0 h.1).0 (agree_keep (same_stack x.0 h.1) x.2))

is_held : (T : Contents) (rows : Rows Stack) (h : Hand Stack) → row_at rows h.0 ≡ Some h.1 → Held (stacks T) rows h
is_held T rows h e = (h.1, e, keep_agree (same_stack h.1 h.1) ((stacks_tell h.1 h.1).1 refl))

-- ---- first instructions
entry_in : (T : Contents) (Ps : List Procedure) (i : ℕ) (P : Procedure) → slice_get Ps i ≡ Some P → In (entry_of T P) (map (entry_of T) Ps)
entry_in T [] i P e = let z : ◌≡◌ {A = ℕ} 0 1 = cc in absurd (omega arith)
entry_in T (Q ∷ Ps) zero P e = let z : P ≡ Q = cc in inl (ap (entry_of T) z)
entry_in T (Q ∷ Ps) (suc i) P e = inr (entry_in T Ps i P e)

in_entry : (T : Contents) (rows : Rows Stack) (Ps : List Procedure)
    → ((i : ℕ) (P : Procedure) → slice_get Ps i ≡ Some P → row_at rows P.first ≡ Some (map Value (parameters_down T P))) → All (Held (stacks T) rows) (map (entry_of T) Ps)
in_entry T rows [] f = tt
in_entry T rows (P ∷ Ps) f = (is_held T rows (entry_of T P) (f 0 P refl), in_entry T rows Ps (λ i Q e. f (suc i) Q e))

abbrev BeginsIn : List Procedure → ℕ → Type 0
BeginsIn Ps n = (i : ℕ) × (P : Procedure) × (slice_get Ps i ≡ Some P) × (P.first ≡ n)

some_by : (T : Contents) (n : ℕ) (P : Procedure) (Ps : List Procedure) (s : Stack) (b : Bool) → eqb P.first n ≡ b
    → entry_is b (entry_of T P).1 (entry_at (map (entry_of T) Ps) n) ≡ Some s → (entry_at (map (entry_of T) Ps) n ≡ Some s → BeginsIn Ps n) → BeginsIn (P ∷ Ps) n
unfolding entry_is
some_by T n P Ps s true t q later = (0, P, refl, eqb-true P.first n t)
some_by T n P Ps s false t q later = let x = later q in (suc x.0, x.1, x.2, x.3)

entry_some : (T : Contents) (n : ℕ) (Ps : List Procedure) (s : Stack) → entry_at (map (entry_of T) Ps) n ≡ Some s → BeginsIn Ps n
unfolding entry_at
entry_some T n [] s e = let z : ◌≡◌ {A = ℕ} 0 1 = cc in absurd (omega arith)
entry_some T n (P ∷ Ps) s e = some_by T n P Ps s (eqb P.first n) refl e (entry_some T n Ps s)

no_entry : (T : Contents) (n : ℕ) (o : Option Stack) → entry_at (map (entry_of T) T.procedures) n ≡ o → (Begins T n → ⊥) → o ≡ None
no_entry T n None e f = refl
no_entry T n (Some s) e f = absurd (f (entry_some T n T.procedures s e))

entry_begins : (T : Contents) → TableRule T → (n : ℕ) → entry_at (map (entry_of T) T.procedures) n ≡ None → Begins T n → ⊥
entry_begins T t n e (i, P, a, b) =
    let m = apart T t P.first (map Value (parameters_down T P)) (entry_in T T.procedures i P a) in
    let k = subst (λ (j : ℕ). entry_at (map (entry_of T) T.procedures) j ≡ Some (map Value (parameters_down T P))) b m in
    let z : ◌≡◌ {A = ℕ} 0 1 = cc in omega arith

fit_is : (T : Contents) (n : ℕ) (s : Stack) → fit T n s ≡ None → cells_on s ≤ room_at T n
fit_is T n s e = leb-true (cells_on s) (room_at T n) (by (leb (cells_on s) (room_at T n)) e)
  where
    by : (b : Bool) → ◌≡◌ {A = Option Flaw} (cond b None (Some TooHigh)) None → b ≡ true
    by true q = refl
    by false q = let z : ◌≡◌ {A = ℕ} 0 1 = cc in absurd (omega arith)

-- ---- the law
right : (T : Contents) (rows : Rows Stack) → table_fault T ≡ None → operand_fault T ≡ None → Local (stacks T) rows × Fits (stacks T) (fit T) rows → LocallyRight T rows
right T rows a b (l, f) =
    let t = (table_is_checked T).0 a in
    record {
      table = t;
      operands = (operands_are_checked T).0 b;
      firsts = λ i P e. held_is T rows (entry_of T P) (all_in (Held (stacks T) rows) (map (entry_of T) T.procedures) (entry_of T P) l.entered (entry_in T T.procedures i P e));
      others = λ n s g e. fit_is T n s (f n s (no_entry T n (entry_at (map (entry_of T) T.procedures) n) refl g) e);
      follows = λ n s e. (
          let x = l.kept n s e in
          (x.0, stepped (transfer T n s) x.0 x.1, all_map (Held (stacks T) rows) (λ h. row_at rows h.0 ≡ Some h.1) x.0 (λ h. held_is T rows h) x.2));
    }

holds : (T : Contents) (rows : Rows Stack) → length rows ≡ length T.code → LocallyRight T rows → Local (stacks T) rows × Fits (stacks T) (fit T) rows
holds T rows w r = (
  record {
    wide = w;
    entered = in_entry T rows T.procedures r.firsts;
    kept = λ n s e. (
        let x = r.follows n s e in
        (x.0, ap as_step x.1, all_map (λ h. row_at rows h.0 ≡ Some h.1) (Held (stacks T) rows) x.0 (λ h. is_held T rows h) x.2));
  },
  λ n s e q. ap (λ b. cond b None (Some TooHigh)) (le-leb (cells_on s) (room_at T n) (r.others n s (entry_begins T r.table n e) q)),
)

named_none : (x : Fault Flaw) → named x ≡ None → x ≡ None
named_none None e = refl
named_none (Some x) e = let z : ◌≡◌ {A = ℕ} 0 1 = cc in absurd (omega arith)

enough : (T : Contents) (r : ℕ) → length T.code ≤ r → rows_fault T r ≡ None
enough T r l = ap (λ b. cond b None (Some TooFewPlaces)) (le-leb (length T.code) r l)

admitted_by : (T : Contents) (r : ℕ) (rows : Rows Stack) → table_fault T ≡ None → rows_fault T r ≡ None → operand_fault T ≡ None → admit (stacks T) (fit T) rows ≡ None → admitted T r rows ≡ None
admitted_by T r rows a b c d =
    ap (λ o. option_or o (option_or (rows_fault T r) (option_or (operand_fault T) (named (admit (stacks T) (fit T) rows))))) a
    ∙ ap (λ o. option_or o (option_or (operand_fault T) (named (admit (stacks T) (fit T) rows)))) b
    ∙ ap (λ o. option_or o (named (admit (stacks T) (fit T) rows))) c
    ∙ ap named d

pub admit_accepts_exactly_local_rows : AdmitAcceptsExactlyLocalRows
admit_accepts_exactly_local_rows T r rows l w = (to, from)
  where
    to : admitted T r rows ≡ None → LocallyRight T rows
    to e =
        let named_fault = named (admit (stacks T) (fit T) rows) in
        let a = neither_left (table_fault T) (option_or (rows_fault T r) (option_or (operand_fault T) named_fault)) e in
        let p = neither_right (table_fault T) (option_or (rows_fault T r) (option_or (operand_fault T) named_fault)) e in
        let q = neither_right (rows_fault T r) (option_or (operand_fault T) named_fault) p in
        let b = neither_left (operand_fault T) named_fault q in
        let u = neither_right (operand_fault T) named_fault q in
        let t = (table_is_checked T).0 a in
        right T rows a b (((exact T (unchecked T a b) t).accepts rows w).0 (named_none (admit (stacks T) (fit T) rows) u))

    from : LocallyRight T rows → admitted T r rows ≡ None
    from x =
        let a = (table_is_checked T).1 x.table in
        let b = (operands_are_checked T).1 x.operands in
        admitted_by T r rows a (enough T r l) b (((exact T (unchecked T a b) x.table).accepts rows w).1 (holds T rows w x))

pub judge_leaves_rows_that_admit_accepts : JudgeLeavesRowsThatAdmitAccepts
judge_leaves_rows_that_admit_accepts T r w rows e =
    let x = accepted T r w rows e in
    let p = x.1 in
    let g = x.2 in
    let a = (table_is_checked T).1 p.table in
    let b = (operands_are_checked T).1 p.operands in
    let c = unchecked T a b in
    admitted_by T r rows a (enough T r x.0.0) b (judge_passes (stacks T) (fit T) (law T c p.table) (apart T p.table) (suits T c) rows g.0 g.1)
