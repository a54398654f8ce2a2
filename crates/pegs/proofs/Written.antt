-- All that a run writes are values, and no more of them than there was room for.
use Rattle.std.proofs.Common.{◌≡◌, ℕ, zero, suc, ◌+◌, ◌-◌, Bool, true, false, cond, ◌&&◌, eqb, nat_le, List, [], ◌∷◌, ◌++◌, length, replicate, pos, Some, None, Ok, Err, Option, Result, sym, refl, ap, ◌∙◌, subst, arith}
use Rattle.std.proofs.lemmas.Bool.Decides.{nat_tests}
use Rattle.std.proofs.lemmas.List.{length-append}
use Rattle.sheet.specs.declared.kind.Kind.{Kind}
use Rattle.sheet.specs.declared.operation.Binary.{Binary}
use Rattle.sheet.specs.declared.operation.Unary.{Unary}
use Rattle.sheet.specs.declared.place.CodePlace.{CodePlace}
use Rattle.sheet.specs.declared.procedure.Procedure.{Procedure}
use Rattle.sheet.specs.declared.stop.Stop.{Stop}
use Rattle.sheet.specs.declared.stop.Stop.TheVariants.{WrongCell, WrongMark, NoDataCell, OtherKindOfCell, StackFull, StoreFull}
use Rattle.sheet.specs.declared.value.Value.{Value}
use Rattle.sheet.specs.declared.value.Value.TheVariants.{Address}
use Rattle.sheet.specs.Kinds.{is_value}
use Rattle.sheet.specs.Payloads.{address_in, boolean_in}
use Rattle.sheet.specs.Tables.{Contents}
use Rattle.arith.specs.Answers.{Answer, demand, ◌>>=◌, ◌>>◌}
use Rattle.arith.specs.Operations.{binary_result, unary_result}
use Rattle.rules.specs.Lookups.{procedure_at, owner, natural}
use Rattle.store.specs.declared.cell.Cell.{Cell}
use Rattle.store.specs.declared.cell.Cell.TheVariants.{Free, Mark, Working, Data, Blank}
use Rattle.store.specs.Cells.{clean, put, peek}
use Rattle.host.specs.Hosts.{Meaning, next_value, taken, put_answer, written}
use Rattle.host.specs.Texts.{AllValues}
use Rattle.machine.specs.declared.ending.Ending.{Ending}
use Rattle.machine.specs.declared.operation.Operation.{Operation}
use Rattle.machine.specs.declared.operation.Operation.TheVariants.{Two, One, Ldc, Dpl, Ldo, Sro, Lod, Str, Lda, Ind, Sto, Ujp, Fjp, In, Out, Mst, Cup, Ent, Retf, Retp, Hlt}
use Rattle.machine.specs.declared.registers.Registers.{Registers}
use Rattle.machine.specs.Endings.{stopping}
use Rattle.machine.specs.Frames.{place, marks, marked, passed, settled, settle, clear, result_cell, opened, enter, call, call_at, back, result_in, return_value, return_plain, local_kinds, parameter_kinds}
use Rattle.machine.specs.Leaves.{working_in, of_kind, held, writable, stacked, typed, base, reached, load, store}
use Rattle.machine.specs.Runs.{Went, go_on, go, begun}
use Rattle.machine.specs.States.{State, height, mp, ep, last, code_at, regs_at, moved, dropped, with_cell, with_host, pushed}
use Rattle.machine.specs.Steps.{two, one, dpl, lod, str, lda, ind, sto, fjp, inp, out, mst, perform, step_by, fetched, step}

-- ---- the cells of a store hold values
abbrev Sound : Cell → Type 0
Sound Free = Unit {0}
Sound (Mark z) = Unit {0}
Sound (Working x) = is_value x ≡ true
Sound (Data x) = is_value x ≡ true
Sound (Blank t) = Unit {0}

abbrev AllSound : List Cell → Type 0
AllSound [] = Unit {0}
AllSound (c ∷ cs) = Sound c × AllSound cs

clean_sound : (c : Cell) → Sound (clean c)
clean_sound Free = tt
clean_sound (Mark z) = tt
clean_sound (Working x) = by (is_value x) refl
  where
    by : (b : Bool) → is_value x ≡ b → Sound (cond b (Working x) Free)
    by true e = e
    by false e = tt
clean_sound (Data x) = by (is_value x) refl
  where
    by : (b : Bool) → is_value x ≡ b → Sound (cond b (Data x) Free)
    by true e = e
    by false e = tt
clean_sound (Blank t) = tt

put_sound : (cs : List Cell) (x : ℕ) (c : Cell) → AllSound cs → AllSound (put cs x c)
put_sound [] x c h = tt
put_sound (d ∷ cs) zero c h = (clean_sound c, h.1)
put_sound (d ∷ cs) (suc x) c h = (h.0, put_sound cs x c h.1)

peek_sound : (cs : List Cell) (x : ℕ) → AllSound cs → Sound (peek cs x)
peek_sound [] x h = tt
peek_sound (d ∷ cs) zero h = h.0
peek_sound (d ∷ cs) (suc x) h = peek_sound cs x h.1

marks_sound : (x l m e : ℕ) (cs : List Cell) → AllSound cs → AllSound (marks x l m e cs)
marks_sound x l m e cs h =
    put_sound _ (x + 4) (place 0) (put_sound _ (x + 3) (place e) (put_sound _ (x + 2) (place m) (put_sound _ (x + 1) (place l) (put_sound cs x (place 0) h))))

settle_sound : (ts : List Kind) (x : ℕ) (cs : List Cell) → AllSound cs → AllSound (settle ts x cs)
unfolding settle
settle_sound [] x cs h = h
settle_sound (t ∷ ts) x cs h = settle_sound ts (x + 1) (put cs x (settled (peek cs x))) (put_sound cs x (settled (peek cs x)) h)

clear_sound : (ts : List Kind) (x : ℕ) (cs : List Cell) → AllSound cs → AllSound (clear ts x cs)
unfolding clear
clear_sound [] x cs h = h
clear_sound (t ∷ ts) x cs h = clear_sound ts (x + 1) (put cs x (Blank t)) (put_sound cs x (Blank t) h)

result_sound : (r : Option Kind) (x : ℕ) (cs : List Cell) → AllSound cs → AllSound (result_cell r x cs)
result_sound None x cs h = h
result_sound (Some t) x cs h = put_sound cs x (Blank t) h

same_sound : (n : ℕ) (c : Cell) (cs : List Cell) → Sound c → AllSound cs → AllSound (replicate n c ++ cs)
same_sound zero c cs h k = k
same_sound (suc n) c cs h k = (h, same_sound n c cs h k)

free_sound : (n : ℕ) → AllSound (replicate n Free)
free_sound zero = tt
free_sound (suc n) = (tt, free_sound n)

-- ---- what a host holds, of k values that it had room for
pub record Kept (k : ℕ) (h : Meaning) : Type 0 where
  pub values : AllValues h.written
  pub room : length h.written + h.room ≡ k

all_values_append : (vs : List Value) (v : Value) → AllValues vs → is_value v ≡ true → AllValues (vs ++ (v ∷ []))
all_values_append [] v h e = (e, tt)
all_values_append (w ∷ vs) v h e = (h.0, all_values_append vs v h.1 e)

put_kept : (k : ℕ) (v : Value) (h : Meaning) → is_value v ≡ true → Kept k h → Kept k (written v h)
put_kept k v h e K = by (eqb h.room 0) refl
  where
    by : (b : Bool) → eqb h.room 0 ≡ b → Kept k (cond b h (record { waiting = h.waiting; written = h.written ++ (v ∷ []); room = h.room - 1 }))
    by true q = K
    by false q =
        let n = length-append h.written (v ∷ []) in
        let z : suc (h.room - 1) ≡ h.room = grind (arith, nat_tests) in
        let r = K.room in
        record { values = all_values_append h.written v K.values e; room = omega arith }

-- ---- what answers, where it does, holds P
abbrev Holds : {A E : Type 0} → (A → Type 0) → Result A E → Type 0
Holds P (Ok x) = P x
Holds P (Err e) = Unit {0}

on : {A B : Type 0} (Q : B → Type 0) (m : Answer A) (f : A → Answer B) → ((x : A) → Holds Q (f x)) → Holds Q (m >>= f)
on Q (Ok x) f h = h x
on Q (Err w) f h = tt

on_what : {A B : Type 0} (P : A → Type 0) (Q : B → Type 0) (m : Answer A) (f : A → Answer B) → Holds P m → ((x : A) → P x → Holds Q (f x)) → Holds Q (m >>= f)
on_what P Q (Ok x) f h k = k x h
on_what P Q (Err w) f h k = tt

then : {A B : Type 0} (Q : B → Type 0) (m : Answer A) (r : Answer B) → Holds Q r → Holds Q (m >> r)
then Q (Ok x) r h = h
then Q (Err w) r h = tt

abbrev IsValue : Value → Type 0
IsValue x = is_value x ≡ true

working_value : (c : Cell) → Sound c → Holds IsValue (working_in c)
working_value Free h = tt
working_value (Mark z) h = tt
working_value (Working x) h = h
working_value (Data x) h = tt
working_value (Blank t) h = tt

typed_value : (t : Kind) (n i : ℕ) (cs : List Cell) → AllSound cs → Holds IsValue (typed t n i cs)
typed_value t n i cs h =
    on_what IsValue IsValue (stacked n i cs) (λ y. of_kind WrongCell t y)
    (then IsValue _ (working_in (peek cs (n - (i + 1)))) (working_value (peek cs (n - (i + 1))) (peek_sound cs (n - (i + 1)) h)))
    (λ y e. then IsValue _ (Ok y) e)

module _ (k : ℕ) where
  record Clean (s : State) : Type 0 where
    cells : AllSound s.cells
    host : Kept k s.host

  abbrev Stays : Answer State → Type 0
  Stays r = Holds Clean r

  pushed_stays : (y : Value) (s : State) → AllSound s.cells → Kept k s.host → Stays (pushed y s)
  pushed_stays y s h w = then Clean _ (Ok _) (record { cells = put_sound s.cells (height s) (Working y) h; host = w })

  module _ (T : Contents) (n : ℕ) (s : State) (S : Clean s) where
    loads : (t : Kind) (x : ℕ) (q : CodePlace) → Stays (load q t x s)
    loads t x q = on Clean _ _ (λ y. pushed_stays y (dropped q 0 s) S.cells S.host)

    saved : (w u : Stop) (t : Kind) (x d : ℕ) (q : CodePlace) (y : Value) → Stays (writable w u t (peek s.cells x) >> Ok (with_cell (dropped q d s) x (Data y)))
    saved w u t x d q y =
        then Clean (writable w u t (peek s.cells x)) (Ok (with_cell (dropped q d s) x (Data y))) (record { cells = put_sound s.cells x (Data y) S.cells; host = S.host })

    stores : (t : Kind) (x : ℕ) (q : CodePlace) → Stays (store q t x s)
    stores t x q =
        on Clean (typed t (height s) 0 s.cells) (λ y. writable WrongCell WrongCell t (peek s.cells x) >> Ok (with_cell (dropped q 1 s) x (Data y)))
        (λ y. saved WrongCell WrongCell t x 1 q y)

    abbrev in_callee : (m : ℕ) (c q : CodePlace) → State
    in_callee m c q = record { regs = regs_at q (height s) m (ep s) (last s); cells = put s.cells (m + 4) (Mark c.0); host = s.host }

    called : (P : Procedure) (c q : CodePlace) (p : ℕ) → Stays (call T P c q p s)
    called P c q p =
        let m = height s - (p + 5) in
        then Clean (demand (nat_le (p + 5) (height s) && nat_le m (last s)) WrongMark) (call_at T P c q m s)
        (then Clean (marked m s) (passed (parameter_kinds T P) (m + 5) s.cells >> Ok (in_callee m c q))
        (then Clean (passed (parameter_kinds T P) (m + 5) s.cells) (Ok (in_callee m c q)) (record { cells = put_sound s.cells (m + 4) (Mark c.0) S.cells; host = S.host })))

    abbrev inside : (P : Procedure) (c : CodePlace) (p q : ℕ) → State
    inside P c p q = record { regs = regs_at c (mp s + q) (mp s) (mp s + q - 1 + p) (last s); cells = opened T P (mp s) s.cells; host = s.host }

    entered : (P : Procedure) (c : CodePlace) (p q : ℕ) → Stays (enter T P c p q s)
    entered P c p q =
        then Clean (passed (parameter_kinds T P) (mp s + 5) s.cells) (demand (nat_le (mp s + q - 1 + p) (last s)) StoreFull >> Ok (inside P c p q))
        (then Clean (demand (nat_le (mp s + q - 1 + p) (last s)) StoreFull) (Ok (inside P c p q)) (record {
          cells = result_sound P.result (mp s) _ (clear_sound (local_kinds T P) (mp s + 5 + length (parameter_kinds T P)) _ (settle_sound (parameter_kinds T P) (mp s + 5) s.cells S.cells));
          host = S.host;
        }))

    dropped_stays : (q : CodePlace) (d : ℕ) → Clean (dropped q d s)
    dropped_stays q d = record { cells = S.cells; host = S.host }

    put_stays : (x : Value) (c : CodePlace) → is_value x ≡ true → Stays (put_answer s.host.room >> Ok (dropped c 1 (with_host s (written x s.host))))
    put_stays x c e =
        then Clean (put_answer s.host.room) (Ok (dropped c 1 (with_host s (written x s.host)))) (record { cells = S.cells; host = put_kept k x s.host e S.host })

    abbrev with_marks : (x : ℕ) (c : CodePlace) → State
    with_marks x c = record { regs = moved c (height s + 5) s; cells = marks (height s) x (mp s) (ep s) s.cells; host = s.host }

    marked_stays : (x : ℕ) (c : CodePlace) → Stays (demand (nat_le (height s + 4) (ep s)) StackFull >> Ok (with_marks x c))
    marked_stays x c =
        then Clean (demand (nat_le (height s + 4) (ep s)) StackFull) (Ok (with_marks x c)) (record { cells = marks_sound (height s) x (mp s) (ep s) s.cells S.cells; host = S.host })

    returned : (g : Registers) (y : Value) → Clean (record { regs = g; cells = put s.cells (mp s) (Working y); host = s.host })
    returned g y = record { cells = put_sound s.cells (mp s) (Working y) S.cells; host = S.host }

    left_stays : (g : Registers) → Clean (record { regs = g; cells = s.cells; host = s.host })
    left_stays g = record { cells = S.cells; host = S.host }

    ending : (r : Answer State) → Stays r → Holds Clean (stopping r)
    ending (Ok t) h = h
    ending (Err w) h = tt

    abbrev next : CodePlace
    next = code_at (n + 1)

    two_stays : (f : Binary) → Stays (two f next s)
    two_stays f =
        on Clean (stacked (height s) 0 s.cells) (λ y. stacked (height s) 1 s.cells >>= λ x. binary_result f x y >>= λ z. pushed z (dropped next 2 s)) (λ y.
        on Clean (stacked (height s) 1 s.cells) (λ x. binary_result f x y >>= λ z. pushed z (dropped next 2 s)) (λ x.
        on Clean (binary_result f x y) (λ z. pushed z (dropped next 2 s)) (λ z. pushed_stays z (dropped next 2 s) S.cells S.host)))

    one_stays : (f : Unary) → Stays (one f next s)
    one_stays f =
        on Clean (stacked (height s) 0 s.cells) (λ x. unary_result f x >>= λ z. pushed z (dropped next 1 s)) (λ x.
        on Clean (unary_result f x) (λ z. pushed z (dropped next 1 s)) (λ z. pushed_stays z (dropped next 1 s) S.cells S.host))

    dpl_stays : (t : Kind) → Stays (dpl t next s)
    dpl_stays t = on Clean (typed t (height s) 0 s.cells) (λ x. pushed x (dropped next 0 s)) (λ x. pushed_stays x (dropped next 0 s) S.cells S.host)

    lod_stays : (t : Kind) (p q : ℕ) → Stays (lod t p q next s)
    lod_stays t p q = on Clean (base p (mp s) (mp s) s.cells) (λ x. load next t (x + q) s) (λ x. loads t (x + q) next)

    str_stays : (t : Kind) (p q : ℕ) → Stays (str t p q next s)
    str_stays t p q = on Clean (base p (mp s) (mp s) s.cells) (λ x. store next t (x + q) s) (λ x. stores t (x + q) next)

    lda_stays : (p q : ℕ) → Stays (lda p q next s)
    lda_stays p q =
        on Clean (base p (mp s) (mp s) s.cells) (λ x. pushed (Address (record { 0 = pos (x + q) })) (dropped next 0 s))
        (λ x. pushed_stays (Address (record { 0 = pos (x + q) })) (dropped next 0 s) S.cells S.host)

    abbrev found : Kind → ℕ → Answer State
    found t x = held NoDataCell OtherKindOfCell t (peek s.cells x) >>= λ y. pushed y (dropped next 1 s)

    ind_stays : (t : Kind) → Stays (ind t next s)
    ind_stays t =
        on Clean (stacked (height s) 0 s.cells) (λ a. address_in a >>= λ z. reached z.0 (height s) >>= λ x. found t x) (λ a.
        on Clean (address_in a) (λ z. reached z.0 (height s) >>= λ x. found t x) (λ z.
        on Clean (reached z.0 (height s)) (λ x. found t x) (λ x.
        on Clean (held NoDataCell OtherKindOfCell t (peek s.cells x)) (λ y. pushed y (dropped next 1 s)) (λ y. pushed_stays y (dropped next 1 s) S.cells S.host))))

    abbrev kept : Kind → Value → ℕ → Answer State
    kept t y x = writable NoDataCell OtherKindOfCell t (peek s.cells x) >> Ok (with_cell (dropped next 2 s) x (Data y))

    sto_stays : (t : Kind) → Stays (sto t next s)
    sto_stays t =
        on Clean (typed t (height s) 0 s.cells) (λ y. stacked (height s) 1 s.cells >>= λ a. address_in a >>= λ z. reached z.0 (height s) >>= λ x. kept t y x) (λ y.
        on Clean (stacked (height s) 1 s.cells) (λ a. address_in a >>= λ z. reached z.0 (height s) >>= λ x. kept t y x) (λ a.
        on Clean (address_in a) (λ z. reached z.0 (height s) >>= λ x. kept t y x) (λ z.
        on Clean (reached z.0 (height s)) (λ x. kept t y x) (λ x. saved NoDataCell OtherKindOfCell t x 2 next y))))

    fjp_stays : (q : CodePlace) → Stays (fjp q next s)
    fjp_stays q =
        on Clean (stacked (height s) 0 s.cells) (λ x. boolean_in x >>= λ b. Ok (dropped (cond b next q) 1 s)) (λ x.
        on Clean (boolean_in x) (λ b. Ok (dropped (cond b next q) 1 s)) (λ b. dropped_stays (cond b next q) 1))

    inp_stays : (t : Kind) → Stays (inp t next s)
    inp_stays t =
        then Clean (demand (nat_le (height s) (ep s)) StackFull) (next_value t s.host.waiting >>= λ x. pushed x (dropped next 0 (with_host s (taken t s.host))))
        (on Clean (next_value t s.host.waiting) (λ x. pushed x (dropped next 0 (with_host s (taken t s.host))))
        (λ x. pushed_stays x (dropped next 0 (with_host s (taken t s.host))) S.cells (record { values = S.host.values; room = S.host.room })))

    out_stays : (t : Kind) → Stays (out t next s)
    out_stays t =
        on_what IsValue Clean (typed t (height s) 0 s.cells) (λ x. put_answer s.host.room >> Ok (dropped next 1 (with_host s (written x s.host))))
        (typed_value t (height s) 0 s.cells S.cells) (λ x e. put_stays x next e)

    mst_stays : (p : ℕ) → Stays (mst p next s)
    mst_stays p =
        on Clean (base p (mp s) (mp s) s.cells) (λ x. demand (nat_le (height s + 4) (ep s)) StackFull >> Ok (with_marks x next)) (λ x. marked_stays x next)

    retf_stays : (r : Option Kind) → Stays (return_value r s)
    retf_stays r =
        on Clean (back (mp s + 1) s) (λ g. result_in r (peek s.cells (mp s)) >>= λ y. Ok (record { regs = g; cells = put s.cells (mp s) (Working y); host = s.host })) (λ g.
        on Clean (result_in r (peek s.cells (mp s))) (λ y. Ok (record { regs = g; cells = put s.cells (mp s) (Working y); host = s.host })) (λ y. returned g y))

    retp_stays : Stays (return_plain s)
    retp_stays = on Clean (back (mp s) s) (λ g. Ok (record { regs = g; cells = s.cells; host = s.host })) (λ g. left_stays g)

    performed : (i : Operation) → Holds Clean (perform T n i s)
    performed (Two f) = ending (two f next s) (two_stays f)
    performed (One f) = ending (one f next s) (one_stays f)
    performed (Ldc x) = ending (pushed x (dropped next 0 s)) (pushed_stays x (dropped next 0 s) S.cells S.host)
    performed (Dpl t) = ending (dpl t next s) (dpl_stays t)
    performed (Ldo t q) = ending (load next t q s) (loads t q next)
    performed (Sro t q) = ending (store next t q s) (stores t q next)
    performed (Lod t p q) = ending (lod t p q next s) (lod_stays t p q)
    performed (Str t p q) = ending (str t p q next s) (str_stays t p q)
    performed (Lda p q) = ending (lda p q next s) (lda_stays p q)
    performed (Ind t) = ending (ind t next s) (ind_stays t)
    performed (Sto t) = ending (sto t next s) (sto_stays t)
    performed (Ujp q) = dropped_stays q 0
    performed (Fjp q) = ending (fjp q next s) (fjp_stays q)
    performed (In t) = ending (inp t next s) (inp_stays t)
    performed (Out t) = ending (out t next s) (out_stays t)
    performed (Mst p) = ending (mst p next s) (mst_stays p)
    performed (Cup p q) = let P = procedure_at T (owner T (natural q.0)) in ending (call T P next q p s) (called P next q p)
    performed (Ent p q) = let P = procedure_at T (owner T n) in ending (enter T P next p q s) (entered P next p q)
    performed Retf = let r = (procedure_at T (owner T n)).result in ending (return_value r s) (retf_stays r)
    performed Retp = ending (return_plain s) retp_stays
    performed Hlt = tt

    stepped_by : (o : Option Operation) → Holds Clean (step_by T n o s)
    stepped_by None = tt
    stepped_by (Some i) = performed i

  stepped : (T : Contents) (s : State) → Clean s → Holds Clean (step T s)
  stepped T s S = stepped_by T (natural s.regs.pc.0) s S (fetched T s.regs.pc.0)

  went : (T : Contents) (n c : ℕ) (s : State) → Clean s → Clean (go_on T n c s).state
  unfolding go_on
  went T zero c s S = S
  went T (suc n) c s S = by (step T s) (stepped T s S) (went T n (c + 1))
    where
      by : (r : Result State Ending) → Holds Clean r → ((t : State) → Clean t → Clean (go_on T n (c + 1) t).state)
          → Clean (elim r as (λ _. Went) [ Ok t ↦ go_on T n (c + 1) t | Err e ↦ record { state = s; count = c; ending = Some e } ]).state
      by (Ok t) h more = more t h
      by (Err e) h more = S

zero_add : (n : ℕ) → 0 + n ≡ n
zero_add n = omega arith

-- ---- so it is of every run that begins with nothing written
pub written_well : (T : Contents) (n len : ℕ) (h : Meaning) → h.written ≡ [] → Kept h.room (go T n (begun len h)).state.host
written_well T n len h e =
    (went h.room T n 0 (begun len h) (record {
      cells = same_sound 5 (place 0) _ tt (free_sound (len - 5));
      host = record { values = subst AllValues (sym e) tt; room = ap (λ vs. length vs + h.room) e ∙ zero_add h.room };
    })).host
