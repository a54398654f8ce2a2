-- A step keeps the length of the store and NP.
use Rattle.std.proofs.Common.{◌≡◌, ℕ, ◌+◌, ◌-◌, ◌&&◌, ltb, leb, List, length, pos, Some, None, Ok, Err, Option, Result, sym, refl, ap, ◌∙◌, subst, arith}
use Rattle.sheet.specs.declared.kind.Kind.{Kind}
use Rattle.sheet.specs.declared.operation.Binary.{Binary}
use Rattle.sheet.specs.declared.operation.Unary.{Unary}
use Rattle.sheet.specs.declared.place.CodePlace.{CodePlace}
use Rattle.sheet.specs.declared.procedure.Procedure.{Procedure}
use Rattle.sheet.specs.declared.stop.Stop.TheVariants.{NoDataCell, OtherKindOfCell, WrongCell, WrongMark, StackFull, StoreFull, OutsideCode}
use Rattle.sheet.specs.declared.value.Value.{Value}
use Rattle.sheet.specs.declared.value.Value.TheVariants.{Address}
use Rattle.sheet.specs.Tables.{Contents}
use Rattle.arith.specs.Answers.{Answer, demand, ◌>>=◌, ◌>>◌}
use Rattle.arith.specs.Operations.{binary_result, unary_result}
use Rattle.sheet.specs.Payloads.{address_in, boolean_in}
use Rattle.rules.specs.Lookups.{natural, owner, procedure_at}
use Rattle.store.specs.declared.cell.Cell.{Cell}
use Rattle.store.specs.declared.cell.Cell.TheVariants.{Mark, Working, Data}
use Rattle.store.specs.Cells.{peek}
use Rattle.machine.specs.declared.ending.Ending.{Ending}
use Rattle.machine.specs.declared.ending.Ending.TheVariants.{Halted, Stopped}
use Rattle.machine.specs.declared.machine.Machine.{Machine}
use Rattle.machine.specs.declared.operation.Operation.{Operation}
use Rattle.machine.specs.declared.operation.Operation.TheVariants.{Two, One, Ldc, Dpl, Ldo, Sro, Lod, Str, Lda, Ind, Sto, Ujp, Fjp, In, Out, Mst, Cup, Ent, Retf, Retp, Hlt}
use Rattle.machine.specs.declared.registers.Registers.{Registers}
use Rattle.machine.specs.Endings.{stopping}
use Rattle.machine.specs.Frames as frame
use Rattle.machine.specs.Leaves.{mark_in, place_in, stacked, typed, base, held, writable, reached, load, store}
use Rattle.machine.specs.Machine.{CarriesOutWith, state_of}
use Rattle.machine.specs.States.{State, Outcome, last, height, mp, ep, code_at, regs_at, pushed, dropped, ended, gives}
use Rattle.machine.specs.Steps as step
use Rattle.machine.proofs.Lengths.{length_put, length_marks, length_settle, length_clear, length_result}
use Rattle.host.specs.Hosts.{Meaning, next_value, put_answer}

pub record Kept (s t : State) : Type 0 where
  pub long : length t.cells ≡ length s.cells
  pub last : t.regs.last ≡ s.regs.last

-- wherever it gives a state
abbrev pub Keeps : State → Answer State → Type 0
Keeps s a = (t : State) → a ≡ Ok t → Kept s t

never : {E : Type 0} {P : Type 0} (e : E) (t : State) → ◌≡◌ {A = Result State E} (Err e) (Ok t) → P
never e t q = let z : ◌≡◌ {A = ℕ} 0 1 = cc in absurd (omega arith)

bind : {A : Type 0} {s : State} {f : A → Answer State} (a : Answer A) → ((x : A) (t : State) → f x ≡ Ok t → Kept s t) → Keeps s (a >>= f)
bind (Ok x) h = h x
bind (Err w) h = λ t q. never w t q

then : {A : Type 0} {s : State} {b : Answer State} (a : Answer A) → ((t : State) → b ≡ Ok t → Kept s t) → Keeps s (a >> b)
then (Ok x) h = h
then (Err w) h = λ t q. never w t q

only : {s u : State} → Kept s u → (t : State) → ◌≡◌ {A = Answer State} (Ok u) (Ok t) → Kept s t
only {s = s} k t q = let e : _ ≡ t = cc in subst (λ (x : State). Kept s x) e k

push : (s : State) (y : Value) (c : CodePlace) (n : ℕ) → Keeps s (pushed y (dropped c n s))
push s y c n = then (demand (leb (height s - n) (ep s)) StackFull) (only (record { long = length_put s.cells (height s - n) (Working y); last = refl }))

load_keeps : (c : CodePlace) (t : Kind) (x : ℕ) (s : State) → Keeps s (load c t x s)
load_keeps c t x s = bind (held WrongCell WrongCell t (peek s.cells x)) (λ y. push s y c 0)

store_keeps : (c : CodePlace) (t : Kind) (x : ℕ) (s : State) → Keeps s (store c t x s)
store_keeps c t x s =
    bind (typed t (height s) 0 s.cells) (λ y.
    then (writable WrongCell WrongCell t (peek s.cells x)) (only (record { long = length_put s.cells x (Data y); last = refl })))

two_keeps : (f : Binary) (c : CodePlace) (s : State) → Keeps s (step.two f c s)
two_keeps f c s =
    bind (stacked (height s) 0 s.cells) (λ y. bind (stacked (height s) 1 s.cells) (λ x. bind (binary_result f x y) (λ z. push s z c 2)))

one_keeps : (f : Unary) (c : CodePlace) (s : State) → Keeps s (step.one f c s)
one_keeps f c s = bind (stacked (height s) 0 s.cells) (λ x. bind (unary_result f x) (λ z. push s z c 1))

dpl_keeps : (t : Kind) (c : CodePlace) (s : State) → Keeps s (step.dpl t c s)
dpl_keeps t c s = bind (typed t (height s) 0 s.cells) (λ x. push s x c 0)

lod_keeps : (t : Kind) (p q : ℕ) (c : CodePlace) (s : State) → Keeps s (step.lod t p q c s)
lod_keeps t p q c s = bind (base p (mp s) (mp s) s.cells) (λ x. load_keeps c t (x + q) s)

str_keeps : (t : Kind) (p q : ℕ) (c : CodePlace) (s : State) → Keeps s (step.str t p q c s)
str_keeps t p q c s = bind (base p (mp s) (mp s) s.cells) (λ x. store_keeps c t (x + q) s)

lda_keeps : (p q : ℕ) (c : CodePlace) (s : State) → Keeps s (step.lda p q c s)
lda_keeps p q c s = bind (base p (mp s) (mp s) s.cells) (λ x. push s (Address (record { 0 = pos (x + q) })) c 0)

ind_keeps : (t : Kind) (c : CodePlace) (s : State) → Keeps s (step.ind t c s)
ind_keeps t c s =
    bind (stacked (height s) 0 s.cells) (λ a. bind (address_in a) (λ z. bind (reached z.0 (height s)) (λ x.
    bind (held NoDataCell OtherKindOfCell t (peek s.cells x)) (λ y. push s y c 1))))

sto_keeps : (t : Kind) (c : CodePlace) (s : State) → Keeps s (step.sto t c s)
sto_keeps t c s =
    bind (typed t (height s) 0 s.cells) (λ y. bind (stacked (height s) 1 s.cells) (λ a. bind (address_in a) (λ z. bind (reached z.0 (height s)) (λ x.
    then (writable NoDataCell OtherKindOfCell t (peek s.cells x)) (only (record { long = length_put s.cells x (Data y); last = refl }))))))

fjp_keeps : (q c : CodePlace) (s : State) → Keeps s (step.fjp q c s)
fjp_keeps q c s = bind (stacked (height s) 0 s.cells) (λ x. bind (boolean_in x) (λ b. only (record { long = refl; last = refl })))

inp_keeps : (t : Kind) (c : CodePlace) (s : State) → Keeps s (step.inp t c s)
inp_keeps t c s =
    then (demand (leb (height s) (ep s)) StackFull) (bind (next_value t s.host.waiting) (λ x.
    then (demand (leb (height s - 0) (ep s)) StackFull) (only (record { long = length_put s.cells (height s - 0) (Working x); last = refl }))))

out_keeps : (t : Kind) (c : CodePlace) (s : State) → Keeps s (step.out t c s)
out_keeps t c s = bind (typed t (height s) 0 s.cells) (λ x. then (put_answer s.host.room) (only (record { long = refl; last = refl })))

mst_keeps : (p : ℕ) (c : CodePlace) (s : State) → Keeps s (step.mst p c s)
mst_keeps p c s =
    bind (base p (mp s) (mp s) s.cells) (λ x. then (demand (leb (height s + 4) (ep s)) StackFull)
    (only (record { long = length_marks (height s) x (mp s) (ep s) s.cells; last = refl })))

call_keeps : (T : Contents) (P : Procedure) (c q : CodePlace) (n : ℕ) (s : State) → Keeps s (frame.call T P c q n s)
call_keeps T P c q n s =
    let m = height s - (n + 5) in
    then (demand (leb (n + 5) (height s) && leb m (last s)) WrongMark) (then (frame.marked m s) (then (frame.passed (frame.parameter_kinds T P) (m + 5) s.cells)
    (only (record { long = length_put s.cells (m + 4) (Mark c.0); last = refl }))))

opened_long : (T : Contents) (P : Procedure) (m : ℕ) (cs : List Cell) → length (frame.opened T P m cs) ≡ length cs
opened_long T P m cs =
    length_result P.result m _ ∙ (length_clear (frame.local_kinds T P) _ _ ∙ length_settle (frame.parameter_kinds T P) (m + 5) cs)

enter_keeps : (T : Contents) (P : Procedure) (c : CodePlace) (p q : ℕ) (s : State) → Keeps s (frame.enter T P c p q s)
enter_keeps T P c p q s =
    then (frame.passed (frame.parameter_kinds T P) (mp s + 5) s.cells) (then (demand (leb (mp s + q - 1 + p) (last s)) StoreFull)
    (only (record { long = opened_long T P (mp s) s.cells; last = refl })))

-- a bind on what itself was bound
again : {A B : Type 0} {s : State} (a : Answer A) (g : A → Answer B) (f : B → Answer State) → ((x : A) → Keeps s (g x >>= f)) → Keeps s ((a >>= g) >>= f)
again (Ok x) g f h = h x
again (Err w) g f h = λ t q. never w t q

after : {A B : Type 0} {s : State} (a : Answer A) (b : Answer B) (f : B → Answer State) → Keeps s (b >>= f) → Keeps s ((a >> b) >>= f)
after (Ok x) b f h = h
after (Err w) b f h = λ t q. never w t q

-- a return, and what is done with the registers that it takes
back_keeps : (x : ℕ) (s : State) (f : Registers → Answer State) → ((r : Registers) → r.last ≡ s.regs.last → Keeps s (f r)) → Keeps s (frame.back x s >>= f)
back_keeps x s f h =
    again (mark_in (peek s.cells (mp s + 4))) _ f (λ z.
    again (place_in (peek s.cells (mp s + 3))) _ f (λ e.
    again (place_in (peek s.cells (mp s + 2))) _ f (λ m.
    after (demand (ltb m (mp s) && (leb x (e + 1) && leb e (last s))) WrongMark) _ f (h (regs_at (record { 0 = z }) x m e (last s)) refl))))

value_keeps : (r : Option Kind) (s : State) → Keeps s (frame.return_value r s)
value_keeps r s =
    back_keeps (mp s + 1) s _ (λ regs l. bind (frame.result_in r (peek s.cells (mp s))) (λ y.
    only (record { long = length_put s.cells (mp s) (Working y); last = l })))

plain_keeps : (s : State) → Keeps s (frame.return_plain s)
plain_keeps s = back_keeps (mp s) s _ (λ regs l. only (record { long = refl; last = l }))

abbrev Holds : State → Result State Ending → Type 0
Holds s a = (t : State) → a ≡ Ok t → Kept s t

stops : {s : State} (a : Answer State) → Keeps s a → Holds s (stopping a)
stops (Ok x) k = λ t q. let e : x ≡ t = cc in k t (ap Ok e)
stops (Err w) k = λ t q. never (Stopped w) t q

perform_keeps : (T : Contents) (n : ℕ) (i : Operation) (s : State) → Holds s (step.perform T n i s)
perform_keeps T n (Two f) s = stops (step.two f (code_at (n + 1)) s) (two_keeps f (code_at (n + 1)) s)
perform_keeps T n (One f) s = stops (step.one f (code_at (n + 1)) s) (one_keeps f (code_at (n + 1)) s)
perform_keeps T n (Ldc x) s = stops (step.ldc x (code_at (n + 1)) s) (push s x (code_at (n + 1)) 0)
perform_keeps T n (Dpl t) s = stops (step.dpl t (code_at (n + 1)) s) (dpl_keeps t (code_at (n + 1)) s)
perform_keeps T n (Ldo t q) s = stops (load (code_at (n + 1)) t q s) (load_keeps (code_at (n + 1)) t q s)
perform_keeps T n (Sro t q) s = stops (store (code_at (n + 1)) t q s) (store_keeps (code_at (n + 1)) t q s)
perform_keeps T n (Lod t p q) s = stops (step.lod t p q (code_at (n + 1)) s) (lod_keeps t p q (code_at (n + 1)) s)
perform_keeps T n (Str t p q) s = stops (step.str t p q (code_at (n + 1)) s) (str_keeps t p q (code_at (n + 1)) s)
perform_keeps T n (Lda p q) s = stops (step.lda p q (code_at (n + 1)) s) (lda_keeps p q (code_at (n + 1)) s)
perform_keeps T n (Ind t) s = stops (step.ind t (code_at (n + 1)) s) (ind_keeps t (code_at (n + 1)) s)
perform_keeps T n (Sto t) s = stops (step.sto t (code_at (n + 1)) s) (sto_keeps t (code_at (n + 1)) s)
perform_keeps T n (Ujp q) s = stops (step.ujp q s) (only (record { long = refl; last = refl }))
perform_keeps T n (Fjp q) s = stops (step.fjp q (code_at (n + 1)) s) (fjp_keeps q (code_at (n + 1)) s)
perform_keeps T n (In t) s = stops (step.inp t (code_at (n + 1)) s) (inp_keeps t (code_at (n + 1)) s)
perform_keeps T n (Out t) s = stops (step.out t (code_at (n + 1)) s) (out_keeps t (code_at (n + 1)) s)
perform_keeps T n (Mst p) s = stops (step.mst p (code_at (n + 1)) s) (mst_keeps p (code_at (n + 1)) s)
perform_keeps T n (Cup p q) s = stops (step.cup T p q (code_at (n + 1)) s) (call_keeps T (procedure_at T (owner T (natural q.0))) (code_at (n + 1)) q p s)
perform_keeps T n (Ent p q) s = stops (step.ent T n p q (code_at (n + 1)) s) (enter_keeps T (procedure_at T (owner T n)) (code_at (n + 1)) p q s)
perform_keeps T n Retf s = stops (step.retf T n s) (value_keeps (procedure_at T (owner T n)).result s)
perform_keeps T n Retp s = stops (frame.return_plain s) (plain_keeps s)
perform_keeps T n Hlt s = λ t q. never Halted t q

by_keeps : (T : Contents) (n : ℕ) (i : Option Operation) (s : State) → Holds s (step.step_by T n i s)
by_keeps T n None s = λ t q. never (Stopped OutsideCode) t q
by_keeps T n (Some i) s = perform_keeps T n i s

left : (s t : State) (r : Result (Unit {0}) Ending) (a : Result State Ending) → Holds s a → gives r t ≡ ended s a → Kept s t
left s t r (Ok u) k e = let q : t ≡ u = ap (λ (o : Outcome Ending). o.state) e in k t (ap Ok (sym q))
left s t r (Err w) k e = let q : t ≡ s = ap (λ (o : Outcome Ending). o.state) e in subst (λ (x : State). Kept s x) (sym q) (record { long = refl; last = refl })

-- of the definition of a step, whatever carries it out
pub step_keeps : (T : Contents) (s t : State) (r : Result (Unit {0}) Ending) → gives r t ≡ ended s (step.step T s) → Kept s t
step_keeps T s t r e = left s t r (step.step T s) (by_keeps T (natural s.regs.pc.0) (step.fetched T s.regs.pc.0) s) e

pub perform_leaves : {S : Type 0} (cells : S → List Cell) (T : Contents) (n : ℕ) (i : Operation) {before after : Machine S} {h k : Meaning} {r : Result (Unit {0}) Ending}
    → CarriesOutWith cells r before h after k (step.perform T n i) → Kept (state_of cells before h) (state_of cells after k)
perform_leaves cells T n i {before = before} {after = after} {h = h} {k = k} {r = r} d =
    left (state_of cells before h) (state_of cells after k) r (step.perform T n i (state_of cells before h)) (perform_keeps T n i (state_of cells before h)) d.state
