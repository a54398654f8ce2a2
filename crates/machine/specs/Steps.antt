-- One step of the machine. Cited by the code of each instruction, by the dispatcher and by the promises on runs.
-- What stops a step is tested in the order 63, 61, 60, 43, 41, 42, 45, 46, 47, 44, 62, then the host. Assumes nothing.
--   two .. retf: the instructions, each by its name; PC becomes c, the next one, unless they say otherwise
--   perform: operation i, which is at n
--   decoded, fetched: the operation that an instruction stands for, and the one at a place in the code; no table has 4,097
--     instructions
--   step: one step of a table's run, or what ends it; step_by, once the operation is known
use Rattle.std.specs.Prelude.{ℕ, ◌+◌, cond, ℤ, pos, negsuc, Some, None, Ok, Err, Option, Result, nat_le, nat_lt}
use Rattle.std.specs.List.{slice_get}
use Rattle.sheet.specs.declared.instruction.Instruction.{Instruction}
use Rattle.sheet.specs.declared.kind.Kind.{Kind}
use Rattle.sheet.specs.declared.operation.Binary.{Binary}
use Rattle.sheet.specs.declared.operation.Unary.{Unary}
use Rattle.sheet.specs.declared.place.CodePlace.{CodePlace}
use Rattle.sheet.specs.declared.stop.Stop.TheVariants.{NoDataCell, OtherKindOfCell, StackFull, OutsideCode}
use Rattle.sheet.specs.declared.value.Value.{Value}
use Rattle.sheet.specs.declared.value.Value.TheVariants.{Address}
use Rattle.sheet.specs.Tables.{Contents}
use Rattle.arith.specs.Answers.{Answer, demand, ◌>>=◌, ◌>>◌}
use Rattle.arith.specs.Operations.{binary_result, unary_result}
use Rattle.sheet.specs.Payloads.{address_in, boolean_in}
use Rattle.rules.specs.Lookups.{procedure_at, owner, natural}
use Rattle.store.specs.declared.cell.Cell.TheVariants.{Data}
use Rattle.store.specs.Cells.{peek}
use Rattle.host.specs.Hosts.{next_value, taken, put_answer, written}
use Rattle.machine.specs.declared.ending.Ending.{Ending}
use Rattle.machine.specs.declared.ending.Ending.TheVariants.{Halted, Stopped}
use Rattle.machine.specs.declared.operation.Operation.{Operation}
use Rattle.machine.specs.declared.operation.Operation.TheVariants.{Two, One, Ldc, Dpl, Ldo, Sro, Lod, Str, Lda, Ind, Sto, Ujp, Fjp, In, Out, Mst, Cup, Ent, Retf, Retp, Hlt}
use Rattle.machine.specs.Decoding.{decode}
use Rattle.machine.specs.Endings.{stopping}
use Rattle.machine.specs.Frames.{marks, enter, call, return_value, return_plain}
use Rattle.machine.specs.Leaves.{stacked, typed, base, held, writable, reached, load, store}
use Rattle.machine.specs.States.{State, height, mp, ep, code_at, moved, dropped, pushed, with_cell, with_host}

abbrev pub two : Binary → CodePlace → State → Answer State
two f c s =
    stacked (height s) 0 s.cells >>= λ y. stacked (height s) 1 s.cells >>= λ x. binary_result f x y >>= λ z. pushed z (dropped c 2 s)

abbrev pub one : Unary → CodePlace → State → Answer State
one f c s = stacked (height s) 0 s.cells >>= λ x. unary_result f x >>= λ z. pushed z (dropped c 1 s)

abbrev pub ldc : Value → CodePlace → State → Answer State
ldc x c s = pushed x (dropped c 0 s)

abbrev pub dpl : Kind → CodePlace → State → Answer State
dpl t c s = typed t (height s) 0 s.cells >>= λ x. pushed x (dropped c 0 s)

abbrev pub lod : Kind → (p q : ℕ) → CodePlace → State → Answer State
lod t p q c s = base p (mp s) (mp s) s.cells >>= λ x. load c t (x + q) s

abbrev pub str : Kind → (p q : ℕ) → CodePlace → State → Answer State
str t p q c s = base p (mp s) (mp s) s.cells >>= λ x. store c t (x + q) s

abbrev pub lda : (p q : ℕ) → CodePlace → State → Answer State
lda p q c s = base p (mp s) (mp s) s.cells >>= λ x. pushed (Address (record { 0 = pos (x + q) })) (dropped c 0 s)

abbrev pub ind : Kind → CodePlace → State → Answer State
ind t c s =
    stacked (height s) 0 s.cells >>= λ a. address_in a >>= λ z. reached z.0 (height s) >>= λ x.
    held NoDataCell OtherKindOfCell t (peek s.cells x) >>= λ y. pushed y (dropped c 1 s)

abbrev pub sto : Kind → CodePlace → State → Answer State
sto t c s =
    typed t (height s) 0 s.cells >>= λ y. stacked (height s) 1 s.cells >>= λ a. address_in a >>= λ z. reached z.0 (height s) >>= λ x.
    writable NoDataCell OtherKindOfCell t (peek s.cells x) >> Ok (with_cell (dropped c 2 s) x (Data y))

abbrev pub ujp : CodePlace → State → Answer State
ujp q s = Ok (dropped q 0 s)

abbrev pub fjp : (q : CodePlace) → CodePlace → State → Answer State
fjp q c s = stacked (height s) 0 s.cells >>= λ x. boolean_in x >>= λ b. Ok (dropped (cond b c q) 1 s)

abbrev pub inp : Kind → CodePlace → State → Answer State
inp t c s =
    demand (nat_le (height s) (ep s)) StackFull >> next_value t s.host.waiting >>= λ x. pushed x (dropped c 0 (with_host s (taken t s.host)))

abbrev pub out : Kind → CodePlace → State → Answer State
out t c s = typed t (height s) 0 s.cells >>= λ x. put_answer s.host.room >> Ok (dropped c 1 (with_host s (written x s.host)))

abbrev pub mst : ℕ → CodePlace → State → Answer State
mst p c s =
    base p (mp s) (mp s) s.cells >>= λ x. demand (nat_le (height s + 4) (ep s)) StackFull >>
    Ok (record { regs = moved c (height s + 5) s; cells = marks (height s) x (mp s) (ep s) s.cells; host = s.host })

abbrev pub cup : Contents → ℕ → (q : CodePlace) → CodePlace → State → Answer State
cup T p q c s = call T (procedure_at T (owner T (natural q.0))) c q p s

abbrev pub ent : Contents → ℕ → (p q : ℕ) → CodePlace → State → Answer State
ent T n p q c s = enter T (procedure_at T (owner T n)) c p q s

abbrev pub retf : Contents → ℕ → State → Answer State
retf T n s = return_value (procedure_at T (owner T n)).result s

abbrev pub perform : Contents → (n : ℕ) → Operation → State → Result State Ending
perform T n (Two f) s = stopping (two f (code_at (n + 1)) s)
perform T n (One f) s = stopping (one f (code_at (n + 1)) s)
perform T n (Ldc x) s = stopping (ldc x (code_at (n + 1)) s)
perform T n (Dpl t) s = stopping (dpl t (code_at (n + 1)) s)
perform T n (Ldo t q) s = stopping (load (code_at (n + 1)) t q s)
perform T n (Sro t q) s = stopping (store (code_at (n + 1)) t q s)
perform T n (Lod t p q) s = stopping (lod t p q (code_at (n + 1)) s)
perform T n (Str t p q) s = stopping (str t p q (code_at (n + 1)) s)
perform T n (Lda p q) s = stopping (lda p q (code_at (n + 1)) s)
perform T n (Ind t) s = stopping (ind t (code_at (n + 1)) s)
perform T n (Sto t) s = stopping (sto t (code_at (n + 1)) s)
perform T n (Ujp q) s = stopping (ujp q s)
perform T n (Fjp q) s = stopping (fjp q (code_at (n + 1)) s)
perform T n (In t) s = stopping (inp t (code_at (n + 1)) s)
perform T n (Out t) s = stopping (out t (code_at (n + 1)) s)
perform T n (Mst p) s = stopping (mst p (code_at (n + 1)) s)
perform T n (Cup p q) s = stopping (cup T p q (code_at (n + 1)) s)
perform T n (Ent p q) s = stopping (ent T n p q (code_at (n + 1)) s)
perform T n Retf s = stopping (retf T n s)
perform T n Retp s = stopping (return_plain s)
perform T n Hlt s = Err Halted

-- an instruction that stands for no operation counts as none
abbrev pub decoded : Option Instruction → Option Operation
decoded None = None
decoded (Some x) = decode x

abbrev pub fetched : Contents → ℤ → Option Operation
fetched T (pos n) = cond (nat_lt n 4096) (decoded (slice_get T.code n)) None
fetched T (negsuc n) = None

abbrev pub step_by : Contents → ℕ → Option Operation → State → Result State Ending
step_by T n None s = Err (Stopped OutsideCode)
step_by T n (Some i) s = perform T n i s

abbrev pub step : Contents → State → Result State Ending
step T s = step_by T (natural s.regs.pc.0) (fetched T s.regs.pc.0) s
