-- What each instruction takes from the stack, gives to it, and where it goes on. Cited by whatever follows a table.
-- A letter that is missing counts as a, and a negative operand as 0; the rules of operands allow neither where one is used.
-- Assumes nothing.
--   none, one, two: the kinds taken, the top first
--   next, jumps, forks, calls: goes on with the next instruction, at a label, at either, and with a call and then the next
--   halts: takes any stack and goes nowhere
--   given: the result of a call, if any
--   following: the next instruction's number, which is below 2 ^ 64
--   successors: the instructions that a way leads to from instruction n, the label before the next one
--   kind_in: the kind of a letter
--   effect_of: the effect of an instruction of a table
--   effect_by: the effect of a mnemonic as instruction n, with letters t and u and operands p and q
use Rattle.std.specs.Prelude.{ℕ, ◌+◌, ◌^◌, cond, Some, None, Option, nat_lt}
use Rattle.std.specs.Option.{unwrap_or}
use Rattle.sheet.specs.declared.instruction.Instruction.{Instruction}
use Rattle.sheet.specs.declared.kind.Kind.{Kind}
use Rattle.sheet.specs.declared.kind.Kind.TheVariants.{Address, Boolean, Integer}
use Rattle.sheet.specs.declared.mnemonic.Mnemonic.{Mnemonic}
use Rattle.sheet.specs.declared.mnemonic.Mnemonic.TheVariants.{Add, Sub, Mul, Div, Neg, And, Or, Not, Equ, Neq, Les, Leq, Grt, Geq, Ldc, Ldo, Sro, Lod, Str, Lda, Ind, Sto, Dpl, Ixa, Inc, Dec, Chk, Ujp, Fjp, In, Out, Conv, Mst, Cup, Ent, Retf, Retp, Hlt}
use Rattle.sheet.specs.declared.procedure.Procedure.{Procedure}
use Rattle.sheet.specs.Tables.{Contents}
use Rattle.rules.specs.declared.effects.Effect.{Effect}
use Rattle.rules.specs.declared.effects.Takes.{Takes}
use Rattle.rules.specs.declared.effects.Takes.TheVariants.{Kinds, Parameters, Call}
use Rattle.rules.specs.declared.effects.Gives.{Gives}
use Rattle.rules.specs.declared.effects.Gives.TheVariants.{Nothing, One, Two, Mark}
use Rattle.rules.specs.declared.effects.Way.{Way}
use Rattle.rules.specs.declared.effects.Way.TheVariants.{Halt, Next, Jump, Fork}
use Rattle.rules.specs.Lookups.{procedure_at, owner, natural}

abbrev pub none : Takes
none = Kinds None None

abbrev pub one : Kind → Takes
one t = Kinds (Some t) None

abbrev pub two : (top below : Kind) → Takes
two t u = Kinds (Some t) (Some u)

abbrev pub next : Takes → Gives → Effect
next ts gs = record { takes = ts; gives = gs; way = Next }

abbrev pub jumps : ℕ → Effect
jumps q = record { takes = none; gives = Nothing; way = Jump q }

abbrev pub forks : ℕ → Effect
forks q = record { takes = one Boolean; gives = Nothing; way = Fork q }

abbrev pub halts : Effect
halts = record { takes = none; gives = Nothing; way = Halt }

abbrev pub given : Option Kind → Gives
given None = Nothing
given (Some t) = One t

-- the parameters of P, and below them a mark that leads to its parent
abbrev pub calls : Procedure → Effect
calls P = next (Call P) (given P.result)

module _ (T : Contents) (n : ℕ) (t u : Kind) (p q : ℕ) where
  abbrev pub effect_by : Mnemonic → Effect
  effect_by Add = next (two t t) (One t)
  effect_by Sub = next (two t t) (One t)
  effect_by Mul = next (two t t) (One t)
  effect_by Div = next (two t t) (One t)
  effect_by Neg = next (one t) (One t)
  effect_by And = next (two Boolean Boolean) (One Boolean)
  effect_by Or = next (two Boolean Boolean) (One Boolean)
  effect_by Not = next (one Boolean) (One Boolean)
  effect_by Equ = next (two t t) (One Boolean)
  effect_by Neq = next (two t t) (One Boolean)
  effect_by Les = next (two t t) (One Boolean)
  effect_by Leq = next (two t t) (One Boolean)
  effect_by Grt = next (two t t) (One Boolean)
  effect_by Geq = next (two t t) (One Boolean)
  effect_by Ldc = next none (One t)
  effect_by Ldo = next none (One t)
  effect_by Sro = next (one t) Nothing
  effect_by Lod = next none (One t)
  effect_by Str = next (one t) Nothing
  effect_by Lda = next none (One Address)
  effect_by Ind = next (one Address) (One t)
  effect_by Sto = next (two t Address) Nothing
  effect_by Dpl = next (one t) (Two t)
  effect_by Ixa = next (two Integer Address) (One Address)
  effect_by Inc = next (one t) (One t)
  effect_by Dec = next (one t) (One t)
  effect_by Chk = next (one Integer) (One Integer)
  effect_by Ujp = jumps q
  effect_by Fjp = forks q
  effect_by In = next none (One t)
  effect_by Out = next (one t) Nothing
  effect_by Conv = next (one t) (One u)
  effect_by Mst = next none (Mark p)
  effect_by Cup = calls (procedure_at T (owner T q))
  effect_by Ent = next (Parameters (procedure_at T (owner T n))) Nothing
  effect_by Retf = halts
  effect_by Retp = halts
  effect_by Hlt = halts

abbrev pub kind_in : Option Kind → Kind
kind_in t = unwrap_or t Address

abbrev pub effect_of : Contents → ℕ → Instruction → Effect
effect_of T n x = effect_by T n (kind_in x.t) (kind_in x.t2) (natural x.p) (natural x.q) x.mnemonic

abbrev pub following : ℕ → Option ℕ
following n = cond (nat_lt (n + 1) (2 ^ 64)) (Some (n + 1)) None

abbrev pub successors : Way → ℕ → Option ℕ × Option ℕ
successors Halt n = (None, None)
successors Next n = (following n, None)
successors (Jump q) n = (Some q, None)
successors (Fork q) n = (Some q, following n)
