-- The operation that an instruction stands for. Cited by the decoder and by the fetch of a step. Only the letters and
-- operands that the mnemonic uses are read; where one is missing or not its own, there is no operation. Assumes nothing.
--   with_both: from two parts, where both are there
--   small: an offset, a count or a number of links: an operand from 0 to 65,535
--   numeric, ordinal, conversion, readable: the letters of arithmetic, of inc and dec, of conv and of in
--   constant: the value of ldc T q
--   decode: the operation of an instruction
use Rattle.std.specs.Prelude.{ℕ, cond, ℤ, pos, negsuc, Some, None, Option, ◌==◌, nat_lt, Float}
use Rattle.std.specs.Float.Ieee as Ieee
use Rattle.std.specs.Float.{float_is_finite, binary64}
use Rattle.std.specs.Option.{option_map}
use Rattle.sheet.specs.declared.instruction.Instruction.{Instruction}
use Rattle.sheet.specs.declared.kind.Kind.{Kind}
use Rattle.sheet.specs.declared.kind.Kind.TheVariants as kind
use Rattle.sheet.specs.declared.mnemonic.Mnemonic.{Mnemonic}
use Rattle.sheet.specs.declared.mnemonic.Mnemonic.TheVariants as m
use Rattle.sheet.specs.declared.operation.Arithmetic.{Arithmetic}
use Rattle.sheet.specs.declared.operation.Arithmetic.TheVariants.{Add, Sub, Mul, Div}
use Rattle.sheet.specs.declared.operation.Binary.TheVariants as two
use Rattle.sheet.specs.declared.operation.Conversion.{Conversion}
use Rattle.sheet.specs.declared.operation.Conversion.TheVariants.{IntegerToReal, RealToInteger, CharacterToInteger, IntegerToCharacter}
use Rattle.sheet.specs.declared.operation.Numeric.{Numeric}
use Rattle.sheet.specs.declared.operation.Numeric.TheVariants as numerics
use Rattle.sheet.specs.declared.operation.Ordinal.{Ordinal}
use Rattle.sheet.specs.declared.operation.Ordinal.TheVariants as ordinals
use Rattle.sheet.specs.declared.operation.Relation.{Relation}
use Rattle.sheet.specs.declared.operation.Relation.TheVariants.{Equal, Unequal, Less, LessOrEqual, Greater, GreaterOrEqual}
use Rattle.sheet.specs.declared.operation.Unary.TheVariants as one
use Rattle.sheet.specs.declared.place.CodePlace.{CodePlace}
use Rattle.sheet.specs.declared.value.Value.{Value}
use Rattle.sheet.specs.declared.value.Value.TheVariants as v
use Rattle.arith.specs.Reals.{of_integer}
use Rattle.machine.specs.declared.operation.Operation.{Operation}
use Rattle.machine.specs.declared.operation.Operation.TheVariants.{Two, One, Ldc, Dpl, Ldo, Sro, Lod, Str, Lda, Ind, Sto, Ujp, Fjp, In, Out, Mst, Cup, Ent, Retf, Retp, Hlt}

abbrev pub with_both : {A B : Type 0} → Option A → Option B → (A → B → Operation) → Option Operation
with_both None y f = None
with_both (Some x) y f = option_map (f x) y

abbrev pub small : ℤ → Option ℕ
small (pos n) = cond (nat_lt n 65536) (Some n) None
small (negsuc n) = None

abbrev pub label : ℤ → CodePlace
label q = record { 0 = q }

abbrev pub numeric : Option Kind → Option Numeric
numeric None = None
numeric (Some kind.Address) = None
numeric (Some kind.Boolean) = None
numeric (Some kind.Character) = None
numeric (Some kind.Integer) = Some numerics.Integer
numeric (Some kind.Real) = Some numerics.Real

abbrev pub ordinal : Option Kind → Option Ordinal
ordinal None = None
ordinal (Some kind.Address) = Some ordinals.Address
ordinal (Some kind.Boolean) = None
ordinal (Some kind.Character) = Some ordinals.Character
ordinal (Some kind.Integer) = Some ordinals.Integer
ordinal (Some kind.Real) = None

abbrev pub from_integer : Option Kind → Option Conversion
from_integer None = None
from_integer (Some kind.Address) = None
from_integer (Some kind.Boolean) = None
from_integer (Some kind.Character) = Some IntegerToCharacter
from_integer (Some kind.Integer) = None
from_integer (Some kind.Real) = Some IntegerToReal

abbrev pub to_integer : Conversion → Option Kind → Option Conversion
to_integer c None = None
to_integer c (Some kind.Address) = None
to_integer c (Some kind.Boolean) = None
to_integer c (Some kind.Character) = None
to_integer c (Some kind.Integer) = Some c
to_integer c (Some kind.Real) = None

abbrev pub conversion : (t u : Option Kind) → Option Conversion
conversion None u = None
conversion (Some kind.Address) u = None
conversion (Some kind.Boolean) u = None
conversion (Some kind.Character) u = to_integer CharacterToInteger u
conversion (Some kind.Integer) u = from_integer u
conversion (Some kind.Real) u = to_integer RealToInteger u

abbrev pub readable : Option Kind → Option Kind
readable None = None
readable (Some kind.Address) = None
readable (Some kind.Boolean) = Some kind.Boolean
readable (Some kind.Character) = Some kind.Character
readable (Some kind.Integer) = Some kind.Integer
readable (Some kind.Real) = Some kind.Real

abbrev pub truth : ℤ → Option Value
truth (pos n) = cond (nat_lt n 2) (Some (v.Boolean (n == 1))) None
truth (negsuc n) = None

abbrev pub character : ℤ → Option Value
character (pos n) = cond (nat_lt n 256) (Some (v.Character n)) None
character (negsuc n) = None

-- the real with the value of a whole number of 32 bits; any other, which no instruction has, would count as 0
abbrev pub real_constant : ℤ → Float
real_constant q = cond (float_is_finite (of_integer q)) (of_integer q) (Ieee.of_bits binary64 0)

-- an address is the offset of a cell of procedure 0, whose frame is at place 0
abbrev pub constant : Option Kind → ℤ → Option Value
constant None q = None
constant (Some kind.Address) q = Some (v.Address (record { 0 = q }))
constant (Some kind.Boolean) q = truth q
constant (Some kind.Character) q = character q
constant (Some kind.Integer) q = Some (v.Integer q)
constant (Some kind.Real) q = Some (v.Real (real_constant q))

abbrev pub arithmetic : Arithmetic → Option Kind → Option Operation
arithmetic op t = option_map (λ n. Two (two.Arithmetic op n)) (numeric t)

abbrev pub negation : Option Kind → Option Operation
negation t = option_map (λ n. One (one.Negate n)) (numeric t)

abbrev pub increment : Option Kind → ℤ → Option Operation
increment t q = option_map (λ o. One (one.Increment o q)) (ordinal t)

abbrev pub decrement : Option Kind → ℤ → Option Operation
decrement t q = option_map (λ o. One (one.Decrement o q)) (ordinal t)

abbrev pub convert : (t u : Option Kind) → Option Operation
convert t u = option_map (λ c. One (one.Convert c)) (conversion t u)

abbrev pub call : (p q : ℤ) → Option Operation
call p q = option_map (λ k. Cup k (label q)) (small p)

abbrev pub comparison : Relation → Option Kind → Option Operation
comparison r t = option_map (λ k. Two (two.Compare r k)) t

abbrev pub global : (Kind → ℕ → Operation) → Option Kind → (q : ℤ) → Option Operation
global f t q = with_both t (small q) f

abbrev pub local : (Kind → ℕ → ℕ → Operation) → Option Kind → (p q : ℤ) → Option Operation
local f None p q = None
local f (Some t) p q = with_both (small p) (small q) (f t)

abbrev pub decode_by : Mnemonic → (t u : Option Kind) → (p q : ℤ) → Option Operation
decode_by m.Add t u p q = arithmetic Add t
decode_by m.Sub t u p q = arithmetic Sub t
decode_by m.Mul t u p q = arithmetic Mul t
decode_by m.Div t u p q = arithmetic Div t
decode_by m.Neg t u p q = negation t
decode_by m.And t u p q = Some (Two two.And)
decode_by m.Or t u p q = Some (Two two.Or)
decode_by m.Not t u p q = Some (One one.Not)
decode_by m.Equ t u p q = comparison Equal t
decode_by m.Neq t u p q = comparison Unequal t
decode_by m.Les t u p q = comparison Less t
decode_by m.Leq t u p q = comparison LessOrEqual t
decode_by m.Grt t u p q = comparison Greater t
decode_by m.Geq t u p q = comparison GreaterOrEqual t
decode_by m.Ldc t u p q = option_map Ldc (constant t q)
decode_by m.Ldo t u p q = global Ldo t q
decode_by m.Sro t u p q = global Sro t q
decode_by m.Lod t u p q = local Lod t p q
decode_by m.Str t u p q = local Str t p q
decode_by m.Lda t u p q = with_both (small p) (small q) Lda
decode_by m.Ind t u p q = option_map Ind t
decode_by m.Sto t u p q = option_map Sto t
decode_by m.Dpl t u p q = option_map Dpl t
decode_by m.Ixa t u p q = Some (Two (two.Index q))
decode_by m.Inc t u p q = increment t q
decode_by m.Dec t u p q = decrement t q
decode_by m.Chk t u p q = Some (One (one.Check p q))
decode_by m.Ujp t u p q = Some (Ujp (label q))
decode_by m.Fjp t u p q = Some (Fjp (label q))
decode_by m.In t u p q = option_map In (readable t)
decode_by m.Out t u p q = option_map Out t
decode_by m.Conv t u p q = convert t u
decode_by m.Mst t u p q = option_map Mst (small p)
decode_by m.Cup t u p q = call p q
decode_by m.Ent t u p q = with_both (small p) (small q) Ent
decode_by m.Retf t u p q = Some Retf
decode_by m.Retp t u p q = Some Retp
decode_by m.Hlt t u p q = Some Hlt

abbrev pub decode : Instruction → Option Operation
decode x = decode_by x.mnemonic x.t x.t2 x.p x.q
