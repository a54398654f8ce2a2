-- The six relations, of the lower cell of the stack to the top. Assumes nothing.
--   integer_relation: of whole numbers
--   real_relation: of reals, by IEEE 754's comparisons: -0 equals 0
--   rank: false below true
--   relation: of two values of one kind
use Rattle.std.specs.Prelude.{Bool, false, cond, not, ℤ, pos, negsuc, Ok, ◌==◌, int_le, int_lt, Float}
use Rattle.std.specs.Float.Ieee as Ieee
use Rattle.sheet.specs.declared.kind.Kind.{Kind}
use Rattle.sheet.specs.declared.kind.Kind.TheVariants.{Address, Boolean, Character, Integer, Real}
use Rattle.sheet.specs.declared.operation.Relation.{Relation}
use Rattle.sheet.specs.declared.operation.Relation.TheVariants.{Equal, Unequal, Less, LessOrEqual, Greater, GreaterOrEqual}
use Rattle.sheet.specs.declared.value.Value.{Value}
use Rattle.arith.specs.Answers.{Answer, ◌>>=◌}
use Rattle.sheet.specs.Payloads.{address_in, boolean_in, character_in, integer_in, real_in}

abbrev pub eqZ : ℤ → ℤ → Bool
eqZ (pos a) (pos b) = a == b
eqZ (pos a) (negsuc b) = false
eqZ (negsuc a) (pos b) = false
eqZ (negsuc a) (negsuc b) = a == b

abbrev pub integer_relation : Relation → ℤ → ℤ → Bool
integer_relation Equal x y = eqZ x y
integer_relation Unequal x y = not (eqZ x y)
integer_relation Less x y = int_lt x y
integer_relation LessOrEqual x y = int_le x y
integer_relation Greater x y = int_lt y x
integer_relation GreaterOrEqual x y = int_le y x

abbrev pub real_relation : Relation → Float → Float → Bool
real_relation Equal x y = Ieee.eq x y
real_relation Unequal x y = Ieee.ne x y
real_relation Less x y = Ieee.lt x y
real_relation LessOrEqual x y = Ieee.le x y
real_relation Greater x y = Ieee.lt y x
real_relation GreaterOrEqual x y = Ieee.le y x

abbrev pub rank : Bool → ℤ
rank b = pos (cond b 1 0)

abbrev pub relation : Relation → Kind → (lower top : Value) → Answer Bool
relation r Address x y = address_in x >>= λ a. address_in y >>= λ b. Ok (integer_relation r a.0 b.0)
relation r Boolean x y = boolean_in x >>= λ a. boolean_in y >>= λ b. Ok (integer_relation r (rank a) (rank b))
relation r Character x y = character_in x >>= λ a. character_in y >>= λ b. Ok (integer_relation r (pos a) (pos b))
relation r Integer x y = integer_in x >>= λ a. integer_in y >>= λ b. Ok (integer_relation r a b)
relation r Real x y = real_in x >>= λ a. real_in y >>= λ b. Ok (real_relation r a b)
