-- What each operation of the sheet gives, cited by the two calls that carry them out. Assumes nothing.
-- Values of another kind than the operation takes stop it first, then a zero divisor, a result outside its kind, and bounds.
--   binary_result: of the two values that it takes, the lower one first
--   unary_result: of the one value that it takes
--   Proper: what is given is a value: a real is finite
use Rattle.std.specs.Prelude.{◌≡◌, true, not, ◌&&◌, ◌||◌, ℤ, pos, ◌+ℤ◌, ◌-ℤ◌, ◌*ℤ◌, neg_ℤ, Ok, Err, Float}
use Rattle.std.specs.Float.Ieee as Ieee
use Rattle.sheet.specs.declared.operation.Arithmetic.{Arithmetic}
use Rattle.sheet.specs.declared.operation.Binary.{Binary}
use Rattle.sheet.specs.declared.operation.Binary.TheVariants as two
use Rattle.sheet.specs.declared.operation.Conversion.{Conversion}
use Rattle.sheet.specs.declared.operation.Conversion.TheVariants.{IntegerToReal, RealToInteger, CharacterToInteger, IntegerToCharacter}
use Rattle.sheet.specs.declared.operation.Numeric.{Numeric}
use Rattle.sheet.specs.declared.operation.Numeric.TheVariants as numeric
use Rattle.sheet.specs.declared.operation.Ordinal.{Ordinal}
use Rattle.sheet.specs.declared.operation.Ordinal.TheVariants as ordinal
use Rattle.sheet.specs.declared.operation.Unary.{Unary}
use Rattle.sheet.specs.declared.operation.Unary.TheVariants as one
use Rattle.sheet.specs.declared.value.Value.{Value}
use Rattle.sheet.specs.declared.value.Value.TheVariants.{Address, Boolean, Character, Integer, Real}
use Rattle.sheet.specs.Kinds.{is_value}
use Rattle.arith.specs.Answers.{Answer, ◌>>=◌}
use Rattle.arith.specs.Integers.{integer_of, integer_arithmetic, integer_checked, character_of}
use Rattle.sheet.specs.Payloads.{address_in, boolean_in, character_in, integer_in, real_in}
use Rattle.arith.specs.Reals.{real_of, real_arithmetic, of_integer, whole_part}
use Rattle.arith.specs.Relations.{relation}

-- the exact whole number as a value of one kind
abbrev pub to_address : ℤ → Answer Value
to_address z = integer_of z >>= λ a. Ok (Address (record { 0 = a }))

abbrev pub to_character : ℤ → Answer Value
to_character z = character_of z >>= λ c. Ok (Character c)

abbrev pub to_integer : ℤ → Answer Value
to_integer z = integer_of z >>= λ i. Ok (Integer i)

-- the rounded real as a value
abbrev pub to_real : Float → Answer Value
to_real x = real_of x >>= λ f. Ok (Real f)

abbrev pub arithmetic : Arithmetic → Numeric → (lower top : Value) → Answer Value
arithmetic op numeric.Integer x y = integer_in x >>= λ i. integer_in y >>= λ j. integer_arithmetic op i j >>= λ z. Ok (Integer z)
arithmetic op numeric.Real x y = real_in x >>= λ i. real_in y >>= λ j. real_arithmetic op i j >>= λ z. Ok (Real z)

abbrev pub negation : Numeric → Value → Answer Value
negation numeric.Integer x = integer_in x >>= λ i. to_integer (neg_ℤ i)
negation numeric.Real x = real_in x >>= λ i. to_real (Ieee.neg i)

-- q more, and q less
abbrev pub increment : Ordinal → (q : ℤ) → Value → Answer Value
increment ordinal.Address q x = address_in x >>= λ a. to_address (a.0 +ℤ q)
increment ordinal.Character q x = character_in x >>= λ c. to_character (pos c +ℤ q)
increment ordinal.Integer q x = integer_in x >>= λ i. to_integer (i +ℤ q)

abbrev pub decrement : Ordinal → (q : ℤ) → Value → Answer Value
decrement ordinal.Address q x = address_in x >>= λ a. to_address (a.0 -ℤ q)
decrement ordinal.Character q x = character_in x >>= λ c. to_character (pos c -ℤ q)
decrement ordinal.Integer q x = integer_in x >>= λ i. to_integer (i -ℤ q)

abbrev pub conversion : Conversion → Value → Answer Value
conversion IntegerToReal x = integer_in x >>= λ i. to_real (of_integer i)
conversion RealToInteger x = real_in x >>= λ f. whole_part f >>= λ i. Ok (Integer i)
conversion CharacterToInteger x = character_in x >>= λ c. Ok (Integer (pos c))
conversion IntegerToCharacter x = integer_in x >>= λ i. to_character i

-- the address i elements of q cells past a
abbrev pub index : (q : ℤ) → (lower top : Value) → Answer Value
index q x y = address_in x >>= λ a. integer_in y >>= λ i. to_address (a.0 +ℤ i *ℤ q)

abbrev pub binary_result : Binary → (lower top : Value) → Answer Value
binary_result (two.Arithmetic op n) x y = arithmetic op n x y
binary_result two.And x y = boolean_in x >>= λ a. boolean_in y >>= λ b. Ok (Boolean (a && b))
binary_result two.Or x y = boolean_in x >>= λ a. boolean_in y >>= λ b. Ok (Boolean (a || b))
binary_result (two.Compare r k) x y = relation r k x y >>= λ b. Ok (Boolean b)
binary_result (two.Index q) x y = index q x y

abbrev pub unary_result : Unary → Value → Answer Value
unary_result (one.Negate n) x = negation n x
unary_result one.Not x = boolean_in x >>= λ b. Ok (Boolean (not b))
unary_result (one.Increment o q) x = increment o q x
unary_result (one.Decrement o q) x = decrement o q x
unary_result (one.Check p q) x = integer_in x >>= λ i. integer_checked p q i >>= λ z. Ok (Integer z)
unary_result (one.Convert c) x = conversion c x

abbrev pub Proper : Answer Value → Type 0
Proper (Ok x) = is_value x ≡ true
Proper (Err s) = Unit {0}
