-- Every operation gives values: its reals are finite.
use Rattle.std.proofs.Common.{◌≡◌, Bool, true, false, not, ℤ, pos, ◌+ℤ◌, ◌-ℤ◌, ◌*ℤ◌, neg_ℤ, Ok, Err, refl}
use lib.Ieee as Ieee
use lib.Ieee.{Float, binary64}
use Rattle.std.specs.Float.{float_is_finite}
use Rattle.sheet.specs.declared.operation.Arithmetic.{Arithmetic}
use Rattle.sheet.specs.declared.operation.Arithmetic.TheVariants.{Add, Sub, Mul, Div}
use Rattle.sheet.specs.declared.operation.Binary.{Binary}
use Rattle.sheet.specs.declared.operation.Binary.TheVariants as two
use Rattle.sheet.specs.declared.operation.Conversion.{Conversion}
use Rattle.sheet.specs.declared.operation.Conversion.TheVariants.{IntegerToReal, RealToInteger, CharacterToInteger, IntegerToCharacter}
use Rattle.sheet.specs.declared.operation.Numeric.{Numeric}
use Rattle.sheet.specs.declared.operation.Numeric.TheVariants as numeric
use Rattle.sheet.specs.declared.operation.Ordinal.{Ordinal}
use Rattle.sheet.specs.declared.operation.Ordinal.TheVariants as ordinal
use Rattle.sheet.specs.declared.operation.Unary.{Unary}
use Rattle.sheet.specs.declared.operation.Unary.TheVariants as one
use Rattle.sheet.specs.declared.stop.Stop.TheVariants.{OutsideKind, ZeroDivisor}
use Rattle.sheet.specs.declared.value.Value.{Value}
use Rattle.sheet.specs.declared.value.Value.TheVariants.{Real}
use Rattle.arith.specs.Answers.{Answer, demand, ◌>>=◌, ◌>>◌}
use Rattle.arith.specs.Integers.{integer_of, integer_arithmetic, integer_checked, character_of}
use Rattle.arith.specs.Operations.{Proper, to_real, to_address, to_character, to_integer, arithmetic, negation, increment, decrement, conversion, binary_result, unary_result}
use Rattle.sheet.specs.Payloads.{address_in, boolean_in, character_in, integer_in, real_in}
use Rattle.arith.specs.Reals.{real_of, real_arithmetic, is_real_zero, of_integer, whole_part}
use Rattle.arith.specs.Relations.{relation}

-- what comes after a bind is proper
after : {A : Type 0} (r : Answer A) (f : A → Answer Value) → ((a : A) → Proper (f a)) → Proper (r >>= f)
after (Ok a) f h = h a
after (Err s) f h = tt

tested : (x : Float) (b : Bool) → float_is_finite x ≡ b → Proper ((demand b OutsideKind >> Ok x) >>= λ f. Ok (Real f))
tested x true h = h
tested x false h = tt

real : (x : Float) → Proper (to_real x)
real x = tested x (float_is_finite x) refl

divided : (x : Float) (b : Bool) → Proper ((demand b ZeroDivisor >> real_of x) >>= λ f. Ok (Real f))
divided x true = real x
divided x false = tt

reals : (op : Arithmetic) (x y : Float) → Proper (real_arithmetic op x y >>= λ f. Ok (Real f))
reals Add x y = real (Ieee.add binary64 x y)
reals Sub x y = real (Ieee.sub binary64 x y)
reals Mul x y = real (Ieee.mul binary64 x y)
reals Div x y = divided (Ieee.div binary64 x y) (not (is_real_zero y))

arithmetic_proper : (op : Arithmetic) (n : Numeric) (x y : Value) → Proper (arithmetic op n x y)
arithmetic_proper op numeric.Integer x y = after (integer_in x) _ (λ i. after (integer_in y) _ (λ j. after (integer_arithmetic op i j) _ (λ z. refl)))
arithmetic_proper op numeric.Real x y = after (real_in x) _ (λ i. after (real_in y) _ (λ j. reals op i j))

address : (z : ℤ) → Proper (to_address z)
address z = after (integer_of z) _ (λ a. refl)

character : (z : ℤ) → Proper (to_character z)
character z = after (character_of z) _ (λ c. refl)

integer : (z : ℤ) → Proper (to_integer z)
integer z = after (integer_of z) _ (λ i. refl)

negation_proper : (n : Numeric) (x : Value) → Proper (negation n x)
negation_proper numeric.Integer x = after (integer_in x) _ (λ i. integer (neg_ℤ i))
negation_proper numeric.Real x = after (real_in x) _ (λ f. real (Ieee.neg f))

increment_proper : (o : Ordinal) (q : ℤ) (x : Value) → Proper (increment o q x)
increment_proper ordinal.Address q x = after (address_in x) _ (λ a. address (a.0 +ℤ q))
increment_proper ordinal.Character q x = after (character_in x) _ (λ c. character (pos c +ℤ q))
increment_proper ordinal.Integer q x = after (integer_in x) _ (λ i. integer (i +ℤ q))

decrement_proper : (o : Ordinal) (q : ℤ) (x : Value) → Proper (decrement o q x)
decrement_proper ordinal.Address q x = after (address_in x) _ (λ a. address (a.0 -ℤ q))
decrement_proper ordinal.Character q x = after (character_in x) _ (λ c. character (pos c -ℤ q))
decrement_proper ordinal.Integer q x = after (integer_in x) _ (λ i. integer (i -ℤ q))

conversion_proper : (h : Conversion) (x : Value) → Proper (conversion h x)
conversion_proper IntegerToReal x = after (integer_in x) _ (λ i. real (of_integer i))
conversion_proper RealToInteger x = after (real_in x) _ (λ f. after (whole_part f) _ (λ i. refl))
conversion_proper CharacterToInteger x = after (character_in x) _ (λ c. refl)
conversion_proper IntegerToCharacter x = after (integer_in x) _ (λ i. character i)

pub binary_proper : (op : Binary) (x y : Value) → Proper (binary_result op x y)
binary_proper (two.Arithmetic op n) x y = arithmetic_proper op n x y
binary_proper two.And x y = after (boolean_in x) _ (λ a. after (boolean_in y) _ (λ b. refl))
binary_proper two.Or x y = after (boolean_in x) _ (λ a. after (boolean_in y) _ (λ b. refl))
binary_proper (two.Compare r k) x y = after (relation r k x y) _ (λ b. refl)
binary_proper (two.Index q) x y = after (address_in x) _ (λ a. after (integer_in y) _ (λ i. address (a.0 +ℤ i *ℤ q)))

pub unary_proper : (op : Unary) (x : Value) → Proper (unary_result op x)
unary_proper (one.Negate n) x = negation_proper n x
unary_proper one.Not x = after (boolean_in x) _ (λ b. refl)
unary_proper (one.Increment o q) x = increment_proper o q x
unary_proper (one.Decrement o q) x = decrement_proper o q x
unary_proper (one.Check p q) x = after (integer_in x) _ (λ i. after (integer_checked p q i) _ (λ z. refl))
unary_proper (one.Convert h) x = conversion_proper h x
