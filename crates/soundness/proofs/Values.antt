-- Each operation gives a value of the kind that it should, or is stopped by a number below 60.
use Rattle.std.proofs.Common.{◌≡◌, ℕ, Bool, true, not, ◌&&◌, ◌||◌, ltb, ℤ, pos, negsuc, ◌+ℤ◌, ◌-ℤ◌, ◌*ℤ◌, neg_ℤ, Ok, refl, arith}
use Rattle.sheet.specs.declared.kind.Kind.{Kind}
use Rattle.sheet.specs.declared.kind.Kind.TheVariants as k
use Rattle.sheet.specs.declared.operation.Binary.{Binary}
use Rattle.sheet.specs.declared.operation.Unary.{Unary}
use Rattle.sheet.specs.declared.stop.Stop.TheVariants.{OutsideKind, OutsideBounds, ZeroDivisor}
use Rattle.sheet.specs.declared.value.Value.{Value}
use Rattle.sheet.specs.declared.value.Value.TheVariants as v
use Rattle.sheet.specs.Kinds.{kind_of, is_value}
use Rattle.arith.specs.Answers.{Answer, ◌>>=◌}
use lib.Signed.{quot_z}
use lib.Ieee.{Float, binary64}
use lib.Ieee as Ieee
use Rattle.std.specs.Float.{float_is_finite}
use Rattle.sheet.specs.declared.operation.Arithmetic.{Arithmetic}
use Rattle.sheet.specs.declared.operation.Arithmetic.TheVariants.{Add, Sub, Mul, Div}
use Rattle.sheet.specs.declared.operation.Numeric.TheVariants as numeric
use Rattle.sheet.specs.declared.operation.Ordinal.{Ordinal}
use Rattle.sheet.specs.declared.operation.Ordinal.TheVariants as ordinals
use Rattle.sheet.specs.declared.operation.Relation.{Relation}
use Rattle.sheet.specs.declared.operation.Conversion.TheVariants.{IntegerToReal, RealToInteger, CharacterToInteger, IntegerToCharacter}
use Rattle.sheet.specs.declared.operation.Binary.TheVariants as b2
use Rattle.sheet.specs.declared.operation.Unary.TheVariants as b1
use Rattle.sheet.specs.declared.place.StorePlace.{StorePlace}
use Rattle.arith.specs.Integers.{integer_fits, integer_of, integer_arithmetic, integer_checked, character_of}
use Rattle.arith.specs.Operations.{to_address, to_character, to_integer, to_real, increment, decrement, binary_result, unary_result}
use Rattle.sheet.specs.Payloads.{address_in, boolean_in, character_in, integer_in, real_in}
use Rattle.arith.specs.Quotients.{between, is_zero}
use Rattle.arith.specs.Reals.{real_of, is_real_zero, real_arithmetic, of_integer, truncated, whole_part}
use Rattle.arith.specs.Relations.{relation}
use Rattle.soundness.proofs.Rules.{ordinal, left, right, both_give, one_takes, one_gives}
use Rattle.soundness.proofs.Invariant.{Safe}
use Rattle.soundness.proofs.Cells.{safe_bind, demand_may, Valid}

pub address_is : {B : Type 0} (Q : B → Type 0) (x : Value) (f : StorePlace → Answer B) → Valid k.Address x → ((z : StorePlace) → is_value (v.Address z) ≡ true → Safe Q (f z)) → Safe Q (address_in x >>= f)
address_is Q (v.Address z) f w h = h z w.value
address_is Q (v.Boolean z) f w h = absurd (let e = w.kind in let y : ◌≡◌ {A = ℕ} 0 1 = cc in omega arith)
address_is Q (v.Character z) f w h = absurd (let e = w.kind in let y : ◌≡◌ {A = ℕ} 0 1 = cc in omega arith)
address_is Q (v.Integer z) f w h = absurd (let e = w.kind in let y : ◌≡◌ {A = ℕ} 0 1 = cc in omega arith)
address_is Q (v.Real z) f w h = absurd (let e = w.kind in let y : ◌≡◌ {A = ℕ} 0 1 = cc in omega arith)

pub boolean_is : {B : Type 0} (Q : B → Type 0) (x : Value) (f : Bool → Answer B) → Valid k.Boolean x → ((z : Bool) → is_value (v.Boolean z) ≡ true → Safe Q (f z)) → Safe Q (boolean_in x >>= f)
boolean_is Q (v.Address z) f w h = absurd (let e = w.kind in let y : ◌≡◌ {A = ℕ} 0 1 = cc in omega arith)
boolean_is Q (v.Boolean z) f w h = h z w.value
boolean_is Q (v.Character z) f w h = absurd (let e = w.kind in let y : ◌≡◌ {A = ℕ} 0 1 = cc in omega arith)
boolean_is Q (v.Integer z) f w h = absurd (let e = w.kind in let y : ◌≡◌ {A = ℕ} 0 1 = cc in omega arith)
boolean_is Q (v.Real z) f w h = absurd (let e = w.kind in let y : ◌≡◌ {A = ℕ} 0 1 = cc in omega arith)

character_is : {B : Type 0} (Q : B → Type 0) (x : Value) (f : ℕ → Answer B) → Valid k.Character x → ((z : ℕ) → is_value (v.Character z) ≡ true → Safe Q (f z)) → Safe Q (character_in x >>= f)
character_is Q (v.Address z) f w h = absurd (let e = w.kind in let y : ◌≡◌ {A = ℕ} 0 1 = cc in omega arith)
character_is Q (v.Boolean z) f w h = absurd (let e = w.kind in let y : ◌≡◌ {A = ℕ} 0 1 = cc in omega arith)
character_is Q (v.Character z) f w h = h z w.value
character_is Q (v.Integer z) f w h = absurd (let e = w.kind in let y : ◌≡◌ {A = ℕ} 0 1 = cc in omega arith)
character_is Q (v.Real z) f w h = absurd (let e = w.kind in let y : ◌≡◌ {A = ℕ} 0 1 = cc in omega arith)

integer_is : {B : Type 0} (Q : B → Type 0) (x : Value) (f : ℤ → Answer B) → Valid k.Integer x → ((z : ℤ) → is_value (v.Integer z) ≡ true → Safe Q (f z)) → Safe Q (integer_in x >>= f)
integer_is Q (v.Address z) f w h = absurd (let e = w.kind in let y : ◌≡◌ {A = ℕ} 0 1 = cc in omega arith)
integer_is Q (v.Boolean z) f w h = absurd (let e = w.kind in let y : ◌≡◌ {A = ℕ} 0 1 = cc in omega arith)
integer_is Q (v.Character z) f w h = absurd (let e = w.kind in let y : ◌≡◌ {A = ℕ} 0 1 = cc in omega arith)
integer_is Q (v.Integer z) f w h = h z w.value
integer_is Q (v.Real z) f w h = absurd (let e = w.kind in let y : ◌≡◌ {A = ℕ} 0 1 = cc in omega arith)

real_is : {B : Type 0} (Q : B → Type 0) (x : Value) (f : Float → Answer B) → Valid k.Real x → ((z : Float) → is_value (v.Real z) ≡ true → Safe Q (f z)) → Safe Q (real_in x >>= f)
real_is Q (v.Address z) f w h = absurd (let e = w.kind in let y : ◌≡◌ {A = ℕ} 0 1 = cc in omega arith)
real_is Q (v.Boolean z) f w h = absurd (let e = w.kind in let y : ◌≡◌ {A = ℕ} 0 1 = cc in omega arith)
real_is Q (v.Character z) f w h = absurd (let e = w.kind in let y : ◌≡◌ {A = ℕ} 0 1 = cc in omega arith)
real_is Q (v.Integer z) f w h = absurd (let e = w.kind in let y : ◌≡◌ {A = ℕ} 0 1 = cc in omega arith)
real_is Q (v.Real z) f w h = h z w.value

pub valid : (x : Value) → is_value x ≡ true → Valid (kind_of x) x
valid x e = record { value = e; kind = refl }

abbrev Any : {A : Type 0} → A → Type 0
Any x = Unit {0}

integer_of_may : (z : ℤ) → Safe Any (integer_of z)
integer_of_may z = demand_may Any (integer_fits z) OutsideKind (Ok z) (omega arith) (λ _. tt)

to_address_may : (z : ℤ) → Safe (Valid k.Address) (to_address z)
to_address_may z = safe_bind Any (Valid k.Address) (integer_of z) _ (integer_of_may z) (λ a _. valid (v.Address (record { 0 = a })) refl)

to_integer_may : (z : ℤ) → Safe (Valid k.Integer) (to_integer z)
to_integer_may z = safe_bind Any (Valid k.Integer) (integer_of z) _ (integer_of_may z) (λ i _. valid (v.Integer i) refl)

character_of_may : (z : ℤ) → Safe Any (character_of z)
character_of_may (pos n) = demand_may Any (ltb n 256) OutsideKind (Ok n) (omega arith) (λ _. tt)
character_of_may (negsuc n) = omega arith

to_character_may : (z : ℤ) → Safe (Valid k.Character) (to_character z)
to_character_may z = safe_bind Any (Valid k.Character) (character_of z) _ (character_of_may z) (λ c _. valid (v.Character c) refl)

abbrev Finite : Float → Type 0
Finite x = float_is_finite x ≡ true

real_of_may : (x : Float) → Safe Finite (real_of x)
real_of_may x = demand_may Finite (float_is_finite x) OutsideKind (Ok x) (omega arith) (λ e. e)

to_real_may : (x : Float) → Safe (Valid k.Real) (to_real x)
to_real_may x = safe_bind Finite (Valid k.Real) (real_of x) _ (real_of_may x) (λ f e. valid (v.Real f) e)

integer_arithmetic_may : (a : Arithmetic) (x y : ℤ) → Safe Any (integer_arithmetic a x y)
integer_arithmetic_may Add x y = integer_of_may (x +ℤ y)
integer_arithmetic_may Sub x y = integer_of_may (x -ℤ y)
integer_arithmetic_may Mul x y = integer_of_may (x *ℤ y)
integer_arithmetic_may Div x y = demand_may Any (not (is_zero y)) ZeroDivisor (integer_of (quot_z x y)) (omega arith) (λ _. integer_of_may (quot_z x y))

real_arithmetic_may : (a : Arithmetic) (x y : Float) → Safe Finite (real_arithmetic a x y)
real_arithmetic_may Add x y = real_of_may (Ieee.add binary64 x y)
real_arithmetic_may Sub x y = real_of_may (Ieee.sub binary64 x y)
real_arithmetic_may Mul x y = real_of_may (Ieee.mul binary64 x y)
real_arithmetic_may Div x y =
    demand_may Finite (not (is_real_zero y)) ZeroDivisor (real_of (Ieee.div binary64 x y)) (omega arith) (λ _. real_of_may (Ieee.div binary64 x y))

relation_may : (r : Relation) (t : Kind) (x y : Value) → Valid t x → Valid t y → Safe Any (relation r t x y)
relation_may r k.Address x y p q = address_is Any x _ p (λ i _. address_is Any y _ q (λ j _. tt))
relation_may r k.Boolean x y p q = boolean_is Any x _ p (λ i _. boolean_is Any y _ q (λ j _. tt))
relation_may r k.Character x y p q = character_is Any x _ p (λ i _. character_is Any y _ q (λ j _. tt))
relation_may r k.Integer x y p q = integer_is Any x _ p (λ i _. integer_is Any y _ q (λ j _. tt))
relation_may r k.Real x y p q = real_is Any x _ p (λ i _. real_is Any y _ q (λ j _. tt))

pub binary_may : (f : Binary) (x y : Value) → Valid (left f) x → Valid (right f) y → Safe (Valid (both_give f)) (binary_result f x y)
binary_may (b2.Arithmetic a numeric.Integer) x y p q =
    integer_is (Valid k.Integer) x _ p (λ i _. integer_is (Valid k.Integer) y _ q (λ j _.
    safe_bind Any (Valid k.Integer) (integer_arithmetic a i j) _ (integer_arithmetic_may a i j) (λ z _. valid (v.Integer z) refl)))
binary_may (b2.Arithmetic a numeric.Real) x y p q =
    real_is (Valid k.Real) x _ p (λ i _. real_is (Valid k.Real) y _ q (λ j _.
    safe_bind Finite (Valid k.Real) (real_arithmetic a i j) _ (real_arithmetic_may a i j) (λ z e. valid (v.Real z) e)))
binary_may b2.And x y p q = boolean_is (Valid k.Boolean) x _ p (λ i _. boolean_is (Valid k.Boolean) y _ q (λ j _. valid (v.Boolean (i && j)) refl))
binary_may b2.Or x y p q = boolean_is (Valid k.Boolean) x _ p (λ i _. boolean_is (Valid k.Boolean) y _ q (λ j _. valid (v.Boolean (i || j)) refl))
binary_may (b2.Compare r t) x y p q =
    safe_bind Any (Valid k.Boolean) (relation r t x y) _ (relation_may r t x y p q) (λ b _. valid (v.Boolean b) refl)
binary_may (b2.Index c) x y p q = address_is (Valid k.Address) x _ p (λ a _. integer_is (Valid k.Address) y _ q (λ j _. to_address_may (a.0 +ℤ j *ℤ c)))

increment_may : (o : Ordinal) (q : ℤ) (x : Value) → Valid (ordinal o) x → Safe (Valid (ordinal o)) (increment o q x)
increment_may ordinals.Address q x p = address_is (Valid k.Address) x _ p (λ a _. to_address_may (a.0 +ℤ q))
increment_may ordinals.Character q x p = character_is (Valid k.Character) x _ p (λ i _. to_character_may (pos i +ℤ q))
increment_may ordinals.Integer q x p = integer_is (Valid k.Integer) x _ p (λ i _. to_integer_may (i +ℤ q))

decrement_may : (o : Ordinal) (q : ℤ) (x : Value) → Valid (ordinal o) x → Safe (Valid (ordinal o)) (decrement o q x)
decrement_may ordinals.Address q x p = address_is (Valid k.Address) x _ p (λ a _. to_address_may (a.0 -ℤ q))
decrement_may ordinals.Character q x p = character_is (Valid k.Character) x _ p (λ i _. to_character_may (pos i -ℤ q))
decrement_may ordinals.Integer q x p = integer_is (Valid k.Integer) x _ p (λ i _. to_integer_may (i -ℤ q))

whole_part_may : (x : Float) → Safe Any (whole_part x)
whole_part_may x = demand_may Any (float_is_finite x) OutsideKind (integer_of (truncated x)) (omega arith) (λ _. integer_of_may (truncated x))

integer_checked_may : (p q i : ℤ) → Safe Any (integer_checked p q i)
integer_checked_may p q i = demand_may Any (between p q i) OutsideBounds (Ok i) (omega arith) (λ _. tt)

pub unary_may : (f : Unary) (x : Value) → Valid (one_takes f) x → Safe (Valid (one_gives f)) (unary_result f x)
unary_may (b1.Negate numeric.Integer) x p = integer_is (Valid k.Integer) x _ p (λ i _. to_integer_may (neg_ℤ i))
unary_may (b1.Negate numeric.Real) x p = real_is (Valid k.Real) x _ p (λ i _. to_real_may (Ieee.neg i))
unary_may b1.Not x p = boolean_is (Valid k.Boolean) x _ p (λ i _. valid (v.Boolean (not i)) refl)
unary_may (b1.Increment o q) x p = increment_may o q x p
unary_may (b1.Decrement o q) x p = decrement_may o q x p
unary_may (b1.Check l u) x p =
    integer_is (Valid k.Integer) x _ p (λ i _. safe_bind Any (Valid k.Integer) (integer_checked l u i) _ (integer_checked_may l u i) (λ z _. valid (v.Integer z) refl))
unary_may (b1.Convert IntegerToReal) x p = integer_is (Valid k.Real) x _ p (λ i _. to_real_may (of_integer i))
unary_may (b1.Convert RealToInteger) x p =
    real_is (Valid k.Integer) x _ p (λ f _. safe_bind Any (Valid k.Integer) (whole_part f) _ (whole_part_may f) (λ i _. valid (v.Integer i) refl))
unary_may (b1.Convert CharacterToInteger) x p = character_is (Valid k.Integer) x _ p (λ c _. valid (v.Integer (pos c)) refl)
unary_may (b1.Convert IntegerToCharacter) x p = integer_is (Valid k.Character) x _ p (λ i _. to_character_may i)
