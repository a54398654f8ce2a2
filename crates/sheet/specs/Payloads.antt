-- What a value holds as one of its kind; a value of another kind is a wrong cell. Assumes nothing.
use Rattle.std.specs.Prelude.{ℕ, Bool, ℤ, Ok, Err, Result, Float}
use Rattle.sheet.specs.declared.place.StorePlace.{StorePlace}
use Rattle.sheet.specs.declared.stop.Stop.{Stop}
use Rattle.sheet.specs.declared.stop.Stop.TheVariants.{WrongCell}
use Rattle.sheet.specs.declared.value.Value.{Value}
use Rattle.sheet.specs.declared.value.Value.TheVariants.{Address, Boolean, Character, Integer, Real}

abbrev pub Payload : Type 0 → Type 0
Payload A = Result A Stop

abbrev pub address_in : Value → Payload StorePlace
address_in (Address a) = Ok a
address_in (Boolean b) = Err WrongCell
address_in (Character c) = Err WrongCell
address_in (Integer i) = Err WrongCell
address_in (Real x) = Err WrongCell

abbrev pub boolean_in : Value → Payload Bool
boolean_in (Address a) = Err WrongCell
boolean_in (Boolean b) = Ok b
boolean_in (Character c) = Err WrongCell
boolean_in (Integer i) = Err WrongCell
boolean_in (Real x) = Err WrongCell

abbrev pub character_in : Value → Payload ℕ
character_in (Address a) = Err WrongCell
character_in (Boolean b) = Err WrongCell
character_in (Character c) = Ok c
character_in (Integer i) = Err WrongCell
character_in (Real x) = Err WrongCell

abbrev pub integer_in : Value → Payload ℤ
integer_in (Address a) = Err WrongCell
integer_in (Boolean b) = Err WrongCell
integer_in (Character c) = Err WrongCell
integer_in (Integer i) = Ok i
integer_in (Real x) = Err WrongCell

abbrev pub real_in : Value → Payload Float
real_in (Address a) = Err WrongCell
real_in (Boolean b) = Err WrongCell
real_in (Character c) = Err WrongCell
real_in (Integer i) = Err WrongCell
real_in (Real x) = Ok x
