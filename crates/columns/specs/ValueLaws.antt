-- What ties reading a value to writing it. Cited by both. Assumes nothing.
use Rattle.std.specs.Prelude.{◌≡◌, ◌^◌, ◌<◌, true, Ok}
use Rattle.std.specs.Int.Signed.{mag}
use Rattle.std.specs.Float.Ieee.{fits}
use Rattle.std.specs.Float.{float_is_finite, binary64}
use Rattle.sheet.specs.declared.value.Value.{Value}
use Rattle.sheet.specs.declared.value.Value.TheVariants.{Address, Boolean, Character, Integer, Real}
use Rattle.columns.specs.ValueLines.{read_value, write_value}

-- the values that a line of text may hold: of any kind but addresses, in its range
abbrev pub TypedIn : Value → Type 0
TypedIn (Address x) = ⊥
TypedIn (Boolean x) = Unit {0}
TypedIn (Character x) = x < 256
TypedIn (Integer x) = mag x < 2 ^ 31
TypedIn (Real x) = (fits binary64 x ≡ true) × (float_is_finite x ≡ true)

-- a value that is written is read back
abbrev pub WrittenValuesReadBack : Type 0
WrittenValuesReadBack = (v : Value) → TypedIn v → read_value (write_value v) ≡ Ok v
