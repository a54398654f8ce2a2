-- Kinds and values, cited by whatever looks at one. Assumes nothing.
--   letter_of: the byte that stands for a kind in text
--   word_of: the word for a kind in a listing
--   kind_of: the kind of a value
--   is_value: whether a record is a value: a real is finite
--   same: whether two kinds are one
use Rattle.std.specs.Prelude.{ℕ, Bool, true, List, codes, ◌==◌}
use Rattle.std.specs.Float.{float_is_finite}
use Rattle.sheet.specs.declared.kind.Kind.{Kind}
use Rattle.sheet.specs.declared.kind.Kind.TheVariants as k
use Rattle.sheet.specs.declared.value.Value.{Value}
use Rattle.sheet.specs.declared.value.Value.TheVariants as v

-- a, b, c, i, r
abbrev pub letter_of : Kind → ℕ
letter_of k.Address = 97
letter_of k.Boolean = 98
letter_of k.Character = 99
letter_of k.Integer = 105
letter_of k.Real = 114

abbrev pub word_of : Kind → List ℕ
word_of k.Address = codes "address"
word_of k.Boolean = codes "boolean"
word_of k.Character = codes "character"
word_of k.Integer = codes "integer"
word_of k.Real = codes "real"

abbrev pub kind_of : Value → Kind
kind_of (v.Address x) = k.Address
kind_of (v.Boolean x) = k.Boolean
kind_of (v.Character x) = k.Character
kind_of (v.Integer x) = k.Integer
kind_of (v.Real x) = k.Real

abbrev pub is_value : Value → Bool
is_value (v.Address x) = true
is_value (v.Boolean x) = true
is_value (v.Character x) = true
is_value (v.Integer x) = true
is_value (v.Real x) = float_is_finite x

abbrev pub same : Kind → Kind → Bool
same s t = letter_of s == letter_of t
