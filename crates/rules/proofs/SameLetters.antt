-- Letters are one exactly where `==` says so of the kinds that they stand for.
use Rattle.std.proofs.Common.{◌≡◌, Some, None, Option, refl}
use Rattle.std.specs.Option.{option_eq}
use denote.Enum.Bare.{sameb}
use Rattle.sheet.specs.contracts.kind.Kind.{the_type}
use Rattle.sheet.specs.declared.kind.Kind.{Kind}
use Rattle.sheet.specs.declared.kind.Kind.TheVariants.{Address, Boolean, Character, Integer, Real}
use Rattle.sheet.specs.Kinds.{same}
use Rattle.rules.specs.Letters.{same_letter}

pub same_kind : (s t : Kind) → sameb the_type s t ≡ same s t
same_kind Address Address = refl
same_kind Address Boolean = refl
same_kind Address Character = refl
same_kind Address Integer = refl
same_kind Address Real = refl
same_kind Boolean Address = refl
same_kind Boolean Boolean = refl
same_kind Boolean Character = refl
same_kind Boolean Integer = refl
same_kind Boolean Real = refl
same_kind Character Address = refl
same_kind Character Boolean = refl
same_kind Character Character = refl
same_kind Character Integer = refl
same_kind Character Real = refl
same_kind Integer Address = refl
same_kind Integer Boolean = refl
same_kind Integer Character = refl
same_kind Integer Integer = refl
same_kind Integer Real = refl
same_kind Real Address = refl
same_kind Real Boolean = refl
same_kind Real Character = refl
same_kind Real Integer = refl
same_kind Real Real = refl

pub one_letter : (t u : Option Kind) → option_eq (sameb the_type) t u ≡ same_letter t u
one_letter None None = refl
one_letter None (Some Address) = refl
one_letter None (Some Boolean) = refl
one_letter None (Some Character) = refl
one_letter None (Some Integer) = refl
one_letter None (Some Real) = refl
one_letter (Some Address) None = refl
one_letter (Some Boolean) None = refl
one_letter (Some Character) None = refl
one_letter (Some Integer) None = refl
one_letter (Some Real) None = refl
one_letter (Some s) (Some t) = same_kind s t
