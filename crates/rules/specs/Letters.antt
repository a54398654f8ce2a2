-- The letters that an instruction may have. Cited by the check of operands. Assumes nothing.
--   letter: the byte of a letter in text, '-' for none
--   is, same_letter: whether a letter is this kind, and whether two letters are one
--   letters_ok: whether T and T2 are letters that a mnemonic allows
use Rattle.std.specs.Prelude.{ℕ, Bool, not, ◌&&◌, ◌||◌, is_some, Some, None, Option, ◌==◌}
use Rattle.sheet.specs.declared.kind.Kind.{Kind}
use Rattle.sheet.specs.declared.kind.Kind.TheVariants.{Address, Boolean, Character, Integer, Real}
use Rattle.sheet.specs.declared.shape.Letters.{Letters}
use Rattle.sheet.specs.declared.shape.Letters.TheVariants as letters
use Rattle.sheet.specs.Kinds.{letter_of}

abbrev pub letter : Option Kind → ℕ
letter None = 45
letter (Some k) = letter_of k

abbrev pub same_letter : Option Kind → Option Kind → Bool
same_letter t u = letter t == letter u

abbrev pub is : Option Kind → Kind → Bool
is t k = same_letter t (Some k)

abbrev pub letters_ok : Letters → Option Kind → Option Kind → Bool
letters_ok letters.Nothing t u = not (is_some t) && not (is_some u)
letters_ok letters.Number t u = (is t Integer || is t Real) && not (is_some u)
letters_ok letters.Every t u = is_some t && not (is_some u)
letters_ok letters.Ordinal t u = (is t Address || (is t Character || is t Integer)) && not (is_some u)
letters_ok letters.Reads t u = (is t Boolean || (is t Character || (is t Integer || is t Real))) && not (is_some u)
letters_ok letters.Pair t u =
    (is t Integer && is u Real) || ((is t Real && is u Integer) || ((is t Character && is u Integer) || (is t Integer && is u Character)))
