-- The operand shape of each mnemonic, cited by the table of shapes and by whatever reads it. Assumes nothing.
--   mnemonics: all 38, in the order of their numbers
--   bare, with_p, with_q, with_both: shapes, by the operands that are used
--   name_of: its four columns
--   shape_of: letters, whether p and q are used, and what they must name
--   named: the mnemonic that a name of four columns stands for
--   NamesAreApart: each mnemonic is found by its own name
use Rattle.std.specs.Prelude.{◌≡◌, ℕ, true, false, List, [], ◌∷◌, Some, codes, Option}
use Rattle.std.specs.List.{find}
use Rattle.std.specs.Str.{bytes_eq}
use Rattle.sheet.specs.declared.mnemonic.Mnemonic.{Mnemonic}
use Rattle.sheet.specs.declared.mnemonic.Mnemonic.TheVariants.{Add, Sub, Mul, Div, Neg, And, Or, Not, Equ, Neq, Les, Leq, Grt, Geq, Ldc, Ldo, Sro, Lod, Str, Lda, Ind, Sto, Dpl, Ixa, Inc, Dec, Chk, Ujp, Fjp, In, Out, Conv, Mst, Cup, Ent, Retf, Retp, Hlt}
use Rattle.sheet.specs.declared.shape.Letters.{Letters}
use Rattle.sheet.specs.declared.shape.Letters.TheVariants.{Nothing, Number, Every, Ordinal, Reads, Pair}
use Rattle.sheet.specs.declared.shape.Rule.{Rule}
use Rattle.sheet.specs.declared.shape.Rule.TheVariants.{Free, Constant, Global, Local, Address, Label, Link, Call, Enter, Function, Procedure}
use Rattle.sheet.specs.declared.shape.Shape.{Shape}

abbrev pub mnemonics : List Mnemonic
mnemonics = Add ∷ Sub ∷ Mul ∷ Div ∷ Neg ∷ And ∷ Or ∷ Not ∷ Equ ∷ Neq ∷ Les ∷ Leq ∷ Grt ∷ Geq ∷ Ldc ∷ Ldo ∷ Sro ∷ Lod ∷ Str ∷ Lda ∷ Ind ∷ Sto ∷ Dpl ∷ Ixa ∷ Inc ∷ Dec ∷ Chk ∷ Ujp ∷ Fjp ∷ In ∷ Out ∷ Conv ∷ Mst ∷ Cup ∷ Ent ∷ Retf ∷ Retp ∷ Hlt ∷ []

-- neither operand is used
abbrev bare : Letters → Rule → Shape
bare l u = record { letters = l; p = false; q = false; rule = u }

-- p alone, q alone, both
abbrev with_p : Letters → Rule → Shape
with_p l u = record { letters = l; p = true; q = false; rule = u }

abbrev with_q : Letters → Rule → Shape
with_q l u = record { letters = l; p = false; q = true; rule = u }

abbrev with_both : Letters → Rule → Shape
with_both l u = record { letters = l; p = true; q = true; rule = u }

abbrev pub shape_of : Mnemonic → Shape
shape_of Add = bare Number Free
shape_of Sub = bare Number Free
shape_of Mul = bare Number Free
shape_of Div = bare Number Free
shape_of Neg = bare Number Free
shape_of And = bare Nothing Free
shape_of Or = bare Nothing Free
shape_of Not = bare Nothing Free
shape_of Equ = bare Every Free
shape_of Neq = bare Every Free
shape_of Les = bare Every Free
shape_of Leq = bare Every Free
shape_of Grt = bare Every Free
shape_of Geq = bare Every Free
shape_of Ldc = with_q Every Constant
shape_of Ldo = with_q Every Global
shape_of Sro = with_q Every Global
shape_of Lod = with_both Every Local
shape_of Str = with_both Every Local
shape_of Lda = with_both Nothing Address
shape_of Ind = bare Every Free
shape_of Sto = bare Every Free
shape_of Dpl = bare Every Free
shape_of Ixa = with_q Nothing Free
shape_of Inc = with_q Ordinal Free
shape_of Dec = with_q Ordinal Free
shape_of Chk = with_both Nothing Free
shape_of Ujp = with_q Nothing Label
shape_of Fjp = with_q Nothing Label
shape_of In = bare Reads Free
shape_of Out = bare Every Free
shape_of Conv = bare Pair Free
shape_of Mst = with_p Nothing Link
shape_of Cup = with_both Nothing Call
shape_of Ent = with_both Nothing Enter
shape_of Retf = bare Nothing Function
shape_of Retp = bare Nothing Procedure
shape_of Hlt = bare Nothing Free

abbrev pub name_of : Mnemonic → List ℕ
name_of Add = codes "add "
name_of Sub = codes "sub "
name_of Mul = codes "mul "
name_of Div = codes "div "
name_of Neg = codes "neg "
name_of And = codes "and "
name_of Or = codes "or  "
name_of Not = codes "not "
name_of Equ = codes "equ "
name_of Neq = codes "neq "
name_of Les = codes "les "
name_of Leq = codes "leq "
name_of Grt = codes "grt "
name_of Geq = codes "geq "
name_of Ldc = codes "ldc "
name_of Ldo = codes "ldo "
name_of Sro = codes "sro "
name_of Lod = codes "lod "
name_of Str = codes "str "
name_of Lda = codes "lda "
name_of Ind = codes "ind "
name_of Sto = codes "sto "
name_of Dpl = codes "dpl "
name_of Ixa = codes "ixa "
name_of Inc = codes "inc "
name_of Dec = codes "dec "
name_of Chk = codes "chk "
name_of Ujp = codes "ujp "
name_of Fjp = codes "fjp "
name_of In = codes "in  "
name_of Out = codes "out "
name_of Conv = codes "conv"
name_of Mst = codes "mst "
name_of Cup = codes "cup "
name_of Ent = codes "ent "
name_of Retf = codes "retf"
name_of Retp = codes "retp"
name_of Hlt = codes "hlt "

-- the first that has this name
abbrev pub named : List ℕ → Option Mnemonic
named s = find (λ m. bytes_eq (name_of m) s) mnemonics

-- no two mnemonics share a name: each is found by its own
abbrev pub NamesAreApart : Type 0
NamesAreApart = (m : Mnemonic) → named (name_of m) ≡ Some m
