-- A text as lines, each with the byte 10 that ends it; what follows the last such byte is a line without one.
-- Cited by whatever reads a text. Assumes nothing.
use Rattle.std.specs.Prelude.{ℕ, cond, List, [], ◌∷◌, ◌==◌}
use Rattle.numerals.specs.declared.lines.Lines.{Lines}

-- c stands before the first line
abbrev pub onto : ℕ → List (List ℕ) → List (List ℕ)
onto c [] = (c ∷ []) ∷ []
onto c (l ∷ ls) = (c ∷ l) ∷ ls

abbrev pub lines : List ℕ → List (List ℕ)
lines [] = []
lines (c ∷ cs) = cond (c == 10) ((c ∷ []) ∷ lines cs) (onto c (lines cs))

-- what an iterator over lines has yet to give
abbrev pub lines_left : Lines → List (List ℕ)
lines_left s = lines s.rest.now
