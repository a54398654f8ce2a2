-- The two parts of an input: the text of a table, and from the first line that begins with the letter of a type on, the
-- text of values. Cited by what sets out. Assumes nothing.
--   is_value_line: a line that begins with a, b, c, i or r
--   before_values, from_values: the lines before the first such one, and those from it on
--   table_text, value_text: the parts
--   lines_before: how many lines come before the values
--   most_bytes: the most bytes of an input, and of the lines written
--   PartsOf: what the parts of an input are
use Rattle.std.specs.Prelude.{◌≡◌, ℕ, ◌≤◌, Bool, false, cond, ◌||◌, List, [], ◌∷◌, length, ◌==◌}
use Rattle.std.specs.List.{concat}
use Rattle.numerals.specs.Lines.{lines}
use Rattle.pegs.specs.declared.parts.Parts.{Parts}

abbrev pub most_bytes : ℕ
most_bytes = 32768

abbrev pub is_value_line : List ℕ → Bool
is_value_line [] = false
is_value_line (c ∷ cs) = c == 97 || (c == 98 || (c == 99 || (c == 105 || c == 114)))

abbrev pub before_values : List (List ℕ) → List (List ℕ)
before_values [] = []
before_values (l ∷ ls) = cond (is_value_line l) [] (l ∷ before_values ls)

abbrev pub from_values : List (List ℕ) → List (List ℕ)
from_values [] = []
from_values (l ∷ ls) = cond (is_value_line l) (l ∷ ls) (from_values ls)

abbrev pub table_text : List ℕ → List ℕ
table_text input = concat (before_values (lines input))

abbrev pub value_text : List ℕ → List ℕ
value_text input = concat (from_values (lines input))

abbrev pub lines_before : List ℕ → ℕ
lines_before input = length (lines (table_text input))

-- what the parts of an input hold
pub record PartsOf (input : List ℕ) (p : Parts) : Type 0 where
  pub short : length input ≤ most_bytes
  pub table : p.table.now ≡ table_text input
  pub lines : p.lines ≡ lines_before input
  pub values : p.values.now ≡ value_text input
