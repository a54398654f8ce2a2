-- The last line that a program writes: z, a number and a place in 20 columns each, and the end. Assumes nothing.
use Rattle.std.specs.Prelude.{ℕ, List, [], ◌∷◌, ◌++◌, pos}
use Rattle.numerals.specs.Numbers.{write_number}

abbrev pub write_verdict : ℕ → ℕ → List ℕ
write_verdict n p = 122 ∷ (write_number 20 (pos n) ++ (write_number 20 (pos p) ++ (10 ∷ [])))
