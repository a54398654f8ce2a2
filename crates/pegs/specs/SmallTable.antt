-- A small table set out, byte for byte. Cited by set_out. Assumes nothing.
--   small_input: a table that multiplies the number typed by 30, and 12 typed
--   small_output: the line of 360, and the verdict: the run came to its hlt after 7 steps
use Rattle.std.specs.Prelude.{◌≡◌, ℕ, List, [], ◌∷◌, ◌++◌, codes}
use Rattle.pegs.specs.SetOuts.{set_out}

abbrev line : List ℕ → List ℕ → List ℕ
line bytes rest = bytes ++ (10 ∷ rest)

abbrev pub small_input : List ℕ
small_input =
    line (codes "P     0     0     0     0-")
    (line (codes "Vi")
    (line (codes "C     0 ent --           3           6")
    (line (codes "C     1 in  i-           0           0")
    (line (codes "C     2 sro i-           0           5")
    (line (codes "C     3 ldo i-           0           5")
    (line (codes "C     4 ldc i-           0          30")
    (line (codes "C     5 mul i-           0           0")
    (line (codes "C     6 out i-           0           0")
    (line (codes "C     7 hlt --           0           0")
    (line (codes "i                  12") []))))))))))

abbrev pub small_output : List ℕ
small_output = line (codes "i                 360") (line (codes "z                   1                   7") [])

abbrev pub SmallTableIsSetOut : Type 0
SmallTableIsSetOut = set_out small_input ≡ small_output
