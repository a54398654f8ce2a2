-- Where instructions that go by static links find a cell. Cited by lod and str. Assumes nothing.
--   cell_of: the place of the cell with offset q in the frame p static links up from MP = m
use Rattle.std.specs.Prelude.{ℕ, ◌+◌, List, Ok}
use Rattle.arith.specs.Answers.{Answer, ◌>>=◌}
use Rattle.store.specs.declared.cell.Cell.{Cell}
use Rattle.machine.specs.Leaves.{base}

abbrev pub cell_of : (p q m : ℕ) → List Cell → Answer ℕ
cell_of p q m cs = base p m m cs >>= λ x. Ok (x + q)
