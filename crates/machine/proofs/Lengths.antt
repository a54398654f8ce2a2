-- What an instruction writes leaves the store as long as it was. Assumes nothing.
use Rattle.std.proofs.Common.{◌≡◌, ℕ, ◌+◌, List, [], ◌∷◌, length, Some, None, Option, refl, ◌∙◌, length-set}
use Rattle.sheet.specs.declared.kind.Kind.{Kind}
use Rattle.store.specs.declared.cell.Cell.{Cell}
use Rattle.store.specs.declared.cell.Cell.TheVariants.{Blank}
use Rattle.store.specs.Cells.{clean, put, peek}
use Rattle.machine.specs.Frames.{place, marks, settled, settle, clear, result_cell}

pub length_put : (cs : List Cell) (x : ℕ) (c : Cell) → length (put cs x c) ≡ length cs
length_put cs x c = length-set cs x (clean c)

pub length_marks : (x link mp ep : ℕ) (cs : List Cell) → length (marks x link mp ep cs) ≡ length cs
length_marks x link mp ep cs =
    length_put _ (x + 4) (place 0) ∙ (length_put _ (x + 3) (place ep) ∙ (length_put _ (x + 2) (place mp)
    ∙ (length_put _ (x + 1) (place link) ∙ length_put cs x (place 0))))

pub length_settle : (ts : List Kind) (x : ℕ) (cs : List Cell) → length (settle ts x cs) ≡ length cs
unfolding settle
length_settle [] x cs = refl
length_settle (t ∷ ts) x cs = length_settle ts (x + 1) (put cs x (settled (peek cs x))) ∙ length_put cs x (settled (peek cs x))

pub length_clear : (ts : List Kind) (x : ℕ) (cs : List Cell) → length (clear ts x cs) ≡ length cs
unfolding clear
length_clear [] x cs = refl
length_clear (t ∷ ts) x cs = length_clear ts (x + 1) (put cs x (Blank t)) ∙ length_put cs x (Blank t)

pub length_result : (r : Option Kind) (x : ℕ) (cs : List Cell) → length (result_cell r x cs) ≡ length cs
length_result None x cs = refl
length_result (Some t) x cs = length_put cs x (Blank t)
