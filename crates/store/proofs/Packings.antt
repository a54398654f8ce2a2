-- Codes beside words, read and written at one place.
use Rattle.std.proofs.Common.{◌≡◌, ℕ, zero, suc, ◌/◌, ◌%◌, ◌<◌, min, List, [], ◌∷◌, length, get_or, set, Some, refl, ap, ◌∙◌, arith}
use Rattle.std.specs.List.{slice_get}
use Rattle.std.proofs.lemmas.List.{set_past}
use Rattle.std.proofs.lemmas.Option.{slice_get_past}
use Rattle.store.specs.declared.cell.Cell.{Cell}
use Rattle.store.specs.Cells.{all_cells, or_free}
use Rattle.store.specs.Packing.{cell_at, packed_cells, shaped, kind_at}
use Rattle.store.proofs.Lists.{clean_clean}

-- the shorter list gives the length
pub length_packed : (cs ws : List ℕ) → length (packed_cells cs ws) ≡ min (length cs) (length ws)
unfolding packed_cells
length_packed [] ws = omega arith
length_packed (c ∷ cs) [] = omega arith
length_packed (c ∷ cs) (w ∷ ws) = let h = length_packed cs ws in omega arith

pub nth_packed : (cs ws : List ℕ) (i d e : ℕ) → i < length cs → i < length ws → slice_get (packed_cells cs ws) i ≡ Some (cell_at (get_or cs i d) (get_or ws i e))
unfolding packed_cells
nth_packed [] ws i d e h k = absurd (omega arith)
nth_packed (c ∷ cs) [] i d e h k = absurd (omega arith)
nth_packed (c ∷ cs) (w ∷ ws) zero d e h k = refl
nth_packed (c ∷ cs) (w ∷ ws) (suc i) d e h k = nth_packed cs ws i d e (omega arith) (omega arith)

pub set_packed : (cs ws : List ℕ) (i c w : ℕ) (x : Cell) → cell_at c w ≡ x → packed_cells (set cs i c) (set ws i w) ≡ set (packed_cells cs ws) i x
unfolding packed_cells
set_packed [] ws i c w x e = refl
set_packed (a ∷ cs) [] zero c w x e = refl
set_packed (a ∷ cs) [] (suc i) c w x e = refl
set_packed (a ∷ cs) (b ∷ ws) zero c w x e = ap (λ (y : Cell). y ∷ packed_cells cs ws) e
set_packed (a ∷ cs) (b ∷ ws) (suc i) c w x e = ap (λ (ys : List Cell). cell_at a b ∷ ys) (set_packed cs ws i c w x e)

-- every pair reads as a cell
pub all_packed : (cs ws : List ℕ) → all_cells (packed_cells cs ws) ≡ packed_cells cs ws
unfolding packed_cells
all_packed [] ws = refl
all_packed (c ∷ cs) [] = refl
all_packed (c ∷ cs) (w ∷ ws) =
    let p : Cell = or_free (shaped (c % 8) (kind_at (c / 8)) w) in
    ap (λ x. x ∷ all_cells (packed_cells cs ws)) (clean_clean p) ∙ ap (λ xs. cell_at c w ∷ xs) (all_packed cs ws)

-- what a read finds and a write leaves
pub ruleset finds = (nth_packed, slice_get_past, length_packed)

pub ruleset writes = (set_packed, set_past, length_packed)
