-- Lists of cells, read and written at one place.
use Rattle.std.proofs.Common.{◌≡◌, ℕ, zero, suc, ◌<◌, Bool, true, false, cond, List, [], ◌∷◌, length, set, Some, refl, ap, ◌∙◌, arith}
use Rattle.std.specs.List.{slice_get}
use Rattle.std.proofs.lemmas.List.{length-map, length-set, map-set, set_past}
use Rattle.sheet.specs.Kinds.{is_value}
use Rattle.store.specs.declared.cell.Cell.{Cell}
use Rattle.store.specs.declared.cell.Cell.TheVariants.{Free, Mark, Working, Data, Blank}
use Rattle.store.specs.Cells.{clean, all_cells, or_past}
use Rattle.store.specs.Laws.{AWriteReplacesOneCell}

-- what a write to a list of records does to the cells that it means
pub ruleset writes = (length-map, map-set, set_past)

kept_or_free : (b : Bool) (c : Cell) → clean c ≡ cond b c Free → clean (cond b c Free) ≡ cond b c Free
kept_or_free true c e = e
kept_or_free false c e = refl

pub clean_clean : (c : Cell) → clean (clean c) ≡ clean c
clean_clean Free = refl
clean_clean (Mark z) = refl
clean_clean (Working x) = kept_or_free (is_value x) (Working x) refl
clean_clean (Data x) = kept_or_free (is_value x) (Data x) refl
clean_clean (Blank t) = refl

pub all_cells_again : (cs : List Cell) → all_cells (all_cells cs) ≡ all_cells cs
all_cells_again [] = refl
all_cells_again (c ∷ cs) = ap (λ x. x ∷ all_cells (all_cells cs)) (clean_clean c) ∙ ap (λ xs. clean c ∷ xs) (all_cells_again cs)

written_here : (cs : List Cell) (x : ℕ) (c : Cell) → x < length cs → slice_get (set cs x c) x ≡ Some c
written_here [] x c h = absurd (omega arith)
written_here (d ∷ cs) zero c h = refl
written_here (d ∷ cs) (suc x) c h = written_here cs x c (omega arith)

kept_elsewhere : (cs : List Cell) (x : ℕ) (c : Cell) (y : ℕ) → (y ≡ x → ⊥) → slice_get (set cs x c) y ≡ slice_get cs y
kept_elsewhere [] x c y ne = refl
kept_elsewhere (d ∷ cs) zero c zero ne = absurd (ne refl)
kept_elsewhere (d ∷ cs) zero c (suc y) ne = refl
kept_elsewhere (d ∷ cs) (suc x) c zero ne = refl
kept_elsewhere (d ∷ cs) (suc x) c (suc y) ne = kept_elsewhere cs x c y (λ e. ne (ap suc e))

pub a_write_replaces_one_cell : AWriteReplacesOneCell
a_write_replaces_one_cell cs x c =
    (λ h. ap or_past (written_here cs x (clean c) h), λ y ne. ap or_past (kept_elsewhere cs x (clean c) y ne), length-set cs x (clean c))
