-- The cells of a row, from the bytes of its entries.
use Rattle.std.proofs.Common.{◌≡◌, ℕ, ◌+◌, ◌<◌, ◌≤◌, ◌^◌, List, [], ◌∷◌, map, length, sym, refl, ap, ◌∙◌, arith}
use Rattle.std.specs.List.{sum_by}
use Rattle.std.proofs.lemmas.List.{length-map, length-reverse}
use Rattle.std.proofs.lemmas.List.Sums.{sum_by-cons}
use Rattle.rows.specs.declared.row.Row.{Row}
use Rattle.rows.specs.Entries.{entry_of, cells_of_entry}
use Rattle.rows.specs.Rows.{entries}
use Rattle.transfer.specs.Stacks.{cells_on}
use Rattle.transfer.specs.Transfer.{stack_of}
use Rattle.transfer.proofs.Stacking.{cells_few, cells_sum}
use Rattle.admit.specs.Heights.{cells_at}

by_entries : (bs : List ℕ) → sum_by cells_at bs ≡ sum_by cells_of_entry (map entry_of bs)
by_entries [] = refl
by_entries (b ∷ bs) = sum_by-cons cells_at b bs ∙ ap (λ n. cells_at b + n) (by_entries bs) ∙ sym (sum_by-cons cells_of_entry (entry_of b) (map entry_of bs))

module _ (row : Row) (bs : List ℕ) (e : map entry_of bs ≡ entries row) where
  pub cells_are : sum_by cells_at bs ≡ cells_on (stack_of row)
  cells_are = by_entries bs ∙ ap (sum_by cells_of_entry) e ∙ cells_sum (entries row)

  pub cells_fit : length bs ≤ 40 → sum_by cells_at bs < 2 ^ 64
  cells_fit few =
      let l : length (stack_of row) ≡ length bs = length-reverse (entries row) ∙ sym (ap length e) ∙ length-map bs entry_of in
      omega (arith, few, l, cells_are, cells_few (stack_of row))
