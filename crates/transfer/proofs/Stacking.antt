-- The cells that entries stand for, and what `ok_or` was given. Assumes nothing.
use Rattle.std.proofs.Common.{◌≡◌, ℕ, ◌+◌, ◌*◌, ◌≤◌, List, [], ◌∷◌, ◌++◌, reverse, length, Some, None, Ok, Err, Option, sym, refl, ap, ◌∙◌, arith}
use Rattle.std.specs.List.{sum_by}
use Rattle.std.specs.Option.{ok_or}
use Rattle.std.proofs.lemmas.List.Sums.{sum_by-cons}
use Rattle.std.proofs.lemmas.List.{reverse-append}
use Rattle.rows.specs.declared.entry.Entry.{Entry}
use Rattle.rows.specs.declared.entry.Entry.TheVariants.{Value, Mark}
use Rattle.rows.specs.Entries.{cells_of_entry}
use Rattle.transfer.specs.Stacks.{Stack, cells_on}

-- the cells of entries, in either direction
few_cells : (e : Entry) → cells_of_entry e ≤ 5
few_cells (Value k) = omega arith
few_cells (Mark j) = omega arith

pub cells_few : (s : Stack) → cells_on s ≤ 5 * length s
cells_few [] = omega arith
cells_few (e ∷ s) = let h = cells_few s in let f = few_cells e in omega arith

cells_append : (s r : Stack) → cells_on (s ++ r) ≡ cells_on s + cells_on r
cells_append [] r = omega arith
cells_append (e ∷ s) r = let h = cells_append s r in omega arith

cells_reverse : (s : Stack) → cells_on (reverse s) ≡ cells_on s
cells_reverse [] = refl
cells_reverse (e ∷ s) =
    let h = cells_reverse s in
    let a : cells_on (reverse (e ∷ s)) ≡ cells_on (reverse s) + (cells_of_entry e + 0) = ap cells_on (reverse-append (e ∷ []) s) ∙ cells_append (reverse s) (e ∷ []) in
    omega arith

pub cells_sum : (es : List Entry) → sum_by cells_of_entry es ≡ cells_on (reverse es)
cells_sum es = by es ∙ sym (cells_reverse es)
  where
    by : (es : List Entry) → sum_by cells_of_entry es ≡ cells_on es
    by [] = refl
    by (e ∷ es) = sum_by-cons cells_of_entry e es ∙ ap (λ n. cells_of_entry e + n) (by es)

-- what `ok_or` was given, by what it answers
pub none_there : {X E : Type 0} (o : Option X) (e b : E) → ok_or o e ≡ Err b → o ≡ None
none_there None e b h = refl
none_there (Some x) e b h = let z : ◌≡◌ {A = ℕ} 0 1 = cc in absurd (omega arith)

pub some_there : {X E : Type 0} (o : Option X) (e : E) (x : X) → ok_or o e ≡ Ok x → o ≡ Some x
some_there None e x h = let z : ◌≡◌ {A = ℕ} 0 1 = cc in absurd (omega arith)
some_there (Some y) e x h = let q : y ≡ x = cc in ap Some q
