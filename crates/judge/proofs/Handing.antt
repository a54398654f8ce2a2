-- Rows as records: what reading, writing and comparing one does to their meanings.
use Rattle.std.proofs.Common.{◌≡◌, ℕ, ◌<◌, Bool, true, false, cond, List, [], ◌∷◌, map, reverse, length, get_or, take, set, Some, None, sym, refl, ap, ◌∙◌, arith}
use Rattle.std.proofs.lemmas.Slice.Eq.{bytes_eq-Decides}
use Rattle.std.proofs.lemmas.List.{get_or-map, map-set, reverse-reverse}
use Rattle.rows.specs.declared.row.Row.{Row}
use Rattle.rows.specs.Entries.{entry_of, byte_of}
use Rattle.rows.specs.Rows.{entries, is_row, meaning, same}
use Rattle.rows.proofs.Laws.{codes_entries}
use Rattle.paths.specs.Rows.{row_at}
use Rattle.transfer.specs.Transfer.{stack_of}
use Rattle.judge.specs.Flow.{same_stack}
use Rattle.paths.specs.Judging.{going}
use Rattle.judge.specs.Handing.{meanings, handed_by, handed_to}
use Rattle.judge.proofs.Inside.{stacks_tell}

pub row_of : (rs : List Row) (j : ℕ) (d : Row) → j < length rs → row_at (meanings rs) j ≡ meaning (get_or rs j d)
row_of rs j d h = get_or-map meaning rs j d None h

pub set_row : (rs : List Row) (j : ℕ) (r : Row) → meanings (set rs j r) ≡ set (meanings rs) j (meaning r)
set_row rs j r = map-set meaning rs j r

pub reached : (r : Row) → is_row r ≡ true → meaning r ≡ Some (stack_of r)
reached r e = ap (λ b. cond b (Some (stack_of r)) None) e

pub unreached : (r : Row) → is_row r ≡ false → meaning r ≡ None
unreached r e = ap (λ b. cond b (Some (stack_of r)) None) e

entries_of : (a b : Row) → map byte_of (entries a) ≡ map byte_of (entries b) → entries a ≡ entries b
entries_of a b e = ap (map entry_of) (sym (codes_entries (take a.len a.bytes)) ∙ e ∙ codes_entries (take b.len b.bytes))

-- two rows have the same stack exactly where their bytes are the same
pub same_stacks : (a b : Row) → same (entries a) (entries b) ≡ same_stack (stack_of a) (stack_of b)
same_stacks a b = by (same (entries a) (entries b)) (same_stack (stack_of a) (stack_of b)) refl refl
  where
    by : (p q : Bool) → same (entries a) (entries b) ≡ p → same_stack (stack_of a) (stack_of b) ≡ q → same (entries a) (entries b) ≡ same_stack (stack_of a) (stack_of b)
    by true true e f = e ∙ sym f
    by false false e f = e ∙ sym f
    by true false e f =
        let d = bytes_eq-Decides (map byte_of (entries a)) (map byte_of (entries b)) in
        let z = sym f ∙ (stacks_tell (stack_of a) (stack_of b)).1 (ap reverse (entries_of a b (d.0 e))) in
        let y : ◌≡◌ {A = ℕ} 0 1 = cc in absurd (omega arith)
    by false true e f =
        let d = bytes_eq-Decides (map byte_of (entries a)) (map byte_of (entries b)) in
        let s : stack_of a ≡ stack_of b = (stacks_tell (stack_of a) (stack_of b)).0 f in
        let t : entries a ≡ entries b = sym (reverse-reverse (entries a)) ∙ ap reverse s ∙ reverse-reverse (entries b) in
        let z = sym e ∙ d.1 (ap (map byte_of) t) in
        let y : ◌≡◌ {A = ℕ} 0 1 = cc in absurd (omega arith)

-- ---- a stack comes to instruction j, whose record is the j-th
module _ (rs : List Row) (work : List ℕ) (j : ℕ) (row : Row) (inside : j < length rs) where
  abbrev old : Row
  old = get_or rs j (record { len = 0; bytes = [] })

  at_old : row_at (meanings rs) j ≡ meaning old
  at_old = row_of rs j (record { len = 0; bytes = [] }) inside

  pub none_there : is_row old ≡ false → row_at (meanings rs) j ≡ None
  none_there e = at_old ∙ unreached old e

  there : is_row old ≡ true → row_at (meanings rs) j ≡ Some (stack_of old)
  there e = at_old ∙ reached old e

  pub taken : (work' : List ℕ) → is_row old ≡ false → is_row row ≡ true → work' ≡ j ∷ work
      → handed_to (meanings rs) work j (stack_of row) ≡ going (meanings (set rs j row)) work'
  taken work' e f w =
      ap (λ o. handed_by o (meanings rs) work j (stack_of row)) (none_there e)
      ∙ ap (λ o. going (set (meanings rs) j o) (j ∷ work)) (sym (reached row f))
      ∙ ap (λ x. going x (j ∷ work)) (sym (set_row rs j row))
      ∙ ap (going (meanings (set rs j row))) (sym w)
