-- A cell as a one-byte code beside a 64-bit word. Cited by the packed store. Assumes nothing.
--   kind_at: the kind that a number stands for, 0 to 4
--   number_at: the number of 32 bits that a word holds, the lowest as 0
--   and_then: go on with what is there
--   value_at: the value of a kind that a word holds; a real is held by its bits
--   shaped: the cell of a shape; 0 is free, 1 a mark, 2 working, 3 data, 4 data with no value yet
--   cell_at: the cell that a code and a word stand for, a free one where they stand for none; the shape is in the code's
--     lowest three bits, the kind in the others
--   packed_cells: the cells of two lists; the shorter gives the length
use Rattle.std.specs.Prelude.{ℕ, ◌/◌, ◌%◌, ◌^◌, true, false, cond, List, [], ◌∷◌, ℤ, pos, ◌-ℤ◌, Some, None, Option, ◌==◌, from_bits, nat_lt}
use Rattle.std.specs.Float.{binary64}
use Rattle.sheet.specs.declared.kind.Kind.{Kind}
use Rattle.sheet.specs.declared.kind.Kind.TheVariants as k
use Rattle.sheet.specs.declared.value.Value.{Value}
use Rattle.sheet.specs.declared.value.Value.TheVariants as v
use Rattle.store.specs.declared.cell.Cell.{Cell}
use Rattle.store.specs.declared.cell.Cell.TheVariants.{Free, Mark, Working, Data, Blank}
use Rattle.store.specs.Cells.{clean, or_free}

abbrev pub kind_at : ℕ → Option Kind
kind_at n =
    cond (n == 0) (Some k.Address)
    (cond (n == 1) (Some k.Boolean)
    (cond (n == 2) (Some k.Character)
    (cond (n == 3) (Some k.Integer)
    (cond (n == 4) (Some k.Real) None))))

abbrev pub number_at : ℕ → Option ℤ
number_at w = cond (nat_lt w (2 ^ 32)) (Some (pos w -ℤ pos (2 ^ 31))) None

abbrev pub and_then : {X Y : Type 0} → Option X → (X → Option Y) → Option Y
and_then None f = None
and_then (Some x) f = f x

abbrev pub value_at : Kind → ℕ → Option Value
value_at k.Address w = and_then (number_at w) (λ z. Some (v.Address (record { 0 = z })))
value_at k.Boolean w = cond (w == 0) (Some (v.Boolean false)) (cond (w == 1) (Some (v.Boolean true)) None)
value_at k.Character w = cond (nat_lt w 256) (Some (v.Character w)) None
value_at k.Integer w = and_then (number_at w) (λ z. Some (v.Integer z))
value_at k.Real w = Some (v.Real (from_bits binary64 w))

abbrev pub shaped : ℕ → Option Kind → ℕ → Option Cell
shaped shape kind w =
    cond (shape == 0) (Some Free)
    (cond (shape == 1) (and_then (number_at w) (λ z. Some (Mark z)))
    (cond (shape == 2) (and_then kind (λ t. and_then (value_at t w) (λ x. Some (Working x))))
    (cond (shape == 3) (and_then kind (λ t. and_then (value_at t w) (λ x. Some (Data x))))
    (cond (shape == 4) (and_then kind (λ t. Some (Blank t))) None))))

abbrev pub cell_at : ℕ → ℕ → Cell
cell_at code w = clean (or_free (shaped (code % 8) (kind_at (code / 8)) w))

unfoldable pub packed_cells : List ℕ → List ℕ → List Cell
packed_cells [] ws = []
packed_cells (c ∷ cs) [] = []
packed_cells (c ∷ cs) (w ∷ ws) = cell_at c w ∷ packed_cells cs ws
