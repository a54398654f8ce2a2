-- The walks along the cells of a frame, a turn at a time.
use Rattle.std.proofs.Common.{◌≡◌, ℕ, ◌+◌, ◌-◌, ◌<◌, ◌≤◌, List, length, get_or, drop, refl, arith}
use Rattle.std.proofs.lemmas.List.{drop_all, drop_more}
use Rattle.sheet.specs.declared.kind.Kind.{Kind}
use Rattle.sheet.specs.declared.kind.Kind.TheVariants as k
use Rattle.store.specs.declared.cell.Cell.{Cell}
use Rattle.store.specs.declared.cell.Cell.TheVariants.{Blank}
use Rattle.store.specs.Cells.{peek, put}
use Rattle.machine.specs.Frames.{settled, settle, clear}

pub settle_on : (ts : List Kind) (x p : ℕ) (cs ds : List Cell) → x ≤ p → p < x + length ts → ds ≡ put cs p (settled (peek cs p)) → settle (drop (p - x) ts) p cs ≡ settle (drop (p + 1 - x) ts) (p + 1) ds
unfolding settle
settle_on ts x p cs ds l h e = let q : p + 1 - x ≡ p - x + 1 = omega (arith, l) in rw (q, drop_more ts (p - x) k.Address (omega (arith, l, h)), e)

pub settle_begin : (ts : List Kind) (x : ℕ) (cs : List Cell) → settle (drop (x - x) ts) x cs ≡ settle ts x cs
settle_begin ts x cs = let q : x - x ≡ 0 = omega arith in rw q refl

pub settle_end : (ts : List Kind) (x p : ℕ) (cs : List Cell) → x + length ts ≤ p → cs ≡ settle (drop (p - x) ts) p cs
unfolding settle
settle_end ts x p cs h = rw (drop_all (p - x) ts (omega (arith, h)))

pub clear_on : (ts : List Kind) (i : ℕ) (d : Kind) (x : ℕ) (cs ds : List Cell) → i < length ts → ds ≡ put cs x (Blank (get_or ts i d)) → clear (drop i ts) x cs ≡ clear (drop (i + 1) ts) (x + 1) ds
unfolding clear
clear_on ts i d x cs ds h e = rw (drop_more ts i d h, e)

pub clear_end : (ts : List Kind) (i x : ℕ) (cs : List Cell) → length ts ≤ i → cs ≡ clear (drop i ts) x cs
unfolding clear
clear_end ts i x cs h = rw (drop_all i ts h)
