-- Laws of cells laid one above the other: the parameters and the data cells of a frame.
use Rattle.std.proofs.Common.{◌≡◌, ℕ, ◌+◌, ◌<◌, ◌≤◌, List, [], ◌∷◌, ◌++◌, length, Ok, sym, refl, ap, ◌∙◌, subst, arith, length-append}
use Rattle.sheet.specs.declared.kind.Kind.{Kind}
use Rattle.sheet.specs.declared.stop.Stop.TheVariants.{WrongCell}
use Rattle.rows.specs.declared.entry.Entry.TheVariants as entry
use Rattle.transfer.specs.Stacks.{Stack}
use Rattle.store.specs.declared.cell.Cell.{Cell}
use Rattle.store.specs.declared.cell.Cell.TheVariants.{Blank}
use Rattle.store.specs.Cells.{put, peek}
use Rattle.machine.specs.Frames.{passed, settled, settle, clear}
use Rattle.machine.proofs.Lengths.{length_put}
use Rattle.soundness.proofs.Rules.{laid}
use Rattle.soundness.proofs.Invariant.{Sort, is_work, is_data, sort, Stands, row_sorts}
use Rattle.soundness.proofs.Cells.{peek_put_other, sort_data, of_kind_is, work_is, working_is, stands_above, stands_push}

-- the cells from place x up have the sorts f of these kinds
abbrev pub LiesAt : (Kind → Sort) → List Cell → List Kind → ℕ → Type 0
LiesAt f cs [] x = Unit {0}
LiesAt f cs (t ∷ ts) x = (sort (peek cs x) ≡ f t) × LiesAt f cs ts (x + 1)

pub laid_append : {A B : Type 0} (f : A → B) (xs ys : List A) (K : List B) → laid f (xs ++ ys) K ≡ laid f ys (laid f xs K)
laid_append f [] ys K = refl
laid_append f (x ∷ xs) ys K = laid_append f xs ys (f x ∷ K)

pub row_laid : (e m : ℕ) (l : ℕ → ℕ) (ts : List Kind) (σ : Stack) (K : List Sort) → row_sorts e m l (laid entry.Value ts σ) K ≡ laid is_work ts (row_sorts e m l σ K)
row_laid e m l [] σ K = refl
row_laid e m l (t ∷ ts) σ K = row_laid e m l ts (entry.Value t ∷ σ) K

pub laid_out : (f : Kind → Sort) (cs : List Cell) (ts : List Kind) (x : ℕ) (K : List Sort) → x ≡ length K → Stands cs (laid f ts K) → Stands cs K × LiesAt f cs ts x
laid_out f cs [] x K e h = (h, tt)
laid_out f cs (t ∷ ts) x K e h =
    let r = laid_out f cs ts (x + 1) (f t ∷ K) (omega arith) h in
    (r.0.1, (rw e r.0.0, r.1))

pub laid_in : (f : Kind → Sort) (cs : List Cell) (ts : List Kind) (x : ℕ) (K : List Sort) → x ≡ length K → Stands cs K → LiesAt f cs ts x → Stands cs (laid f ts K)
laid_in f cs [] x K e h p = h
laid_in f cs (t ∷ ts) x K e h p = laid_in f cs ts (x + 1) (f t ∷ K) (omega arith) (rw (← e) p.0, h) p.1

-- a write outside
pub lies_below : (f : Kind → Sort) (cs : List Cell) (ts : List Kind) (y x : ℕ) (c : Cell) → x < y → LiesAt f cs ts y → LiesAt f (put cs x c) ts y
lies_below f cs [] y x c l h = tt
lies_below f cs (t ∷ ts) y x c l h =
    (ap sort (peek_put_other cs x y c (λ z. omega arith)) ∙ h.0, lies_below f cs ts (y + 1) x c (omega arith) h.1)

pub passed_is : (ts : List Kind) (x : ℕ) (cs : List Cell) → LiesAt is_work cs ts x → passed ts x cs ≡ Ok tt
unfolding passed
passed_is [] x cs h = refl
passed_is (t ∷ ts) x cs h = let w = working_is t (peek cs x) h.0 in rw (w.1, of_kind_is WrongCell t w.0 w.2) (passed_is ts (x + 1) cs h.1)

pub settled_is : (t : Kind) (c : Cell) → sort c ≡ is_work t → sort (settled c) ≡ is_data t
settled_is t c e = let w = work_is t c e in ap sort (ap settled w.1) ∙ sort_data t w.0 w.2

pub clear_keeps : (ts : List Kind) (x : ℕ) (cs : List Cell) (K : List Sort) → length K ≤ x → Stands cs K → Stands (clear ts x cs) K
unfolding clear
clear_keeps [] x cs K l h = h
clear_keeps (t ∷ ts) x cs K l h = clear_keeps ts (x + 1) (put cs x (Blank t)) K (omega arith) (stands_above cs K x (Blank t) l h)

pub settle_stands : (ts : List Kind) (x : ℕ) (cs : List Cell) (K : List Sort) → x ≡ length K → x + length ts ≤ length cs → Stands cs K → LiesAt is_work cs ts x → Stands (settle ts x cs) (laid is_data ts K)
unfolding settle
settle_stands [] x cs K e l h p = h
settle_stands (t ∷ ts) x cs K e l h p =
    let n = length_put cs x (settled (peek cs x)) in
    settle_stands ts (x + 1) (put cs x (settled (peek cs x))) (is_data t ∷ K) (omega arith) (omega arith)
    (stands_push cs K x (settled (peek cs x)) (is_data t) e (omega arith) (settled_is t (peek cs x) p.0) h)
    (lies_below is_work cs ts (x + 1) x (settled (peek cs x)) (omega arith) p.1)

pub clear_stands : (ts : List Kind) (x : ℕ) (cs : List Cell) (K : List Sort) → x ≡ length K → x + length ts ≤ length cs → Stands cs K → Stands (clear ts x cs) (laid is_data ts K)
unfolding clear
clear_stands [] x cs K e l h = h
clear_stands (t ∷ ts) x cs K e l h =
    let n = length_put cs x (Blank t) in
    clear_stands ts (x + 1) (put cs x (Blank t)) (is_data t ∷ K) (omega arith) (omega arith)
    (stands_push cs K x (Blank t) (is_data t) e (omega arith) refl h)

-- one cell below what is laid is replaced
pub stands_put : (cs : List Cell) (L K : List Sort) (x : ℕ) (c : Cell) (κ κ' : Sort) → x ≡ length K → x < length cs → sort c ≡ κ' → Stands cs (L ++ (κ ∷ K)) → Stands (put cs x c) (L ++ (κ' ∷ K))
stands_put cs [] K x c κ κ' e l k h = stands_push cs K x c κ' e l k h.1
stands_put cs (ι ∷ L) K x c κ κ' e l k h =
    let n = length-append L (κ ∷ K) in
    let n' = length-append L (κ' ∷ K) in
    let q : length (L ++ (κ' ∷ K)) ≡ length (L ++ (κ ∷ K)) = omega arith in (
      subst (λ (y : ℕ). sort (peek (put cs x c) y) ≡ ι) (sym q) (ap sort (peek_put_other cs x (length (L ++ (κ ∷ K))) c (λ z. omega arith)) ∙ h.0),
      stands_put cs L K x c κ κ' e l k h.1,
    )

pub laid_put : (f : Kind → Sort) (ts : List Kind) (cs : List Cell) (L K : List Sort) (x : ℕ) (c : Cell) (κ κ' : Sort) → x ≡ length K → x < length cs → sort c ≡ κ' →
    Stands cs (laid f ts (L ++ (κ ∷ K))) → Stands (put cs x c) (laid f ts (L ++ (κ' ∷ K)))
laid_put f ts cs L K x c κ κ' e l k h =
    let n = length-append L (κ ∷ K) in
    let n' = length-append L (κ' ∷ K) in
    let r = laid_out f cs ts (length (L ++ (κ ∷ K))) (L ++ (κ ∷ K)) refl h in
    laid_in f (put cs x c) ts (length (L ++ (κ ∷ K))) (L ++ (κ' ∷ K)) (omega arith) (stands_put cs L K x c κ κ' e l k r.0)
    (lies_below f cs ts (length (L ++ (κ ∷ K))) x c (omega arith) r.1)
