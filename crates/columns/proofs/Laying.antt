-- Laying a text's records into the lists: what is left to lay gives the whole.
use Rattle.std.proofs.Common.{◌≡◌, ℕ, suc, ◌+◌, ◌<◌, ◌≤◌, Bool, true, false, cond, List, [], ◌∷◌, map, length, take, set, None, Ok, Err, refl, ap, ◌∙◌, arith}
use Rattle.std.specs.List.{prefix_len}
use Rattle.std.proofs.lemmas.Bool.Decides.{nat_tests}
use Rattle.std.proofs.lemmas.List.Folds.{length-prefix_len}
use Rattle.numerals.specs.Lines.{lines}
use Rattle.sheet.specs.declared.kind.Kind.{Kind}
use Rattle.sheet.specs.declared.procedure.Procedure.{Procedure}
use Rattle.sheet.specs.declared.instruction.Instruction.{Instruction}
use Rattle.columns.specs.declared.line.Line.TheVariants as line
use Rattle.columns.specs.declared.table_text.Counts.{Counts}
use Rattle.columns.specs.Scans.{first_failing, laid}
use Rattle.columns.specs.TableLines.{read_line}
use Rattle.columns.proofs.Causes.{none_by}
use Rattle.columns.specs.TableText.{Order, Said, counted, in_order, passes, start, lines_of, own_cells, procedures_of, cells_of, code_of, first_fault}

-- ---- the cell lines that come first
abbrev is_cell : Said → Bool
is_cell (Ok (line.Procedure h)) = false
is_cell (Ok (line.Cell t)) = true
is_cell (Ok (line.Code n i)) = false
is_cell (Err e) = false

abbrev pub says_cell : List ℕ → Bool
says_cell l = is_cell (read_line l)

cells_first : (xs : List Said) → prefix_len is_cell xs ≡ own_cells xs
cells_first [] = refl
cells_first (Ok (line.Procedure h) ∷ xs) = refl
cells_first (Ok (line.Cell t) ∷ xs) = omega (arith, cells_first xs)
cells_first (Ok (line.Code n i) ∷ xs) = refl
cells_first (Err e ∷ xs) = refl

mapped : (ls : List (List ℕ)) → prefix_len says_cell ls ≡ prefix_len is_cell (map read_line ls)
mapped [] = refl
mapped (l ∷ ls) = ap (λ n. cond (says_cell l) (1 + n) 0) (mapped ls)

pub cells_before : (text : List ℕ) → length (take (prefix_len says_cell (lines text)) (lines text)) ≡ own_cells (lines_of text)
cells_before text = length-prefix_len says_cell (lines text) ∙ mapped (lines text) ∙ cells_first (lines_of text)

-- ---- a text whose lines are in order
abbrev pub Orderly : Counts → List Said → Type 0
Orderly c [] = Unit {0}
Orderly c (x ∷ xs) = (in_order c x ≡ true) × Orderly (counted c x) xs

pub orderly : (c : Counts) (n : ℕ) (xs : List Said) → first_failing counted (passes Order) c n xs ≡ None → Orderly c xs
orderly c n [] h = tt
orderly c n (x ∷ xs) h = let p = none_by counted (passes Order) c n x xs (in_order c x) refl h in (p.0, orderly (counted c x) (n + 1) xs p.1)

few_cells : (c : Counts) (xs : List Said) → Orderly c xs → c.own ≤ 250 → c.own + own_cells xs ≤ 250
few_cells c [] o h = omega arith
few_cells c (Ok (line.Procedure g) ∷ xs) o h = omega arith
few_cells c (Ok (line.Cell t) ∷ xs) o h =
    let below : c.own < 250 = let e = o.0 in grind (arith, nat_tests) in
    let r : (c.own + 1) + own_cells xs ≤ 250 = few_cells (counted c (Ok (line.Cell t))) xs o.1 (omega arith) in
    omega arith
few_cells c (Ok (line.Code m i) ∷ xs) o h = omega arith
few_cells c (Err e ∷ xs) o h = omega arith

counted_few : (c : Counts) (x : Said) → in_order c x ≡ true → c.own ≤ 250 → (counted c x).own ≤ 250
counted_few c (Ok (line.Procedure g)) e h = omega arith
counted_few c (Ok (line.Cell t)) e h = let below : c.own < 250 = grind (arith, nat_tests) in omega arith
counted_few c (Ok (line.Code m i)) e h = h
counted_few c (Err f) e h = h

-- ---- xs written over ys from place n on
abbrev pub over : {X : Type 0} → ℕ → List X → List X → List X
over n [] ys = ys
over n (x ∷ xs) ys = over (n + 1) xs (set ys n x)

over_cons : {X : Type 0} (n : ℕ) (xs : List X) (y : X) (ys : List X) → over (suc n) xs (y ∷ ys) ≡ y ∷ over n xs ys
over_cons n [] y ys = refl
over_cons n (x ∷ xs) y ys =
    let e : suc n + 1 ≡ suc (n + 1) = omega arith in
    ap (λ k. over k xs (y ∷ set ys n x)) e ∙ over_cons (n + 1) xs y (set ys n x)

over_none : {X : Type 0} (n : ℕ) (xs : List X) → over n xs [] ≡ []
over_none n [] = refl
over_none n (x ∷ xs) = over_none (n + 1) xs

pub over_laid : {X : Type 0} (xs ys : List X) → over 0 xs ys ≡ laid xs ys
over_laid [] ys = refl
over_laid (x ∷ xs) [] = over_none 1 xs
over_laid (x ∷ xs) (y ∷ ys) = over_cons 0 xs x ys ∙ ap (λ zs. x ∷ zs) (over_laid xs ys)

-- ---- what the lists come to, where c has been counted, the lists are laid so far, and the lines xs are left
pub record Laying (xs : List Said) (whole : List Said) (ps₀ : List Procedure) (ts₀ : List Kind) (is₀ : List Instruction) (c : Counts) (ps : List Procedure) (ts : List Kind) (is : List Instruction) : Type 0 where
  pub ordered : Orderly c xs
  pub few : c.own ≤ 250
  pub procedures : over c.total.procedures (procedures_of c.total.cells xs) ps ≡ laid (procedures_of 0 whole) ps₀
  pub cells : over c.total.cells (cells_of xs) ts ≡ laid (cells_of whole) ts₀
  pub code : over c.total.code (code_of xs) is ≡ laid (code_of whole) is₀
  pub how_many_procedures : c.total.procedures + length (procedures_of c.total.cells xs) ≡ length (procedures_of 0 whole)
  pub how_many_cells : c.total.cells + length (cells_of xs) ≡ length (cells_of whole)
  pub how_much_code : c.total.code + length (code_of xs) ≡ length (code_of whole)

-- the procedure at hand has few enough cells left
pub cells_fit : (c : Counts) (x : Said) (xs : List Said) → Orderly c (x ∷ xs) → c.own ≤ 250 → own_cells xs < 65536
cells_fit c x xs o h = omega (arith, few_cells (counted c x) xs o.1 (counted_few c x o.0 h))

pub laid_none : (text : List ℕ) (ps : List Procedure) (ts : List Kind) (is : List Instruction) → first_fault Order text ≡ None
    → Laying (lines_of text) (lines_of text) ps ts is start ps ts is
laid_none text ps ts is h = record {
  ordered = orderly start 1 (lines_of text) h;
  few = omega arith;
  procedures = over_laid (procedures_of 0 (lines_of text)) ps;
  cells = over_laid (cells_of (lines_of text)) ts;
  code = over_laid (code_of (lines_of text)) is;
  how_many_procedures = omega arith;
  how_many_cells = omega arith;
  how_much_code = omega arith;
}

-- every record counted took a line of `all` at least, and `left` are left
abbrev pub Short : Counts → (left all : ℕ) → Type 0
Short c left all = (c.total.procedures + left ≤ all) × (c.total.cells + left ≤ all) × (c.total.code + left ≤ all)
