-- The table that was read is the one that the front of each list holds.
use Rattle.std.proofs.Common.{◌≡◌, ℕ, ◌≤◌, List, [], ◌∷◌, length, take, Ok, Err, Result, sym, refl, ap, ◌∙◌, subst, arith}
use Rattle.sheet.specs.declared.instruction.Instruction.{Instruction}
use Rattle.sheet.specs.declared.kind.Kind.{Kind}
use Rattle.sheet.specs.declared.procedure.Procedure.{Procedure}
use Rattle.sheet.specs.Tables.{Contents}
use Rattle.columns.specs.declared.fault.TextFault.{TextFault}
use Rattle.columns.specs.declared.table_text.Extent.{Extent}
use Rattle.columns.specs.Scans.{laid}
use Rattle.columns.specs.TableText.{contents, lines_of, room_of, verdict, read_by, read_table, extent_of, answered, procedures_left, cells_left, code_left}
use Rattle.paths.specs.Judging.{judge}
use Rattle.paths.specs.Rows.{Rows}
use Rattle.rows.specs.declared.row.Row.{Row}
use Rattle.transfer.specs.Stacks.{Stack}
use Rattle.judge.specs.Flow.{stacks}
use Rattle.judge.specs.Judgement as judged
use Rattle.prepare.specs.declared.fault.PrepareFault.{PrepareFault}
use Rattle.prepare.specs.declared.prepare.Prepared.{Prepared}
use Rattle.prepare.specs.Preparing.{contents_in, ready, prepared, rows_left, places_left, RecordsKept}
use Rattle.prepare.proofs.Fitting.{read_fits}

front_is : {X : Type 0} (xs ys : List X) → length xs ≤ length ys → take (length xs) (laid xs ys) ≡ xs
front_is [] ys h = refl
front_is (x ∷ xs) [] h = absurd (omega arith)
front_is (x ∷ xs) (y ∷ ys) h = ap (λ zs. x ∷ zs) (front_is xs ys (omega arith))

front_of : {X : Type 0} (xs ys zs : List X) (n : ℕ) → length xs ≤ length ys → n ≡ length xs → zs ≡ laid xs ys → take n zs ≡ xs
front_of xs ys zs n h e l = ap (take n) l ∙ ap (λ k. take k (laid xs ys)) e ∙ front_is xs ys h

-- a table whose lists are the fronts
pub fronts_are : (U : Contents) (e : Extent) (ps : List Procedure) (ts : List Kind) (is : List Instruction) → U.procedures ≡ take e.procedures ps → U.cells ≡ take e.cells ts
    → U.code ≡ take e.code is → U ≡ contents_in e ps ts is
fronts_are U e ps ts is p t i =
    ap (λ (y : List Procedure). record { procedures = y; cells = U.cells; code = U.code }) p
    ∙ ap (λ (y : List Kind). record { procedures = take e.procedures ps; cells = y; code = U.code }) t
    ∙ ap (λ (y : List Instruction). record { procedures = take e.procedures ps; cells = take e.cells ts; code = y }) i

pub record Read (R : Result Contents TextFault) (e : Extent) (ps : List Procedure) (ts : List Kind) (is : List Instruction) : Type 0 where
  pub table : Contents
  pub answer : R ≡ Ok table
  pub extent : e ≡ extent_of table
  pub holds : contents_in e ps ts is ≡ table

module _ (text : List ℕ) (ps ps' : List Procedure) (ts ts' : List Kind) (is is' : List Instruction) (e : Extent) where
  by_verdict : (v : Result (Unit {0}) TextFault) → verdict (room_of ps ts is) text ≡ v → Ok e ≡ answered (read_by v text)
      → ps' ≡ procedures_left (read_by v text) ps → ts' ≡ cells_left (read_by v text) ts → is' ≡ code_left (read_by v text) is → Read (read_by v text) e ps' ts' is'
  by_verdict (Err f) q a p t i = let z : ◌≡◌ {A = ℕ} 0 1 = cc in absurd (omega arith)
  by_verdict (Ok u) q a p t i =
      let T = contents (lines_of text) in
      let f = read_fits (room_of ps ts is) text u q in
      let x : e ≡ extent_of T = cc in
      let j = front_of T.procedures ps ps' e.procedures (omega (arith, f.0)) (ap (λ (y : Extent). y.procedures) x) p in
      let k = front_of T.cells ts ts' e.cells (omega (arith, f.1)) (ap (λ (y : Extent). y.cells) x) t in
      let l = front_of T.code is is' e.code (omega (arith, f.2)) (ap (λ (y : Extent). y.code) x) i in
      record {
        table = T;
        answer = refl;
        extent = x;
        holds = ap (λ (y : List Procedure). record { procedures = y; cells = take e.cells ts'; code = take e.code is' }) j
            ∙ ap (λ (y : List Kind). record { procedures = T.procedures; cells = y; code = take e.code is' }) k
            ∙ ap (λ (y : List Instruction). record { procedures = T.procedures; cells = T.cells; code = y }) l;
      }

  abbrev answer : Result Contents TextFault
  answer = read_table (room_of ps ts is) text

  pub reads : Ok e ≡ answered answer → ps' ≡ procedures_left answer ps → ts' ≡ cells_left answer ts → is' ≡ code_left answer is → Read answer e ps' ts' is'
  reads a p t i = by_verdict (verdict (room_of ps ts is) text) refl a p t i

-- ---- what judging the table that was read comes to, where another name of it was judged
module _ (R : Result Contents TextFault) (T U : Contents) (e : Extent) (answer : R ≡ Ok T) (extent : e ≡ extent_of T) (same : U ≡ T) where
  pub ready_is : (r w : ℕ) (m : Result Prepared PrepareFault) → m ≡ ready e (judged.answered (judged.judged U r w)) → m ≡ prepared R r w
  ready_is r w m q = q ∙ ap (λ (x : Extent). ready x (judged.answered (judged.judged U r w))) extent ∙ ap (λ (V : Contents). ready (extent_of T) (judged.answered (judged.judged V r w))) same ∙ ap (λ (s : Result Contents TextFault). prepared s r w) (sym answer)

  pub rows_are : (w : ℕ) (rows rows' : Rows Stack) → rows' ≡ judged.left_in_rows U w rows → rows' ≡ rows_left R w rows
  rows_are w rows rows' q = q ∙ ap (λ (V : Contents). judged.left_in_rows V w rows) same ∙ ap (λ (s : Result Contents TextFault). rows_left s w rows) (sym answer)

  pub places_are : (r : ℕ) (ps ps' : List ℕ) → ps' ≡ judged.left_in_places U r ps → ps' ≡ places_left R r ps
  places_are r ps ps' q = q ∙ ap (λ (V : Contents). judged.left_in_places V r ps) same ∙ ap (λ (s : Result Contents TextFault). places_left s r ps) (sym answer)

  pub records_are : (w : ℕ) (before after : List Row) → judged.RecordsLeft (judged.checked U (length before) w) (judged.followed (judge (stacks U))) (length U.code) before after → RecordsKept R w before after
  records_are w before after q =
      subst (λ (s : Result Contents TextFault). RecordsKept s w before after) (sym answer)
      (subst (λ (V : Contents). judged.RecordsLeft (judged.checked V (length before) w) (judged.followed (judge (stacks V))) (length V.code) before after) same q)
