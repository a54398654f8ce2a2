-- What an attempt comes to, by what its parts answer.
use Rattle.std.proofs.Common.{◌≡◌, ℕ, ◌/◌, ◌≤◌, cond, List, [], ◌++◌, length, take, drop, Some, None, Ok, Err, Option, Result, MatchResult, sym, refl, ap, ◌∙◌, subst, arith}
use Rattle.std.proofs.lemmas.Bool.{le-leb}
use Rattle.std.proofs.lemmas.List.{length-map, append-nil, drop_all}
use Rattle.std.proofs.Math.Seq.{take-length, take-append_seam}
use Rattle.std.specs.Borrow.{Bor}
use Rattle.numerals.specs.Lines.{lines}
use Rattle.sheet.specs.declared.instruction.Instruction.{Instruction}
use Rattle.sheet.specs.declared.kind.Kind.{Kind}
use Rattle.sheet.specs.declared.procedure.Procedure.{Procedure}
use Rattle.sheet.specs.declared.table.Table.{Table}
use Rattle.sheet.specs.declared.value.Value.{Value}
use Rattle.sheet.specs.Tables.{Contents}
use Rattle.columns.specs.declared.fault.TextFault.{TextFault}
use Rattle.columns.specs.declared.table_text.Extent.{Extent}
use Rattle.columns.specs.TableText.{read_table, room_of}
use Rattle.columns.specs.TableText as tables
use Rattle.rules.specs.declared.fault.TableFault.{TableFault}
use Rattle.rules.specs.Faults.{passed}
use Rattle.rules.specs.Lookups.{contents_of}
use Rattle.paths.specs.Rows.{Rows}
use Rattle.rows.specs.declared.row.Row.{Row}
use Rattle.rows.specs.Rows.{meaning}
use Rattle.transfer.specs.Stacks.{Stack}
use Rattle.judge.specs.AdmissionLaws.{JudgeLeavesRowsThatAdmitAccepts}
use Rattle.judge.specs.Admission.{admitted}
use Rattle.judge.specs.Handing.{meanings}
use Rattle.judge.specs.Judgement.{checked, judged_after, judged, answered, followed_rows, rows_after, left_in_rows}
use Rattle.prepare.specs.Freely.{read_freely}
use Rattle.prepare.proofs.Rooms.{read_by_lines}
use Rattle.admit.specs.declared.Passed.{Passed}
use Rattle.admit.specs.Admissions.{passing, admission}
use Rattle.host.specs.Hosts.{Meaning}
use Rattle.host.specs.Meanings.{begun}
use Rattle.host.specs.Texts.{checked_values}
use Rattle.pegs.specs.declared.fault.Failure.{Failure}
use Rattle.pegs.specs.declared.fault.Refusal.{Refusal}
use Rattle.pegs.specs.declared.fault.Refusal.TheVariants as refusal
use Rattle.pegs.specs.Parts.{most_bytes, table_text, value_text, lines_before}
use Rattle.pegs.specs.SetOuts.{line_beyond, Attempt, with_rows, run_if_right, waiting, with_values, with_table, made_behind, attempted, Why}

-- what a list lent holds when it comes back
pub written : {A : Type 0} (xs ys zs : List A) (n : ℕ) → n ≡ length ys → xs ≡ take n (ys ++ drop (length ys) zs) → xs ≡ ys
written xs ys zs n e q = q ∙ ap (λ k. take k (ys ++ drop (length ys) zs)) e ∙ take-append_seam ys (drop (length ys) zs)

-- an attempt that comes to a text comes to what tells that text
pub comes : {V : Type 0} (items : V → List ℕ) (a : Attempt) (text : List ℕ) (r : Result V Failure) → a ≡ Ok text
    → MatchResult r (λ v. items v ≡ text) (Why (Ok text)) → MatchResult r (λ v. a ≡ Ok (items v)) (Why a)
comes items a text (Ok v) e h = e ∙ ap (λ t. Ok t) (sym h)
comes items a text (Err f) e h = subst (λ (b : Attempt). Why b f) (sym e) h

-- an attempt that comes to another
pub comes_to : {V : Type 0} (items : V → List ℕ) (a b : Attempt) (r : Result V Failure) → a ≡ b
    → MatchResult r (λ v. b ≡ Ok (items v)) (Why b) → MatchResult r (λ v. a ≡ Ok (items v)) (Why a)
comes_to items a b (Ok v) e h = e ∙ h
comes_to items a b (Err f) e h = subst (λ (x : Attempt). Why x f) (sym e) h

-- an attempt that comes to a refusal
pub refuses : {V : Type 0} (items : V → List ℕ) (a : Attempt) (f : Failure) (r : Result V Failure) → r ≡ Err f → Why a f → MatchResult r (λ v. a ≡ Ok (items v)) (Why a)
refuses items a f r e h = rw e h

module _ (input text typing : List ℕ) (short : length input ≤ most_bytes) (text-is : text ≡ table_text input) (typing-is : typing ≡ value_text input) where
  in_bounds : attempted input ≡ with_table (read_freely text) (lines_before input) (checked_values typing)
  in_bounds =
      ap (λ b. cond b (with_table (read_freely (table_text input)) (lines_before input) (checked_values (value_text input))) (Err (refusal.TooLong (line_beyond input))))
      (le-leb (length input) most_bytes short)
      ∙ ap (λ x. with_table (read_freely x) (lines_before input) (checked_values (value_text input))) (sym text-is)
      ∙ ap (λ x. with_table (read_freely text) (lines_before input) (checked_values x)) (sym typing-is)

  module _ (n : ℕ) (ps : List Procedure) (ts : List Kind) (is : List Instruction)
      (lines-are : n ≡ lines_before input) (p : length ps ≡ n) (t : length ts ≡ n) (i : length is ≡ n) where
    abbrev reading : Result Contents TextFault
    reading = read_table (room_of ps ts is) text

    abbrev typed : Result (List Value) TextFault
    typed = checked_values typing

    by_reading : attempted input ≡ with_table reading n typed
    by_reading =
        in_bounds
        ∙ ap (λ (r : Result Contents TextFault). with_table r (lines_before input) typed) (sym (read_by_lines text n ps ts is (lines-are ∙ ap (λ x. length (lines x)) (sym text-is)) p t i))
        ∙ ap (λ (k : ℕ). with_table reading k typed) (sym lines-are)

    pub by_text : (f : TextFault) → Err f ≡ tables.answered reading → attempted input ≡ Err (refusal.Text f)
    by_text f e = by_reading ∙ told_of reading e
      where
        told_of : (r : Result Contents TextFault) → Err f ≡ tables.answered r → with_table r n typed ≡ Err (refusal.Text f)
        told_of (Ok T) e = let z : ◌≡◌ {A = ℕ} 0 1 = cc in absurd (omega arith)
        told_of (Err g) e = ap (λ (x : TextFault). Err (refusal.Text x)) (own (sym e))
          where
            own : ◌≡◌ {A = Result Extent TextFault} (Err g) (Err f) → g ≡ f
            own q = cc

    module _ (T : Contents) (read : reading ≡ Ok T) where
      by_table : attempted input ≡ with_values T n typed
      by_table = by_reading ∙ ap (λ (r : Result Contents TextFault). with_table r n typed) read

      pub by_values : (f : TextFault) → typed ≡ Err f → attempted input ≡ Err (refusal.Values n f)
      by_values f e = by_table ∙ ap (λ (r : Result (List Value) TextFault). with_values T n r) e

      pub by_run : (vs : List Value) → typed ≡ Ok vs → attempted input ≡ run_if_right T (waiting vs)
      by_run vs e = by_table ∙ ap (λ (r : Result (List Value) TextFault). with_values T n r) e

-- ---- the values typed, by the host made over them
pub record Typed (typed : Result (List Value) TextFault) (h : Meaning) : Type 0 where
  pub values : List Value
  pub good : typed ≡ Ok values
  pub means : h ≡ waiting values

pub values_typed : (typed : Result (List Value) TextFault) (n before : ℕ) (h : Meaning) → n ≡ most_bytes → Ok h ≡ made_behind before (begun typed n) → Typed typed h
values_typed (Err f) n before h e q = let z : ◌≡◌ {A = ℕ} 0 1 = cc in absurd (omega arith)
values_typed (Ok vs) n before h e q = record {
  values = vs;
  good = refl;
  means = own q ∙ ap (λ (k : ℕ). record { waiting = vs; written = []; room = k / 22 }) e;
}
  where
    own : ◌≡◌ {A = Result Meaning Refusal} (Ok h) (Ok (record { waiting = vs; written = []; room = n / 22 })) → h ≡ record { waiting = vs; written = []; room = n / 22 }
    own p = cc

pub values_refused : (typed : Result (List Value) TextFault) (n before : ℕ) (r : Refusal) → Err r ≡ made_behind before (begun typed n)
    → (f : TextFault) × (typed ≡ Err f) × (r ≡ refusal.Values before f)
values_refused (Err g) n before r q = (g, refl, own q)
  where
    own : ◌≡◌ {A = Result Meaning Refusal} (Err r) (Err (refusal.Values before g)) → r ≡ refusal.Values before g
    own p = cc
values_refused (Ok vs) n before r q = let z : ◌≡◌ {A = ℕ} 0 1 = cc in absurd (omega arith)

-- ---- what judging answers
pub refused_judge : (x : Result (Rows Stack) TableFault) (f : TableFault) → Err f ≡ answered x → x ≡ Err f
refused_judge (Ok rows) f e = let z : ◌≡◌ {A = ℕ} 0 1 = cc in absurd (omega arith)
refused_judge (Err g) f e = ap (λ (x : TableFault). Err x) (own e)
  where
    own : ◌≡◌ {A = Result ℕ TableFault} (Err f) (Err g) → g ≡ f
    own q = cc

pub accepted_judge : (x : Result (Rows Stack) TableFault) (k : ℕ) → Ok k ≡ answered x → (rows : Rows Stack) × (x ≡ Ok rows)
accepted_judge (Ok rows) k e = (rows, refl)
accepted_judge (Err g) k e = let z : ◌≡◌ {A = ℕ} 0 1 = cc in absurd (omega arith)

-- lists of n places are long enough
pub by_judging : (U : Contents) (h : Meaning) (n r w : ℕ) → n ≡ length U.code → r ≡ n → w ≡ n → run_if_right U h ≡ with_rows U h (judged U r w)
by_judging U h n r w n-is r-is w-is =
    ap (λ k. with_rows U h (judged U k (length U.code))) (sym (r-is ∙ n-is)) ∙ ap (λ k. with_rows U h (judged U r k)) (sym (w-is ∙ n-is))

-- ---- what judging leaves, admit accepts
module _ (U : Contents) (w : ℕ) (old new : List Row) (n-is : length old ≡ length U.code) (same-length : length new ≡ length old)
    (left : meanings new ≡ left_in_rows U w (meanings old)) where
  after_checks : (o : Option TableFault) (rows : Rows Stack) → judged_after o U ≡ Ok rows → rows_after o U (meanings old) ≡ rows
  after_checks (Some f) rows e = let z : ◌≡◌ {A = ℕ} 0 1 = cc in absurd (omega arith)
  after_checks None rows e =
      ap (λ (r : Result (Rows Stack) TableFault). followed_rows (length U.code) r ++ drop (length U.code) (meanings old)) e
      ∙ ap (λ k. rows ++ drop k (meanings old)) (sym (length-map old meaning ∙ n-is))
      ∙ ap (λ (x : Rows Stack). rows ++ x) (drop_all (length (meanings old)) (meanings old) (omega arith))
      ∙ append-nil rows

  rows_left : (rows : Rows Stack) → judged U (length old) w ≡ Ok rows → meanings (take (length U.code) new) ≡ rows
  rows_left rows e =
      ap (λ k. meanings (take k new)) (sym (same-length ∙ n-is))
      ∙ ap meanings (take-length new)
      ∙ left
      ∙ ap (λ k. rows_after (checked U k w) U (meanings old)) (length-map old meaning)
      ∙ after_checks (checked U (length old) w) rows e

  pub admitted_then : (t : Table) (rs : Bor (List Row)) (rows : Rows Stack) → JudgeLeavesRowsThatAdmitAccepts → contents_of t ≡ U → rs.now ≡ new → judged U (length old) w ≡ Ok rows
      → admission t rs ≡ Ok (record { table = t; rows = rs })
  admitted_then t rs rows law same these e =
      ap (λ (o : Option TableFault). passing (passed o) (record { table = t; rows = rs }))
      (ap (λ (T : Contents). admitted T (length rs.now) (meanings (take (length T.code) rs.now))) same
      ∙ ap (λ (x : List Row). admitted U (length x) (meanings (take (length U.code) x))) these
      ∙ ap (λ k. admitted U k (meanings (take (length U.code) new))) same-length
      ∙ ap (λ (x : Rows Stack). admitted U (length old) x) (rows_left rows e)
      ∙ law U (length old) w rows e)

-- so admit refuses nothing there
pub refused_never : (x : Result Passed TableFault) (f : TableFault) (p : Passed) → x ≡ Ok p → Err f ≡ x → ⊥
refused_never x f p e q = let z : ◌≡◌ {A = ℕ} 0 1 = by (q ∙ e) in omega arith
  where
    by : ◌≡◌ {A = Result Passed TableFault} (Err f) (Ok p) → ◌≡◌ {A = ℕ} 0 1
    by r = cc
