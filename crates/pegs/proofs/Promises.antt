-- The promises on setting out.
use Rattle.std.proofs.Common.{◌≡◌, ℕ, ◌<◌, ◌≤◌, Bool, true, false, cond, leb, List, [], ◌∷◌, length, Ok, Err, Result, sym, refl, ap, ◌∙◌, arith}
use Rattle.std.proofs.lemmas.Bool.{le-leb, leb-true}
use Rattle.sheet.specs.declared.value.Value.{Value}
use Rattle.sheet.specs.Tables.{Contents}
use Rattle.columns.specs.declared.fault.TextFault.{TextFault}
use Rattle.columns.specs.declared.fault.TextFault.TheVariants.{Malformed, Misplaced, TooLong}
use Rattle.columns.specs.Faults.{fault_number}
use Rattle.rules.specs.declared.fault.TableFault.{TableFault}
use Rattle.rules.specs.declared.fault.TableFault.TheVariants.{IllFormed, NotAllowed, WrongStack, StackTooHigh, StacksDiffer, PastTheEnd, TooFewPlaces, RowTooHigh}
use Rattle.rules.specs.Faults as table
use Rattle.paths.specs.Rows.{Rows}
use Rattle.transfer.specs.Stacks.{Stack}
use Rattle.judge.specs.Judgement.{judged}
use Rattle.judge.proofs.Admission.{judge_leaves_rows_that_admit_accepts}
use Rattle.judge.proofs.Laws.{accepted, judge_accepts_exactly_clean_tables}
use Rattle.prepare.specs.Freely.{read_freely}
use Rattle.host.specs.Hosts.{Meaning}
use Rattle.host.specs.Texts.{checked_values}
use Rattle.machine.specs.Endings.{ending_of}
use Rattle.soundness.specs.Runs.{goes}
use Rattle.soundness.proofs.Admits.{admitted_runs_stay_typed}
use Rattle.pegs.specs.declared.fault.Refusal.{Refusal}
use Rattle.pegs.specs.declared.fault.Refusal.TheVariants as refusal
use Rattle.pegs.specs.Laws.{Told, EveryInputIsTold, Runnable, OnlyRunnableInputsAreRun}
use Rattle.pegs.specs.Parts.{most_bytes, table_text, value_text, lines_before}
use Rattle.pegs.specs.Refusals.{refusal_number, refusal_place}
use Rattle.pegs.specs.SetOuts.{store_cells, most_steps, line_beyond, ran, told, Attempt, with_rows, waiting, with_table, attempted, answered}
use Rattle.pegs.proofs.Written.{written_well}

-- ---- no number is 60 or above
text_low : (f : TextFault) → fault_number f < 60
text_low (Malformed n) = omega arith
text_low (Misplaced n) = omega arith
text_low (TooLong n) = omega arith

table_low : (f : TableFault) → table.fault_number f < 60
table_low (IllFormed n) = omega arith
table_low (NotAllowed n) = omega arith
table_low (WrongStack n) = omega arith
table_low (StackTooHigh n) = omega arith
table_low (StacksDiffer n) = omega arith
table_low (PastTheEnd n) = omega arith
table_low TooFewPlaces = omega arith
table_low (RowTooHigh n) = omega arith

refusal_low : (r : Refusal) → refusal_number r < 60
refusal_low (refusal.TooLong line) = omega arith
refusal_low (refusal.Text f) = text_low f
refusal_low (refusal.Values before f) = text_low f
refusal_low (refusal.Table f) = table_low f
refusal_low refusal.StoreLength = omega arith

abbrev Judged : Contents → Type 0
Judged T = (rows : Rows Stack) × (judged T (length T.code) (length T.code) ≡ Ok rows)

run_low : (T : Contents) (h : Meaning) → Judged T → ending_of (ran T h).ending < 60
run_low T h right =
    let n = length T.code in
    let rows = right.0 in
    let a = accepted T n n rows right.1 in
    let wide = (a.1.exact.holds rows a.2.0 a.2.1).wide in
    (admitted_runs_stay_typed T n rows wide (judge_leaves_rows_that_admit_accepts T n n rows right.1) store_cells h (goes most_steps ∷ []) (omega arith)).1

-- ---- what an attempt that gives a text has done
record Done (R : Result Contents TextFault) (V : Result (List Value) TextFault) (text : List ℕ) : Type 0 where
  table : Contents
  read : R ≡ Ok table
  values : List Value
  typed : V ≡ Ok values
  right : Judged table
  is : text ≡ told (ran table (waiting values))

done_rows : (T : Contents) (vs : List Value) (x : Result (Rows Stack) TableFault) (text : List ℕ) → with_rows T (waiting vs) x ≡ Ok text
    → ((rows : Rows Stack) × (x ≡ Ok rows)) × (text ≡ told (ran T (waiting vs)))
done_rows T vs (Ok rows) text e = ((rows, refl), own (sym e))
  where
    own : ◌≡◌ {A = Attempt} (Ok text) (Ok (told (ran T (waiting vs)))) → text ≡ told (ran T (waiting vs))
    own q = cc
done_rows T vs (Err f) text e = let z : ◌≡◌ {A = ℕ} 0 1 = cc in absurd (omega arith)

done_by : (R : Result Contents TextFault) (n : ℕ) (V : Result (List Value) TextFault) (text : List ℕ) → with_table R n V ≡ Ok text → Done R V text
done_by (Err f) n V text e = let z : ◌≡◌ {A = ℕ} 0 1 = cc in absurd (omega arith)
done_by (Ok T) n (Err f) text e = let z : ◌≡◌ {A = ℕ} 0 1 = cc in absurd (omega arith)
done_by (Ok T) n (Ok vs) text e =
    let d = done_rows T vs (judged T (length T.code) (length T.code)) text e in
    record { table = T; read = refl; values = vs; typed = refl; right = d.0; is = d.1 }

module _ (input : List ℕ) where
  abbrev R : Result Contents TextFault
  R = read_freely (table_text input)

  abbrev V : Result (List Value) TextFault
  V = checked_values (value_text input)

  done : (text : List ℕ) → attempted input ≡ Ok text → (length input ≤ most_bytes) × Done R V text
  done text e = by (leb (length input) most_bytes) refl e
    where
      by : (b : Bool) → leb (length input) most_bytes ≡ b → cond b (with_table R (lines_before input) V) (Err (refusal.TooLong (line_beyond input))) ≡ Ok text → (length input ≤ most_bytes) × Done R V text
      by true s e = (leb-true (length input) most_bytes s, done_by R (lines_before input) V text e)
      by false s e = let z : ◌≡◌ {A = ℕ} 0 1 = cc in absurd (omega arith)

  told_text : (text : List ℕ) → attempted input ≡ Ok text → Told text
  told_text text e =
      let d = (done text e).1 in
      let w = ran d.table (waiting d.values) in
      let k = written_well d.table most_steps store_cells (waiting d.values) refl in
      let room = k.room in
      record {
        values = w.state.host.written;
        number = ending_of w.ending;
        place = w.count;
        is = d.is;
        good = k.values;
        few = omega arith;
        low = run_low d.table (waiting d.values) d.right;
      }

  told_so : (a : Attempt) → attempted input ≡ a → Told (answered a)
  told_so (Ok text) e = told_text text e
  told_so (Err r) e = record { values = []; number = refusal_number r; place = refusal_place r; is = refl; good = tt; few = omega arith; low = refusal_low r }

  runnable : (text : List ℕ) → attempted input ≡ Ok text → Runnable input
  runnable text e =
      let x = done text e in
      let d = x.1 in
      let n = length d.table.code in
      record {
        short = x.0;
        table = d.table;
        read = d.read;
        values = d.values;
        typed = d.typed;
        keeps = (judge_accepts_exactly_clean_tables d.table n n (omega arith, omega arith)).0 d.right;
      }

  run_then : (r : Runnable input) → attempted input ≡ Ok (told (ran r.table (waiting r.values)))
  run_then r =
      let n = length r.table.code in
      let right = (judge_accepts_exactly_clean_tables r.table n n (omega arith, omega arith)).1 r.keeps in
      ap (λ b. cond b (with_table R (lines_before input) V) (Err (refusal.TooLong (line_beyond input)))) (le-leb (length input) most_bytes r.short)
      ∙ ap (λ (x : Result Contents TextFault). with_table x (lines_before input) V) r.read
      ∙ ap (λ (x : Result (List Value) TextFault). with_table (Ok r.table) (lines_before input) x) r.typed
      ∙ ap (with_rows r.table (waiting r.values)) right.1

pub every_input_is_told : EveryInputIsTold
every_input_is_told input = told_so input (attempted input) refl

pub only_runnable_inputs_are_run : OnlyRunnableInputsAreRun
only_runnable_inputs_are_run input = (λ x. runnable input x.0 x.1, λ r. (told (ran r.table (waiting r.values)), run_then input r))
