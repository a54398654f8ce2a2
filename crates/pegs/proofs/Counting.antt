-- A line counted through the whole input is no higher than the input has bytes.
use Rattle.std.proofs.Common.{◌≡◌, ℕ, suc, ◌+◌, ◌^◌, ◌<◌, ◌≤◌, Bool, true, false, cond, eqb, leb, List, [], ◌∷◌, length, Some, None, Ok, Err, Option, Result, refl, ap, subst, arith}
use Rattle.std.proofs.lemmas.Bool.{leb-true}
use Rattle.std.proofs.lemmas.List.{length-map, length-append}
use Rattle.numerals.specs.Lines.{onto, lines}
use Rattle.sheet.specs.declared.value.Value.{Value}
use Rattle.sheet.specs.Tables.{Contents}
use Rattle.columns.specs.declared.fault.TextFault.{TextFault}
use Rattle.columns.specs.declared.fault.TextFault.TheVariants.{Malformed, Misplaced}
use Rattle.columns.specs.Faults.{fault_line, refuse}
use Rattle.columns.specs.Scans.{first_failing}
use Rattle.columns.specs.ValueText.{Form, Range, values_of, one_more, value_passes, first_value_fault, values_by}
use Rattle.columns.specs.ValueLines.{read_value}
use Rattle.rules.specs.declared.fault.TableFault.{TableFault}
use Rattle.paths.specs.Rows.{Rows}
use Rattle.transfer.specs.Stacks.{Stack}
use Rattle.judge.specs.Judgement.{judged}
use Rattle.prepare.specs.Freely.{read_freely}
use Rattle.host.specs.Hosts.{Meaning}
use Rattle.host.specs.Texts.{checked_values}
use Rattle.pegs.specs.declared.fault.Refusal.{Refusal}
use Rattle.pegs.specs.declared.fault.Refusal.TheVariants as refusal
use Rattle.pegs.specs.Parts.{most_bytes, table_text, value_text, lines_before}
use Rattle.pegs.specs.Refusals.{Countable}
use Rattle.pegs.specs.SetOuts.{line_beyond, with_rows, waiting, with_table, attempted}
use Rattle.pegs.proofs.Parting.{parts_make_it_up}

onto_few : (c : ℕ) (ls : List (List ℕ)) → length (onto c ls) ≤ suc (length ls)
onto_few c [] = omega arith
onto_few c (l ∷ ls) = omega arith

lines_few : (t : List ℕ) → length (lines t) ≤ length t
lines_few [] = omega arith
lines_few (c ∷ cs) = by (eqb c 10) (lines_few cs)
  where
    by : (b : Bool) → length (lines cs) ≤ length cs → length (cond b ((c ∷ []) ∷ lines cs) (onto c (lines cs))) ≤ suc (length cs)
    by true h = omega arith
    by false h = let o = onto_few c (lines cs) in omega arith

failing_in : {C X : Type 0} (count : C → X → C) (test : C → X → Bool) (c : C) (k : ℕ) (xs : List X) (n : ℕ) → first_failing count test c k xs ≡ Some n → n < k + length xs
failing_in count test c k [] n e = let z : ◌≡◌ {A = ℕ} 0 1 = cc in absurd (omega arith)
failing_in count test c k (x ∷ xs) n e = by (test c x) (failing_in count test (count c x) (k + 1) xs n) e
  where
    by : (b : Bool) → (first_failing count test (count c x) (k + 1) xs ≡ Some n → n < k + 1 + length xs) → cond b (first_failing count test (count c x) (k + 1) xs) (Some k) ≡ Some n
        → n < k + suc (length xs)
    by true h e = let l = h e in omega arith
    by false h e = let q : k ≡ n = cc in omega arith

fault_in : (t : List ℕ) (f : TextFault) → checked_values t ≡ Err f → fault_line f ≤ length (lines t)
fault_in t f e =
    let l = length-map (lines t) read_value in
    by (first_value_fault Form t) (first_value_fault Range t)
    (λ n q. let h = failing_in one_more (value_passes Form) 0 1 (values_of t) n q in omega arith)
    (λ n q. let h = failing_in one_more (value_passes Range) 0 1 (values_of t) n q in omega arith) e
  where
    by : (a b : Option ℕ) → ((n : ℕ) → a ≡ Some n → n ≤ length (lines t)) → ((n : ℕ) → b ≡ Some n → n ≤ length (lines t))
        → values_by (refuse Malformed a (refuse Misplaced b (Ok tt))) t ≡ Err f → fault_line f ≤ length (lines t)
    by (Some n) b h k e = let q : Malformed n ≡ f = cc in subst (λ (x : TextFault). fault_line x ≤ length (lines t)) q (h n refl)
    by None (Some n) h k e = let q : Misplaced n ≡ f = cc in subst (λ (x : TextFault). fault_line x ≤ length (lines t)) q (k n refl)
    by None None h k e = let z : ◌≡◌ {A = ℕ} 0 1 = cc in absurd (omega arith)

of_rows : (T : Contents) (h : Meaning) (x : Result (Rows Stack) TableFault) (r : Refusal) → with_rows T h x ≡ Err r → Countable r
of_rows T h (Ok rows) r e = let z : ◌≡◌ {A = ℕ} 0 1 = cc in absurd (omega arith)
of_rows T h (Err f) r e = let q : refusal.Table f ≡ r = cc in subst Countable q tt

of_table : (R : Result Contents TextFault) (n : ℕ) (V : Result (List Value) TextFault) (r : Refusal) → ((f : TextFault) → V ≡ Err f → n + fault_line f < 2 ^ 64)
    → with_table R n V ≡ Err r → Countable r
of_table (Err f) n V r h e = let q : refusal.Text f ≡ r = cc in subst Countable q tt
of_table (Ok T) n (Err f) r h e = let q : refusal.Values n f ≡ r = cc in subst Countable q (h f refl)
of_table (Ok T) n (Ok vs) r h e = of_rows T (waiting vs) (judged T (length T.code) (length T.code)) r e

pub countable : (input : List ℕ) (r : Refusal) → attempted input ≡ Err r → Countable r
countable input r e = by (leb (length input) most_bytes) refl e
  where
    by : (b : Bool) → leb (length input) most_bytes ≡ b → cond b (with_table (read_freely (table_text input)) (lines_before input) (checked_values (value_text input))) (Err (refusal.TooLong (line_beyond input))) ≡ Err r → Countable r
    by true s e =
        of_table (read_freely (table_text input)) (lines_before input) (checked_values (value_text input)) r
        (λ f q.
        let l = fault_in (value_text input) f q in
        let a = lines_few (table_text input) in
        let b = lines_few (value_text input) in
        let m = length-append (table_text input) (value_text input) in
        let p = ap length (parts_make_it_up input) in
        let k = leb-true (length input) most_bytes s in
        omega arith)
        e
    by false s e = let q : refusal.TooLong (line_beyond input) ≡ r = cc in subst Countable q tt
