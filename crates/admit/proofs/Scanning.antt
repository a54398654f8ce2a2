-- The local rule is the path engine's, and so is the scan of all rows by it.
use Rattle.std.proofs.Common.{◌≡◌, ℕ, ◌+◌, ◌-◌, ◌<◌, ◌≤◌, Bool, true, false, cond, eqb, leb, List, [], ◌∷◌, length, get_or, Some, None, Ok, Err, Option, Result, sym, refl, ap, ◌∙◌, arith}
use Rattle.sheet.specs.Tables.{Contents}
use Rattle.rules.specs.declared.fault.TableFault.{TableFault}
use Rattle.rules.specs.Lookups.{room_at}
use Rattle.paths.specs.Admitted.{ScanLoop}
use Rattle.paths.specs.Admitting.{Fault, or_else, entry_at, fault_of, hold_met, hold_at, hold_all, transfer_fault, row_fault, fit_fault, head_fault, fault_at, scan, admit}
use Rattle.paths.specs.Exact.{agree}
use Rattle.paths.specs.Flows.{Hand}
use Rattle.paths.specs.Rows.{Rows, row_at}
use Rattle.paths.proofs.Admitting.{scan_loop}
use Rattle.rows.specs.declared.row.Row.{Row}
use Rattle.rows.specs.Rows.{meaning}
use Rattle.transfer.specs.declared.breach.Breach.{Breach}
use Rattle.transfer.specs.Stacks.{Stack, cells_on}
use Rattle.transfer.specs.Transfer.{transfer, Checked}
use Rattle.judge.specs.declared.flaw.Flaw.{Flaw}
use Rattle.judge.specs.declared.flaw.Flaw.TheVariants.{Differs, TooHigh}
use Rattle.judge.specs.Flaws.{flaw_at}
use Rattle.judge.specs.Flow.{same_stack, entry_of, as_step, stacks, fit}
use Rattle.judge.specs.Handing.{meanings, must_be}
use Rattle.judge.proofs.Handing.{row_of}
use Rattle.admit.specs.Admissions.{answer}
use Rattle.admit.specs.Local.{Check, and_then, all_there, on_from, step_right, low_enough, owning, head_right, right_at}
use Rattle.admit.proofs.Heads.{begins_here, none_begins_here}

or_is : (x y : Fault Flaw) → answer (or_else x y) ≡ and_then (answer x) (answer y)
unfolding or_else
or_is None y = refl
or_is (Some x) y = refl

module _ (T : Contents) where
  met_is : (b : Bool) (j : ℕ) → answer (hold_met (stacks T) (agree b) j) ≡ cond b (Ok tt) (Err (flaw_at Differs j))
  unfolding hold_met agree
  met_is true j = refl
  met_is false j = refl

  hold_is : (o : Option Stack) (j : ℕ) (s : Stack) → answer (hold_at (stacks T) o j s) ≡ must_be o j s
  unfolding hold_at
  hold_is None j s = refl
  hold_is (Some q) j s = met_is (same_stack q s) j

  all_is : (rows : Rows Stack) (hs : List (Hand Stack)) → answer (hold_all (stacks T) rows hs) ≡ all_there rows hs
  unfolding hold_all
  all_is rows [] = refl
  all_is rows (h ∷ hs) =
      or_is (hold_at (stacks T) (row_at rows h.0) h.0 h.1) (hold_all (stacks T) rows hs)
      ∙ ap (λ c. and_then c (answer (hold_all (stacks T) rows hs))) (hold_is (row_at rows h.0) h.0 h.1)
      ∙ ap (and_then (must_be (row_at rows h.0) h.0 h.1)) (all_is rows hs)

  on_is : (rows : Rows Stack) (i : ℕ) (r : Result (List (Hand Stack)) Breach) → answer (transfer_fault (stacks T) rows i (as_step r)) ≡ on_from rows i r
  unfolding transfer_fault
  on_is rows i (Ok hs) = all_is rows hs
  on_is rows i (Err b) = refl

  step_is : (rows : Rows Stack) (i : ℕ) (o : Option Stack) → answer (row_fault (stacks T) rows i o) ≡ step_right T rows i o
  unfolding row_fault
  step_is rows i None = refl
  step_is rows i (Some s) = on_is rows i (transfer T i s)

  low_by : (i : ℕ) (b : Bool) → answer (fault_of i (cond b None (Some TooHigh))) ≡ cond b (Ok tt) (Err (flaw_at TooHigh i))
  unfolding fault_of
  low_by i true = refl
  low_by i false = refl

  low_is : (i : ℕ) (o : Option Stack) → answer (fit_fault (stacks T) (fit T) i o) ≡ low_enough T i o
  unfolding fit_fault
  low_is i None = refl
  low_is i (Some s) = low_by i (leb (cells_on s) (room_at T i))

-- what is left from instruction i on
abbrev pub left : Contents → Rows Stack → ℕ → Check
left T rows i = answer (scan (stacks T) (fit T) rows i (length T.code - i))

abbrev pub whole : Contents → Rows Stack → Check
whole T rows = answer (admit (stacks T) (fit T) rows)

module _ (T : Contents) (checked : Checked T) where
  abbrev head : ℕ → Option Stack → Fault Flaw
  head i o = head_fault (stacks T) (fit T) (entry_at (stacks T).entries i) i o

  head_is : (i : ℕ) (o : Option Stack) → answer (head i o) ≡ head_right T i o
  unfolding head_fault
  head_is i o = by (eqb (owning T i).first i) refl
    where
      by : (b : Bool) → eqb (owning T i).first i ≡ b → answer (head i o) ≡ head_right T i o
      by true e =
          ap (λ p. answer (head_fault (stacks T) (fit T) p i o)) (begins_here T checked i e)
          ∙ hold_is T o i (entry_of T (owning T i)).1
          ∙ sym (ap (λ b. cond b (must_be o i (entry_of T (owning T i)).1) (low_enough T i o)) e)
      by false e =
          ap (λ p. answer (head_fault (stacks T) (fit T) p i o)) (none_begins_here T checked i e)
          ∙ low_is T i o
          ∙ sym (ap (λ b. cond b (must_be o i (entry_of T (owning T i)).1) (low_enough T i o)) e)

  right_is : (rows : Rows Stack) (i : ℕ) → answer (fault_at (stacks T) (fit T) rows i) ≡ right_at T rows i (row_at rows i)
  unfolding fault_at
  right_is rows i =
      or_is (head i (row_at rows i)) (row_fault (stacks T) rows i (row_at rows i))
      ∙ ap (λ c. and_then c (answer (row_fault (stacks T) rows i (row_at rows i)))) (head_is i (row_at rows i))
      ∙ ap (and_then (head_right T i (row_at rows i))) (step_is T rows i (row_at rows i))

  -- ---- row by row
  turns : ScanLoop (stacks T) (fit T)
  turns = scan_loop (stacks T) (fit T)

  pub begins : (rows : Rows Stack) → left T rows 0 ≡ whole T rows
  begins rows = sym (ap answer (turns.begins rows))

  one_more : (rows : Rows Stack) (i : ℕ) → i < length T.code → left T rows i ≡ and_then (right_at T rows i (row_at rows i)) (left T rows (i + 1))
  one_more rows i l = by (fault_at (stacks T) (fit T) rows i) refl ∙ ap (λ c. and_then c (left T rows (i + 1))) (right_is rows i)
    where
      by : (x : Fault Flaw) → fault_at (stacks T) (fit T) rows i ≡ x → left T rows i ≡ and_then (answer (fault_at (stacks T) (fit T) rows i)) (left T rows (i + 1))
      by None e = ap answer (turns.turn_on rows i l e) ∙ sym (ap (λ y. and_then (answer y) (left T rows (i + 1))) e)
      by (Some x) e = ap answer (turns.turn_out rows i x l e) ∙ sym (ap (λ y. and_then (answer y) (left T rows (i + 1))) e)

  -- the record lent for instruction i passes, or is refused
  module _ (rs : List Row) (wide : length rs ≡ length T.code) (i : ℕ) (d : Row) (inside : i < length rs) where
    abbrev own : Option Stack
    own = meaning (get_or rs i d)

    at : left T (meanings rs) i ≡ and_then (and_then (head_right T i own) (step_right T (meanings rs) i own)) (left T (meanings rs) (i + 1))
    at = one_more (meanings rs) i (omega (arith, wide, inside)) ∙ ap (λ o. and_then (right_at T (meanings rs) i o) (left T (meanings rs) (i + 1))) (row_of rs i d inside)

    pub row_passes : Ok tt ≡ head_right T i own → Ok tt ≡ step_right T (meanings rs) i own → left T (meanings rs) i ≡ left T (meanings rs) (i + 1)
    row_passes h s = at ∙ sym (ap (λ c. and_then (and_then c (step_right T (meanings rs) i own)) (left T (meanings rs) (i + 1))) h) ∙ sym (ap (λ c. and_then c (left T (meanings rs) (i + 1))) s)

    pub head_refused : (x : TableFault) → Err x ≡ head_right T i own → left T (meanings rs) i ≡ Err x
    head_refused x h = at ∙ sym (ap (λ c. and_then (and_then c (step_right T (meanings rs) i own)) (left T (meanings rs) (i + 1))) h)

    pub step_refused : Ok tt ≡ head_right T i own → (x : TableFault) → Err x ≡ step_right T (meanings rs) i own → left T (meanings rs) i ≡ Err x
    step_refused h x s =
        at ∙ sym (ap (λ c. and_then (and_then c (step_right T (meanings rs) i own)) (left T (meanings rs) (i + 1))) h) ∙ sym (ap (λ c. and_then c (left T (meanings rs) (i + 1))) s)

  pub ended : (rows : Rows Stack) (i : ℕ) → length T.code ≤ i → left T rows i ≡ Ok tt
  ended rows i l = ap answer (turns.ended rows i l)
