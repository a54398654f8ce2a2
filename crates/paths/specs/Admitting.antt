-- Rows read once, from first to last, with the first fault named. Cited by the reader's code and by its laws.
-- Assumes nothing.
--   Fault: none, or a fault and the instruction where it is met
--   entry_at: the row that an entry at i brings
--   hold_at: a row handed to j must find one in place that says no more
--   row_fault: what is wrong with what instruction i does with its row, and with where it hands rows on
--   head_fault: at an entry the row must be the entry's; any other row must fit
--   fault_at: what is wrong at instruction i
--   admit: the first instruction's fault, if any has one
use Rattle.std.specs.Prelude.{ℕ, zero, suc, Bool, true, false, List, [], ◌∷◌, Some, None, Option, ◌==◌}
use Rattle.paths.specs.Flows.{Hand, Transfer, breaks, hands_on, Met, keep, lower, clash, Flow}
use Rattle.paths.specs.Rows.{Rows, row_at}

abbrev pub Fault : Type 0 → Type 0
Fault F = Option (F × ℕ)

unfoldable pub or_else : {F : Type 0} → Fault F → Fault F → Fault F
or_else None y = y
or_else (Some x) y = Some x

unfoldable pub entry_is : {R : Type 0} → Bool → R → Option R → Option R
entry_is true r o = Some r
entry_is false r o = o

unfoldable pub entry_at : {R : Type 0} → List (Hand R) → ℕ → Option R
entry_at [] i = None
entry_at (e ∷ es) i = entry_is (e.0 == i) e.1 (entry_at es i)

unfoldable pub fault_of : {F : Type 0} → ℕ → Option F → Fault F
fault_of i None = None
fault_of i (Some f) = Some (f, i)

module _ {R F : Type 0} (ρ : Flow R F) where
  unfoldable pub hold_met : Met R → ℕ → Fault F
  hold_met keep j = None
  hold_met (lower t) j = Some (ρ.differ, j)
  hold_met clash j = Some (ρ.differ, j)

  unfoldable pub hold_at : Option R → ℕ → R → Fault F
  hold_at None j s = Some (ρ.differ, j)
  hold_at (Some q) j s = hold_met (ρ.meet q s) j

  unfoldable pub hold_all : Rows R → List (Hand R) → Fault F
  hold_all rows [] = None
  hold_all rows (h ∷ hs) = or_else (hold_at (row_at rows h.0) h.0 h.1) (hold_all rows hs)

  unfoldable pub transfer_fault : Rows R → ℕ → Transfer R F → Fault F
  transfer_fault rows i (breaks f) = Some (f, i)
  transfer_fault rows i (hands_on hs) = hold_all rows hs

  unfoldable pub row_fault : Rows R → ℕ → Option R → Fault F
  row_fault rows i None = None
  row_fault rows i (Some r) = transfer_fault rows i (ρ.transfer i r)

  -- what a row must fit, beside what its instruction does with it
  module _ (fit : ℕ → R → Option F) where
    unfoldable pub fit_fault : ℕ → Option R → Fault F
    fit_fault i None = None
    fit_fault i (Some r) = fault_of i (fit i r)

    unfoldable pub head_fault : Option R → ℕ → Option R → Fault F
    head_fault None i o = fit_fault i o
    head_fault (Some p) i o = hold_at o i p

    unfoldable pub fault_at : Rows R → ℕ → Fault F
    fault_at rows i = or_else (head_fault (entry_at ρ.entries i) i (row_at rows i)) (row_fault rows i (row_at rows i))

    -- k instructions from i on
    unfoldable pub scan : Rows R → ℕ → ℕ → Fault F
    scan rows i zero = None
    scan rows i (suc k) = or_else (fault_at rows i) (scan rows (suc i) k)

    unfoldable pub admit : Rows R → Fault F
    admit rows = scan rows 0 ρ.size
