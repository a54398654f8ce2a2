-- What it means that rows are admitted. Assumes nothing.
--   Apart: every entry begins at an instruction of its own
--   Fits: every row fits, but for those at entries
--   Admits: admit passes exactly the rows that hold locally and fit, and else names the first fault
--   Suits: what is handed on fits, and so does what two rows that fit meet in
--   Passes: rows that judge leaves, admit passes
--   ScanLoop: what a loop over the rows needs: what is left gives the whole
--   AdmitIsExact: the laws, over all tables and rows
use Rattle.std.specs.Prelude.{◌≡◌, ℕ, ◌+◌, ◌-◌, ◌<◌, ◌≤◌, ◌↔◌, List, length, Some, None, Option}
use Rattle.paths.specs.Lists.{In, All}
use Rattle.paths.specs.Flows.{Hand, hands_on, lower, Flow, Lawful}
use Rattle.paths.specs.Rows.{Rows, row_at, Local}
use Rattle.paths.specs.Judging.{going, judge}
use Rattle.paths.specs.Admitting.{entry_at, fault_at, scan, admit}

module _ {R F : Type 0} (ρ : Flow R F) where
  abbrev pub Apart : Type 0
  Apart = (i : ℕ) (p : R) → In (i, p) ρ.entries → entry_at ρ.entries i ≡ Some p

  module _ (fit : ℕ → R → Option F) where
    abbrev pub Fits : Rows R → Type 0
    Fits rows = (i : ℕ) (r : R) → entry_at ρ.entries i ≡ None → row_at rows i ≡ Some r → fit i r ≡ None

    pub record Admits : Type 0 where
      pub accepts : (rows : Rows R) → length rows ≡ ρ.size → (admit ρ fit rows ≡ None) ↔ (Local ρ rows × Fits rows)
      pub first : (rows : Rows R) (x : F × ℕ) → admit ρ fit rows ≡ Some x
          → (i : ℕ) × (i < ρ.size) × (fault_at ρ fit rows i ≡ Some x) × ((j : ℕ) → j < i → fault_at ρ fit rows j ≡ None)

    pub record Suits : Type 0 where
      pub handed : (i : ℕ) (r : R) (hs : List (Hand R)) → ρ.transfer i r ≡ hands_on hs → All (λ h. fit h.0 h.1 ≡ None) hs
      pub lowered : (i : ℕ) (q s t : R) → fit i q ≡ None → fit i s ≡ None → ρ.meet q s ≡ lower t → fit i t ≡ None

    abbrev pub Passes : Type 0
    Passes = (rows : Rows R) (work : List ℕ) → judge ρ ≡ going rows work → admit ρ fit rows ≡ None

    pub record ScanLoop : Type 0 where
      pub begins : (rows : Rows R) → admit ρ fit rows ≡ scan ρ fit rows 0 (ρ.size - 0)
      pub turn_on : (rows : Rows R) (i : ℕ) → i < ρ.size → fault_at ρ fit rows i ≡ None → scan ρ fit rows i (ρ.size - i) ≡ scan ρ fit rows (i + 1) (ρ.size - (i + 1))
      pub turn_out : (rows : Rows R) (i : ℕ) (x : F × ℕ) → i < ρ.size → fault_at ρ fit rows i ≡ Some x → scan ρ fit rows i (ρ.size - i) ≡ Some x
      pub ended : (rows : Rows R) (i : ℕ) → ρ.size ≤ i → scan ρ fit rows i (ρ.size - i) ≡ None

-- a clause is a `Type 0`, so the kind of row is fixed here
abbrev pub AdmitIsExact : Type 0
AdmitIsExact = (ρ : Flow (List ℕ) ℕ) (fit : ℕ → List ℕ → Option ℕ) → All (λ h. h.0 < ρ.size) ρ.entries → Apart ρ
    → Admits ρ fit × ScanLoop ρ fit × (Lawful ρ → Suits ρ fit → Passes ρ fit)
