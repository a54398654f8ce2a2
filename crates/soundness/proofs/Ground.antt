-- Where all frames hold there are some, and their callers lead down to place 0.
use Rattle.std.proofs.Common.{◌≡◌, ℕ, zero, suc, ◌-◌, ◌≤◌, Bool, true, subst, inl, inr, arith}
use Rattle.sheet.specs.Tables.{Contents}
use Rattle.machine.specs.States.{State}
use Rattle.soundness.specs.Frames.{Rows, Open, top, caller, Linked, AllHold, OpenFramesLeadToPlace0}

module _ (T : Contents) (rows : Rows) (s : State) (H : AllHold T rows s) where
  abbrev Grounded : Type 0
  Grounded = (n e : ℕ) × (w : Bool) × Open s 0 n e w

  at_zero : (m n e : ℕ) (w : Bool) → m ≡ 0 → Open s m n e w → Grounded
  at_zero m n e w z o = (n, e, w, subst (λ (x : ℕ). Open s x n e w) z o)

  -- k bounds the place
  down : (k m n e : ℕ) (w : Bool) → m ≤ k → Open s m n e w → Grounded
  down zero m n e w l o = at_zero m n e w (omega arith) o
  down (suc k) m n e w l o = by (λ m' n' c h. down k m' n' (m - 1) true h c) (H.frames m n e w o).linked
    where
      by : ((m' n' : ℕ) → Open s m' n' (m - 1) true → m' ≤ k → Grounded) → Linked s m → Grounded
      by more (inl z) = at_zero m n e w z o
      by more (inr x) = let c = x.2 in more x.0 x.1 (caller o (λ z. let y = x.2 in omega arith) x.3 x.4) (omega arith)

pub open_frames_lead_to_place_0 : OpenFramesLeadToPlace0
open_frames_lead_to_place_0 T rows s H = ((H.running.0, top H.running.1), λ m n e w o. down T rows s H m m n e w (omega arith) o)
