-- Handing on is the path engine's, and keeps the work list ready.
use Rattle.std.proofs.Common.{◌≡◌, ℕ, ◌<◌, Bool, true, false, cond, List, [], ◌∷◌, length, Some, None, Option, refl, ap, ◌∙◌, subst, arith}
use Rattle.std.proofs.lemmas.List.{length-map}
use Rattle.sheet.specs.Tables.{Contents}
use Rattle.paths.specs.Exact.{agree}
use Rattle.paths.specs.Flows.{Hand}
use Rattle.paths.specs.Invariants.{Cases}
use Rattle.paths.specs.Judging.{Progress, going, refused, then, hand_met, hand_at, hand, hand_all}
use Rattle.paths.specs.Loops.{Ready, StillReady}
use Rattle.paths.specs.Rows.{Rows, row_at}
use Rattle.paths.proofs.Ready.{hand_ready, work_room}
use Rattle.rows.specs.declared.row.Row.{Row}
use Rattle.rows.specs.Rows.{meaning}
use Rattle.transfer.specs.Stacks.{Stack}
use Rattle.judge.specs.declared.flaw.Flaw.{Flaw}
use Rattle.judge.specs.declared.flaw.Flaw.TheVariants.{Differs}
use Rattle.judge.specs.Flow.{same_stack, stacks}
use Rattle.judge.specs.Handing.{meanings, handed_by, handed_to, on_with, handed_all}

-- ---- the same as the engine's
met_is : (T : Contents) (b : Bool) (rows : Rows Stack) (work : List ℕ) (j : ℕ) → hand_met (stacks T) (agree b) rows work j ≡ cond b (going rows work) (refused Differs j)
unfolding hand_met agree
met_is T true rows work j = refl
met_is T false rows work j = refl

by_is : (T : Contents) (o : Option Stack) (rows : Rows Stack) (work : List ℕ) (j : ℕ) (s : Stack) → hand_at (stacks T) o rows work j s ≡ handed_by o rows work j s
unfolding hand_at
by_is T None rows work j s = refl
by_is T (Some q) rows work j s = met_is T (same_stack q s) rows work j

pub hand_is : (T : Contents) (rows : Rows Stack) (work : List ℕ) (j : ℕ) (s : Stack) → hand (stacks T) rows work j s ≡ handed_to rows work j s
unfolding hand
hand_is T rows work j s = by_is T (row_at rows j) rows work j s

then_is : (p : Progress Stack Flaw) (k l : Rows Stack → List ℕ → Progress Stack Flaw) → ((rows : Rows Stack) (work : List ℕ) → k rows work ≡ l rows work) → then p k ≡ on_with p l
unfolding then
then_is (going rows work) k l e = e rows work
then_is (refused f n) k l e = refl

pub all_is : (T : Contents) (hs : List (Hand Stack)) (rows : Rows Stack) (work : List ℕ) → hand_all (stacks T) hs rows work ≡ handed_all hs rows work
unfolding hand_all
all_is T [] rows work = refl
all_is T (h ∷ hs) rows work =
    ap (λ p. then p (λ rows' work'. hand_all (stacks T) hs rows' work')) (hand_is T rows work h.0 h.1)
    ∙ then_is (handed_to rows work h.0 h.1) (λ rows' work'. hand_all (stacks T) hs rows' work') (λ rows' work'. handed_all hs rows' work') (all_is T hs)

-- ---- ready again
abbrev no_table : Contents
no_table = record { procedures = []; cells = []; code = [] }

pub still_ready : (rows rows' : Rows Stack) (work work' : List ℕ) (j : ℕ) (s : Stack) → j < length rows → Ready rows work → handed_to rows work j s ≡ going rows' work' → StillReady rows rows' work'
still_ready rows rows' work work' j s h y e =
    subst (Cases (StillReady rows) (λ f i. Unit {0})) (hand_is no_table rows work j s ∙ e) (hand_ready (stacks no_table) rows work j s h y)

-- ---- what a hand asks
pub room_for_one : (rs : List Row) (work : List ℕ) (d j : ℕ) → length work ≡ d → Ready (meanings rs) work → j < length rs → row_at (meanings rs) j ≡ None → d < length rs
room_for_one rs work d j e y h o =
    let k : length (meanings rs) ≡ length rs = length-map rs meaning in
    let l = work_room (meanings rs) work j y (omega (arith, k, h)) o in
    omega (arith, k, l, e)
