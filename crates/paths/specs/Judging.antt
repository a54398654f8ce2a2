-- Following the paths by a work list. Cited by the judge's code and by the laws on it. Assumes nothing.
--   Progress: rows in place and instructions that wait, the next on top; or a fault and the instruction where it is met
--   wait: an instruction waits once, however often its row is lowered
--   hand: a row comes to instruction j; without a row it takes it and waits
--   hand_all: rows handed on, in order
--   judge_one: instruction i does what it does with its row
--   settle: the top of the work list is judged until none waits; `weight` bounds the turns
--   enter: the entries go in one by one, each with all that follows from it
--   judge: all entries, over a table without rows
use Rattle.std.specs.Prelude.{ℕ, zero, suc, ◌+◌, Bool, true, false, ◌||◌, List, [], ◌∷◌, length, replicate, Some, None, Option, ◌==◌, slice_set}
use Rattle.paths.specs.Flows.{Hand, Transfer, breaks, hands_on, Met, keep, lower, clash, Flow}
use Rattle.paths.specs.Rows.{Rows, row_at}

pub data Progress (R F : Type 0) : Type 0 where
  going : Rows R → List ℕ → Progress R F
  refused : F → ℕ → Progress R F

unfoldable pub then : {R F : Type 0} → Progress R F → (Rows R → List ℕ → Progress R F) → Progress R F
then (going rows work) k = k rows work
then (refused f i) k = refused f i

unfoldable pub waits : ℕ → List ℕ → Bool
waits j [] = false
waits j (k ∷ work) = j == k || waits j work

unfoldable pub wait_unless : Bool → ℕ → List ℕ → List ℕ
wait_unless true j work = work
wait_unless false j work = j ∷ work

unfoldable pub wait : ℕ → List ℕ → List ℕ
wait j work = wait_unless (waits j work) j work

module _ {R F : Type 0} (ρ : Flow R F) where
  unfoldable pub hand_met : Met R → Rows R → List ℕ → ℕ → Progress R F
  hand_met keep rows work j = going rows work
  hand_met (lower t) rows work j = going (slice_set rows j (Some t)) (wait j work)
  hand_met clash rows work j = refused ρ.differ j

  unfoldable pub hand_at : Option R → Rows R → List ℕ → ℕ → R → Progress R F
  hand_at None rows work j s = going (slice_set rows j (Some s)) (j ∷ work)
  hand_at (Some q) rows work j s = hand_met (ρ.meet q s) rows work j

  unfoldable pub hand : Rows R → List ℕ → ℕ → R → Progress R F
  hand rows work j s = hand_at (row_at rows j) rows work j s

  unfoldable pub hand_all : List (Hand R) → Rows R → List ℕ → Progress R F
  hand_all [] rows work = going rows work
  hand_all (h ∷ hs) rows work = then (hand rows work h.0 h.1) (λ rows' work'. hand_all hs rows' work')

  unfoldable pub judge_by : Transfer R F → ℕ → Rows R → List ℕ → Progress R F
  judge_by (breaks f) i rows work = refused f i
  judge_by (hands_on hs) i rows work = hand_all hs rows work

  unfoldable pub judge_at : Option R → ℕ → Rows R → List ℕ → Progress R F
  judge_at None i rows work = going rows work
  judge_at (Some r) i rows work = judge_by (ρ.transfer i r) i rows work

  unfoldable pub judge_one : ℕ → Rows R → List ℕ → Progress R F
  judge_one i rows work = judge_at (row_at rows i) i rows work

  -- at most k turns
  unfoldable pub run : ℕ → Rows R → List ℕ → Progress R F
  run zero rows work = going rows work
  run (suc k) rows [] = going rows []
  run (suc k) rows (i ∷ work) = then (judge_one i rows work) (λ rows' work'. run k rows' work')

  -- how often an instruction can still come to wait, at most
  unfoldable pub load : Option R → ℕ
  load None = suc ρ.top
  load (Some r) = ρ.height r

  unfoldable pub weight : Rows R → ℕ
  weight [] = 0
  weight (x ∷ rows) = load x + weight rows

  unfoldable pub settle : Rows R → List ℕ → Progress R F
  settle rows work = run (weight rows + length work) rows work

  unfoldable pub enter : List (Hand R) → Rows R → Progress R F
  enter [] rows = going rows []
  enter (e ∷ es) rows = then (hand rows [] e.0 e.1) (λ rows' work'. then (settle rows' work') (λ rows'' work''. enter es rows''))

  unfoldable pub judge : Progress R F
  judge = enter ρ.entries (replicate ρ.size None)
