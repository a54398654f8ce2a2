-- Where stacks are handed to, and how high they are. Assumes nothing.
use Rattle.std.proofs.Common.{◌≡◌, ℕ, ◌+◌, ◌<◌, ◌≤◌, Bool, true, false, cond, eqb, ltb, leb, List, [], length, Some, None, Ok, Err, Option, refl, ap, subst, arith}
use Rattle.std.specs.List.{slice_get}
use Rattle.std.proofs.lemmas.Bool.{and_parts, leb-true, ltb-true, eqb-true}
use Rattle.sheet.specs.declared.instruction.Instruction.{Instruction}
use Rattle.sheet.specs.Tables.{Contents}
use Rattle.rules.specs.declared.effects.Gives.{Gives}
use Rattle.rules.specs.declared.effects.Way.{Way}
use Rattle.rules.specs.declared.effects.Way.TheVariants.{Halt, Next, Jump, Fork}
use Rattle.rules.specs.EffectLaws.{SoundWay}
use Rattle.rules.specs.Effects.{effect_of}
use Rattle.rules.specs.Lookups.{procedure_at, owner, room_of, room_at}
use Rattle.rules.proofs.EffectLaws.{laid, effects_are_sound}
use Rattle.rows.specs.Entries.{proper}
use Rattle.rows.specs.Rows.{every}
use Rattle.transfer.specs.declared.breach.Breach.TheVariants.{StackTooHigh, PastTheEnd}
use Rattle.transfer.specs.Laws.{Each, CheckedTablesFitRows, TransferStaysInside, TransferFits, TransferHandsRows}
use Rattle.transfer.specs.Stacks.{Stack, cells_on, less, more}
use Rattle.transfer.specs.Transfer.{handed, has_next, stays, passed_on, goes, goes_from, transfer, Checked}
use Rattle.transfer.proofs.Checking.{table_rule, rooms, fits_the_stack}
use Rattle.transfer.proofs.Fitting.{entries_in_cells, less_proper, more_proper}

pub checked_tables_fit_rows : CheckedTablesFitRows
checked_tables_fit_rows T ok = record { room = rooms T ok; parameters = λ i. (laid T (table_rule T ok) i).1; marks = fits_the_stack T ok }

-- ---- where an instruction goes on
abbrev Inside : Contents → (o q : ℕ) → Type 0
Inside T o q = (q < length T.code) × (owner T q ≡ o)

next_inside : (T : Contents) (n : ℕ) → has_next T n ≡ true → Inside T (owner T n) (n + 1)
next_inside T n h =
    let q = and_parts (ltb (n + 1) (length T.code)) (eqb (owner T (n + 1)) (owner T n)) h in
    (ltb-true (n + 1) (length T.code) q.0, eqb-true (owner T (n + 1)) (owner T n) q.1)

-- ---- a stack handed on
abbrev Passed : Contents → ℕ → Gives → Way → Option Stack → List (ℕ × Stack) → Type 0
Passed T n g w o hs =
    (r : Stack) × (o ≡ Some r) × (leb (cells_on (more g r)) (room_at T n) ≡ true) × (stays T n w ≡ true) × (handed w n (more g r) ≡ hs)

passed : (T : Contents) (n : ℕ) (g : Gives) (w : Way) (o : Option Stack) (hs : List (ℕ × Stack)) → passed_on T n g w o ≡ Ok hs → Passed T n g w o hs
passed T n g w None hs e = absurd (let z : ◌≡◌ {A = ℕ} 0 1 = cc in omega arith)
passed T n g w (Some r) hs e = by (leb (cells_on (more g r)) (room_at T n)) refl (stays T n w) refl e
  where
    by : (a : Bool) → leb (cells_on (more g r)) (room_at T n) ≡ a → (b : Bool) → stays T n w ≡ b
        → cond a (cond b (Ok (handed w n (more g r))) (Err PastTheEnd)) (Err StackTooHigh) ≡ Ok hs → Passed T n g w (Some r) hs
    by false p b q f = absurd (let z : ◌≡◌ {A = ℕ} 0 1 = cc in omega arith)
    by true p false q f = absurd (let z : ◌≡◌ {A = ℕ} 0 1 = cc in omega arith)
    by true p true q f = (r, refl, p, q, (let k : handed w n (more g r) ≡ hs = cc in k))

-- all that is handed on is the stack left with what is given, to the label or to the next instruction
module _ (T : Contents) (ok : Checked T) (n : ℕ) (s : Stack) (hs : List (ℕ × Stack)) (Q : ℕ → Stack → Type 0) where
  abbrev Keeps : Instruction → Type 0
  Keeps x = (r : Stack) → less T (owner T n) (effect_of T n x).takes s ≡ Some r → leb (cells_on (more (effect_of T n x).gives r)) (room_at T n) ≡ true
      → (j : ℕ) → Inside T (owner T n) j → Q j (more (effect_of T n x).gives r)

  each : (w : Way) (x : Stack) → SoundWay T n w → stays T n w ≡ true → ((j : ℕ) → Inside T (owner T n) j → Q j x) → handed w n x ≡ hs → Each Q hs
  each Halt x l k q e = subst (Each Q) e tt
  each Next x l k q e = subst (Each Q) e (q (n + 1) (next_inside T n k), tt)
  each (Jump j) x l k q e = subst (Each Q) e (q j (l.0, l.1.0), tt)
  each (Fork j) x l k q e = subst (Each Q) e (q j (l.0, l.1.0), (q (n + 1) (next_inside T n k), tt))

  gone : (x : Instruction) (w : Way) → SoundWay T n w → Keeps x → goes T n (effect_of T n x) w s ≡ Ok hs → Each Q hs
  gone x Halt l q e = let k : [] ≡ hs = cc in subst (Each Q) k tt
  gone x Next l q e =
      let h = passed T n (effect_of T n x).gives Next (less T (owner T n) (effect_of T n x).takes s) hs e in
      each Next (more (effect_of T n x).gives h.0) l h.3 (q h.0 h.1 h.2) h.4
  gone x (Jump j) l q e =
      let h = passed T n (effect_of T n x).gives (Jump j) (less T (owner T n) (effect_of T n x).takes s) hs e in
      each (Jump j) (more (effect_of T n x).gives h.0) l h.3 (q h.0 h.1 h.2) h.4
  gone x (Fork j) l q e =
      let h = passed T n (effect_of T n x).gives (Fork j) (less T (owner T n) (effect_of T n x).takes s) hs e in
      each (Fork j) (more (effect_of T n x).gives h.0) l h.3 (q h.0 h.1 h.2) h.4

  all_handed : ((x : Instruction) → slice_get T.code n ≡ Some x → Keeps x) → transfer T n s ≡ Ok hs → Each Q hs
  all_handed q e = by (slice_get T.code n) refl e
    where
      by : (y : Option Instruction) → slice_get T.code n ≡ y → goes_from T n y s ≡ Ok hs → Each Q hs
      by None g f = let k : [] ≡ hs = cc in subst (Each Q) k tt
      by (Some x) g f = gone x (effect_of T n x).way (effects_are_sound T ok n x g).2 (q x g) f

pub transfer_stays_inside : TransferStaysInside
transfer_stays_inside T n s hs ok e = all_handed T ok n s hs (λ j r. Inside T (owner T n) j) (λ x g r took fits j inside. inside) e

same_room : (T : Contents) (n j : ℕ) → owner T j ≡ owner T n → room_at T j ≡ room_at T n
same_room T n j e = ap (λ o. room_of (slice_get T.code (procedure_at T o).first)) e

pub transfer_fits : TransferFits
transfer_fits T n s hs ok e =
    all_handed T ok n s hs (λ j r. cells_on r ≤ room_at T j)
    (λ x g r took fits j inside. let l = leb-true (cells_on (more (effect_of T n x).gives r)) (room_at T n) fits in let k = same_room T n j inside.1 in omega arith) e

pub transfer_hands_rows : TransferHandsRows
transfer_hands_rows T n s hs ok p e =
    all_handed T ok n s hs (λ j r. (length r ≤ 40) × (every proper r ≡ true))
    (λ x g r took fits j inside. (
      (let l = leb-true (cells_on (more (effect_of T n x).gives r)) (room_at T n) fits in let k = rooms T ok n in let m = entries_in_cells (more (effect_of T n x).gives r) in omega arith),
      more_proper (effect_of T n x).gives r (fits_the_stack T ok n x g) (less_proper T (owner T n) (effect_of T n x).takes s r took p),
    )) e
