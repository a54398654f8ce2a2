-- The invariant of a run: its open frames as a chain, each over its caller, and the sorts of all cells up to SP.
use Rattle.std.proofs.Common.{◌≡◌, ℕ, zero, suc, ◌+◌, ◌<◌, ◌≤◌, Bool, true, false, cond, not, eqb, ◌⊎◌, List, [], ◌∷◌, ◌++◌, length, ℤ, pos, Some, None, Ok, Err, Option, Result}
use Rattle.sheet.specs.declared.kind.Kind.{Kind}
use Rattle.sheet.specs.Kinds.{kind_of, is_value}
use Rattle.sheet.specs.Stops.{stop_number}
use Rattle.sheet.specs.Tables.{Contents}
use Rattle.arith.specs.Answers.{Answer}
use Rattle.rules.specs.Lookups.{procedure_at, owner}
use Rattle.rows.specs.declared.entry.Entry.TheVariants as entry
use Rattle.transfer.specs.Stacks.{Stack, cells_on, less}
use Rattle.store.specs.declared.cell.Cell.{Cell}
use Rattle.store.specs.declared.cell.Cell.TheVariants.{Free, Mark, Working, Data, Blank}
use Rattle.store.specs.Cells.{peek}
use Rattle.host.specs.Hosts.{Meaning}
use Rattle.machine.specs.declared.ending.Ending.{Ending}
use Rattle.machine.specs.declared.operation.Operation.TheVariants.{Cup}
use Rattle.machine.specs.Endings.{ending_number}
use Rattle.machine.specs.Leaves.{link}
use Rattle.machine.specs.Runs.{begun}
use Rattle.machine.specs.States.{State, code_at}
use Rattle.machine.specs.Steps.{step}
use Rattle.rules.specs.declared.effects.Takes.TheVariants.{Call}
use Rattle.soundness.specs.Frames.{Rows, operation_at}
use Rattle.soundness.proofs.Rules.{Declaration, declaration, laid, gave, room, Handed, Ruled}

-- What a cell is; a record that is no cell is free.
pub data Sort : Type 0 where
  is_free : Sort
  is_mark : ℤ → Sort
  is_work is_data : Kind → Sort

abbrev pub is_at : ℕ → Sort
is_at n = is_mark (pos n)

abbrev pub sort : Cell → Sort
sort Free = is_free
sort (Mark z) = is_mark z
sort (Working x) = cond (is_value x) (is_work (kind_of x)) is_free
sort (Data x) = cond (is_value x) (is_data (kind_of x)) is_free
sort (Blank t) = is_data t

-- The cells from place 0 up are of these sorts, the topmost first.
abbrev pub Stands : List Cell → List Sort → Type 0
Stands cs [] = Unit {0}
Stands cs (κ ∷ K) = (sort (peek cs (length K)) ≡ κ) × Stands cs K

pub record Frame : Type 0 where
  pub place : ℕ
  pub of : ℕ
  pub ret : ℕ
  pub row : Stack
  pub ep : ℕ
  pub entered : Bool

-- Frames: `over caller parent f` is the frame f called from `caller`, with its static link to `parent`.
pub data Frames : Type 0 where
  ground : Frames
  over : Frames → Frames → Frame → Frames

abbrev pub place_of : Frames → ℕ
place_of ground = 0
place_of (over b p f) = f.place

abbrev pub ep_of : Frames → ℕ
ep_of ground = 0
ep_of (over b p f) = f.ep

abbrev pub procedure_of : Frames → ℕ
procedure_of ground = 0
procedure_of (over b p f) = f.of

-- the frame that base(j, ·) leads to
abbrev pub up : ℕ → Frames → Frames
up j ground = ground
up zero (over b p f) = over b p f
up (suc j) (over b p f) = up j p

abbrev pub Under : Frames → Frames → Type 0
Under u ground = ⊥
Under u (over b p f) = (u ≡ over b p f) ⊎ Under u b

-- The row: a working cell for a value, the marks 0, base(j, MP), MP, EP, 0 for a mark.
abbrev pub row_sorts : ℕ → ℕ → (ℕ → ℕ) → Stack → List Sort → List Sort
row_sorts e m link [] K = K
row_sorts e m link (entry.Value t ∷ ρ) K = is_work t ∷ row_sorts e m link ρ K
row_sorts e m link (entry.Mark j ∷ ρ) K = is_at 0 ∷ (is_at e ∷ (is_at m ∷ (is_at (link j) ∷ (is_at 0 ∷ row_sorts e m link ρ K))))

abbrev pub result_sort : Bool → Option Kind → Sort
result_sort true (Some t) = is_data t
result_sort true None = is_at 0
result_sort false r = is_at 0

abbrev pub data_sorts : Bool → Declaration → List Sort → List Sort
data_sorts true P K = laid is_data (P.parameters ++ P.locals) K
data_sorts false P K = K

-- the five cells at the foot of a frame, over K
abbrev pub foot : (result : Sort) (link mp ep ret : ℕ) → List Sort → List Sort
foot r link mp ep ret K = is_at ret ∷ (is_at ep ∷ (is_at mp ∷ (is_at link ∷ (r ∷ K))))

-- base(j, m) for a frame at m with the parent p
abbrev pub links : ℕ → Frames → ℕ → ℕ
links m p zero = m
links m p (suc j) = place_of (up j p)

-- a frame without its row, over K
abbrev pub deck : Contents → Frames → Frames → Frame → List Sort → List Sort
deck T b p f K =
    data_sorts f.entered (declaration T f.of) (foot (result_sort f.entered (declaration T f.of).result) (place_of p) (place_of b) (ep_of b) f.ret K)

-- The sorts of the cells from place 0 up to SP, the topmost first.
abbrev pub shape : Contents → Frames → List Sort
shape T ground = []
shape T (over b p f) = row_sorts f.ep f.place (links f.place p) f.row (deck T b p f (shape T b))

-- An entered frame's EP.
pub record Fitted (T : Contents) (len : ℕ) (f : Frame) : Type 0 where
  pub in_it : f.entered ≡ true
  pub ep_is : f.ep ≡ f.place + 4 + length ((declaration T f.of).parameters ++ (declaration T f.of).locals) + room T f.of
  pub ep_in : f.ep < len

-- g waits at a cup for a frame of procedure `of` that returns to `ret`.
pub record Waits (T : Contents) (rows : Rows) (g : Frame) (of ret : ℕ) : Type 0 where
  pub n : ℕ
  pub j : ℕ
  pub ret_is : ret ≡ n + 1
  pub own : owner T n ≡ g.of
  pub target : owner T (declaration T of).first ≡ of
  pub calls : operation_at T n ≡ Some (Cup (length (declaration T of).parameters) (code_at (declaration T of).first))
  pub row_is : rows n ≡ Some (laid entry.Value (declaration T of).parameters (entry.Mark j ∷ g.row))
  pub taken : less T (owner T n) (Call (procedure_at T of)) (laid entry.Value (declaration T of).parameters (entry.Mark j ∷ g.row)) ≡ Some g.row
  pub next : Handed T rows n (n + 1) (gave (declaration T of).result g.row)

pub record Called (T : Contents) (rows : Rows) (len : ℕ) (b q : Frames) (g : Frame) (p : Frames) (place of ret : ℕ) : Type 0 where
  pub fitted : Fitted T len g
  pub waits : Waits T rows g of ret
  pub under : Under p (over b q g)
  pub whose : procedure_of p ≡ (declaration T of).parent
  pub not_main : of ≡ 0 → ⊥
  pub place_is : place ≡ length (shape T (over b q g))

abbrev pub Good : Contents → Rows → ℕ → Frames → Type 0
Good T rows len ground = Unit {0}
Good T rows len (over ground p f) = (p ≡ ground) × (f.of ≡ 0) × (f.place ≡ 0)
Good T rows len (over (over b q g) p f) = Good T rows len (over b q g) × Called T rows len b q g p f.place f.of f.ret

-- Every open frame holds its row and its declaration.
pub record Sound (T : Contents) (rows : Rows) (s : State) : Type 0 where
  pub now : ℕ
  pub below : Frames
  pub parent : Frames
  pub top : Frame
  pub pc_is : s.regs.pc ≡ code_at now
  pub good : Good T rows (length s.cells) (over below parent top)
  pub stands : Stands s.cells (shape T (over below parent top))
  pub sp_is : s.regs.height ≡ length (shape T (over below parent top))
  pub mp_is : s.regs.mp ≡ top.place
  pub ep_is : s.regs.ep ≡ top.ep
  pub row_is : rows now ≡ Some top.row
  pub own : owner T now ≡ top.of
  pub entered : top.entered ≡ not (eqb now (declaration T top.of).first)
  pub last_is : s.regs.last + 1 ≡ length s.cells
  pub fitted : top.entered ≡ true → Fitted T (length s.cells) top × (cells_on top.row ≤ room T top.of)

-- A state that P holds of, or a cause whose number is below 60.
abbrev pub Safe : {A : Type 0} → (A → Type 0) → Answer A → Type 0
Safe P (Ok x) = P x
Safe P (Err w) = stop_number w < 60

-- and so for a step, which hlt may end
abbrev pub EndsWell : {A : Type 0} → (A → Type 0) → Result A Ending → Type 0
EndsWell P (Ok x) = P x
EndsWell P (Err e) = ending_number e < 60

abbrev pub Keeps : Type 0
Keeps = (T : Contents) (rows : Rows) → Ruled T rows → (s : State) → Sound T rows s → EndsWell (Sound T rows) (step T s)

abbrev pub Starts : Type 0
Starts = (T : Contents) (rows : Rows) → Ruled T rows → (len : ℕ) (h : Meaning) → 5 ≤ len → Sound T rows (begun len h)
