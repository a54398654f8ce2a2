-- What each call on a run answers and leaves. Cited by their contracts. Assumes nothing.
--   sized: a store has 5 to 65,536 cells
--   begins, begin_cells: what begin answers over a store of n cells, and the cells that it leaves
--   fits: the store is as long as the one that the run began over
--   Gone: what a go answers, and what it leaves
--   gone: that of a go of n steps; over another store nothing changes
--   look_at: the cell at a place from 0 to SP
--   looked: what look answers
--   stack_place: SP; no store has more than 65,536 cells
--   reported: the registers as places
use Rattle.std.specs.Prelude.{ℕ, ◌+◌, ◌-◌, min, Bool, cond, ◌&&◌, List, length, ℤ, pos, negsuc, ◌-ℤ◌, Some, None, Ok, Err, Option, Result, ◌==◌, nat_le, nat_lt}
use Rattle.std.specs.List.{slice_get}
use Rattle.sheet.specs.declared.place.StorePlace.{StorePlace}
use Rattle.rules.specs.Lookups.{contents_of}
use Rattle.admit.specs.declared.Passed.{Passed}
use Rattle.store.specs.declared.cell.Cell.{Cell}
use Rattle.host.specs.Hosts.{Meaning}
use Rattle.machine.specs.declared.registers.Registers.{Registers}
use Rattle.machine.specs.Runs as machine
use Rattle.machine.specs.Runs.{begun_cells, go}
use Rattle.machine.specs.States.{at, code_at, regs_at}
use Rattle.run.specs.declared.answer.Finish.TheVariants as finish
use Rattle.run.specs.declared.answer.LookFault.{LookFault}
use Rattle.run.specs.declared.answer.LookFault.TheVariants.{OtherStore, NotReached}
use Rattle.run.specs.declared.answer.Report.{Report}
use Rattle.run.specs.declared.answer.Went.{Went}
use Rattle.run.specs.declared.run.Refused.{Refused}
use Rattle.run.specs.declared.run.Run.{Run}
use Rattle.run.specs.Answers.{finish_of}

abbrev pub sized : ℕ → Bool
sized n = nat_le 5 n && nat_le n 65536

-- a refusal hands the passed table back
abbrev pub begins : Passed → ℕ → Result Run Refused
begins p n = cond (sized n) (Ok (record { passed = p; regs = regs_at (code_at 0) 5 0 4 (n - 1) })) (Err (record { passed = p }))

abbrev pub begin_cells : List Cell → List Cell
begin_cells cs = cond (sized (length cs)) (begun_cells (length cs)) cs

abbrev pub refusal_number : Refused → ℕ
refusal_number r = 34

abbrev pub fits : (last : ℕ) → List Cell → Bool
fits last cs = length cs == last + 1

pub record Gone : Type 0 where
  pub answer : Went
  pub run : Run
  pub cells : List Cell
  pub host : Meaning

abbrev pub as_answer : machine.Went → Went
as_answer w = record { count = w.count; finish = finish_of w.ending }

abbrev pub after_go : Passed → machine.Went → Gone
after_go p w = record { answer = as_answer w; run = record { passed = p; regs = w.state.regs }; cells = w.state.cells; host = w.state.host }

abbrev pub gone : (n : ℕ) → Run → List Cell → Meaning → Gone
gone n r cs h = cond (fits r.regs.last cs)
    (after_go r.passed (go (contents_of r.passed.table) n (at r.regs cs h)))
    (record { answer = record { count = 0; finish = finish.OtherStore }; run = r; cells = cs; host = h })

abbrev pub or_not_reached : Option Cell → Result Cell LookFault
or_not_reached None = Err NotReached
or_not_reached (Some c) = Ok c

abbrev pub look_at : ℤ → (height : ℕ) → List Cell → Result Cell LookFault
look_at (pos x) height cs = cond (nat_lt x height) (or_not_reached (slice_get cs x)) (Err NotReached)
look_at (negsuc x) height cs = Err NotReached

abbrev pub looked : StorePlace → Run → List Cell → Result Cell LookFault
looked x r cs = cond (fits r.regs.last cs) (look_at x.0 r.regs.height cs) (Err OtherStore)

abbrev pub stack_place : ℕ → StorePlace
stack_place height = record { 0 = pos (min height 65536) -ℤ pos 1 }

abbrev pub place : ℕ → StorePlace
place x = record { 0 = pos x }

abbrev pub reported : Registers → Report
reported r = record { pc = r.pc; sp = stack_place r.height; mp = place r.mp; ep = place r.ep; np = place (r.last + 1) }
