-- The verifier at work. Cited by its methods. Assumes nothing.
--   rows_of: the rows that paths brought so far
--   waiting: the instructions that wait, the next on top
--   Kept: what the work leaves as it was: the table, the loans, and the places behind the first ones, one for each row
use Rattle.std.specs.Prelude.{◌≡◌, ℕ, List, length, drop}
use Rattle.paths.specs.Rows.{Rows}
use Rattle.pile.specs.Piles.{held, places_of}
use Rattle.transfer.specs.Stacks.{Stack}
use Rattle.judge.specs.declared.verifier.Verifier.{Verifier}
use Rattle.judge.specs.Handing.{meanings}

abbrev pub rows_of : Verifier → Rows Stack
rows_of v = meanings v.rows.now

abbrev pub waiting : Verifier → List ℕ
waiting v = held v.work.now

pub record Kept (old new : Verifier) : Type 0 where
  pub table : new.table ≡ old.table
  pub rows : new.rows.ghost_name ≡ old.rows.ghost_name
  pub work : new.work.ghost_name ≡ old.work.ghost_name
  pub places : new.work.now.places.ghost_name ≡ old.work.now.places.ghost_name
  pub rest : drop (length new.rows.now) (places_of new.work.now) ≡ drop (length old.rows.now) (places_of old.work.now)
