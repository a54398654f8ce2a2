-- What a host means, and what take and put answer and leave. Cited by the interface of hosts and by the machine.
-- Assumes nothing.
--   Meaning: the values waiting, the values written, and the room for more
--   suits: whether a record waiting is a value of this kind
--   next_value, taken: what take answers and leaves
--   put_answer, written: what put answers and leaves
use Rattle.std.specs.Prelude.{ℕ, ◌-◌, Bool, cond, ◌&&◌, List, [], ◌∷◌, ◌++◌, Ok, Err, Result, ◌==◌}
use Rattle.sheet.specs.declared.kind.Kind.{Kind}
use Rattle.sheet.specs.declared.stop.Stop.{Stop}
use Rattle.sheet.specs.declared.stop.Stop.TheVariants.{NothingWaits, WrongInput, NoRoom}
use Rattle.sheet.specs.declared.value.Value.{Value}
use Rattle.sheet.specs.Kinds.{kind_of, is_value, same}

pub record Meaning : Type 0 where
  pub waiting : List Value
  pub written : List Value
  pub room : ℕ

abbrev pub suits : Kind → Value → Bool
suits t x = same (kind_of x) t && is_value x

abbrev pub next_value : Kind → List Value → Result Value Stop
next_value t [] = Err NothingWaits
next_value t (x ∷ xs) = cond (suits t x) (Ok x) (Err WrongInput)

abbrev pub after_next : Kind → List Value → List Value
after_next t [] = []
after_next t (x ∷ xs) = cond (suits t x) xs (x ∷ xs)

abbrev pub taken : Kind → Meaning → Meaning
taken t h = record { waiting = after_next t h.waiting; written = h.written; room = h.room }

abbrev pub put_answer : ℕ → Result (Unit {0}) Stop
put_answer room = cond (room == 0) (Err NoRoom) (Ok tt)

abbrev pub written : Value → Meaning → Meaning
written x h = cond (h.room == 0) h (record { waiting = h.waiting; written = h.written ++ (x ∷ []); room = h.room - 1 })
