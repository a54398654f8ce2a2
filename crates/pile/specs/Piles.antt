-- A stack over lent places. Cited by its methods, and by all who lend them. Assumes nothing.
--   held: what it holds, the top first
--   bottom_first: the same from the bottom up, as it lies in the places
--   depth: how much it holds
--   places_of: every place lent, taken or not
--   room: how many they are
--   top_of: the top, if there is one
--   answer: what is answered to an element offered
--   blanked: a list with x at its first n places
use Rattle.std.specs.Prelude.{ℕ, min, cond, List, ◌++◌, reverse, length, take, drop, replicate, Ok, Err, Option, Result, nat_lt}
use Rattle.std.specs.List.{slice_get}
use Rattle.pile.specs.declared.Full.{Full}
use Rattle.pile.specs.declared.Pile.{Pile}

abbrev pub places_of : {T : Type 0} → Pile T → List T
places_of p = p.places.now

abbrev pub room : {T : Type 0} → Pile T → ℕ
room p = length (places_of p)

abbrev pub depth : {T : Type 0} → Pile T → ℕ
depth p = p.taken

abbrev pub bottom_first : {T : Type 0} → Pile T → List T
bottom_first p = take (depth p) (places_of p)

abbrev pub held : {T : Type 0} → Pile T → List T
held p = reverse (bottom_first p)

abbrev pub top_of : {T : Type 0} → Pile T → Option T
top_of p = slice_get (held p) 0

abbrev pub answer : {T : Type 0} → Pile T → Result (Unit {0}) Full
answer p = cond (nat_lt (depth p) (room p)) (Ok tt) (Err (record {}))

abbrev pub blanked : {T : Type 0} → ℕ → T → List T → List T
blanked n x xs = replicate (min n (length xs)) x ++ drop (min n (length xs)) xs
