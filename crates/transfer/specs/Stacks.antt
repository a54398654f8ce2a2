-- Stacks under judgement, the top first. Cited by the transfer function and the verifier. Assumes nothing.
--   cells_on: the cells of the store that a stack stands for
--   parameters_down: the kinds of a procedure's parameters, the last first, as they lie on the stack from the top
--   less_kinds: what is left of a stack once these kinds are taken off its top
--   less_mark: what is left once a mark is taken off that leads from procedure o to procedure a
--   less, more: what is left once an instruction took what it takes, and that with what it gives
--   Took: the answer of an operation that takes off a stack, by what should be left and what is
--   fitting: whether every entry given may lie on a stack
--   Gave: the answer of an operation that gives to a stack of this depth and room
use Rattle.std.specs.Prelude.{◌≡◌, ℕ, ◌+◌, ◌≤◌, Bool, true, false, cond, List, [], ◌∷◌, ◌++◌, reverse, length, take, drop, Some, None, Ok, Err, Option, Result, ◌==◌}
use Rattle.sheet.specs.declared.kind.Kind.{Kind}
use Rattle.sheet.specs.declared.procedure.Procedure.{Procedure}
use Rattle.sheet.specs.Kinds.{same}
use Rattle.sheet.specs.Tables.{Contents}
use Rattle.rules.specs.declared.effects.Takes.{Takes}
use Rattle.rules.specs.declared.effects.Takes.TheVariants.{Kinds, Parameters, Call}
use Rattle.rules.specs.declared.effects.Gives.{Gives}
use Rattle.rules.specs.declared.effects.Gives.TheVariants as gives
use Rattle.rules.specs.Lookups.{ancestor}
use Rattle.rows.specs.declared.entry.Entry.{Entry}
use Rattle.rows.specs.declared.entry.Entry.TheVariants.{Value, Mark}
use Rattle.rows.specs.Entries.{cells_of_entry, proper}
use Rattle.rows.specs.Rows.{every}
use Rattle.transfer.specs.declared.breach.Breach.{Breach}
use Rattle.transfer.specs.declared.breach.Breach.TheVariants.{WrongStack}

abbrev pub Stack : Type 0
Stack = List Entry

abbrev pub cells_on : Stack → ℕ
cells_on [] = 0
cells_on (e ∷ s) = cells_of_entry e + cells_on s

abbrev pub parameters_down : Contents → Procedure → List Kind
parameters_down T P = reverse (take P.parameters (drop P.offset T.cells))

abbrev pub listed : Option Kind → List Kind
listed None = []
listed (Some t) = t ∷ []

abbrev pub less_kinds : List Kind → Stack → Option Stack
less_kinds [] s = Some s
less_kinds (t ∷ ts) [] = None
less_kinds (t ∷ ts) (Value u ∷ s) = cond (same u t) (less_kinds ts s) None
less_kinds (t ∷ ts) (Mark j ∷ s) = None

abbrev pub leads_to : Option ℕ → ℕ → Bool
leads_to None a = false
leads_to (Some b) a = b == a

abbrev pub less_mark : Contents → (o a : ℕ) → Stack → Option Stack
less_mark T o a [] = None
less_mark T o a (Value t ∷ s) = None
less_mark T o a (Mark j ∷ s) = cond (leads_to (ancestor T j o) a) (Some s) None

abbrev pub and_then : Option Stack → (Stack → Option Stack) → Option Stack
and_then None f = None
and_then (Some s) f = f s

abbrev pub less : Contents → (o : ℕ) → Takes → Stack → Option Stack
less T o (Kinds t u) s = less_kinds (listed t ++ listed u) s
less T o (Parameters P) s = less_kinds (parameters_down T P) s
less T o (Call P) s = and_then (less_kinds (parameters_down T P) s) (less_mark T o P.parent)

abbrev pub more : Gives → Stack → Stack
more gives.Nothing s = s
more (gives.One t) s = Value t ∷ s
more (gives.Two t) s = Value t ∷ Value t ∷ s
more (gives.Mark j) s = Mark j ∷ s

abbrev pub Took : Result (Unit {0}) Breach → Option Stack → Stack → Type 0
Took (Ok u) should is = should ≡ Some is
Took (Err b) should is = (should ≡ None) × (b ≡ WrongStack)

abbrev pub fitting : Gives → Bool
fitting g = every proper (more g [])

abbrev pub Gave : Result (Unit {0}) Breach → Gives → (depth room : ℕ) → (should is : Stack) → Type 0
Gave (Ok u) g depth room should is = is ≡ should
Gave (Err b) g depth room should is = fitting g ≡ true → depth + length (more g []) ≤ room → ⊥
