-- The refusals of a table: the number and the place of each, and how one is answered. Assumes nothing.
--   fault_number, fault_place: the number of a refusal, and the procedure or instruction that it names, 0 where none
--   cause_of: the words for a refusal
--   lowest: the lowest place at which a test fails, counted from i
--   passed: the answer of a check that finds this fault, or none
use Rattle.std.specs.Prelude.{ℕ, ◌+◌, Bool, cond, List, [], ◌∷◌, Some, None, Ok, Err, Option, Result, codes}
use Rattle.rules.specs.declared.fault.TableFault.{TableFault}
use Rattle.rules.specs.declared.fault.TableFault.TheVariants.{IllFormed, NotAllowed, WrongStack, StackTooHigh, StacksDiffer, PastTheEnd, TooFewPlaces, RowTooHigh}

abbrev pub fault_number : TableFault → ℕ
fault_number (IllFormed n) = 20
fault_number (NotAllowed n) = 21
fault_number (WrongStack n) = 22
fault_number (StackTooHigh n) = 23
fault_number (StacksDiffer n) = 24
fault_number (PastTheEnd n) = 25
fault_number TooFewPlaces = 26
fault_number (RowTooHigh n) = 27

abbrev pub fault_place : TableFault → ℕ
fault_place (IllFormed n) = n
fault_place (NotAllowed n) = n
fault_place (WrongStack n) = n
fault_place (StackTooHigh n) = n
fault_place (StacksDiffer n) = n
fault_place (PastTheEnd n) = n
fault_place TooFewPlaces = 0
fault_place (RowTooHigh n) = n

abbrev pub cause_of : TableFault → List ℕ
cause_of (IllFormed n) = codes "a rule of tables is broken"
cause_of (NotAllowed n) = codes "a letter or operand that is not allowed, or an ent, retf or retp out of place"
cause_of (WrongStack n) = codes "the stack does not end in what the instruction takes"
cause_of (StackTooHigh n) = codes "the stack given exceeds the cells that the procedure's ent allows"
cause_of (StacksDiffer n) = codes "two stacks that meet differ"
cause_of (PastTheEnd n) = codes "the next instruction lies past the procedure"
cause_of TooFewPlaces = codes "fewer rows or places are lent than there are instructions"
cause_of (RowTooHigh n) = codes "the row exceeds the cells that the procedure's ent allows"

abbrev pub lowest : {X : Type 0} → (ℕ → X → Bool) → ℕ → List X → Option ℕ
lowest test i [] = None
lowest test i (x ∷ xs) = cond (test i x) (lowest test (i + 1) xs) (Some i)

abbrev pub passed : Option TableFault → Result (Unit {0}) TableFault
passed None = Ok tt
passed (Some f) = Err f
