-- The transfer function: the stacks that an instruction hands on, or the rule that it breaks. Cited by the verifier.
-- Assumes nothing.
--   handed: to whom a stack goes, the label before the next instruction
--   has_next: the next instruction lies in the same procedure
--   transfer: what instruction n does with the stack s before it; the rules are tested in the order of Breach
--   stack_of: the stack of a row record
--   outcome: what an answer of the transfer function hands on
--   SendsARow: a row that it sends is one
--   Checked: the table keeps the rules of tables and of operands
use Rattle.std.specs.Prelude.{◌≡◌, ℕ, ◌+◌, Bool, true, false, cond, ◌&&◌, List, [], ◌∷◌, reverse, length, Some, None, Ok, Err, Option, Result, ◌==◌, nat_le, nat_lt}
use Rattle.std.specs.List.{slice_get}
use Rattle.sheet.specs.declared.instruction.Instruction.{Instruction}
use Rattle.sheet.specs.Tables.{Contents}
use Rattle.rules.specs.declared.effects.Effect.{Effect}
use Rattle.rules.specs.declared.effects.Gives.{Gives}
use Rattle.rules.specs.declared.effects.Way.{Way}
use Rattle.rules.specs.declared.effects.Way.TheVariants.{Halt, Next, Jump, Fork}
use Rattle.rules.specs.Effects.{effect_of}
use Rattle.rules.specs.Lookups.{owner, room_at}
use Rattle.rules.specs.Operands.{first_fault}
use Rattle.rows.specs.declared.row.Row.{Row}
use Rattle.rows.specs.Rows.{entries, is_row}
use Rattle.transfer.specs.declared.breach.Breach.{Breach}
use Rattle.transfer.specs.declared.breach.Breach.TheVariants.{WrongStack, StackTooHigh, PastTheEnd}
use Rattle.transfer.specs.declared.sent.Sent.{Sent}
use Rattle.transfer.specs.Stacks.{Stack, cells_on, less, more}

abbrev pub handed : Way → ℕ → Stack → List (ℕ × Stack)
handed Halt n s = []
handed Next n s = (n + 1, s) ∷ []
handed (Jump q) n s = (q, s) ∷ []
handed (Fork q) n s = (q, s) ∷ (n + 1, s) ∷ []

-- whether it may go on with the next instruction
abbrev pub falls_through : Way → Bool
falls_through Halt = false
falls_through Next = true
falls_through (Jump q) = false
falls_through (Fork q) = true

abbrev pub has_next : Contents → ℕ → Bool
has_next T n = nat_lt (n + 1) (length T.code) && owner T (n + 1) == owner T n

abbrev pub stays : Contents → ℕ → Way → Bool
stays T n w = cond (falls_through w) (has_next T n) true

-- what is left once it took what it takes
abbrev pub passed_on : Contents → ℕ → Gives → Way → Option Stack → Result (List (ℕ × Stack)) Breach
passed_on T n g w None = Err WrongStack
passed_on T n g w (Some s) =
    cond (nat_le (cells_on (more g s)) (room_at T n))
    (cond (stays T n w) (Ok (handed w n (more g s))) (Err PastTheEnd))
    (Err StackTooHigh)

-- a halting instruction takes any stack
abbrev pub goes : Contents → ℕ → Effect → Way → Stack → Result (List (ℕ × Stack)) Breach
goes T n e Halt s = Ok []
goes T n e Next s = passed_on T n e.gives Next (less T (owner T n) e.takes s)
goes T n e (Jump q) s = passed_on T n e.gives (Jump q) (less T (owner T n) e.takes s)
goes T n e (Fork q) s = passed_on T n e.gives (Fork q) (less T (owner T n) e.takes s)

abbrev pub goes_from : Contents → ℕ → Option Instruction → Stack → Result (List (ℕ × Stack)) Breach
goes_from T n None s = Ok []
goes_from T n (Some x) s = goes T n (effect_of T n x) (effect_of T n x).way s

abbrev pub transfer : Contents → ℕ → Stack → Result (List (ℕ × Stack)) Breach
transfer T n s = goes_from T n (slice_get T.code n) s

abbrev pub stack_of : Row → Stack
stack_of r = reverse (entries r)

abbrev pub outcome : ℕ → Result Sent Breach → Result (List (ℕ × Stack)) Breach
outcome n (Ok sent) = Ok (handed sent.way n (stack_of sent.row))
outcome n (Err b) = Err b

abbrev pub SendsARow : Result Sent Breach → Type 0
SendsARow (Ok sent) = is_row sent.row ≡ true
SendsARow (Err b) = Unit {0}

abbrev pub Checked : Contents → Type 0
Checked T = first_fault T ≡ None
