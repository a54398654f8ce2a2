-- What the effects of a table without a fault keep to, stated on the function that gives them, so that nothing above it
-- needs to know the mnemonics. Assumes nothing.
--   SoundTakes: parameters that are taken are at most 35, and their kinds stand in the list of cells
--   SoundGives: a mark that is given leads at most 7 links up
--   SoundWay: a label lies in the same procedure, and is not its first instruction
--   EffectsAreSound: all three, for every instruction of a table without a fault
use Rattle.std.specs.Prelude.{◌≡◌, ℕ, ◌+◌, ◌<◌, ◌≤◌, length, Some, None, ◌≢◌}
use Rattle.std.specs.List.{slice_get}
use Rattle.sheet.specs.declared.instruction.Instruction.{Instruction}
use Rattle.sheet.specs.declared.procedure.Procedure.{Procedure}
use Rattle.sheet.specs.Tables.{Contents}
use Rattle.rules.specs.declared.effects.Effect.{Effect}
use Rattle.rules.specs.declared.effects.Takes.{Takes}
use Rattle.rules.specs.declared.effects.Takes.TheVariants.{Kinds, Parameters, Call}
use Rattle.rules.specs.declared.effects.Gives.{Gives}
use Rattle.rules.specs.declared.effects.Gives.TheVariants.{Nothing, One, Two, Mark}
use Rattle.rules.specs.declared.effects.Way.{Way}
use Rattle.rules.specs.declared.effects.Way.TheVariants.{Halt, Next, Jump, Fork}
use Rattle.rules.specs.Effects.{effect_of}
use Rattle.rules.specs.Lookups.{procedure_at, owner}
use Rattle.rules.specs.Operands.{first_fault}

abbrev pub Laid : Contents → Procedure → Type 0
Laid T P = (P.parameters ≤ 35) × (P.offset + P.parameters ≤ length T.cells)

abbrev pub Label : Contents → (n q : ℕ) → Type 0
Label T n q = (q < length T.code) × ((owner T q ≡ owner T n) × (q ≢ (procedure_at T (owner T n)).first))

abbrev pub SoundTakes : Contents → Takes → Type 0
SoundTakes T (Kinds t u) = Unit {0}
SoundTakes T (Parameters P) = Laid T P
SoundTakes T (Call P) = Laid T P

abbrev pub SoundGives : Gives → Type 0
SoundGives Nothing = Unit {0}
SoundGives (One t) = Unit {0}
SoundGives (Two t) = Unit {0}
SoundGives (Mark j) = j ≤ 7

abbrev pub SoundWay : Contents → ℕ → Way → Type 0
SoundWay T n Halt = Unit {0}
SoundWay T n Next = Unit {0}
SoundWay T n (Jump q) = Label T n q
SoundWay T n (Fork q) = Label T n q

abbrev pub Sound : Contents → ℕ → Effect → Type 0
Sound T n e = SoundTakes T e.takes × SoundGives e.gives × SoundWay T n e.way

abbrev pub EffectsAreSound : Type 0
EffectsAreSound = (T : Contents) → first_fault T ≡ None → (n : ℕ) (x : Instruction) → slice_get T.code n ≡ Some x → Sound T n (effect_of T n x)
