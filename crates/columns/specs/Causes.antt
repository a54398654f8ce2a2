-- Why a text is refused: laws on its readers. Assumes nothing.
--   tally: what a list of lines counts
--   AllPass: every line passes a test, given what the lines before it count
--   FirstToFail: line n, from 1, is the first that fails it
--   RefusedForCause: a refused table's text has the fault named at the line named, no line before has it, and no line
--     of the whole text has a fault of a lower number; a text that is read has none
use Rattle.std.specs.Prelude.{◌≡◌, ℕ, ◌+◌, Bool, true, false, List, [], ◌∷◌, ◌++◌, length, Ok, Err, Result}
use Rattle.sheet.specs.Tables.{Contents}
use Rattle.columns.specs.declared.fault.TextFault.{TextFault}
use Rattle.columns.specs.declared.fault.TextFault.TheVariants.{Malformed, Misplaced, TooLong}
use Rattle.columns.specs.declared.table_text.Extent.{Extent}
use Rattle.columns.specs.TableText.{Form, Order, Room, Scan, lines_of, counted, start, passes, read_table}

abbrev pub tally : {C X : Type 0} → (C → X → C) → C → List X → C
tally count c [] = c
tally count c (x ∷ xs) = tally count (count c x) xs

abbrev pub AllPass : {C X : Type 0} → (C → X → C) → (C → X → Bool) → C → List X → Type 0
AllPass {C} {X} count test c xs = (front : List X) (x : X) (back : List X) → xs ≡ front ++ (x ∷ back) → test (tally count c front) x ≡ true

pub record FirstToFail {C X : Type 0} (count : C → X → C) (test : C → X → Bool) (c : C) (xs : List X) (n : ℕ) : Type 0 where
  pub front : List X
  pub line : X
  pub back : List X
  pub whole : xs ≡ front ++ (line ∷ back)
  pub place : n ≡ length front + 1
  pub fails : test (tally count c front) line ≡ false
  pub before : AllPass count test c front

abbrev pub Clear : Scan → List ℕ → Type 0
Clear s text = AllPass counted (passes s) start (lines_of text)

abbrev pub Faulty : Scan → List ℕ → ℕ → Type 0
Faulty s text n = FirstToFail counted (passes s) start (lines_of text) n

abbrev pub Cause : Extent → List ℕ → TextFault → Type 0
Cause room text (Malformed n) = Faulty Form text n
Cause room text (Misplaced n) = Clear Form text × Faulty Order text n
Cause room text (TooLong n) = Clear Form text × Clear Order text × Faulty (Room room) text n

abbrev pub Justified : Extent → List ℕ → Result Contents TextFault → Type 0
Justified room text (Ok t) = Clear Form text × Clear Order text × Clear (Room room) text
Justified room text (Err f) = Cause room text f

abbrev pub RefusedForCause : Type 0
RefusedForCause = (room : Extent) (text : List ℕ) → Justified room text (read_table room text)
