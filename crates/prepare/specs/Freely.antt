-- A text read and judged with no list too short: what it comes to whoever lends the lists. Cited by the programs' crates.
-- Assumes nothing.
--   read_freely: the table that the reader finds where no list is too short
--   judged_freely: what comes of judging it, likewise
use Rattle.std.specs.Prelude.{ℕ, List, length, Ok, Err, Result}
use Rattle.sheet.specs.Tables.{Contents}
use Rattle.columns.specs.declared.fault.TextFault.{TextFault}
use Rattle.columns.specs.declared.fault.TextFault.TheVariants.{Malformed, Misplaced}
use Rattle.columns.specs.Faults.{refuse}
use Rattle.columns.specs.TableText.{Form, Order, first_fault, contents, lines_of}
use Rattle.prepare.specs.declared.fault.PrepareFault.{PrepareFault}
use Rattle.prepare.specs.declared.fault.PrepareFault.TheVariants.{Text}
use Rattle.prepare.specs.declared.prepare.Prepared.{Prepared}
use Rattle.prepare.specs.Preparing.{prepared}

-- so 13 is never the answer
abbrev pub read_freely : List ℕ → Result Contents TextFault
read_freely text =
    refuse Malformed (first_fault Form text)
    (refuse Misplaced (first_fault Order text)
    (Ok (contents (lines_of text))))

-- and 26 is not either
abbrev pub judged_freely : Result Contents TextFault → Result Prepared PrepareFault
judged_freely (Ok T) = prepared (Ok T) (length T.code) (length T.code)
judged_freely (Err f) = Err (Text f)
