-- What a table holds, cited by the reader of its text and by the rules. Assumes nothing.
--   Contents: the three lists of a table
--   entry_of: the place in the code where a procedure begins
use Rattle.std.specs.Prelude.{List, pos}
use Rattle.sheet.specs.declared.kind.Kind.{Kind}
use Rattle.sheet.specs.declared.place.CodePlace.{CodePlace}
use Rattle.sheet.specs.declared.procedure.Procedure.{Procedure}
use Rattle.sheet.specs.declared.instruction.Instruction.{Instruction}

pub record Contents : Type 0 where
  pub procedures : List Procedure
  -- the kinds of the data cells of all procedures, one after another
  pub cells : List Kind
  pub code : List Instruction

abbrev pub entry_of : Procedure → CodePlace
entry_of P = record { 0 = pos P.first }
