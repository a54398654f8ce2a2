-- Finding the parts of a table. Cited by the rules of tables and by whatever follows one. Assumes nothing.
--   contents_of: what the three lent lists of a table hold
--   procedure_at: procedure n, an empty one past the end of the list
--   ancestor: the j-th ancestor of procedure n; the 0th is itself, the next its parent, and none lies above procedure 0
--   begun: how many procedures, from the first on, have a first instruction not above n
--   owner: the procedure that instruction n lies in, the last of these
--   cells_at: as many data cells from this offset on, as far as the list has them
--   index: an operand as a number from 0 on, if it is one
--   natural: the same, with a negative operand as 0
--   enters: whether a mnemonic of this rule is ent
--   room_at: how many cells of stack the ent of the procedure of instruction n allows, 0 where it has none
use Rattle.std.specs.Prelude.{ℕ, zero, suc, ◌+◌, ◌-◌, Bool, true, false, cond, List, [], ◌∷◌, take, drop, ℤ, pos, negsuc, Some, None, Option, nat_le, slice_index_or}
use Rattle.std.specs.List.{slice_get}
use Rattle.std.specs.Option.{unwrap_or}
use Rattle.sheet.specs.declared.instruction.Instruction.{Instruction}
use Rattle.sheet.specs.declared.kind.Kind.{Kind}
use Rattle.sheet.specs.declared.procedure.Procedure.{Procedure}
use Rattle.sheet.specs.declared.shape.Rule.{Rule}
use Rattle.sheet.specs.declared.shape.Rule.TheVariants as rule
use Rattle.sheet.specs.declared.table.Table.{Table}
use Rattle.sheet.specs.Shapes.{shape_of}
use Rattle.sheet.specs.Tables.{Contents}

abbrev pub contents_of : Table → Contents
contents_of t = record { procedures = t.procedures.now; cells = t.cells.now; code = t.code.now }

abbrev pub no_procedure : Procedure
no_procedure = record { parent = 0; first = 0; parameters = 0; result = None; offset = 0; count = 0 }

abbrev pub procedure_at : Contents → ℕ → Procedure
procedure_at T n = slice_index_or T.procedures n no_procedure

abbrev pub ancestor : Contents → (j n : ℕ) → Option ℕ
ancestor T zero n = Some n
ancestor T (suc j) zero = None
ancestor T (suc j) (suc n) = ancestor T j (procedure_at T (suc n)).parent

-- i procedures come before the list
abbrev pub begun : ℕ → List Procedure → ℕ → ℕ
begun i [] n = i
begun i (P ∷ Ps) n = cond (nat_le P.first n) (begun (i + 1) Ps n) i

abbrev pub owner : Contents → ℕ → ℕ
owner T n = begun 0 T.procedures n - 1

abbrev pub cells_at : Contents → (offset count : ℕ) → List Kind
cells_at T offset count = take count (drop offset T.cells)

abbrev pub index : ℤ → Option ℕ
index (pos n) = Some n
index (negsuc n) = None

abbrev pub natural : ℤ → ℕ
natural z = unwrap_or (index z) 0

abbrev pub enters : Rule → Bool
enters rule.Free = false
enters rule.Constant = false
enters rule.Global = false
enters rule.Local = false
enters rule.Address = false
enters rule.Label = false
enters rule.Link = false
enters rule.Call = false
enters rule.Enter = true
enters rule.Function = false
enters rule.Procedure = false

abbrev pub room_of : Option Instruction → ℕ
room_of None = 0
room_of (Some x) = cond (enters (shape_of x.mnemonic).rule) (natural x.p) 0

abbrev pub room_at : Contents → ℕ → ℕ
room_at T n = room_of (slice_get T.code (procedure_at T (owner T n)).first)
