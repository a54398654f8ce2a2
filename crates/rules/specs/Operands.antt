-- The rules of letters and operands. Cited by the check of them and by what it means. Assumes nothing.
--   holds, both: there is a number, or two, and the test holds of them
--   unused_ok: an operand that the mnemonic does not use is 0
--   is_cell: offset q of a frame is a data cell; they lie at 5 to 4 + d
--   kind_at: the kind of that data cell, if there is one
--   ent_ok: ent is the first instruction of each procedure and stands nowhere else
--   constant_ok, cell_ok, variable_ok, local_ok, address_ok, label_ok, call_ok, enter_ok: q, or p and q, are what each rule asks:
--     a constant of the kind, a data cell of the kind, one or the result at 0, one of an ancestor, any of an ancestor, a label, a
--     first instruction with so many parameters, the cells of a frame
--   rule_ok: p and q name what the rule of the mnemonic asks, for an instruction of procedure o
--   shape_ok, instruction_ok: an instruction has the letters and operands of its shape
--   operand_fault: the lowest instruction that breaks a rule
--   first_fault: a fault of the table, else of its operands
use Rattle.std.specs.Prelude.{ℕ, ◌+◌, ◌-◌, Bool, true, false, cond, not, ◌&&◌, ◌||◌, leb, length, ℤ, pos, negsuc, is_some, Some, None, Option, ◌==◌, nat_le, nat_lt}
use Rattle.std.specs.List.{slice_get}
use Rattle.std.specs.Option.{option_map, option_or}
use Rattle.sheet.specs.declared.instruction.Instruction.{Instruction}
use Rattle.sheet.specs.declared.kind.Kind.{Kind}
use Rattle.sheet.specs.declared.kind.Kind.TheVariants as kind
use Rattle.sheet.specs.declared.procedure.Procedure.{Procedure}
use Rattle.sheet.specs.declared.shape.Rule.{Rule}
use Rattle.sheet.specs.declared.shape.Rule.TheVariants as rule
use Rattle.sheet.specs.declared.shape.Shape.{Shape}
use Rattle.sheet.specs.Shapes.{shape_of}
use Rattle.sheet.specs.Tables.{Contents}
use Rattle.rules.specs.declared.fault.TableFault.{TableFault}
use Rattle.rules.specs.declared.fault.TableFault.TheVariants.{NotAllowed}
use Rattle.rules.specs.Faults.{lowest}
use Rattle.rules.specs.Letters.{same_letter, letters_ok}
use Rattle.rules.specs.Lookups.{procedure_at, ancestor, owner, index, enters}
use Rattle.rules.specs.Procedures.{table_fault}

abbrev pub holds : Option ℕ → (ℕ → Bool) → Bool
holds None test = false
holds (Some n) test = test n

abbrev pub both : Option ℕ → Option ℕ → (ℕ → ℕ → Bool) → Bool
both p q test = holds p (λ m. holds q (λ n. test m n))

abbrev pub is_zero : ℤ → Bool
is_zero (pos n) = n == 0
is_zero (negsuc n) = false

abbrev pub unused_ok : Shape → ℤ → ℤ → Bool
unused_ok s p q = (s.p || is_zero p) && (s.q || is_zero q)

abbrev pub is_cell : Procedure → ℕ → Bool
is_cell P q = nat_le 5 q && nat_lt q (5 + P.count)

abbrev pub kind_at : Contents → Procedure → ℕ → Option Kind
kind_at T P q = cond (is_cell P q) (slice_get T.cells (P.offset + (q - 5))) None

-- for a, the offset of a data cell of procedure 0
abbrev pub constant_ok : Contents → Option Kind → Option ℕ → Bool
constant_ok T None q = false
constant_ok T (Some kind.Address) q = holds q (λ n. is_cell (procedure_at T 0) n)
constant_ok T (Some kind.Boolean) q = holds q (λ n. leb n 1)
constant_ok T (Some kind.Character) q = holds q (λ n. leb n 255)
constant_ok T (Some kind.Integer) q = true
constant_ok T (Some kind.Real) q = true

-- a data cell of kind t
abbrev pub cell_ok : Contents → Procedure → Option Kind → ℕ → Bool
cell_ok T P t q = same_letter (kind_at T P q) t

-- or the result, at offset 0
abbrev pub variable_ok : Contents → Procedure → Option Kind → ℕ → Bool
variable_ok T P t q = (q == 0 && same_letter P.result t) || cell_ok T P t q

-- in the p-th ancestor of procedure o
abbrev pub local_ok : Contents → ℕ → Option Kind → (p q : ℕ) → Bool
local_ok T o t p q = holds (ancestor T p o) (λ a. variable_ok T (procedure_at T a) t q)

abbrev pub address_ok : Contents → ℕ → (p q : ℕ) → Bool
address_ok T o p q = holds (ancestor T p o) (λ a. is_cell (procedure_at T a) q)

abbrev pub label_ok : Contents → ℕ → ℕ → Bool
label_ok T o q = nat_lt q (length T.code) && (owner T q == o && not (q == (procedure_at T o).first))

-- q is the first instruction of the procedure that it lies in, which is not 0 and has p parameters
abbrev pub call_ok : Contents → ℕ → ℕ → Bool
call_ok T p q =
    nat_lt q (length T.code) && (not (owner T q == 0) && ((procedure_at T (owner T q)).first == q && (procedure_at T (owner T q)).parameters == p))

abbrev pub enter_ok : Procedure → ℕ → ℕ → Bool
enter_ok P p q = nat_le p 40 && q == 5 + P.count

module _ (T : Contents) (o : ℕ) where
  abbrev pub rule_ok : Rule → Option Kind → Option ℕ → Option ℕ → Bool
  rule_ok rule.Free t p q = true
  rule_ok rule.Constant t p q = constant_ok T t q
  rule_ok rule.Global t p q = holds q (λ q. cell_ok T (procedure_at T 0) t q)
  rule_ok rule.Local t p q = both p q (λ p q. local_ok T o t p q)
  rule_ok rule.Address t p q = both p q (λ p q. address_ok T o p q)
  rule_ok rule.Label t p q = holds q (λ q. label_ok T o q)
  rule_ok rule.Link t p q = holds p (λ p. is_some (ancestor T p o))
  rule_ok rule.Call t p q = both p q (λ p q. call_ok T p q)
  rule_ok rule.Enter t p q = both p q (λ p q. enter_ok (procedure_at T o) p q)
  rule_ok rule.Function t p q = not (o == 0) && is_some (procedure_at T o).result
  rule_ok rule.Procedure t p q = not (o == 0) && not (is_some (procedure_at T o).result)

abbrev pub ent_ok : Contents → (o n : ℕ) → Rule → Bool
ent_ok T o n r = cond (enters r) (n == (procedure_at T o).first) (not (n == (procedure_at T o).first))

abbrev pub shape_ok : Contents → (o n : ℕ) → Shape → Instruction → Bool
shape_ok T o n s x =
    letters_ok s.letters x.t x.t2 && (unused_ok s x.p x.q && (ent_ok T o n s.rule && rule_ok T o s.rule x.t (index x.p) (index x.q)))

abbrev pub instruction_ok : Contents → ℕ → Instruction → Bool
instruction_ok T n x = shape_ok T (owner T n) n (shape_of x.mnemonic) x

abbrev pub operand_fault : Contents → Option TableFault
operand_fault T = option_map NotAllowed (lowest (instruction_ok T) 0 T.code)

abbrev pub first_fault : Contents → Option TableFault
first_fault T = option_or (table_fault T) (operand_fault T)
