-- What the check of letters and operands means, stated on its contract. Assumes nothing.
--   Allowed: the letters T and T2 that a mnemonic may have
--   OperandRule: what p and q must name by the rule of the mnemonic, for an instruction of procedure o
--   InstructionRule: the rules of letters and operands for instruction n
--   InstructionIsChecked: the test of an instruction holds exactly where its rule does
--   OperandsAreChecked: no fault is found exactly where every instruction keeps its rule
--   OperandsName: a fault names the lowest instruction that breaks its rule
use Rattle.std.specs.Prelude.{◌≡◌, ℕ, ◌+◌, ◌<◌, ◌≤◌, true, false, ◌⊎◌, length, ℤ, pos, Some, None, Decides, Option, ◌≢◌}
use Rattle.sheet.specs.declared.instruction.Instruction.{Instruction}
use Rattle.sheet.specs.declared.kind.Kind.{Kind}
use Rattle.sheet.specs.declared.kind.Kind.TheVariants.{Address, Boolean, Character, Integer, Real}
use Rattle.sheet.specs.declared.procedure.Procedure.{Procedure}
use Rattle.sheet.specs.declared.shape.Letters.{Letters}
use Rattle.sheet.specs.declared.shape.Letters.TheVariants as letters
use Rattle.sheet.specs.declared.shape.Rule.{Rule}
use Rattle.sheet.specs.declared.shape.Rule.TheVariants as rule
use Rattle.sheet.specs.Shapes.{shape_of}
use Rattle.sheet.specs.Tables.{Contents}
use Rattle.rules.specs.declared.fault.TableFault.{TableFault}
use Rattle.rules.specs.declared.fault.TableFault.TheVariants.{NotAllowed}
use Rattle.rules.specs.Lookups.{procedure_at, ancestor, owner, enters}
use Rattle.rules.specs.Operands.{kind_at, instruction_ok, operand_fault}
use Rattle.rules.specs.Throughout.{HoldsThroughout, BreaksFirst}

abbrev pub Allowed : Letters → Option Kind → Option Kind → Type 0
Allowed letters.Nothing t u = (t ≡ None) × (u ≡ None)
Allowed letters.Number t u = ((t ≡ Some Integer) ⊎ (t ≡ Some Real)) × (u ≡ None)
Allowed letters.Every t u = (t ≢ None) × (u ≡ None)
Allowed letters.Ordinal t u = ((t ≡ Some Address) ⊎ ((t ≡ Some Character) ⊎ (t ≡ Some Integer))) × (u ≡ None)
Allowed letters.Reads t u = ((t ≡ Some Boolean) ⊎ ((t ≡ Some Character) ⊎ ((t ≡ Some Integer) ⊎ (t ≡ Some Real)))) × (u ≡ None)
Allowed letters.Pair t u =
    ((t ≡ Some Integer) × (u ≡ Some Real))
    ⊎ (((t ≡ Some Real) × (u ≡ Some Integer)) ⊎ (((t ≡ Some Character) × (u ≡ Some Integer)) ⊎ ((t ≡ Some Integer) × (u ≡ Some Character))))

-- an operand that is a number from 0 on, of which Q holds
abbrev pub Is : ℤ → (ℕ → Type 0) → Type 0
Is z Q = (n : ℕ) × (z ≡ pos n) × Q n

-- the p-th ancestor of procedure o exists, and Q holds of it
abbrev pub Ancestor : Contents → (p o : ℕ) → (Procedure → Type 0) → Type 0
Ancestor T p o Q = (a : ℕ) × (ancestor T p o ≡ Some a) × Q (procedure_at T a)

-- offset q is one of P's data cells
abbrev pub Data : Procedure → ℕ → Type 0
Data P q = (5 ≤ q) × (q < 5 + P.count)

-- offset 0 is the result, of kind t
abbrev pub ResultCell : Procedure → Option Kind → ℕ → Type 0
ResultCell P t q = (q ≡ 0) × (P.result ≡ t)

-- q is the first instruction of the procedure numbered c, which is P: not 0, and with p parameters
pub record Callee (T : Contents) (p q c : ℕ) (P : Procedure) : Type 0 where
  pub inside : q < length T.code
  pub not_main : c ≡ 0 → ⊥
  pub begins : P.first ≡ q
  pub takes : P.parameters ≡ p

abbrev pub ConstantRule : Contents → Option Kind → ℤ → Type 0
ConstantRule T None q = ⊥
ConstantRule T (Some Address) q = Is q (Data (procedure_at T 0))
ConstantRule T (Some Boolean) q = Is q (λ n. n ≤ 1)
ConstantRule T (Some Character) q = Is q (λ n. n ≤ 255)
ConstantRule T (Some Integer) q = Unit {0}
ConstantRule T (Some Real) q = Unit {0}

abbrev pub OperandRule : Contents → ℕ → Rule → Option Kind → ℤ → ℤ → Type 0
OperandRule T o rule.Free t p q = Unit {0}
OperandRule T o rule.Constant t p q = ConstantRule T t q
OperandRule T o rule.Global t p q = Is q (λ q. kind_at T (procedure_at T 0) q ≡ t)
OperandRule T o rule.Local t p q = Is p (λ p. Is q (λ q. Ancestor T p o (λ P. ResultCell P t q ⊎ (kind_at T P q ≡ t))))
OperandRule T o rule.Address t p q = Is p (λ p. Is q (λ q. Ancestor T p o (λ P. Data P q)))
OperandRule T o rule.Label t p q = Is q (λ q. (q < length T.code) × ((owner T q ≡ o) × (q ≢ (procedure_at T o).first)))
OperandRule T o rule.Link t p q = Is p (λ p. ancestor T p o ≢ None)
OperandRule T o rule.Call t p q = Is p (λ p. Is q (λ q. Callee T p q (owner T q) (procedure_at T (owner T q))))
OperandRule T o rule.Enter t p q = Is p (λ p. Is q (λ q. (p ≤ 40) × (q ≡ 5 + (procedure_at T o).count)))
OperandRule T o rule.Function t p q = (o ≢ 0) × ((procedure_at T o).result ≢ None)
OperandRule T o rule.Procedure t p q = (o ≢ 0) × ((procedure_at T o).result ≡ None)

-- instruction n, which is x
pub record InstructionRule (T : Contents) (n : ℕ) (x : Instruction) : Type 0 where
  pub letters : Allowed (shape_of x.mnemonic).letters x.t x.t2
  pub no_p : (shape_of x.mnemonic).p ≡ false → x.p ≡ pos 0
  pub no_q : (shape_of x.mnemonic).q ≡ false → x.q ≡ pos 0
  pub ent_is_first : enters (shape_of x.mnemonic).rule ≡ true → n ≡ (procedure_at T (owner T n)).first
  pub first_is_ent : n ≡ (procedure_at T (owner T n)).first → enters (shape_of x.mnemonic).rule ≡ true
  pub operands : OperandRule T (owner T n) (shape_of x.mnemonic).rule x.t x.p x.q

abbrev pub InstructionIsChecked : Type 0
InstructionIsChecked = (T : Contents) (n : ℕ) (x : Instruction) → Decides (instruction_ok T n x) (InstructionRule T n x)

abbrev pub OperandsAreChecked : Type 0
OperandsAreChecked = (T : Contents)
    → (operand_fault T ≡ None → HoldsThroughout (InstructionRule T) T.code) × (HoldsThroughout (InstructionRule T) T.code → operand_fault T ≡ None)

abbrev pub OperandsName : Type 0
OperandsName = (T : Contents) (f : TableFault) → operand_fault T ≡ Some f → (n : ℕ) × (f ≡ NotAllowed n) × BreaksFirst (InstructionRule T) T.code n
