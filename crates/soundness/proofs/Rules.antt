-- The rule that a table with rows keeps at each instruction that has one, by its operation.
use Rattle.std.proofs.Common.{◌≡◌, ℕ, ◌+◌, ◌<◌, ◌≤◌, Bool, true, false, eqb, ◌⊎◌, List, [], ◌∷◌, ◌++◌, length, Some, None, Option}
use Rattle.std.specs.List.{slice_get}
use Rattle.sheet.specs.declared.kind.Kind.{Kind}
use Rattle.sheet.specs.declared.kind.Kind.TheVariants as k
use Rattle.sheet.specs.declared.operation.Binary.{Binary}
use Rattle.sheet.specs.declared.operation.Unary.{Unary}
use Rattle.sheet.specs.Kinds.{kind_of, is_value}
use Rattle.sheet.specs.Tables.{Contents}
use Rattle.rules.specs.Lookups.{procedure_at, ancestor, owner, room_of}
use Rattle.rows.specs.declared.entry.Entry.TheVariants as entry
use Rattle.transfer.specs.Stacks.{Stack, cells_on, less}
use Rattle.machine.specs.declared.operation.Operation.{Operation}
use Rattle.machine.specs.declared.operation.Operation.TheVariants.{Two, One, Ldc, Dpl, Ldo, Sro, Lod, Str, Lda, Ind, Sto, Ujp, Fjp, In, Out, Mst, Cup, Ent, Retf, Retp, Hlt}
use Rattle.machine.specs.States.{code_at}
use Rattle.sheet.specs.declared.operation.Numeric.{Numeric}
use Rattle.sheet.specs.declared.operation.Numeric.TheVariants as numeric
use Rattle.sheet.specs.declared.operation.Ordinal.{Ordinal}
use Rattle.sheet.specs.declared.operation.Ordinal.TheVariants as ordinals
use Rattle.sheet.specs.declared.operation.Conversion.TheVariants.{IntegerToReal, RealToInteger, CharacterToInteger, IntegerToCharacter}
use Rattle.sheet.specs.declared.operation.Binary.TheVariants as b2
use Rattle.sheet.specs.declared.operation.Unary.TheVariants as b1
use Rattle.machine.specs.Frames.{parameter_kinds, local_kinds}
use Rattle.rules.specs.declared.effects.Takes.TheVariants.{Call}
use Rattle.soundness.specs.Frames.{Rows, operation_at}

-- What a procedure declares: its parameters and its other data cells, and its result.
pub record Declaration : Type 0 where
  pub parent : ℕ
  pub first : ℕ
  pub parameters : List Kind
  pub locals : List Kind
  pub result : Option Kind

-- of procedure n
abbrev pub declaration : Contents → ℕ → Declaration
declaration T n = record {
  parent = (procedure_at T n).parent;
  first = (procedure_at T n).first;
  parameters = parameter_kinds T (procedure_at T n);
  locals = local_kinds T (procedure_at T n);
  result = (procedure_at T n).result;
}

-- the elements of a list, laid one above the other
abbrev pub laid : {A B : Type 0} → (A → B) → List A → List B → List B
laid f [] below = below
laid f (x ∷ xs) below = laid f xs (f x ∷ below)

-- What the operations take, the lower first, and give.
abbrev pub num : Numeric → Kind
num numeric.Integer = k.Integer
num numeric.Real = k.Real

abbrev pub ordinal : Ordinal → Kind
ordinal ordinals.Address = k.Address
ordinal ordinals.Character = k.Character
ordinal ordinals.Integer = k.Integer

abbrev pub left : Binary → Kind
left (b2.Arithmetic a n) = num n
left b2.And = k.Boolean
left b2.Or = k.Boolean
left (b2.Compare r t) = t
left (b2.Index q) = k.Address

abbrev pub right : Binary → Kind
right (b2.Arithmetic a n) = num n
right b2.And = k.Boolean
right b2.Or = k.Boolean
right (b2.Compare r t) = t
right (b2.Index q) = k.Integer

abbrev pub both_give : Binary → Kind
both_give (b2.Arithmetic a n) = num n
both_give b2.And = k.Boolean
both_give b2.Or = k.Boolean
both_give (b2.Compare r t) = k.Boolean
both_give (b2.Index q) = k.Address

abbrev pub one_takes : Unary → Kind
one_takes (b1.Negate n) = num n
one_takes b1.Not = k.Boolean
one_takes (b1.Increment o q) = ordinal o
one_takes (b1.Decrement o q) = ordinal o
one_takes (b1.Check p q) = k.Integer
one_takes (b1.Convert IntegerToReal) = k.Integer
one_takes (b1.Convert RealToInteger) = k.Real
one_takes (b1.Convert CharacterToInteger) = k.Character
one_takes (b1.Convert IntegerToCharacter) = k.Integer

abbrev pub one_gives : Unary → Kind
one_gives (b1.Negate n) = num n
one_gives b1.Not = k.Boolean
one_gives (b1.Increment o q) = ordinal o
one_gives (b1.Decrement o q) = ordinal o
one_gives (b1.Check p q) = k.Integer
one_gives (b1.Convert IntegerToReal) = k.Real
one_gives (b1.Convert RealToInteger) = k.Integer
one_gives (b1.Convert CharacterToInteger) = k.Integer
one_gives (b1.Convert IntegerToCharacter) = k.Character

abbrev pub gave : Option Kind → Stack → Stack
gave None ρ = ρ
gave (Some t) ρ = entry.Value t ∷ ρ

-- the cells that the ent of procedure o leaves for its stack
abbrev pub room : Contents → ℕ → ℕ
room T o = room_of (slice_get T.code (procedure_at T o).first)

abbrev pub begins : Operation → Bool
begins (Two f) = false
begins (One f) = false
begins (Ldc x) = false
begins (Dpl t) = false
begins (Ldo t q) = false
begins (Sro t q) = false
begins (Lda p q) = false
begins (Ujp q) = false
begins (In t) = false
begins (Out t) = false
begins Retp = false
begins (Lod t p q) = false
begins (Str t p q) = false
begins (Ind t) = false
begins (Sto t) = false
begins (Fjp q) = false
begins (Mst p) = false
begins (Cup p q) = false
begins (Ent p q) = true
begins Retf = false
begins Hlt = false

-- Offset q is a data cell of kind t of a frame of P.
abbrev pub CellOf : Declaration → ℕ → Kind → Type 0
CellOf P q t = (j : ℕ) × (q ≡ 5 + j) × (slice_get (P.parameters ++ P.locals) j ≡ Some t)

-- or its result
abbrev pub Declared : Declaration → ℕ → Kind → Type 0
Declared P q t = ((q ≡ 0) × (P.result ≡ Some t)) ⊎ CellOf P q t

-- Instruction n hands stack σ to instruction m.
pub record Handed (T : Contents) (rows : Rows) (n m : ℕ) (σ : Stack) : Type 0 where
  pub meets : rows m ≡ Some σ
  pub inside : owner T m ≡ owner T n
  pub later : eqb m (declaration T (owner T n)).first ≡ false
  pub fits : cells_on σ ≤ room T (owner T n)

pub record Calls (T : Contents) (rows : Rows) (n : ℕ) (ρ : Stack) (k q : ℕ) : Type 0 where
  pub j : ℕ
  pub rest : Stack
  pub first : (declaration T (owner T q)).first ≡ q
  pub many : length (declaration T (owner T q)).parameters ≡ k
  pub takes_row : ρ ≡ laid entry.Value (declaration T (owner T q)).parameters (entry.Mark j ∷ rest)
  pub taken : less T (owner T n) (Call (procedure_at T (owner T q))) ρ ≡ Some rest
  pub whose : ancestor T j (owner T n) ≡ Some (declaration T (owner T q)).parent
  pub handed : Handed T rows n (n + 1) (gave (declaration T (owner T q)).result rest)
  pub starts : rows q ≡ Some (laid entry.Value (declaration T (owner T q)).parameters [])
  pub below : (z : owner T q ≡ 0) → ⊥

abbrev pub Flow : Contents → Rows → ℕ → Stack → Operation → Type 0
Flow T rows n ρ (Two f) = (σ : Stack) × (ρ ≡ entry.Value (right f) ∷ (entry.Value (left f) ∷ σ)) × Handed T rows n (n + 1) (entry.Value (both_give f) ∷ σ)
Flow T rows n ρ (One f) = (σ : Stack) × (ρ ≡ entry.Value (one_takes f) ∷ σ) × Handed T rows n (n + 1) (entry.Value (one_gives f) ∷ σ)
Flow T rows n ρ (Ldc x) = (is_value x ≡ true) × Handed T rows n (n + 1) (entry.Value (kind_of x) ∷ ρ)
Flow T rows n ρ (Dpl t) = (σ : Stack) × (ρ ≡ entry.Value t ∷ σ) × Handed T rows n (n + 1) (entry.Value t ∷ (entry.Value t ∷ σ))
Flow T rows n ρ (Ldo t q) = CellOf (declaration T 0) q t × Handed T rows n (n + 1) (entry.Value t ∷ ρ)
Flow T rows n ρ (Sro t q) = (σ : Stack) × (ρ ≡ entry.Value t ∷ σ) × CellOf (declaration T 0) q t × Handed T rows n (n + 1) σ
Flow T rows n ρ (Lda p q) =
    (a : ℕ) × (ancestor T p (owner T n) ≡ Some a) × ((t : Kind) × CellOf (declaration T a) q t) × Handed T rows n (n + 1) (entry.Value k.Address ∷ ρ)
Flow T rows n ρ (Ujp q) = (m : ℕ) × (q ≡ code_at m) × Handed T rows n m ρ
Flow T rows n ρ (In t) = Handed T rows n (n + 1) (entry.Value t ∷ ρ)
Flow T rows n ρ (Out t) = (σ : Stack) × (ρ ≡ entry.Value t ∷ σ) × Handed T rows n (n + 1) σ
Flow T rows n ρ Retp = ((declaration T (owner T n)).result ≡ None) × (owner T n ≡ 0 → ⊥)
Flow T rows n ρ (Lod t p q) =
    (a : ℕ) × (ancestor T p (owner T n) ≡ Some a) × Declared (declaration T a) q t × Handed T rows n (n + 1) (entry.Value t ∷ ρ)
Flow T rows n ρ (Str t p q) =
    (σ : Stack) × (ρ ≡ entry.Value t ∷ σ) × (a : ℕ) × (ancestor T p (owner T n) ≡ Some a) × Declared (declaration T a) q t × Handed T rows n (n + 1) σ
Flow T rows n ρ (Ind t) = (σ : Stack) × (ρ ≡ entry.Value k.Address ∷ σ) × Handed T rows n (n + 1) (entry.Value t ∷ σ)
Flow T rows n ρ (Sto t) = (σ : Stack) × (ρ ≡ entry.Value t ∷ (entry.Value k.Address ∷ σ)) × Handed T rows n (n + 1) σ
Flow T rows n ρ (Fjp q) = (σ : Stack) × (ρ ≡ entry.Value k.Boolean ∷ σ) × Handed T rows n (n + 1) σ × ((m : ℕ) × (q ≡ code_at m) × Handed T rows n m σ)
Flow T rows n ρ (Mst p) = (a : ℕ) × (ancestor T p (owner T n) ≡ Some a) × Handed T rows n (n + 1) (entry.Mark p ∷ ρ)
Flow T rows n ρ (Cup p q) = (m : ℕ) × (q ≡ code_at m) × Calls T rows n ρ p m
Flow T rows n ρ (Ent p q) =
    (ρ ≡ laid entry.Value (declaration T (owner T n)).parameters []) × (q ≡ 5 + length ((declaration T (owner T n)).parameters ++ (declaration T (owner T n)).locals)) ×
    (room T (owner T n) ≡ p) × Handed T rows n (n + 1) []
Flow T rows n ρ Retf = ((t : Kind) × ((declaration T (owner T n)).result ≡ Some t)) × (owner T n ≡ 0 → ⊥)
Flow T rows n ρ Hlt = Unit {0}

pub record Rule (T : Contents) (rows : Rows) (n : ℕ) (ρ : Stack) : Type 0 where
  pub operation : Operation
  pub inside : n < 4096
  pub there : operation_at T n ≡ Some operation
  pub starts : begins operation ≡ eqb n (declaration T (owner T n)).first
  pub flow : Flow T rows n ρ operation

-- Every instruction with a row keeps its rule, and the run begins at one.
pub record Ruled (T : Contents) (rows : Rows) : Type 0 where
  pub rule : (n : ℕ) (ρ : Stack) → rows n ≡ Some ρ → Rule T rows n ρ
  pub begin : rows 0 ≡ Some []
  pub own : owner T 0 ≡ 0
  pub first : (declaration T 0).first ≡ 0
