-- A value less is the negative more.
use Rattle.std.proofs.Common.{◌≡◌, ℤ, neg_ℤ, ap}
use Rattle.sheet.specs.declared.operation.Ordinal.{Ordinal}
use Rattle.sheet.specs.declared.operation.Ordinal.TheVariants as ordinal
use Rattle.sheet.specs.declared.value.Value.{Value}
use Rattle.arith.specs.Operations.{increment, decrement}

pub decrement_increment : (o : Ordinal) (q r : ℤ) (x : Value) → r ≡ neg_ℤ q → increment o r x ≡ decrement o q x
decrement_increment ordinal.Address q r x e = ap (λ n. increment ordinal.Address n x) e
decrement_increment ordinal.Character q r x e = ap (λ n. increment ordinal.Character n x) e
decrement_increment ordinal.Integer q r x e = ap (λ n. increment ordinal.Integer n x) e
