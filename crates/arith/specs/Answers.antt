-- What an operation answers, cited by every definition that may be refused. Assumes nothing.
--   Answer: a result, or what stops the step
--   demand: the cause, unless the test passes
--   _>>=_: goes on with the result
--   _>>_: goes on where nothing stopped it
use Rattle.std.specs.Prelude.{Bool, true, false, Ok, Err, Result}
use Rattle.sheet.specs.declared.stop.Stop.{Stop}

infixr 10 ◌>>=◌
infixr 10 ◌>>◌
abbrev pub Answer : Type 0 → Type 0
Answer A = Result A Stop

abbrev pub ◌>>=◌ : {A B : Type 0} → Answer A → (A → Answer B) → Answer B
Ok x >>= f = f x
Err s >>= f = Err s

abbrev pub ◌>>◌ : {A B : Type 0} → Answer A → Answer B → Answer B
Ok x >> r = r
Err s >> r = Err s

abbrev pub demand : Bool → Stop → Answer (Unit {0})
demand true s = Ok tt
demand false s = Err s
