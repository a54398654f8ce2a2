-- The walks up the static links and along the parameters, a turn at a time.
use Rattle.std.proofs.Common.{◌≡◌, ℕ, suc, ◌+◌, ◌-◌, ◌<◌, ◌≤◌, List, [], ◌∷◌, length, Ok, Err, refl, arith}
use Rattle.sheet.specs.declared.kind.Kind.{Kind}
use Rattle.sheet.specs.declared.stop.Stop.{Stop}
use Rattle.sheet.specs.declared.value.Value.{Value}
use Rattle.store.specs.declared.cell.Cell.{Cell}
use Rattle.machine.specs.Frames.{passes, passed}
use Rattle.machine.specs.Leaves.{link, base}

pub base_on : (cs : List Cell) (m n i x y : ℕ) → i < n → Ok y ≡ link x m cs → base (n - i) x m cs ≡ base (n - (i + 1)) y m cs
unfolding base
base_on cs m n i x y h e = let q : n - i ≡ suc (n - (i + 1)) = omega arith in rw (q, ← e)

pub base_off : (cs : List Cell) (m n i x : ℕ) (e : Stop) → i < n → Err e ≡ link x m cs → Err e ≡ base (n - i) x m cs
unfolding base
base_off cs m n i x e h q = let z : n - i ≡ suc (n - (i + 1)) = omega arith in rw (z, ← q)

pub base_end : (cs : List Cell) (m n i x : ℕ) → n ≤ i → Ok x ≡ base (n - i) x m cs
unfolding base
base_end cs m n i x h = let q : n - i ≡ 0 = omega arith in rw q

pub passed_on : (t : Kind) (ts us : List Kind) (w x y : ℕ) (cs : List Cell) (v : Value) → us ≡ t ∷ ts → x ≡ w → y ≡ x + 1 → Ok v ≡ passes t x cs → passed ts y cs ≡ passed us w cs
unfolding passed
passed_on t ts us w x y cs v e m n q = rw (e, n, ← m, ← q) refl

pub passed_off : (t : Kind) (ts us : List Kind) (w x : ℕ) (cs : List Cell) (f : Stop) → us ≡ t ∷ ts → x ≡ w → Err f ≡ passes t x cs → Err f ≡ passed us w cs
unfolding passed
passed_off t ts us w x cs f e m q = rw (e, ← m, ← q) refl

pub passed_end : (us : List Kind) (x : ℕ) (cs : List Cell) → length us ≡ 0 → Ok tt ≡ passed us x cs
unfolding passed
passed_end [] x cs h = refl
passed_end (t ∷ ts) x cs h = absurd (omega arith)
