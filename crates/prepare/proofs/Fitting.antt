-- Where no list is too short for a text, its records fit the lists.
use Rattle.std.proofs.Common.{◌≡◌, ℕ, ◌+◌, ◌≤◌, Bool, true, false, cond, List, [], ◌∷◌, length, Some, None, Ok, Err, Option, Result, refl, arith}
use Rattle.std.proofs.lemmas.Bool.{ltb-true}
use Rattle.columns.specs.declared.fault.TextFault.{TextFault}
use Rattle.columns.specs.declared.fault.TextFault.TheVariants.{Malformed, Misplaced, TooLong}
use Rattle.columns.specs.declared.line.Line.TheVariants as line
use Rattle.columns.specs.declared.table_text.Counts.{Counts}
use Rattle.columns.specs.declared.table_text.Extent.{Extent}
use Rattle.columns.specs.Faults.{refuse}
use Rattle.columns.specs.Scans.{first_failing}
use Rattle.columns.specs.TableText.{Form, Order, Room, Said, counted, passes, has_room, start, first_fault, procedures_of, cells_of, code_of, lines_of}

passed_by : (b : Bool) (o : Option ℕ) (n : ℕ) → cond b o (Some n) ≡ None → (b ≡ true) × (o ≡ None)
passed_by true o n e = (refl, e)
passed_by false o n e = let z : ◌≡◌ {A = ℕ} 0 1 = cc in absurd (omega arith)

abbrev Fits : Extent → Counts → ℕ → List Said → Type 0
Fits room c at xs =
    (c.total.procedures + length (procedures_of at xs) ≤ room.procedures)
    × (c.total.cells + length (cells_of xs) ≤ room.cells)
    × (c.total.code + length (code_of xs) ≤ room.code)

fits : (room : Extent) (c : Counts) (n at : ℕ) (xs : List Said) → first_failing counted (passes (Room room)) c n xs ≡ None → c.total.procedures ≤ room.procedures
    → c.total.cells ≤ room.cells → c.total.code ≤ room.code → Fits room c at xs
fits room c n at [] e p d i = (omega arith, omega arith, omega arith)
fits room c n at (Ok (line.Procedure h) ∷ xs) e p d i =
    let x = Ok (line.Procedure h) in
    let b = passed_by (has_room room c x) (first_failing counted (passes (Room room)) (counted c x) (n + 1) xs) n e in
    let l = ltb-true c.total.procedures room.procedures b.0 in
    let q = fits room (counted c x) (n + 1) at xs b.1 (omega (arith, l)) d i in
    (omega (arith, q.0), q.1, q.2)
fits room c n at (Ok (line.Cell t) ∷ xs) e p d i =
    let x = Ok (line.Cell t) in
    let b = passed_by (has_room room c x) (first_failing counted (passes (Room room)) (counted c x) (n + 1) xs) n e in
    let l = ltb-true c.total.cells room.cells b.0 in
    let q = fits room (counted c x) (n + 1) (at + 1) xs b.1 p (omega (arith, l)) i in
    (q.0, omega (arith, q.1), q.2)
fits room c n at (Ok (line.Code k y) ∷ xs) e p d i =
    let x = Ok (line.Code k y) in
    let b = passed_by (has_room room c x) (first_failing counted (passes (Room room)) (counted c x) (n + 1) xs) n e in
    let l = ltb-true c.total.code room.code b.0 in
    let q = fits room (counted c x) (n + 1) at xs b.1 p d (omega (arith, l)) in
    (q.0, q.1, omega (arith, q.2))
fits room c n at (Err f ∷ xs) e p d i = fits room c (n + 1) at xs e p d i

-- the answer of the three scans
none_refused : {A : Type 0} (f : ℕ → TextFault) (o : Option ℕ) (r : Result A TextFault) (y : A) → refuse f o r ≡ Ok y → (o ≡ None) × (r ≡ Ok y)
none_refused f None r y e = (refl, e)
none_refused f (Some n) r y e = let z : ◌≡◌ {A = ℕ} 0 1 = cc in absurd (omega arith)

pub read_fits : (room : Extent) (text : List ℕ) (u : Unit {0})
    → refuse Malformed (first_fault Form text) (refuse Misplaced (first_fault Order text) (refuse TooLong (first_fault (Room room) text) (Ok tt))) ≡ Ok u
    → Fits room start 0 (lines_of text)
read_fits room text u e =
    let a = none_refused Malformed (first_fault Form text) (refuse Misplaced (first_fault Order text) (refuse TooLong (first_fault (Room room) text) (Ok tt))) u e in
    let b = none_refused Misplaced (first_fault Order text) (refuse TooLong (first_fault (Room room) text) (Ok tt)) u a.1 in
    let c = none_refused TooLong (first_fault (Room room) text) (Ok tt) u b.1 in
    fits room start 1 0 (lines_of text) c.0 (omega arith) (omega arith) (omega arith)
