-- Stacks of at most forty cells and of proper entries are rows, before and after an instruction. Assumes nothing.
use Rattle.std.proofs.Common.{◌≡◌, ℕ, zero, suc, ◌+◌, ◌-◌, ◌≤◌, Bool, true, false, cond, ◌&&◌, ltb, leb, List, [], ◌∷◌, ◌++◌, map, reverse, length, drop, replicate, Some, None, Ok, Option, sym, refl, ap, ◌∙◌, subst, arith}
use Rattle.std.specs.List.{slice_get}
use Rattle.std.proofs.lemmas.List.{reverse-append, reverse-reverse, length-reverse, length-map, take_at, drop_at}
use Rattle.std.proofs.lemmas.Bool.{and_parts, and_from, le-leb}
use Rattle.sheet.specs.declared.instruction.Instruction.{Instruction}
use Rattle.sheet.specs.declared.kind.Kind.{Kind}
use Rattle.sheet.specs.Kinds.{same}
use Rattle.sheet.specs.Tables.{Contents}
use Rattle.rules.specs.declared.effects.Takes.{Takes}
use Rattle.rules.specs.declared.effects.Takes.TheVariants.{Kinds, Parameters, Call}
use Rattle.rules.specs.declared.effects.Gives.{Gives}
use Rattle.rules.specs.declared.effects.Gives.TheVariants as gives
use Rattle.rules.specs.declared.effects.Way.{Way}
use Rattle.rules.specs.declared.effects.Way.TheVariants.{Halt, Next, Jump, Fork}
use Rattle.rules.specs.declared.effects.Effect.{Effect}
use Rattle.rules.specs.Effects.{effect_of}
use Rattle.rules.specs.Lookups.{ancestor, owner, room_at}
use Rattle.rows.specs.declared.entry.Entry.{Entry}
use Rattle.rows.specs.declared.entry.Entry.TheVariants.{Value, Mark}
use Rattle.rows.specs.declared.row.Row.{Row}
use Rattle.rows.specs.Entries.{proper, entry_of, byte_of}
use Rattle.rows.specs.Rows.{every, entries, blanks, is_row, packed, record_of}
use Rattle.rows.proofs.Laws.{every_append, entry_code, valid_proper}
use Rattle.transfer.specs.Stacks.{Stack, cells_on, less_kinds, less_mark, leads_to, parameters_down, listed, and_then, less, more, fitting}
use Rattle.transfer.specs.Transfer.{handed, stays, passed_on, goes, goes_from, transfer, stack_of}

pub every_reverse : {X : Type 0} (p : X → Bool) (xs : List X) → every p xs ≡ true → every p (reverse xs) ≡ true
every_reverse p [] h = refl
every_reverse p (x ∷ xs) h =
    let q = and_parts (p x) (every p xs) h in
    ap (every p) (reverse-append (x ∷ []) xs) ∙ every_append p (reverse xs) (x ∷ [])
    ∙ and_from (every p (reverse xs)) (p x && true) (every_reverse p xs q.1) (and_from (p x) true q.0 refl)

pub row_proper : (r : Row) → is_row r ≡ true → every proper (stack_of r) ≡ true
row_proper r v = every_reverse proper (entries r) (valid_proper r v)

pub values_proper : (ts : List Kind) → every proper (map Value ts) ≡ true
values_proper [] = refl
values_proper (t ∷ ts) = values_proper ts

-- every entry has a cell
pub entries_in_cells : (s : Stack) → length s ≤ cells_on s
entries_in_cells [] = omega arith
entries_in_cells (Value k ∷ s) = let h = entries_in_cells s in omega arith
entries_in_cells (Mark j ∷ s) = let h = entries_in_cells s in omega arith

pub length_more : (g : Gives) (s : Stack) → length (more g s) ≡ length s + length (more g [])
length_more gives.Nothing s = omega arith
length_more (gives.One t) s = omega arith
length_more (gives.Two t) s = omega arith
length_more (gives.Mark j) s = omega arith

pub more_proper : (g : Gives) (s : Stack) → fitting g ≡ true → every proper s ≡ true → every proper (more g s) ≡ true
more_proper gives.Nothing s f h = h
more_proper (gives.One t) s f h = h
more_proper (gives.Two t) s f h = h
more_proper (gives.Mark j) s f h = and_from (ltb j 8) (every proper s) (and_parts (ltb j 8) true f).0 h

kinds_proper : (ts : List Kind) (s r : Stack) → less_kinds ts s ≡ Some r → every proper s ≡ true → every proper r ≡ true
kinds_proper [] s r e h = let q : s ≡ r = cc in subst (λ (x : Stack). every proper x ≡ true) q h
kinds_proper (t ∷ ts) [] r e h = absurd (let z : ◌≡◌ {A = ℕ} 0 1 = cc in omega arith)
kinds_proper (t ∷ ts) (Mark j ∷ s) r e h = absurd (let z : ◌≡◌ {A = ℕ} 0 1 = cc in omega arith)
kinds_proper (t ∷ ts) (Value u ∷ s) r e h = by (same u t) e (λ f. kinds_proper ts s r f h)
  where
    by : (b : Bool) → cond b (less_kinds ts s) None ≡ Some r → (less_kinds ts s ≡ Some r → every proper r ≡ true) → every proper r ≡ true
    by true f ih = ih f
    by false f ih = absurd (let z : ◌≡◌ {A = ℕ} 0 1 = cc in omega arith)

mark_proper : (T : Contents) (o a : ℕ) (s r : Stack) → less_mark T o a s ≡ Some r → every proper s ≡ true → every proper r ≡ true
mark_proper T o a [] r e h = absurd (let z : ◌≡◌ {A = ℕ} 0 1 = cc in omega arith)
mark_proper T o a (Value t ∷ s) r e h = absurd (let z : ◌≡◌ {A = ℕ} 0 1 = cc in omega arith)
mark_proper T o a (Mark j ∷ s) r e h = by (leads_to (ancestor T j o) a) e (and_parts (ltb j 8) (every proper s) h).1
  where
    by : (b : Bool) → cond b (Some s) None ≡ Some r → every proper s ≡ true → every proper r ≡ true
    by true f g = let q : s ≡ r = cc in subst (λ (x : Stack). every proper x ≡ true) q g
    by false f g = absurd (let z : ◌≡◌ {A = ℕ} 0 1 = cc in omega arith)

pub less_proper : (T : Contents) (o : ℕ) (t : Takes) (s r : Stack) → less T o t s ≡ Some r → every proper s ≡ true → every proper r ≡ true
less_proper T o (Kinds t u) s r e h = kinds_proper (listed t ++ listed u) s r e h
less_proper T o (Parameters P) s r e h = kinds_proper (parameters_down T P) s r e h
less_proper T o (Call P) s r e h = by (less_kinds (parameters_down T P) s) refl e
  where
    by : (x : Option Stack) → less_kinds (parameters_down T P) s ≡ x → and_then x (less_mark T o P.parent) ≡ Some r → every proper r ≡ true
    by None k f = absurd (let z : ◌≡◌ {A = ℕ} 0 1 = cc in omega arith)
    by (Some w) k f = mark_proper T o P.parent w r f (kinds_proper (parameters_down T P) s w k h)

-- ---- rows
zeros : (k : ℕ) → blanks (replicate k 0) ≡ true
zeros zero = refl
zeros (suc k) = zeros k

codes : (es : List Entry) → every proper es ≡ true → map entry_of (map byte_of es) ≡ es
codes [] h = refl
codes (e ∷ es) h =
    let q = and_parts (proper e) (every proper es) h in
    let a = entry_code e q.0 in
    let b = codes es q.1 in
    λ i. a i ∷ b i

record_entries : (es : List Entry) → every proper es ≡ true → entries (record_of es) ≡ es
record_entries es h = ap (map entry_of) (take_at (map byte_of es) (replicate (40 - length es) 0) (length es) (length-map es byte_of)) ∙ codes es h

record_row : (es : List Entry) → leb (length es) 40 ≡ true → every proper es ≡ true → is_row (record_of es) ≡ true
record_row es l h =
    and_from (leb (length es) 40) (every proper (entries (record_of es)) && blanks (drop (length es) (record_of es).bytes)) l
    (and_from (every proper (entries (record_of es))) (blanks (drop (length es) (record_of es).bytes)) (ap (every proper) (record_entries es h) ∙ h)
    (ap blanks (drop_at (map byte_of es) (replicate (40 - length es) 0) (length es) (length-map es byte_of)) ∙ zeros (40 - length es)))

pub packed_is : (es : List Entry) (r : Row) → packed es ≡ Some r → (is_row r ≡ true) × (stack_of r ≡ reverse es)
packed_is es r e = by (leb (length es) 40 && every proper es) refl e
  where
    by : (b : Bool) → (leb (length es) 40 && every proper es) ≡ b → cond b (Some (record_of es)) None ≡ Some r → (is_row r ≡ true) × (stack_of r ≡ reverse es)
    by false t f = absurd (let z : ◌≡◌ {A = ℕ} 0 1 = cc in omega arith)
    by true t f =
        let q = and_parts (leb (length es) 40) (every proper es) t in
        let same_row : record_of es ≡ r = cc in (
          subst (λ (x : Row). is_row x ≡ true) same_row (record_row es q.0 q.1),
          ap stack_of (sym same_row) ∙ ap reverse (record_entries es q.1),
        )

pub packs : (es : List Entry) (s : Stack) → reverse es ≡ s → length s ≤ 40 → every proper s ≡ true → packed es ≡ None → ⊥
packs es s e l h n =
    let back : es ≡ reverse s = sym (reverse-reverse es) ∙ ap reverse e in
    let k : length es ≡ length s = sym (length-reverse es) ∙ ap length e in
    let p : every proper es ≡ true = ap (every proper) back ∙ every_reverse proper s h in
    let yes_row : packed es ≡ Some (record_of es) = ap (λ b. cond b (Some (record_of es)) None) (and_from (leb (length es) 40) (every proper es) (le-leb (length es) 40 (omega arith)) p) in
    let z : ◌≡◌ {A = ℕ} 0 1 = cc in
    omega arith

-- ---- all tests passed
pub passes : (T : Contents) (n : ℕ) (g : Gives) (w : Way) (s : Stack) (o : Option Stack) → o ≡ Some s
    → leb (cells_on (more g s)) (room_at T n) ≡ true → stays T n w ≡ true → Ok (handed w n (more g s)) ≡ passed_on T n g w o
passes T n g w s o e f k = sym (ap (passed_on T n g w) e ∙ simp (f, k))

goes_on : (T : Contents) (n : ℕ) (e : Effect) (w : Way) (s : Stack) → (w ≡ Halt → ⊥) → passed_on T n e.gives w (less T (owner T n) e.takes s) ≡ goes T n e w s
goes_on T n e Halt s h = absurd (h refl)
goes_on T n e Next s h = refl
goes_on T n e (Jump q) s h = refl
goes_on T n e (Fork q) s h = refl

pub goes_by : (T : Contents) (n : ℕ) (e : Effect) (x : Instruction) (s : Stack) → e ≡ effect_of T n x → slice_get T.code n ≡ Some x → (e.way ≡ Halt → ⊥)
    → passed_on T n e.gives e.way (less T (owner T n) e.takes s) ≡ transfer T n s
goes_by T n e x s q there h = goes_on T n e e.way s h ∙ ap (λ (f : Effect). goes T n f f.way s) q ∙ ap (λ y. goes_from T n y s) (sym there)
