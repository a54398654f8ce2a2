-- In a checked table entries and successors lie in the table, and stacks are told apart.
use Rattle.std.proofs.Common.{◌≡◌, ℕ, suc, ◌<◌, true, cond, ◌&&◌, eqb, List, [], ◌∷◌, map, length, Some, None, Ok, Err, Result, sym, refl, ap, ◌∙◌, subst, arith}
use Rattle.std.specs.List.{slice_get}
use Rattle.std.proofs.lemmas.Bool.{eqb-true, eq-eqb, and_parts}
use Rattle.sheet.specs.declared.kind.Kind.{Kind}
use Rattle.sheet.specs.declared.kind.Kind.TheVariants as k
use Rattle.sheet.specs.declared.procedure.Procedure.{Procedure}
use Rattle.sheet.specs.Kinds.{letter_of, same}
use Rattle.sheet.specs.Tables.{Contents}
use Rattle.rules.specs.Lookups.{owner}
use Rattle.rules.specs.Operands.{first_fault}
use Rattle.rules.specs.ProcedureLaws.{TableRule}
use Rattle.paths.specs.Lists.{All}
use Rattle.paths.specs.Flows.{Hand, hands_on, Inside}
use Rattle.paths.specs.Exact.{Tells}
use Rattle.rows.specs.declared.entry.Entry.{Entry}
use Rattle.rows.specs.declared.entry.Entry.TheVariants.{Value, Mark}
use Rattle.transfer.specs.declared.breach.Breach.{Breach}
use Rattle.transfer.specs.Laws.{Each}
use Rattle.transfer.specs.Stacks.{Stack}
use Rattle.transfer.specs.Transfer.{transfer}
use Rattle.transfer.proofs.Laws.{transfer_stays_inside}
use Rattle.judge.specs.Flow.{same_entry, same_stack, entry_of, as_step, stacks}

-- a step that hands on is a transfer that does
pub stepped : (r : Result (List (Hand Stack)) Breach) (hs : List (Hand Stack)) → as_step r ≡ hands_on hs → r ≡ Ok hs
stepped (Ok gs) hs q = let z : gs ≡ hs = cc in ap Ok z
stepped (Err b) hs q = let z : ◌≡◌ {A = ℕ} 0 1 = cc in absurd (omega arith)

-- what holds of each stack handed on, as the path engine says it
pub each_all : (Q : ℕ → Stack → Type 0) (P : Hand Stack → Type 0) (hs : List (Hand Stack)) → ((h : Hand Stack) → Q h.0 h.1 → P h) → Each Q hs → All P hs
each_all Q P [] f e = tt
each_all Q P (h ∷ hs) f e = (f h e.0, each_all Q P hs f e.1)

entries_low : (T : Contents) (Ps : List Procedure) → ((n : ℕ) (P : Procedure) → slice_get Ps n ≡ Some P → P.first < length T.code) → All (λ h. h.0 < length T.code) (map (entry_of T) Ps)
entries_low T [] h = tt
entries_low T (P ∷ Ps) h = (h 0 P refl, entries_low T Ps (λ n Q e. h (suc n) Q e))

pub inside : (T : Contents) → first_fault T ≡ None → TableRule T → Inside (stacks T)
inside T c t = record {
  starts = entries_low T T.procedures (λ n P e. (t.each n P e).first_is_inside);
  goes = λ n s hs e.
      each_all (λ j r. (j < length T.code) × (owner T j ≡ owner T n)) (λ h. h.0 < length T.code) hs (λ h p. p.0)
      (transfer_stays_inside T n s hs c (stepped (transfer T n s) hs e));
}

-- ---- equal stacks
-- the kind of a letter
abbrev kind_by : ℕ → Kind
kind_by n = cond (eqb n 97) k.Address (cond (eqb n 98) k.Boolean (cond (eqb n 99) k.Character (cond (eqb n 105) k.Integer k.Real)))

kind_by_letter : (t : Kind) → kind_by (letter_of t) ≡ t
kind_by_letter k.Address = refl
kind_by_letter k.Boolean = refl
kind_by_letter k.Character = refl
kind_by_letter k.Integer = refl
kind_by_letter k.Real = refl

pub same_kind : (s t : Kind) → same s t ≡ true → s ≡ t
same_kind s t e = sym (kind_by_letter s) ∙ (ap kind_by (eqb-true (letter_of s) (letter_of t) e) ∙ kind_by_letter t)

pub kind_same : (t : Kind) → same t t ≡ true
kind_same t = eq-eqb (letter_of t) (letter_of t) refl

entries_equal : (x y : Entry) → same_entry x y ≡ true → x ≡ y
entries_equal (Value s) (Value t) e = ap Value (same_kind s t e)
entries_equal (Value s) (Mark j) e = grind arith
entries_equal (Mark i) (Value t) e = grind arith
entries_equal (Mark i) (Mark j) e = ap Mark (eqb-true i j e)

entry_same : (x : Entry) → same_entry x x ≡ true
entry_same (Value t) = kind_same t
entry_same (Mark j) = eq-eqb j j refl

stacks_equal : (s t : Stack) → same_stack s t ≡ true → s ≡ t
stacks_equal [] [] e = refl
stacks_equal [] (y ∷ t) e = grind arith
stacks_equal (x ∷ s) [] e = grind arith
stacks_equal (x ∷ s) (y ∷ t) e =
    let p = and_parts (same_entry x y) (same_stack s t) e in
    let a = entries_equal x y p.0 in
    let b = stacks_equal s t p.1 in
    cc

stack_same : (s : Stack) → same_stack s s ≡ true
stack_same [] = refl
stack_same (x ∷ s) = ap (λ b. b && same_stack s s) (entry_same x) ∙ stack_same s

pub stacks_tell : Tells same_stack
stacks_tell s t = (stacks_equal s t, λ e. subst (λ (u : Stack). same_stack s u ≡ true) e (stack_same s))
