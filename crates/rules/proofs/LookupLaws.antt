-- In a table that keeps the rules the owner is the last procedure that begins at or below an instruction, and rooms are small.
use Rattle.std.proofs.Common.{◌≡◌, ℕ, zero, suc, ◌+◌, ◌-◌, ◌<◌, ◌≤◌, Bool, true, false, cond, leb, ◌⊎◌, List, [], ◌∷◌, length, get_or, ℤ, Some, None, Option, sym, refl, ap, ◌∙◌, subst, inl, inr, arith}
use Rattle.std.specs.List.{slice_get}
use Rattle.std.proofs.lemmas.Option.{slice_get-get_or}
use Rattle.std.proofs.lemmas.Bool.{leb-true, leb-false, cases_order}
use Rattle.sheet.specs.declared.instruction.Instruction.{Instruction}
use Rattle.sheet.specs.declared.kind.Kind.{Kind}
use Rattle.sheet.specs.declared.procedure.Procedure.{Procedure}
use Rattle.sheet.specs.declared.shape.Rule.{Rule}
use Rattle.sheet.specs.declared.shape.Rule.TheVariants as rule
use Rattle.sheet.specs.Shapes.{shape_of}
use Rattle.sheet.specs.Tables.{Contents}
use Rattle.rules.specs.Lookups.{no_procedure, procedure_at, owner, begun, natural, enters, room_of}
use Rattle.rules.specs.LookupLaws.{Owner, OwnersBeginLast, RoomsAreSmall}
use Rattle.rules.specs.Operands.{operand_fault}
use Rattle.rules.specs.OperandLaws.{OperandRule}
use Rattle.rules.specs.ProcedureLaws.{ProcedureRule, TableRule}
use Rattle.rules.proofs.OperandLaws.{operands_are_checked}
use Rattle.rules.proofs.ProcedureLaws.{table_is_checked}

-- the search passes k procedures that begin at or below n, and stops at one that does not
record Passes (i : ℕ) (Ps : List Procedure) (n k : ℕ) : Type 0 where
  few : k ≤ length Ps
  answer : begun i Ps n ≡ i + k
  low : (j : ℕ) → j < k → (get_or Ps j no_procedure).first ≤ n
  high : k < length Ps → n < (get_or Ps k no_procedure).first

low_more : (P : Procedure) (Ps : List Procedure) (n k : ℕ) → P.first ≤ n → ((j : ℕ) → j < k → (get_or Ps j no_procedure).first ≤ n)
    → (j : ℕ) → j < suc k → (get_or (P ∷ Ps) j no_procedure).first ≤ n
low_more P Ps n k h r zero l = h
low_more P Ps n k h r (suc j) l = r j (omega arith)

passes : (i : ℕ) (Ps : List Procedure) (n : ℕ) → (k : ℕ) × Passes i Ps n k
passes i [] n = (0, record { few = omega arith; answer = (let e : i ≡ i + 0 = omega arith in e); low = λ j l. absurd (omega arith); high = λ l. absurd (omega arith) })
passes i (P ∷ Ps) n = see (leb P.first n) refl (passes (i + 1) Ps n)
  where
    see : (b : Bool) → leb P.first n ≡ b → (k : ℕ) × Passes (i + 1) Ps n k → (k : ℕ) × Passes i (P ∷ Ps) n k
    see false e r = (
      0,
      record {
        few = omega arith;
        answer = ap (λ b. cond b (begun (i + 1) Ps n) i) e ∙ (let q : i ≡ i + 0 = omega arith in q);
        low = λ j l. absurd (omega arith);
        high = λ l. leb-false P.first n e;
      },
    )
    see true e r =
        let k = r.0 in
        let m = r.1.few in (
          suc k,
          record {
            few = omega arith;
            answer = ap (λ b. cond b (begun (i + 1) Ps n) i) e ∙ (r.1.answer ∙ (let q : i + 1 + k ≡ i + suc k = omega arith in q));
            low = low_more P Ps n k (leb-true P.first n e) r.1.low;
            high = λ l. r.1.high (omega arith);
          },
        )

module _ (T : Contents) (rules : TableRule T) where
  at : (n : ℕ) → n < length T.procedures → ProcedureRule T n (procedure_at T n)
  at n l = rules.each n (procedure_at T n) (slice_get-get_or T.procedures n no_procedure l)

  -- first instructions rise
  rise : (j m : ℕ) → j + m < length T.procedures → (procedure_at T j).first ≤ (procedure_at T (j + m)).first
  rise j zero l = let e : j ≡ j + 0 = omega arith in subst (λ i. (procedure_at T j).first ≤ (procedure_at T i).first) e (omega arith)
  rise j (suc m) l =
      let h = rise j m (omega arith) in
      let e : j + suc m - 1 ≡ j + m = omega arith in
      let r = subst (λ i. (procedure_at T i).first < (procedure_at T (j + suc m)).first) e ((at (j + suc m) l).first_rises (omega arith)) in
      omega arith

  -- some procedure is passed: procedure 0 begins at 0
  some : (n k : ℕ) → (k < length T.procedures → n < (procedure_at T k).first) → 0 < k
  some n zero h =
      let l = rules.counts.some_procedures in
      let f = ((at 0 (omega arith)).main refl).1 in
      let g = h (omega arith) in
      absurd (omega arith)
  some n (suc k) h = omega arith

  pub owner_begins_last : (n : ℕ) → Owner T n (owner T n)
  owner_begins_last n =
      let r = passes 0 T.procedures n in
      let k = r.0 in
      let m = r.1.few in
      let s = some n k r.1.high in
      let e : 0 + k ≡ k = omega arith in
      let w : Owner T n (k - 1) = record {
        there = omega arith;
        begins = r.1.low (k - 1) (omega arith);
        last = λ j a b.
            (
            let q : k + (j - k) ≡ j = omega arith in
            let u = subst (λ i. (procedure_at T k).first ≤ (procedure_at T i).first) q (rise k (j - k) (omega arith)) in
            let v = r.1.high (omega arith) in
            omega arith
            );
      } in
      subst (Owner T n) (sym (ap (λ i. i - 1) (r.1.answer ∙ e))) w

  -- a procedure owns its first instruction
  pub owner_of_first : (i : ℕ) → i < length T.procedures → owner T (procedure_at T i).first ≡ i
  owner_of_first i l = by (cases_order (owner T (procedure_at T i).first) i) (owner_begins_last (procedure_at T i).first)
    where
      by : (owner T (procedure_at T i).first ≡ i) ⊎ ((owner T (procedure_at T i).first < i) ⊎ (i < owner T (procedure_at T i).first))
          → Owner T (procedure_at T i).first (owner T (procedure_at T i).first) → owner T (procedure_at T i).first ≡ i
      by (inl e) w = e
      by (inr (inl h)) w = let c = w.last i h l in absurd (omega arith)
      by (inr (inr h)) w =
          let o = owner T (procedure_at T i).first in
          let t = w.there in
          let b = w.begins in
          let q : suc i + (o - suc i) ≡ o = omega arith in
          let e : suc i - 1 ≡ i = omega arith in
          let u = subst (λ j. (procedure_at T (suc i)).first ≤ (procedure_at T j).first) q (rise (suc i) (o - suc i) (omega arith)) in
          let v = subst (λ j. (procedure_at T j).first < (procedure_at T (suc i)).first) e ((at (suc i) (omega arith)).first_rises (omega arith)) in
          absurd (omega arith)

pub owners_begin_last : OwnersBeginLast
owners_begin_last T e n = owner_begins_last T ((table_is_checked T).0 e) n

-- ---- rooms
small : (T : Contents) (o : ℕ) (r : Rule) (t : Option Kind) (p q : ℤ) → OperandRule T o r t p q → cond (enters r) (natural p) 0 ≤ 40
small T o rule.Free t p q h = omega arith
small T o rule.Constant t p q h = omega arith
small T o rule.Global t p q h = omega arith
small T o rule.Local t p q h = omega arith
small T o rule.Address t p q h = omega arith
small T o rule.Label t p q h = omega arith
small T o rule.Link t p q h = omega arith
small T o rule.Call t p q h = omega arith
small T o rule.Enter t p q h = subst (λ z. natural z ≤ 40) (sym h.1) h.2.2.0
small T o rule.Function t p q h = omega arith
small T o rule.Procedure t p q h = omega arith

room : (T : Contents) → operand_fault T ≡ None → (f : ℕ) (x : Option Instruction) → slice_get T.code f ≡ x → room_of x ≤ 40
room T e f None g = omega arith
room T e f (Some x) g = small T (owner T f) (shape_of x.mnemonic).rule x.t x.p x.q ((operands_are_checked T).0 e f x g).operands

pub rooms_are_small : RoomsAreSmall
rooms_are_small T e n = room T e (procedure_at T (owner T n)).first (slice_get T.code (procedure_at T (owner T n)).first) refl
