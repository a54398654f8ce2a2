-- The check of letters and operands finds a fault exactly where a rule is broken, and names the lowest instruction.
use Rattle.std.proofs.Common.{◌≡◌, ℕ, ◌+◌, Bool, true, false, cond, not, ◌||◌, eqb, ltb, leb, length, ℤ, pos, negsuc, is_some, Some, None, Decides, Option, sym, refl, ap, ◌∙◌, subst, arith}
use Rattle.std.specs.Option.{option_map}
use Rattle.std.proofs.lemmas.Bool.{eqb-true, eq-eqb, false≢true}
use Rattle.std.proofs.lemmas.Bool.Decides.{Decides-eqb, Decides-ltb, Decides-and, Decides-or, Decides-not, Decides-like}
use Rattle.sheet.specs.declared.kind.Kind.{Kind}
use Rattle.sheet.specs.declared.kind.Kind.TheVariants.{Address, Boolean, Character, Integer, Real}
use Rattle.sheet.specs.declared.procedure.Procedure.{Procedure}
use Rattle.sheet.specs.declared.shape.Letters.{Letters}
use Rattle.sheet.specs.declared.shape.Letters.TheVariants as letters
use Rattle.sheet.specs.declared.shape.Rule.{Rule}
use Rattle.sheet.specs.declared.shape.Rule.TheVariants as rule
use Rattle.sheet.specs.Shapes.{shape_of}
use Rattle.sheet.specs.Tables.{Contents}
use Rattle.rules.specs.declared.fault.TableFault.TheVariants.{NotAllowed}
use Rattle.rules.specs.Letters.{letter, same_letter, letters_ok}
use Rattle.rules.specs.Lookups.{procedure_at, ancestor, owner, index, enters}
use Rattle.rules.specs.Operands.{holds, is_zero, is_cell, kind_at, constant_ok, call_ok, rule_ok, instruction_ok}
use Rattle.rules.specs.OperandLaws.{Allowed, Is, Ancestor, Data, Callee, ConstantRule, OperandRule, InstructionRule, InstructionIsChecked, OperandsAreChecked, OperandsName}
use Rattle.rules.proofs.Decided.{no_clash, decides_leb, decides_none, none_fails, all_hold, first_fails}
use Rattle.rules.proofs.ProcedureLaws.{unmapped, unmapped_none}

-- ---- letters
lettered : ℕ → Option Kind
lettered n =
    cond (eqb n 97) (Some Address) (cond (eqb n 98) (Some Boolean) (cond (eqb n 99) (Some Character) (cond (eqb n 105) (Some Integer) (cond (eqb n 114) (Some Real) None))))

lettered_back : (t : Option Kind) → lettered (letter t) ≡ t
unfolding lettered
lettered_back None = refl
lettered_back (Some Address) = refl
lettered_back (Some Boolean) = refl
lettered_back (Some Character) = refl
lettered_back (Some Integer) = refl
lettered_back (Some Real) = refl

same : (t u : Option Kind) → Decides (same_letter t u) (t ≡ u)
same t u = (
  (λ e. sym (lettered_back t) ∙ (ap lettered (eqb-true (letter t) (letter u) e) ∙ lettered_back u)),
  λ e. eq-eqb (letter t) (letter u) (ap letter e),
)

decides_some : {X : Type 0} (x : Option X) → Decides (is_some x) (x ≡ None → ⊥)
decides_some None = ((λ e. no_clash e), λ h. absurd (h refl))
decides_some (Some x) = ((λ _ e. let z : ◌≡◌ {A = ℕ} 0 1 = cc in omega arith), λ _. refl)

allowed : (l : Letters) (t u : Option Kind) → Decides (letters_ok l t u) (Allowed l t u)
allowed letters.Nothing t u = Decides-and _ _ (decides_none t) (decides_none u)
allowed letters.Number t u = Decides-and _ _ (Decides-or _ _ (same t (Some Integer)) (same t (Some Real))) (decides_none u)
allowed letters.Every t u = Decides-and _ _ (decides_some t) (decides_none u)
allowed letters.Ordinal t u = Decides-and _ _ (Decides-or _ _ (same t (Some Address)) (Decides-or _ _ (same t (Some Character)) (same t (Some Integer)))) (decides_none u)
allowed letters.Reads t u =
    Decides-and _ _ (Decides-or _ _ (same t (Some Boolean)) (Decides-or _ _ (same t (Some Character)) (Decides-or _ _ (same t (Some Integer)) (same t (Some Real))))) (decides_none u)
allowed letters.Pair t u =
    Decides-or _ _ (Decides-and _ _ (same t (Some Integer)) (same u (Some Real))) (Decides-or _ _ (Decides-and _ _ (same t (Some Real)) (same u (Some Integer)))
    (Decides-or _ _ (Decides-and _ _ (same t (Some Character)) (same u (Some Integer))) (Decides-and _ _ (same t (Some Integer)) (same u (Some Character)))))

-- ---- operands
is : (z : ℤ) (f : ℕ → Bool) (Q : ℕ → Type 0) → ((n : ℕ) → Decides (f n) (Q n)) → Decides (holds (index z) f) (Is z Q)
is (pos n) f Q h = ((λ e. (n, refl, (h n).0 e)), λ r. let q : n ≡ r.0 = (let e = r.1 in cc) in (h n).1 (subst Q (sym q) r.2))
is (negsuc n) f Q h = ((λ e. no_clash e), λ r. absurd (let e = r.1 in let z : ◌≡◌ {A = ℕ} 0 1 = cc in omega arith))

climbs : (T : Contents) (p o : ℕ) (f : Procedure → Bool) (Q : Procedure → Type 0) → ((P : Procedure) → Decides (f P) (Q P))
    → Decides (holds (ancestor T p o) (λ a. f (procedure_at T a))) (Ancestor T p o Q)
climbs T p o f Q h = see (ancestor T p o) refl
  where
    see : (x : Option ℕ) → ancestor T p o ≡ x → Decides (holds x (λ a. f (procedure_at T a))) (Ancestor T p o Q)
    see None e = ((λ t. no_clash t), λ r. absurd (let w = r.1 in let z : ◌≡◌ {A = ℕ} 0 1 = cc in omega arith))
    see (Some a) e = (
      (λ t. (a, e, (h (procedure_at T a)).0 t)),
      λ r. let q : r.0 ≡ a = (let w = r.1 in cc) in (h (procedure_at T a)).1 (subst (λ m. Q (procedure_at T m)) q r.2),
    )

data_cell : (P : Procedure) (q : ℕ) → Decides (is_cell P q) (Data P q)
data_cell P q = Decides-and (leb 5 q) (ltb q (5 + P.count)) (decides_leb 5 q) (Decides-ltb q (5 + P.count))

constants : (T : Contents) (t : Option Kind) (q : ℤ) → Decides (constant_ok T t (index q)) (ConstantRule T t q)
constants T None q = ((λ e. false≢true e), λ e. absurd e)
constants T (Some Address) q = is q _ _ (data_cell (procedure_at T 0))
constants T (Some Boolean) q = is q _ _ (λ n. decides_leb n 1)
constants T (Some Character) q = is q _ _ (λ n. decides_leb n 255)
constants T (Some Integer) q = ((λ _. tt), λ _. refl)
constants T (Some Real) q = ((λ _. tt), λ _. refl)

called : (T : Contents) (p q : ℕ) → Decides (call_ok T p q) (Callee T p q (owner T q) (procedure_at T (owner T q)))
called T p q =
    Decides-like (call_ok T p q) (λ h. record { inside = h.0; not_main = h.1.0; begins = h.1.1.0; takes = h.1.1.1 }) (λ r. (r.inside, (r.not_main, (r.begins, r.takes))))
    (Decides-and _ _ (Decides-ltb q _) (Decides-and _ _ (Decides-not _ (Decides-eqb (owner T q) 0)) (Decides-and _ _ (Decides-eqb _ q) (Decides-eqb _ p))))

operand : (T : Contents) (o : ℕ) (r : Rule) (t : Option Kind) (p q : ℤ) → Decides (rule_ok T o r t (index p) (index q)) (OperandRule T o r t p q)
operand T o rule.Free t p q = ((λ _. tt), λ _. refl)
operand T o rule.Constant t p q = constants T t q
operand T o rule.Global t p q = is q _ _ (λ q. same (kind_at T (procedure_at T 0) q) t)
operand T o rule.Local t p q =
    is p _ _ (λ p. is q _ _ (λ q. climbs T p o _ _ (λ P. Decides-or _ _ (Decides-and _ _ (Decides-eqb q 0) (same P.result t)) (same (kind_at T P q) t))))
operand T o rule.Address t p q = is p _ _ (λ p. is q _ _ (λ q. climbs T p o _ _ (λ P. data_cell P q)))
operand T o rule.Label t p q =
    is q _ _ (λ q. Decides-and _ _ (Decides-ltb q (length T.code)) (Decides-and _ _ (Decides-eqb (owner T q) o) (Decides-not _ (Decides-eqb q (procedure_at T o).first))))
operand T o rule.Link t p q = is p _ _ (λ p. decides_some (ancestor T p o))
operand T o rule.Call t p q = is p _ _ (λ p. is q _ _ (λ q. called T p q))
operand T o rule.Enter t p q = is p _ _ (λ p. is q _ _ (λ q. Decides-and _ _ (decides_leb p 40) (Decides-eqb q (5 + (procedure_at T o).count))))
operand T o rule.Function t p q = Decides-and _ _ (Decides-not _ (Decides-eqb o 0)) (decides_some (procedure_at T o).result)
operand T o rule.Procedure t p q = Decides-and _ _ (Decides-not _ (Decides-eqb o 0)) (decides_none (procedure_at T o).result)

unused : (b : Bool) (z : ℤ) → Decides (b || is_zero z) (b ≡ false → z ≡ pos 0)
unused true z = ((λ _ e. no_clash (sym e)), λ _. refl)
unused false (pos n) = ((λ e _. ap pos (eqb-true n 0 e)), λ h. let e = h refl in eq-eqb n 0 (let q : n ≡ 0 = cc in q))
unused false (negsuc n) = ((λ e _. no_clash e), λ h. absurd (let e = h refl in let z : ◌≡◌ {A = ℕ} 0 1 = cc in omega arith))

ent : (b : Bool) (n m : ℕ) → Decides (cond b (eqb n m) (not (eqb n m))) ((b ≡ true → n ≡ m) × (n ≡ m → b ≡ true))
ent true n m = ((λ e. ((λ _. eqb-true n m e), λ _. refl)), λ h. eq-eqb n m (h.0 refl))
ent false n m =
    Decides-like (not (eqb n m)) (λ h. ((λ e. no_clash e), λ e. absurd (h e))) (λ h e. false≢true (h.1 e)) (Decides-not (eqb n m) (Decides-eqb n m))

pub instruction_is_checked : InstructionIsChecked
instruction_is_checked T n x =
    let s = shape_of x.mnemonic in
    let o = owner T n in
    Decides-like (instruction_ok T n x)
    (λ h. record { letters = h.0; no_p = h.1.0.0; no_q = h.1.0.1; ent_is_first = h.1.1.0.0; first_is_ent = h.1.1.0.1; operands = h.1.1.1 })
    (λ r. (r.letters, ((r.no_p, r.no_q), ((r.ent_is_first, r.first_is_ent), r.operands))))
    (Decides-and _ _ (allowed s.letters x.t x.t2) (Decides-and _ _ (Decides-and _ _ (unused s.p x.p) (unused s.q x.q))
    (Decides-and _ _ (ent (enters s.rule) n (procedure_at T o).first) (operand T o s.rule x.t x.p x.q))))

pub operands_are_checked : OperandsAreChecked
operands_are_checked T = (
  (λ e. none_fails (instruction_ok T) (InstructionRule T) (instruction_is_checked T) T.code (unmapped_none _ NotAllowed e)),
  λ h. ap (option_map NotAllowed) (all_hold (instruction_ok T) (InstructionRule T) (instruction_is_checked T) T.code h),
)

pub operands_name : OperandsName
operands_name T f e =
    let u = unmapped _ NotAllowed f e in
    (u.0, u.1, first_fails (instruction_ok T) (InstructionRule T) (instruction_is_checked T) T.code u.0 u.2)
