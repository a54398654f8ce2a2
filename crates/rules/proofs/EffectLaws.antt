-- The effects of a table without a fault are sound: the one place between the rules and the verifier with a case for each mnemonic.
use Rattle.std.proofs.Common.{◌≡◌, ℕ, zero, suc, ◌+◌, ◌-◌, ◌<◌, ◌≤◌, ◌⊎◌, length, ℤ, Some, None, Option, sym, refl, ap, ◌∙◌, subst, inl, inr, arith}
use Rattle.std.specs.Option.{option_or}
use Rattle.std.proofs.lemmas.List.{get_or_past}
use Rattle.std.proofs.lemmas.Option.{slice_get-get_or}
use Rattle.std.proofs.lemmas.Bool.{cases_lt}
use Rattle.sheet.specs.declared.kind.Kind.{Kind}
use Rattle.sheet.specs.declared.mnemonic.Mnemonic.{Mnemonic}
use Rattle.sheet.specs.declared.mnemonic.Mnemonic.TheVariants.{Add, Sub, Mul, Div, Neg, And, Or, Not, Equ, Neq, Les, Leq, Grt, Geq, Ldc, Ldo, Sro, Lod, Str, Lda, Ind, Sto, Dpl, Ixa, Inc, Dec, Chk, Ujp, Fjp, In, Out, Conv, Mst, Cup, Ent, Retf, Retp, Hlt}
use Rattle.sheet.specs.declared.procedure.Procedure.{Procedure}
use Rattle.sheet.specs.Shapes.{shape_of}
use Rattle.sheet.specs.Tables.{Contents}
use Rattle.rules.specs.Effects.{given, kind_in, effect_by}
use Rattle.rules.specs.EffectLaws.{Laid, Label, SoundGives, Sound, EffectsAreSound}
use Rattle.rules.specs.Lookups.{no_procedure, procedure_at, ancestor, owner, natural}
use Rattle.rules.specs.Operands.{operand_fault}
use Rattle.rules.specs.OperandLaws.{Is, OperandRule}
use Rattle.rules.specs.Procedures.{table_fault}
use Rattle.rules.specs.ProcedureLaws.{TableRule}
use Rattle.rules.proofs.OperandLaws.{operands_are_checked}
use Rattle.rules.proofs.ProcedureLaws.{table_is_checked}

pub neither_left : {X : Type 0} (x y : Option X) → option_or x y ≡ None → x ≡ None
neither_left None y e = refl
neither_left (Some x) y e = e

pub neither_right : {X : Type 0} (x y : Option X) → option_or x y ≡ None → y ≡ None
neither_right None y e = e
neither_right (Some x) y e = absurd (let z : ◌≡◌ {A = ℕ} 0 1 = cc in omega arith)

-- ---- no ancestor lies above one that is not there
none_above : (T : Contents) (j o : ℕ) → ancestor T j o ≡ None → ancestor T (suc j) o ≡ None
none_above T zero o e = absurd (let z : ◌≡◌ {A = ℕ} 0 1 = cc in omega arith)
none_above T (suc j) zero e = refl
none_above T (suc j) (suc n) e = none_above T j (procedure_at T (suc n)).parent e

none_beyond : (T : Contents) (j k o : ℕ) → ancestor T j o ≡ None → ancestor T (j + k) o ≡ None
none_beyond T j zero o e = let z : j + 0 ≡ j = omega arith in ap (λ i. ancestor T i o) z ∙ e
none_beyond T j (suc k) o e = let z : j + suc k ≡ suc (j + k) = omega arith in ap (λ i. ancestor T i o) z ∙ none_above T (j + k) o (none_beyond T j k o e)

module _ (T : Contents) (rules : TableRule T) where
  pub laid : (i : ℕ) → Laid T (procedure_at T i)
  laid i = by (cases_lt i (length T.procedures))
    where
      by : (i < length T.procedures) ⊎ (length T.procedures ≤ i) → Laid T (procedure_at T i)
      by (inl l) =
          let r = rules.each i (procedure_at T i) (slice_get-get_or T.procedures i no_procedure l) in
          let a = r.parameters_are_cells in
          let b = r.cells_are_there in
          (r.few_parameters, omega arith)
      by (inr g) = subst (Laid T) (sym (get_or_past T.procedures i no_procedure g)) (omega arith, omega arith)

  pub shallow : (o : ℕ) → ancestor T 8 o ≡ None
  shallow o = by (cases_lt o (length T.procedures))
    where
      past : (n : ℕ) → length T.procedures ≤ n → 0 < n → ancestor T 8 n ≡ None
      past zero g h = absurd (omega arith)
      past (suc n) g h = ap (λ (P : Procedure). ancestor T 7 P.parent) (get_or_past T.procedures (suc n) no_procedure g)

      by : (o < length T.procedures) ⊎ (length T.procedures ≤ o) → ancestor T 8 o ≡ None
      by (inl l) = (rules.each o (procedure_at T o) (slice_get-get_or T.procedures o no_procedure l)).depth
      by (inr g) = past o g (let s = rules.counts.some_procedures in omega arith)

  pub few_links : (p o : ℕ) → (ancestor T p o ≡ None → ⊥) → p ≤ 7
  few_links p o h = by (cases_lt p 8)
    where
      by : (p < 8) ⊎ (8 ≤ p) → p ≤ 7
      by (inl l) = omega arith
      by (inr g) = let z : 8 + (p - 8) ≡ p = omega arith in absurd (h (ap (λ i. ancestor T i o) (sym z) ∙ none_beyond T 8 (p - 8) o (shallow o)))

  label : (n : ℕ) (q : ℤ) → Is q (λ q. Label T n q) → Label T n (natural q)
  label n q h = subst (λ z. Label T n (natural z)) (sym h.1) h.2

  result : (t : Option Kind) → SoundGives (given t)
  result None = tt
  result (Some t) = tt

  sound : (n : ℕ) (m : Mnemonic) (t u : Kind) (k : Option Kind) (p q : ℤ) → OperandRule T (owner T n) (shape_of m).rule k p q → Sound T n (effect_by T n t u (natural p) (natural q) m)
  sound n Add t u k p q h = (tt, tt, tt)
  sound n Sub t u k p q h = (tt, tt, tt)
  sound n Mul t u k p q h = (tt, tt, tt)
  sound n Div t u k p q h = (tt, tt, tt)
  sound n Neg t u k p q h = (tt, tt, tt)
  sound n And t u k p q h = (tt, tt, tt)
  sound n Or t u k p q h = (tt, tt, tt)
  sound n Not t u k p q h = (tt, tt, tt)
  sound n Equ t u k p q h = (tt, tt, tt)
  sound n Neq t u k p q h = (tt, tt, tt)
  sound n Les t u k p q h = (tt, tt, tt)
  sound n Leq t u k p q h = (tt, tt, tt)
  sound n Grt t u k p q h = (tt, tt, tt)
  sound n Geq t u k p q h = (tt, tt, tt)
  sound n Ldc t u k p q h = (tt, tt, tt)
  sound n Ldo t u k p q h = (tt, tt, tt)
  sound n Sro t u k p q h = (tt, tt, tt)
  sound n Lod t u k p q h = (tt, tt, tt)
  sound n Str t u k p q h = (tt, tt, tt)
  sound n Lda t u k p q h = (tt, tt, tt)
  sound n Ind t u k p q h = (tt, tt, tt)
  sound n Sto t u k p q h = (tt, tt, tt)
  sound n Dpl t u k p q h = (tt, tt, tt)
  sound n Ixa t u k p q h = (tt, tt, tt)
  sound n Inc t u k p q h = (tt, tt, tt)
  sound n Dec t u k p q h = (tt, tt, tt)
  sound n Chk t u k p q h = (tt, tt, tt)
  sound n Ujp t u k p q h = (tt, tt, label n q h)
  sound n Fjp t u k p q h = (tt, tt, label n q h)
  sound n In t u k p q h = (tt, tt, tt)
  sound n Out t u k p q h = (tt, tt, tt)
  sound n Conv t u k p q h = (tt, tt, tt)
  sound n Mst t u k p q h = (tt, subst (λ z. natural z ≤ 7) (sym h.1) (few_links h.0 (owner T n) h.2), tt)
  sound n Cup t u k p q h = (laid (owner T (natural q)), result (procedure_at T (owner T (natural q))).result, tt)
  sound n Ent t u k p q h = (laid (owner T n), tt, tt)
  sound n Retf t u k p q h = (tt, tt, tt)
  sound n Retp t u k p q h = (tt, tt, tt)
  sound n Hlt t u k p q h = (tt, tt, tt)

pub effects_are_sound : EffectsAreSound
effects_are_sound T e n x g =
    let r = (table_is_checked T).0 (neither_left (table_fault T) (operand_fault T) e) in
    let o = (operands_are_checked T).0 (neither_right (table_fault T) (operand_fault T) e) n x g in
    sound T r n x.mnemonic (kind_in x.t) (kind_in x.t2) x.t x.p x.q o.operands
