-- What is taken off a stack, and what a procedure declares, as lists.
use Rattle.std.proofs.Common.{◌≡◌, ℕ, zero, suc, ◌+◌, ◌-◌, ◌<◌, ◌≤◌, Bool, true, false, cond, eqb, ltb, leb, ◌⊎◌, List, [], ◌∷◌, ◌++◌, map, length, get_or, take, drop, Some, None, Option, sym, refl, ap, ◌∙◌, subst, inl, inr, arith, length-drop, take-append-drop, length-take-le, take-take}
use mathlib.Core.List.{reverse_aux}
use Rattle.std.specs.List.{slice_get}
use Rattle.std.proofs.lemmas.List.{get_or_past}
use Rattle.std.proofs.lemmas.Option.{slice_get-get_or, slice_get_within}
use Rattle.std.proofs.lemmas.Bool.{leb-true, ltb-true, eqb-true, and_parts, cases_lt}
use Rattle.sheet.specs.declared.kind.Kind.{Kind}
use Rattle.sheet.specs.declared.kind.Kind.TheVariants.{Address}
use Rattle.sheet.specs.declared.procedure.Procedure.{Procedure}
use Rattle.sheet.specs.Kinds.{same}
use Rattle.sheet.specs.Tables.{Contents}
use Rattle.rules.specs.Lookups.{no_procedure, procedure_at, ancestor}
use Rattle.rules.specs.Operands.{is_cell, kind_at}
use Rattle.rules.specs.ProcedureLaws.{TableRule}
use Rattle.rows.specs.declared.entry.Entry.TheVariants as entry
use Rattle.transfer.specs.Stacks.{Stack, parameters_down, less_kinds, leads_to, less_mark}
use Rattle.judge.proofs.Inside.{same_kind}
use Rattle.machine.specs.Frames.{data_kinds, parameter_kinds}
use Rattle.soundness.proofs.Rules.{laid, declaration, CellOf}

nth_drop : {A : Type 0} (o j : ℕ) (xs : List A) → slice_get (drop o xs) j ≡ slice_get xs (o + j)
nth_drop zero j xs = let e : 0 + j ≡ j = omega arith in ap (λ (i : ℕ). slice_get xs i) (sym e)
nth_drop (suc o) j [] = refl
nth_drop (suc o) j (x ∷ xs) = nth_drop o j xs ∙ (let e : suc o + j ≡ suc (o + j) = omega arith in ap (λ (i : ℕ). slice_get (x ∷ xs) i) (sym e))

nth_take : {A : Type 0} (c j : ℕ) (xs : List A) → j < c → slice_get (take c xs) j ≡ slice_get xs j
nth_take zero j xs l = absurd (omega arith)
nth_take (suc c) j [] l = refl
nth_take (suc c) zero (x ∷ xs) l = refl
nth_take (suc c) (suc j) (x ∷ xs) l = nth_take c j xs (omega arith)

-- ---- kinds taken
abbrev pub values : List Kind → Stack → Stack
values [] σ = σ
values (t ∷ ts) σ = entry.Value t ∷ values ts σ

pub taken_is : (ts : List Kind) (ρ σ : Stack) → less_kinds ts ρ ≡ Some σ → ρ ≡ values ts σ
taken_is [] ρ σ e = cc
taken_is (t ∷ ts) [] σ e = absurd (let z : ◌≡◌ {A = ℕ} 0 1 = cc in omega arith)
taken_is (t ∷ ts) (entry.Value u ∷ ρ) σ e = by (taken_is ts ρ σ) (same u t) refl e
  where
    by : (less_kinds ts ρ ≡ Some σ → ρ ≡ values ts σ) → (b : Bool) → same u t ≡ b → cond b (less_kinds ts ρ) None ≡ Some σ → entry.Value u ∷ ρ ≡ entry.Value t ∷ values ts σ
    by more true q e = let p = same_kind u t q in let r = more e in cc
    by more false q e = absurd (let z : ◌≡◌ {A = ℕ} 0 1 = cc in omega arith)
taken_is (t ∷ ts) (entry.Mark j ∷ ρ) σ e = absurd (let z : ◌≡◌ {A = ℕ} 0 1 = cc in omega arith)

values_laid : (ps ts : List Kind) (σ : Stack) → values (reverse_aux ps ts) σ ≡ laid entry.Value ps (values ts σ)
values_laid [] ts σ = refl
values_laid (p ∷ ps) ts σ = values_laid ps (p ∷ ts) σ

map_laid : (ps ts : List Kind) → map entry.Value (reverse_aux ps ts) ≡ laid entry.Value ps (map entry.Value ts)
map_laid [] ts = refl
map_laid (p ∷ ps) ts = map_laid ps (p ∷ ts)

pub mark_taken : (T : Contents) (o a : ℕ) (ρ τ : Stack) → less_mark T o a ρ ≡ Some τ → (j : ℕ) × (ρ ≡ entry.Mark j ∷ τ) × (ancestor T j o ≡ Some a)
mark_taken T o a [] τ e = absurd (let z : ◌≡◌ {A = ℕ} 0 1 = cc in omega arith)
mark_taken T o a (entry.Value t ∷ ρ) τ e = absurd (let z : ◌≡◌ {A = ℕ} 0 1 = cc in omega arith)
mark_taken T o a (entry.Mark j ∷ ρ) τ e = by (ancestor T j o) refl e
  where
    found : (b : ℕ) (c : Bool) → eqb b a ≡ c → ancestor T j o ≡ Some b → cond c (Some ρ) None ≡ Some τ
        → (i : ℕ) × (entry.Mark j ∷ ρ ≡ entry.Mark i ∷ τ) × (ancestor T i o ≡ Some a)
    found b true q g e = let z : ρ ≡ τ = cc in (j, ap {B = Stack} (λ r. entry.Mark j ∷ r) z, g ∙ ap Some (eqb-true b a q))
    found b false q g e = absurd (let z : ◌≡◌ {A = ℕ} 0 1 = cc in omega arith)

    by : (x : Option ℕ) → ancestor T j o ≡ x → cond (leads_to x a) (Some ρ) None ≡ Some τ → (i : ℕ) × (entry.Mark j ∷ ρ ≡ entry.Mark i ∷ τ) × (ancestor T i o ≡ Some a)
    by None g e = absurd (let z : ◌≡◌ {A = ℕ} 0 1 = cc in omega arith)
    by (Some b) g e = found b (eqb b a) refl g e

-- ---- what is declared
module _ (T : Contents) (rules : TableRule T) where
  abbrev pub Few : Procedure → Type 0
  Few P = (P.count ≤ 250) × (P.parameters ≤ P.count) × (P.offset + P.count ≤ length T.cells)

  pub few : (i : ℕ) → Few (procedure_at T i)
  few i = by (cases_lt i (length T.procedures))
    where
      by : (i < length T.procedures) ⊎ (length T.procedures ≤ i) → Few (procedure_at T i)
      by (inl l) = let r = rules.each i (procedure_at T i) (slice_get-get_or T.procedures i no_procedure l) in (r.few_cells, r.parameters_are_cells, r.cells_are_there)
      by (inr g) = subst Few (sym (get_or_past T.procedures i no_procedure g)) (omega arith, omega arith, omega arith)

  -- the parameters as the machine and as the verifier have them
  same_parameters : (i : ℕ) → take (procedure_at T i).parameters (drop (procedure_at T i).offset T.cells) ≡ parameter_kinds T (procedure_at T i)
  same_parameters i = sym (take-take (procedure_at T i).parameters (procedure_at T i).count (drop (procedure_at T i).offset T.cells) (few i).1)

  pub parameters_taken : (i : ℕ) (ρ σ : Stack) → less_kinds (parameters_down T (procedure_at T i)) ρ ≡ Some σ → ρ ≡ laid entry.Value (declaration T i).parameters σ
  parameters_taken i ρ σ e =
      taken_is (parameters_down T (procedure_at T i)) ρ σ e ∙ (values_laid (take (procedure_at T i).parameters (drop (procedure_at T i).offset T.cells)) [] σ
      ∙ ap (λ (ts : List Kind). laid entry.Value ts σ) (same_parameters i))

  pub parameters_begin : (i : ℕ) → map entry.Value (parameters_down T (procedure_at T i)) ≡ laid entry.Value (declaration T i).parameters []
  parameters_begin i =
      map_laid (take (procedure_at T i).parameters (drop (procedure_at T i).offset T.cells)) [] ∙ ap (λ (ts : List Kind). laid entry.Value ts []) (same_parameters i)

  pub all_data : (i : ℕ) → (declaration T i).parameters ++ (declaration T i).locals ≡ data_kinds T (procedure_at T i)
  all_data i = take-append-drop (procedure_at T i).parameters (data_kinds T (procedure_at T i))

  pub data_length : (i : ℕ) → length ((declaration T i).parameters ++ (declaration T i).locals) ≡ (procedure_at T i).count
  data_length i =
      let w = (few i).2 in
      let d = length-drop (procedure_at T i).offset T.cells in
      ap length (all_data i) ∙ length-take-le (procedure_at T i).count (drop (procedure_at T i).offset T.cells) (omega arith)

  pub parameters_length : (i : ℕ) → length (declaration T i).parameters ≡ (procedure_at T i).parameters
  parameters_length i =
      let w = few i in
      let w₁ = w.1 in
      let w₂ = w.2 in
      let d = length-drop (procedure_at T i).offset T.cells in
      let e = length-take-le (procedure_at T i).count (drop (procedure_at T i).offset T.cells) (omega arith) in
      length-take-le (procedure_at T i).parameters (data_kinds T (procedure_at T i)) (omega arith)

  -- the kind of the data cell at offset 5 + j
  data_at : (i j : ℕ) → j < (procedure_at T i).count → slice_get ((declaration T i).parameters ++ (declaration T i).locals) j ≡ slice_get T.cells ((procedure_at T i).offset + j)
  data_at i j l =
      ap (λ (ts : List Kind). slice_get ts j) (all_data i) ∙ (nth_take (procedure_at T i).count j (drop (procedure_at T i).offset T.cells) l
      ∙ nth_drop (procedure_at T i).offset j T.cells)

  pub cell_is : (i q : ℕ) (t : Kind) → kind_at T (procedure_at T i) q ≡ Some t → CellOf (declaration T i) q t
  cell_is i q t e = by (is_cell (procedure_at T i) q) refl e
    where
      by : (b : Bool) → is_cell (procedure_at T i) q ≡ b → cond b (slice_get T.cells ((procedure_at T i).offset + (q - 5))) None ≡ Some t → CellOf (declaration T i) q t
      by true h e =
          let (a, b) = and_parts (leb 5 q) (ltb q (5 + (procedure_at T i).count)) h in
          let l = leb-true 5 q a in
          let u = ltb-true q (5 + (procedure_at T i).count) b in
          (q - 5, omega arith, data_at i (q - 5) (omega arith) ∙ e)
      by false h e = absurd (let z : ◌≡◌ {A = ℕ} 0 1 = cc in omega arith)

  pub any_cell : (i q : ℕ) → 5 ≤ q → q < 5 + (procedure_at T i).count → (t : Kind) × CellOf (declaration T i) q t
  any_cell i q l u =
      let d = data_length i in
      let own = (declaration T i).parameters ++ (declaration T i).locals in
      (get_or own (q - 5) Address, (q - 5, omega arith, slice_get-get_or own (q - 5) Address (omega arith)))

  -- offsets are small
  pub low_cell : (i q : ℕ) (t : Kind) → CellOf (declaration T i) q t → q < 65536
  low_cell i q t c =
      let d = data_length i in
      let f = (few i).0 in
      let n = slice_get_within ((declaration T i).parameters ++ (declaration T i).locals) c.0 t c.2 in
      let e = c.1 in
      omega arith
