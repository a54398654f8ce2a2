-- Judging is exact. Assumes nothing.
use Rattle.std.proofs.Common.{◌≡◌, ℕ, Bool, true, false, ◌↔◌, List, [], Some, refl, ap, ◌∙◌, subst, inl, inr, arith}
use Rattle.paths.specs.Lists.{In}
use Rattle.paths.specs.Flows.{Hand, Transfer, hands_on, keep, lower, clash, Flow, Below, Inside, Lawful, Monotone}
use Rattle.paths.specs.Paths.{PathTo, start, next, Reached, Clean, MetOnAPath}
use Rattle.paths.specs.Rows.{Rows, row_at, count, Local}
use Rattle.paths.specs.Judging.{Progress, going, refused, judge}
use Rattle.paths.specs.Invariants.{Closed, Keeps}
use Rattle.paths.specs.Exact.{agree, Tells, strict, Accepts, Exact, JudgeIsExact}
use Rattle.paths.proofs.Lists.{all_of}
use Rattle.paths.proofs.Judging.{judge_keeps}
use Rattle.paths.proofs.Counts.{counts_as, counts_rows}
use Rattle.paths.proofs.Covers.{covers, keeps}
use Rattle.paths.proofs.Entering.{judge_empties}

agree_keep : {R : Type 0} (b : Bool) → agree {R = R} b ≡ keep → b ≡ true
unfolding agree
agree_keep true k = refl
agree_keep false k = cc

-- rows that are equal or not are never lowered
pub agree_lower : {R : Type 0} (b : Bool) (t : R) → agree b ≡ lower t → ⊥
unfolding agree
agree_lower true t k = let z : ◌≡◌ {A = ℕ} 0 1 = cc in omega arith
agree_lower false t k = let z : ◌≡◌ {A = ℕ} 0 1 = cc in omega arith

agree_true : {R : Type 0} (b : Bool) → b ≡ true → agree {R = R} b ≡ keep
unfolding agree
agree_true b e = rw e

module _ {R F : Type 0} (same : R → R → Bool) (tells : Tells same) (n : ℕ) (es : List (Hand R)) (f : ℕ → R → Transfer R F) (d : F) where
  abbrev ρ : Flow R F
  ρ = strict same n es f d

  equal : (q s : R) → Below ρ q s → q ≡ s
  equal q s b = (tells q s).0 (agree_keep (same q s) b)

  below : (q s : R) → q ≡ s → Below ρ q s
  below q s e = agree_true (same q s) ((tells q s).1 e)

  apart : (q s : R) → ρ.meet q s ≡ clash → ¬ (q ≡ s)
  apart q s m e = let k = below q s e in let z : ◌≡◌ {A = ℕ} 0 1 = cc in omega arith

  pub strict_law : Inside ρ → Lawful ρ
  strict_law ins = record {
    same = λ r. below r r refl;
    chain = λ p q r a b. below p r (equal p q a ∙ equal q r b);
    under = λ q s t e. absurd (agree_lower (same q s) t e);
    falls = λ q s t e. absurd (agree_lower (same q s) t e);
    small = λ r. omega arith;
    inside = ins;
  }

  strict_mono : Monotone ρ
  strict_mono = record {
    passes = λ i q r hs b e. (
      hs,
      subst (λ (x : R). f i x ≡ hands_on hs) (equal q r b) e,
      all_of (λ g. (s : R) × In (g.0, s) hs × Below ρ s g.1) hs (λ g m. (g.1, m, below g.1 g.1 refl)),
    );
  }

  strict_closed : Closed ρ (PathTo ρ)
  strict_closed = record {
    begins = all_of (λ h. PathTo ρ h.0 h.1) es (λ h m. start h.0 h.1 m);
    goes = λ i r hs p e. all_of (λ h. PathTo ρ h.0 h.1) hs (λ h m. next i r hs h.0 h.1 p e m);
    meets = λ i q s t a b e. absurd (agree_lower (same q s) t e);
  }

  module _ (ins : Inside ρ) where
    abbrev Ends : Progress R F → Type 0
    Ends = Keeps ρ (PathTo ρ)

    outcome : Ends (judge ρ)
    outcome = judge_keeps ρ (strict_law ins) (PathTo ρ) strict_closed

    clean : (rows : Rows R) → Local ρ rows → Clean ρ
    clean rows loc = record {
      keeps = keeps ρ (strict_law ins) strict_mono rows loc;
      agrees = λ i r s a b. (
          let x = covers ρ (strict_law ins) strict_mono rows loc i r a in
          let y = covers ρ (strict_law ins) strict_mono rows loc i s b in
          let p = equal x.0 r x.2 in
          let q = equal y.0 s y.2 in
          let x₁ = x.1 in
          let y₁ = y.1 in
          cc);
    }

    decide : Clean ρ → (x : Progress R F) → judge ρ ≡ x → Ends x → Accepts ρ
    decide c (going rows work) e o = (rows, work, e)
    decide c (refused g i) e (inl x) = absurd (c.keeps i x.0 g x.1 x.2)
    decide c (refused g i) e (inr x) = absurd (apart x.0 x.1 x.4 (c.agrees i x.0 x.1 x.2 x.3))

    names' : (g : F) (i : ℕ) → Ends (refused g i) → MetOnAPath ρ g i
    names' g i (inl x) = inl x
    names' g i (inr x) = inr (x.0, x.1, x.2, x.3, apart x.0 x.1 x.4, x.5)

    brings' : (rows : Rows R) → Ends (going rows []) → (i : ℕ) (r : R) → (row_at rows i ≡ Some r) ↔ PathTo ρ i r
    brings' rows o i r = (
      λ a. o.1 i r a,
      λ p. (
          let x = covers ρ (strict_law ins) strict_mono rows o.0 i r p in
          let q = equal x.0 r x.2 in
          let x₁ = x.1 in
          cc),
    )

    ends : (rows : Rows R) (work : List ℕ) → judge ρ ≡ going rows work → Ends (going rows [])
    ends rows work e = subst Ends (e ∙ ap (going rows) (judge_empties ρ rows work e)) outcome

    pub strict_exact : Exact ρ
    strict_exact = record {
      accepts = (λ a. clean a.0 (ends a.0 a.1 a.2).0, λ c. decide c (judge ρ) refl outcome);
      names = λ g i e. names' g i (subst Ends e outcome);
      empty = judge_empties ρ;
      holds = λ rows work e. (ends rows work e).0;
      brings = λ rows work e. brings' rows (ends rows work e);
      counts = λ rows work e. (
          let b = brings' rows (ends rows work e) in
          counts_as (count rows) (λ i. (r : R) × (row_at rows i ≡ Some r)) (Reached ρ) (counts_rows rows)
          (λ i. (λ x. (x.0, (b i x.0).0 x.1), λ x. (x.0, (b i x.0).1 x.1))));
    }

pub judge_is_exact : JudgeIsExact
judge_is_exact = λ same tells n es f d ins. strict_exact same tells n es f d ins
