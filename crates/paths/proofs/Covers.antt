-- Rows that hold locally lie below whatever a path brings. Assumes nothing.
use Rattle.std.proofs.Common.{◌≡◌, ℕ, List, Some, arith}
use Rattle.paths.specs.Lists.{In, All}
use Rattle.paths.specs.Flows.{Hand, breaks, hands_on, Flow, Below, Lawful, Monotone}
use Rattle.paths.specs.Paths.{PathTo, start, next}
use Rattle.paths.specs.Rows.{Rows, row_at, Held, Local}
use Rattle.paths.proofs.Lists.{all_in, all_of}

module _ {R F : Type 0} (ρ : Flow R F) (law : Lawful ρ) (mono : Monotone ρ) (rows : Rows R) (loc : Local ρ rows) where
  -- what a row above the one in place hands on is held
  pub step_down : (i : ℕ) (r : R) (q : R) → row_at rows i ≡ Some q → Below ρ q r → (hs : List (Hand R)) → ρ.transfer i r ≡ hands_on hs → All (Held ρ rows) hs
  step_down i r q e b hs o = all_of (Held ρ rows) hs each
    where
      each : (h : Hand R) → In h hs → Held ρ rows h
      each h m =
          let s = loc.kept i q e in
          let p = mono.passes i q r s.0 b s.1 in
          let p₁ = p.1 in
          let z : p.0 ≡ hs = cc in
          let g = all_in (λ g. (s' : R) × In (g.0, s') s.0 × Below ρ s' g.1) p.0 h p.2 (rw z m) in
          let k = all_in (Held ρ rows) s.0 (h.0, g.0) s.2 g.1 in
          (k.0, k.1, law.chain k.0 g.0 h.1 k.2 g.2)

  -- what a path brings is held
  pub covers : (i : ℕ) (r : R) → PathTo ρ i r → Held ρ rows (i, r)
  covers _ _ (start i r m) = all_in (Held ρ rows) ρ.entries (i, r) loc.entered m
  covers _ _ (next i r hs j s p o m) =
      let c = covers i r p in
      all_in (Held ρ rows) hs (j, s) (step_down i r c.0 c.1 c.2 hs o) m

  -- no path breaks a rule
  pub keeps : (i : ℕ) (r : R) (f : F) → PathTo ρ i r → ρ.transfer i r ≡ breaks f → ⊥
  keeps i r f p e =
      let c = covers i r p in
      let s = loc.kept i c.0 c.1 in
      let g = mono.passes i c.0 r s.0 c.2 s.1 in
      let g₁ = g.1 in
      let z : ◌≡◌ {A = ℕ} 0 1 = cc in
      omega arith
