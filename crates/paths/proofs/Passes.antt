-- Rows that judge leaves, admit passes. Assumes nothing.
use Rattle.std.proofs.Common.{◌≡◌, ℕ, None, Option, subst}
use Rattle.paths.specs.Flows.{Flow, Lawful}
use Rattle.paths.specs.Judging.{Progress, going}
use Rattle.paths.specs.Invariants.{Closed, Keeps}
use Rattle.paths.specs.Admitting.{entry_at}
use Rattle.paths.specs.Admitted.{Apart, Suits, Passes}
use Rattle.paths.proofs.Lists.{all_map, all_of}
use Rattle.paths.proofs.Judging.{judge_keeps}
use Rattle.paths.proofs.Admitting.{admit_exact}

module _ {R F : Type 0} (ρ : Flow R F) (fit : ℕ → R → Option F) (law : Lawful ρ) (apart : Apart ρ) (suits : Suits ρ fit) where
  abbrev FitHere : ℕ → R → Type 0
  FitHere i r = entry_at ρ.entries i ≡ None → fit i r ≡ None

  closed : Closed ρ FitHere
  closed = record {
    begins = all_of (λ h. FitHere h.0 h.1) ρ.entries (λ h m n. let e = apart h.0 h.1 m in cc);
    goes = λ i r hs b o. all_map (λ h. fit h.0 h.1 ≡ None) (λ h. FitHere h.0 h.1) hs (λ h e n. e) (suits.handed i r hs o);
    meets = λ i q s t a b m n. suits.lowered i q s t (a n) (b n) m;
  }

  abbrev Ends : Progress R F → Type 0
  Ends = Keeps ρ FitHere

  pub judge_passes : Passes ρ fit
  judge_passes = λ rows work e. (
      let x : Ends (going rows work) = subst Ends e (judge_keeps ρ law FitHere closed) in
      ((admit_exact ρ fit law.inside.starts apart).accepts rows x.0.wide).1 (x.0, λ i r n f. x.1 i r f n))
