-- What is told of a run.
use Rattle.std.proofs.Common.{◌≡◌, ℕ, List, [], ◌++◌, ap, ◌∙◌, sym, subst}
use Rattle.sheet.specs.Tables.{Contents}
use Rattle.columns.specs.Verdicts.{write_verdict}
use Rattle.host.specs.Hosts.{Meaning}
use Rattle.host.specs.Texts.{lines_of, AllValues}
use Rattle.machine.specs.Runs.{begun, go}
use Rattle.run.specs.Answers.{finish_number}
use Rattle.run.specs.Calls.{as_answer}
use Rattle.pegs.specs.SetOuts.{store_cells, most_steps, told}
use Rattle.pegs.proofs.Running.{ending_told}
use Rattle.pegs.proofs.Written.{written_well}

module _ (T : Contents) (h m : Meaning) (none : h.written ≡ []) (same : m ≡ (go T most_steps (begun store_cells h)).state.host) where
  all_values : AllValues m.written
  all_values = subst (λ (k : Meaning). AllValues k.written) (sym same) (written_well T most_steps store_cells h none).values

  pub is_told : (text line : List ℕ) → (AllValues m.written → text ≡ lines_of m.written)
      → line ≡ write_verdict (finish_number (as_answer (go T most_steps (begun store_cells h))).finish) (as_answer (go T most_steps (begun store_cells h))).count
      → text ++ line ≡ told (go T most_steps (begun store_cells h))
  is_told text line t l =
      ap (λ x. x ++ line) (t all_values)
      ∙ ap (λ (k : Meaning). lines_of k.written ++ line) same
      ∙ ap (λ x. lines_of (go T most_steps (begun store_cells h)).state.host.written ++ x)
      (l ∙ ap (λ e. write_verdict e (go T most_steps (begun store_cells h)).count) (ending_told (go T most_steps (begun store_cells h)).ending))
