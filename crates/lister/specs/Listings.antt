-- How the listing of a table's text ends. Cited by what makes one. Assumes nothing.
--   end_line: the verdict on an answer: 0 and how many instructions paths reach, or the refusal's number and its place
--   verdict_on: the verdict on a text
--   EndsIn: a list ends in another
use Rattle.std.specs.Prelude.{◌≡◌, ℕ, List, ◌++◌, Ok, Err, Result}
use Rattle.columns.specs.Verdicts.{write_verdict}
use Rattle.prepare.specs.declared.fault.PrepareFault.{PrepareFault}
use Rattle.prepare.specs.declared.prepare.Prepared.{Prepared}
use Rattle.prepare.specs.Faults.{number_of, place_of}
use Rattle.prepare.specs.Freely.{read_freely, judged_freely}

abbrev pub end_line : Result Prepared PrepareFault → List ℕ
end_line (Ok p) = write_verdict 0 p.reached
end_line (Err f) = write_verdict (number_of f) (place_of f)

abbrev pub verdict_on : List ℕ → List ℕ
verdict_on text = end_line (judged_freely (read_freely text))

abbrev pub EndsIn : List ℕ → List ℕ → Type 0
EndsIn ys xs = (front : List ℕ) × (xs ≡ front ++ ys)
