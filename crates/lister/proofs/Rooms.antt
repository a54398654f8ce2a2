-- What is read and judged with a place for each line is so as freely as may be.
use Rattle.std.proofs.Common.{◌≡◌, ℕ, List, length, Option, ap, ◌∙◌, arith}
use Rattle.std.proofs.lemmas.List.{length-map}
use Rattle.numerals.specs.Lines.{lines}
use Rattle.sheet.specs.declared.kind.Kind.{Kind}
use Rattle.sheet.specs.declared.procedure.Procedure.{Procedure}
use Rattle.sheet.specs.declared.instruction.Instruction.{Instruction}
use Rattle.columns.specs.TableLines.{read_line}
use Rattle.columns.specs.TableText.{Form, Order, first_fault, read_table, contents, lines_of, room_of}
use Rattle.prepare.specs.Freely.{read_freely}
use Rattle.prepare.specs.Preparing.{prepared}
use Rattle.prepare.proofs.Rooms.{read_by_lines, few_code, freely}
use Rattle.lister.specs.Listings.{end_line, verdict_on}

pub verdict_by_lines : (text verdict : List ℕ) (n r w : ℕ) (ps : List Procedure) (ts : List Kind) (is : List Instruction) →
    n ≡ length (lines text) → length ps ≡ n → length ts ≡ n → length is ≡ n → r ≡ n → w ≡ n →
    verdict ≡ end_line (prepared (read_table (room_of ps ts is) text) r w) → verdict ≡ verdict_on text
verdict_by_lines text verdict n r w ps ts is e p t i a b v =
    let m = length-map (lines text) read_line in
    let few = few_code (lines_of text) in
    v
    ∙ ap (λ x. end_line (prepared x r w)) (read_by_lines text n ps ts is e p t i)
    ∙ ap (λ k. end_line (prepared (read_freely text) k w)) a
    ∙ ap (λ k. end_line (prepared (read_freely text) n k)) b
    ∙ ap end_line (freely (contents (lines_of text)) n (omega arith) (first_fault Form text) (first_fault Order text))
