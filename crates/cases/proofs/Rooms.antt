-- Lists of given lengths give that room.
use Rattle.std.proofs.Common.{◌≡◌, ℕ, List, length, Result, ap, ◌∙◌}
use Rattle.sheet.specs.declared.kind.Kind.{Kind}
use Rattle.sheet.specs.declared.procedure.Procedure.{Procedure}
use Rattle.sheet.specs.declared.instruction.Instruction.{Instruction}
use Rattle.columns.specs.declared.fault.TextFault.{TextFault}
use Rattle.columns.specs.declared.table_text.Extent.{Extent}
use Rattle.columns.specs.TableText.{read_table, answered, room_of}

abbrev extent : ℕ → ℕ → ℕ → Extent
extent p t i = record { procedures = p; cells = t; code = i }

same_room : (room : Extent) (ps : List Procedure) (ts : List Kind) (is : List Instruction) →
    length ps ≡ room.procedures → length ts ≡ room.cells → length is ≡ room.code → room_of ps ts is ≡ room
same_room room ps ts is p t i =
    ap (λ n. extent n (length ts) (length is)) p
    ∙ ap (λ n. extent room.procedures n (length is)) t
    ∙ ap (λ n. extent room.procedures room.cells n) i

pub answer_by_room : (text : List ℕ) (room : Extent) (ps : List Procedure) (ts : List Kind) (is : List Instruction) (answer : Result Extent TextFault) →
    length ps ≡ room.procedures → length ts ≡ room.cells → length is ≡ room.code →
    answer ≡ answered (read_table (room_of ps ts is) text) → answer ≡ answered (read_table room text)
answer_by_room text room ps ts is answer p t i a = a ∙ ap (λ r. answered (read_table r text)) (same_room room ps ts is p t i)
