-- Every refusal of a text of values has its cause.
use Rattle.std.proofs.Common.{◌≡◌, ℕ, List, Some, None, Ok, Option, refl}
use Rattle.columns.specs.declared.fault.TextFault.TheVariants.{Malformed, Misplaced, TooLong}
use Rattle.columns.specs.Faults.{refuse}
use Rattle.columns.specs.ValueText.{Form, Range, Room, values_of, one_more, value_passes, first_value_fault, values_by}
use Rattle.columns.specs.ValueCauses.{Clear, Justified, ValuesRefusedForCause}
use Rattle.columns.proofs.Causes.{all_pass, first_fails}

room_by : (room : ℕ) (text : List ℕ) (o : Option ℕ) → first_value_fault (Room room) text ≡ o → Clear Form text → Clear Range text
    → Justified room text (values_by (refuse TooLong o (Ok tt)) text)
room_by room text None e f g = (f, g, all_pass one_more (value_passes (Room room)) 0 1 (values_of text) e)
room_by room text (Some n) e f g = (f, g, first_fails one_more (value_passes (Room room)) 0 (values_of text) n e)

range_by : (room : ℕ) (text : List ℕ) (o : Option ℕ) → first_value_fault Range text ≡ o → Clear Form text
    → Justified room text (values_by (refuse Misplaced o (refuse TooLong (first_value_fault (Room room) text) (Ok tt))) text)
range_by room text None e f = room_by room text (first_value_fault (Room room) text) refl f (all_pass one_more (value_passes Range) 0 1 (values_of text) e)
range_by room text (Some n) e f = (f, first_fails one_more (value_passes Range) 0 (values_of text) n e)

form_by : (room : ℕ) (text : List ℕ) (o : Option ℕ) → first_value_fault Form text ≡ o
    → Justified room text (values_by (refuse Malformed o (refuse Misplaced (first_value_fault Range text) (refuse TooLong (first_value_fault (Room room) text) (Ok tt)))) text)
form_by room text None e = range_by room text (first_value_fault Range text) refl (all_pass one_more (value_passes Form) 0 1 (values_of text) e)
form_by room text (Some n) e = first_fails one_more (value_passes Form) 0 (values_of text) n e

pub values_refused_for_cause : ValuesRefusedForCause
values_refused_for_cause room text = form_by room text (first_value_fault Form text) refl
