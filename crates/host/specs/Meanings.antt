-- What each kind of host means. Cited by their makers and by their methods. Assumes nothing.
--   lists_mean, meaning_of_lists: the first list, what the second holds so far, and the places left in it
--   lines_mean, meaning_of_lines: the values of the lines left, those of the lines written, and how many lines more the
--     free bytes take
--   text_written: the bytes of the lines written
--   begun, lines_begun: what a host means that is made over a text and n free bytes, or the fault of the text
--   meaning_made: what the host means that was made, if one was
use Rattle.std.specs.Prelude.{ℕ, ◌-◌, ◌*◌, ◌/◌, List, [], length, take, Ok, Err, Result}
use Rattle.sheet.specs.declared.value.Value.{Value}
use Rattle.columns.specs.declared.fault.TextFault.{TextFault}
use Rattle.pile.specs.Piles.{depth, places_of}
use Rattle.host.specs.declared.lists.Lists.{Lists}
use Rattle.host.specs.declared.lines.Lines.{Lines}
use Rattle.host.specs.Hosts.{Meaning}
use Rattle.host.specs.Texts.{values_in, checked_values, written_values}

abbrev pub lists_mean : List Value → ℕ → List Value → Meaning
lists_mean left done output = record { waiting = left; written = take done output; room = length output - done }

abbrev pub meaning_of_lists : Lists → Meaning
meaning_of_lists h = lists_mean h.input.now (depth h.output) (places_of h.output)

abbrev pub lines_mean : List Value → ℕ → List ℕ → Meaning
lines_mean left done output = record { waiting = left; written = written_values done output; room = (length output - 22 * done) / 22 }

abbrev pub meaning_of_lines : Lines → Meaning
meaning_of_lines h = lines_mean (values_in h.input.now) h.done h.output.now

abbrev pub text_written : Lines → List ℕ
text_written h = take (22 * h.done) h.output.now

abbrev pub begun : Result (List Value) TextFault → ℕ → Result Meaning TextFault
begun (Ok vs) n = Ok (record { waiting = vs; written = []; room = n / 22 })
begun (Err f) n = Err f

abbrev pub lines_begun : List ℕ → ℕ → Result Meaning TextFault
lines_begun text n = begun (checked_values text) n

abbrev pub meaning_made : Result Lines TextFault → Result Meaning TextFault
meaning_made (Ok h) = Ok (meaning_of_lines h)
meaning_made (Err f) = Err f
