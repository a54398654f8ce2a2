-- What is set out: all that comes of an input. Cited by set_out. Assumes nothing.
--   store_cells, most_steps: the cells that a run begins over, and the steps that it goes
--   ran: how a run of a table goes over a host
--   told: the lines of the values written, and the verdict: the number and the count
--   run_if_right: a table is judged, and run where it is right. What judging leaves, admit accepts, and begin refuses no
--     store of this length, so neither is asked here
--   waiting: a host with these values waiting, nothing written, and room for so many bytes
--   with_rows, with_values, with_table: what comes of a table once it is judged, of its values, and of its text: each
--     part is asked only where the part before refuses nothing
--   line_beyond: where an input is too long
--   attempted: the text told, or the refusal
--   set_out: the text told, or the number and the place of the refusal and nothing else
--   host_made, made_behind: what the host means that was made over values typed behind so many lines, or the refusal
--   Why: why an attempt gave no text
use Rattle.std.specs.Prelude.{◌≡◌, ℕ, ◌+◌, ◌/◌, cond, List, [], ◌++◌, length, take, Ok, Err, Result, nat_le}
use Rattle.sheet.specs.declared.value.Value.{Value}
use Rattle.sheet.specs.Tables.{Contents}
use Rattle.numerals.specs.Lines.{lines}
use Rattle.columns.specs.declared.fault.TextFault.{TextFault}
use Rattle.columns.specs.Verdicts.{write_verdict}
use Rattle.rules.specs.declared.fault.TableFault.{TableFault}
use Rattle.paths.specs.Rows.{Rows}
use Rattle.transfer.specs.Stacks.{Stack}
use Rattle.judge.specs.Judgement.{judged}
use Rattle.prepare.specs.Freely.{read_freely}
use Rattle.host.specs.declared.lines.Lines.{Lines}
use Rattle.host.specs.Hosts.{Meaning}
use Rattle.host.specs.Meanings.{meaning_of_lines}
use Rattle.host.specs.Texts.{checked_values, lines_of}
use Rattle.machine.specs.Endings.{ending_of}
use Rattle.machine.specs.Runs.{Went, begun, go}
use Rattle.pegs.specs.declared.fault.Failure.{Failure}
use Rattle.pegs.specs.declared.fault.Failure.TheVariants.{NoMemory, Refused}
use Rattle.pegs.specs.declared.fault.Refusal.{Refusal}
use Rattle.pegs.specs.declared.fault.Refusal.TheVariants.{TooLong, Text, Values, Table}
use Rattle.pegs.specs.Parts.{most_bytes, table_text, value_text, lines_before}
use Rattle.pegs.specs.Refusals.{refusal_number, refusal_place}

abbrev pub store_cells : ℕ
store_cells = 1024

abbrev pub most_steps : ℕ
most_steps = 1000000

abbrev pub ran : Contents → Meaning → Went
ran T h = go T most_steps (begun store_cells h)

abbrev pub told : Went → List ℕ
told w = lines_of w.state.host.written ++ write_verdict (ending_of w.ending) w.count

abbrev pub Attempt : Type 0
Attempt = Result (List ℕ) Refusal

abbrev pub with_rows : Contents → Meaning → Result (Rows Stack) TableFault → Attempt
with_rows T h (Ok rows) = Ok (told (ran T h))
with_rows T h (Err f) = Err (Table f)

abbrev pub run_if_right : Contents → Meaning → Attempt
run_if_right T h = with_rows T h (judged T (length T.code) (length T.code))

-- a line of a value has 22 bytes
abbrev pub waiting : List Value → Meaning
waiting vs = record { waiting = vs; written = []; room = most_bytes / 22 }

abbrev pub with_values : Contents → (before : ℕ) → Result (List Value) TextFault → Attempt
with_values T before (Ok vs) = run_if_right T (waiting vs)
with_values T before (Err f) = Err (Values before f)

abbrev pub with_table : Result Contents TextFault → (before : ℕ) → Result (List Value) TextFault → Attempt
with_table (Ok T) before typed = with_values T before typed
with_table (Err f) before typed = Err (Text f)

-- the line in which the first byte too many stands: the last line up to it
abbrev pub line_beyond : List ℕ → ℕ
line_beyond input = length (lines (take (most_bytes + 1) input))

abbrev pub attempted : List ℕ → Attempt
attempted input =
    cond (nat_le (length input) most_bytes)
    (with_table (read_freely (table_text input)) (lines_before input) (checked_values (value_text input)))
    (Err (TooLong (line_beyond input)))

abbrev pub answered : Attempt → List ℕ
answered (Ok text) = text
answered (Err r) = write_verdict (refusal_number r) (refusal_place r)

abbrev pub set_out : List ℕ → List ℕ
set_out input = answered (attempted input)

abbrev pub host_made : Result Lines Refusal → Result Meaning Refusal
host_made (Ok h) = Ok (meaning_of_lines h)
host_made (Err r) = Err r

abbrev pub made_behind : (before : ℕ) → Result Meaning TextFault → Result Meaning Refusal
made_behind before (Ok h) = Ok h
made_behind before (Err f) = Err (Values before f)

-- memory ran out, or it is refused
abbrev pub Why : Attempt → Failure → Type 0
Why a (NoMemory e) = Unit {0}
Why a (Refused r) = a ≡ Err r
