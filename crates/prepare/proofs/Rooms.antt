-- A list with a place for each line of a text is long enough for the records of its lines.
use Rattle.std.proofs.Common.{◌≡◌, ℕ, ◌+◌, ◌≤◌, ◌&&◌, cond, leb, List, [], ◌∷◌, map, length, Some, None, Ok, Err, Option, sym, refl, ap, ◌∙◌, arith}
use Rattle.std.specs.Option.{option_or}
use Rattle.std.proofs.lemmas.Bool.{le-leb}
use Rattle.std.proofs.lemmas.Bool.Decides.{nat_tests}
use Rattle.std.proofs.lemmas.List.{length-map}
use Rattle.numerals.specs.Lines.{lines}
use Rattle.sheet.specs.declared.kind.Kind.{Kind}
use Rattle.sheet.specs.declared.procedure.Procedure.{Procedure}
use Rattle.sheet.specs.declared.instruction.Instruction.{Instruction}
use Rattle.sheet.specs.Tables.{Contents}
use Rattle.columns.specs.declared.fault.TextFault.TheVariants.{Malformed, Misplaced, TooLong}
use Rattle.columns.specs.declared.line.Line.TheVariants as line
use Rattle.columns.specs.declared.table_text.Extent.{Extent}
use Rattle.columns.specs.declared.table_text.Counts.{Counts}
use Rattle.columns.specs.Faults.{refuse}
use Rattle.columns.specs.Scans.{first_failing}
use Rattle.columns.specs.TableLines.{read_line}
use Rattle.columns.specs.TableText.{Form, Order, Room, Said, counted, passes, start, first_fault, read_by, read_table, contents, code_of, lines_of, room_of, extent_of}
use Rattle.rules.specs.declared.fault.TableFault.TheVariants.{TooFewPlaces}
use Rattle.rules.specs.Operands.{operand_fault}
use Rattle.rules.specs.Procedures.{table_fault}
use Rattle.judge.specs.Judgement.{places_fault, judged_after, judged, answered}
use Rattle.prepare.specs.Preparing.{ready, prepared}
use Rattle.prepare.specs.Freely.{read_freely, judged_freely}

-- a place in each list for each line
abbrev pub room_for : List ℕ → Extent
room_for text = let n = length (lines text) in record { procedures = n; cells = n; code = n }

-- no list has to take more records than there are lines
roomy : (room : Extent) (c : Counts) (n : ℕ) (xs : List Said) →
    c.total.procedures + length xs ≤ room.procedures → c.total.cells + length xs ≤ room.cells → c.total.code + length xs ≤ room.code →
    first_failing counted (passes (Room room)) c n xs ≡ None
roomy room c n [] p d i = refl
roomy room c n (Ok (line.Procedure h) ∷ xs) p d i =
    let ih = roomy room (counted c (Ok (line.Procedure h))) (n + 1) xs (omega arith) (omega arith) (omega arith) in
    grind (arith, nat_tests)
roomy room c n (Ok (line.Cell t) ∷ xs) p d i =
    let ih = roomy room (counted c (Ok (line.Cell t))) (n + 1) xs (omega arith) (omega arith) (omega arith) in
    grind (arith, nat_tests)
roomy room c n (Ok (line.Code k x) ∷ xs) p d i =
    let ih = roomy room (counted c (Ok (line.Code k x))) (n + 1) xs (omega arith) (omega arith) (omega arith) in
    grind (arith, nat_tests)
roomy room c n (Err e ∷ xs) p d i = roomy room c (n + 1) xs (omega arith) (omega arith) (omega arith)

lines_give_room : (text : List ℕ) → first_fault (Room (room_for text)) text ≡ None
lines_give_room text =
    let e = length-map (lines text) read_line in
    roomy (room_for text) start 1 (map read_line (lines text)) (omega arith) (omega arith) (omega arith)

by_scans : (text : List ℕ) (room : Extent) (f o r : Option ℕ) → r ≡ None →
    read_by (refuse Malformed f (refuse Misplaced o (refuse TooLong r (Ok tt)))) text
    ≡ refuse Malformed f (refuse Misplaced o (Ok (contents (lines_of text))))
by_scans text room (Some n) o r e = refl
by_scans text room None (Some n) r e = refl
by_scans text room None None None e = refl
by_scans text room None None (Some n) e = let z : ◌≡◌ {A = ℕ} 0 1 = cc in grind arith

reads_freely : (text : List ℕ) → read_table (room_for text) text ≡ read_freely text
reads_freely text = by_scans text (room_for text) (first_fault Form text) (first_fault Order text) (first_fault (Room (room_for text)) text) (lines_give_room text)

-- lists with a place for each line are read into as freely as may be
pub read_by_lines : (text : List ℕ) (n : ℕ) (ps : List Procedure) (ts : List Kind) (is : List Instruction) →
    n ≡ length (lines text) → length ps ≡ n → length ts ≡ n → length is ≡ n → read_table (room_of ps ts is) text ≡ read_freely text
read_by_lines text n ps ts is e p t i =
    let same : room_of ps ts is ≡ room_for text = cc in
    ap (λ r. read_table r text) same ∙ reads_freely text

-- judging asks for no more than a row and a place for each instruction
enough : (T : Contents) (r w : ℕ) → length T.code ≤ r → length T.code ≤ w → places_fault T r w ≡ None
enough T r w h k = ap (λ b. cond (b && leb (length T.code) w) None (Some TooFewPlaces)) (le-leb (length T.code) r h) ∙ ap (λ b. cond b None (Some TooFewPlaces)) (le-leb (length T.code) w k)

pub judged_by_enough : (T : Contents) (r w : ℕ) → length T.code ≤ r → length T.code ≤ w → judged T r w ≡ judged T (length T.code) (length T.code)
judged_by_enough T r w h k =
    ap (λ f. judged_after (option_or (table_fault T) (option_or f (operand_fault T))) T)
    (enough T r w h k ∙ sym (enough T (length T.code) (length T.code) (omega arith) (omega arith)))

pub few_code : (xs : List Said) → length (code_of xs) ≤ length xs
few_code [] = omega arith
few_code (Ok (line.Procedure h) ∷ xs) = let ih = few_code xs in omega arith
few_code (Ok (line.Cell t) ∷ xs) = let ih = few_code xs in omega arith
few_code (Ok (line.Code k x) ∷ xs) = let ih = few_code xs in omega arith
few_code (Err e ∷ xs) = let ih = few_code xs in omega arith

pub freely : (T : Contents) (n : ℕ) → length T.code ≤ n → (f o : Option ℕ) →
    prepared (refuse Malformed f (refuse Misplaced o (Ok T))) n n ≡ judged_freely (refuse Malformed f (refuse Misplaced o (Ok T)))
freely T n h (Some k) o = refl
freely T n h None (Some k) = refl
freely T n h None None = ap (λ r. ready (extent_of T) (answered r)) (judged_by_enough T n n h h)
