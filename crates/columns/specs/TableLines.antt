-- The lines of a table's text. Cited by the line reader and by the reader of tables. Assumes nothing.
--   read_line: what a line says by itself; every column is read before any number is held against its range
use Rattle.std.specs.Prelude.{ℕ, ◌^◌, cond, List, [], ◌∷◌, length, take, drop, ℤ, pos, negsuc, Ok, Err, Result, ◌==◌, nat_lt, slice_index}
use Rattle.std.specs.Int.Signed.{mag}
use Rattle.std.specs.Option.{ok_or}
use Rattle.numerals.specs.Numbers.{read_column}
use Rattle.sheet.specs.declared.kind.Kind.{Kind}
use Rattle.sheet.specs.declared.mnemonic.Mnemonic.{Mnemonic}
use Rattle.sheet.specs.Shapes.{named}
use Rattle.columns.specs.declared.letters.LineKind.{LineKind}
use Rattle.columns.specs.declared.letters.LineKind.TheVariants as kind
use Rattle.columns.specs.declared.line.Heading.{Heading}
use Rattle.columns.specs.declared.line.Line.{Line}
use Rattle.columns.specs.declared.line.Line.TheVariants.{Procedure, Cell, Code}
use Rattle.columns.specs.declared.fault.LineFault.{LineFault}
use Rattle.columns.specs.declared.fault.LineFault.TheVariants.{Malformed, OutOfRange}
use Rattle.columns.specs.Faults.{then}
use Rattle.columns.specs.Letters.{line_letter, kind_letter, optional_letter}

-- the number in n columns from column a on
abbrev pub number_in : ℕ → ℕ → List ℕ → Result ℤ LineFault
number_in a n l = ok_or (read_column (take n (drop a l))) Malformed

-- 0 to 65,535
abbrev pub short : ℤ → Result ℕ LineFault
short (pos n) = cond (nat_lt n 65536) (Ok n) (Err OutOfRange)
short (negsuc n) = Err OutOfRange

-- the range of integers
abbrev pub integer : ℤ → Result ℤ LineFault
integer z = cond (nat_lt (mag z) (2 ^ 31)) (Ok z) (Err OutOfRange)

abbrev pub ending : ℕ → Result (Unit {0}) LineFault
ending c = cond (c == 10) (Ok tt) (Err Malformed)

abbrev pub blank_column : ℕ → Result (Unit {0}) LineFault
blank_column c = cond (c == 32) (Ok tt) (Err Malformed)

abbrev pub mnemonic_in : ℕ → ℕ → ℕ → ℕ → Result Mnemonic LineFault
mnemonic_in a b c d = ok_or (named (a ∷ b ∷ c ∷ d ∷ [])) Malformed

-- P, four numbers of 6 columns, the result's letter, and the end
abbrev pub read_procedure : List ℕ → Result Heading LineFault
read_procedure l =
    cond (length l == 27)
    (then (number_in 1 6 l) (λ n. then (number_in 7 6 l) (λ p. then (number_in 13 6 l) (λ f. then (number_in 19 6 l) (λ k.
    then (optional_letter (slice_index l 25)) (λ t. then (ending (slice_index l 26)) (λ _.
    then (short n) (λ n. then (short p) (λ p. then (short f) (λ f. then (short k) (λ k.
    Ok (record { number = n; parent = p; first = f; parameters = k; result = t }))))))))))))
    (Err Malformed)

-- V, a letter, and the end
abbrev pub read_cell : List ℕ → Result Kind LineFault
read_cell l = cond (length l == 3) (then (kind_letter (slice_index l 1)) (λ t. then (ending (slice_index l 2)) (λ _. Ok t))) (Err Malformed)

-- C, a number of 6 columns, a blank, the mnemonic in 4, T, T2, p and q in 12 each, and the end
abbrev pub read_code : List ℕ → Result Line LineFault
read_code l =
    cond (length l == 39)
    (then (number_in 1 6 l) (λ n. then (blank_column (slice_index l 7)) (λ _.
    then (mnemonic_in (slice_index l 8) (slice_index l 9) (slice_index l 10) (slice_index l 11)) (λ m.
    then (optional_letter (slice_index l 12)) (λ t. then (optional_letter (slice_index l 13)) (λ u.
    then (number_in 14 12 l) (λ p. then (number_in 26 12 l) (λ q. then (ending (slice_index l 38)) (λ _.
    then (short n) (λ n. then (integer p) (λ p. then (integer q) (λ q.
    Ok (Code n (record { mnemonic = m; t = t; t2 = u; p = p; q = q }))))))))))))))
    (Err Malformed)

abbrev pub read_as : LineKind → List ℕ → Result Line LineFault
read_as kind.Procedure l = then (read_procedure l) (λ h. Ok (Procedure h))
read_as kind.Cell l = then (read_cell l) (λ t. Ok (Cell t))
read_as kind.Code l = read_code l

abbrev pub read_line : List ℕ → Result Line LineFault
read_line l = then (line_letter (slice_index l 0)) (λ k. read_as k l)
