-- The two parts of an input make it up.
use Rattle.std.proofs.Common.{◌≡◌, ℕ, ◌-◌, ◌<◌, ◌≤◌, Bool, true, false, cond, eqb, List, [], ◌∷◌, ◌++◌, length, take, Err, sym, refl, ap, ◌∙◌, arith}
use Rattle.std.specs.List.{concat}
use Rattle.std.proofs.Math.Seq.{take-append_seam}
use Rattle.std.proofs.lemmas.Bool.{lt-leb}
use Rattle.std.proofs.lemmas.List.{length-append, append_assoc}
use Rattle.numerals.specs.Lines.{onto, lines}
use Rattle.prepare.specs.Freely.{read_freely}
use Rattle.host.specs.Texts.{checked_values}
use Rattle.pegs.specs.declared.fault.Refusal.TheVariants.{TooLong}
use Rattle.pegs.specs.SetOuts.{line_beyond, with_table, attempted}
use Rattle.pegs.specs.Parts.{most_bytes, lines_before, is_value_line, before_values, from_values, table_text, value_text}

concat_onto : (c : ℕ) (ls : List (List ℕ)) → concat (onto c ls) ≡ c ∷ concat ls
concat_onto c [] = refl
concat_onto c (l ∷ ls) = refl

concat_lines : (t : List ℕ) → concat (lines t) ≡ t
concat_lines [] = refl
concat_lines (c ∷ cs) = by (eqb c 10) (concat_lines cs)
  where
    by : (b : Bool) → concat (lines cs) ≡ cs → concat (cond b ((c ∷ []) ∷ lines cs) (onto c (lines cs))) ≡ c ∷ cs
    by true e = ap (λ ds. c ∷ ds) e
    by false e = concat_onto c (lines cs) ∙ ap (λ ds. c ∷ ds) e

-- a line of a value comes first
pub values_here : (t l : List ℕ) (ls : List (List ℕ)) → is_value_line l ≡ true → lines t ≡ l ∷ ls → value_text t ≡ t
values_here t l ls v e =
    ap (λ x. concat (from_values x)) e ∙ ap (λ b. concat (cond b (l ∷ ls) (from_values ls))) v ∙ ap concat (sym e) ∙ concat_lines t

-- another line comes first
pub values_on : (t u l : List ℕ) → is_value_line l ≡ false → lines t ≡ l ∷ lines u → value_text t ≡ value_text u
values_on t u l v e = ap (λ x. concat (from_values x)) e ∙ ap (λ b. concat (cond b (l ∷ lines u) (from_values (lines u)))) v

pub values_none : (t : List ℕ) → lines t ≡ [] → value_text t ≡ t
values_none t e = ap (λ x. concat (from_values x)) e ∙ ap concat (sym e) ∙ concat_lines t

parts_of : (ls : List (List ℕ)) → concat (before_values ls) ++ concat (from_values ls) ≡ concat ls
parts_of [] = refl
parts_of (l ∷ ls) = by (is_value_line l) (parts_of ls)
  where
    by : (b : Bool) → concat (before_values ls) ++ concat (from_values ls) ≡ concat ls → concat (cond b [] (l ∷ before_values ls)) ++ concat (cond b (l ∷ ls) (from_values ls)) ≡ concat (l ∷ ls)
    by true e = refl
    by false e = append_assoc l (concat (before_values ls)) (concat (from_values ls)) ∙ ap (λ x. l ++ x) e

pub parts_make_it_up : (input : List ℕ) → table_text input ++ value_text input ≡ input
parts_make_it_up input = parts_of (lines input) ∙ concat_lines input

pub front_is_table : (input front : List ℕ) → front ≡ take (length input - length (value_text input)) input → front ≡ table_text input
front_is_table input front e =
    let p = parts_make_it_up input in
    let n = length-append (table_text input) (value_text input) in
    let q = ap length p in
    let k : length input - length (value_text input) ≡ length (table_text input) = omega arith in
    e ∙ ap (λ i. take i input) k ∙ ap (λ x. take (length (table_text input)) x) (sym p) ∙ take-append_seam (table_text input) (value_text input)

pub values_within : (input : List ℕ) → length (value_text input) ≤ length input
values_within input =
    let n = length-append (table_text input) (value_text input) in
    let q = ap length (parts_make_it_up input) in
    omega arith

pub too_long : (input : List ℕ) → most_bytes < length input → attempted input ≡ Err (TooLong (line_beyond input))
too_long input l =
    ap (λ b. cond b (with_table (read_freely (table_text input)) (lines_before input) (checked_values (value_text input))) (Err (TooLong (line_beyond input))))
    (lt-leb (length input) most_bytes l)
