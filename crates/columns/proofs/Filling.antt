-- Columns written into a line that was filled with ends of line.
use Rattle.std.proofs.Common.{◌≡◌, ℕ, List, [], ◌∷◌, ◌++◌, length, take, drop, replicate, pos, ap, ◌∙◌}
use borrow.Rule.Slice.PartMut.{put_mid}
use Rattle.numerals.specs.Numbers.{write_number}
use Rattle.columns.specs.Verdicts.{write_verdict}
use Rattle.std.proofs.lemmas.List.{take_at, drop_at}

-- 20 columns behind a byte and 20 columns more
two_columns : (x : ℕ) (a b : List ℕ) → length a ≡ 20 → put_mid 21 20 (x ∷ (a ++ replicate 21 10)) b ≡ x ∷ (a ++ (b ++ (10 ∷ [])))
two_columns x a b h =
    let front : take 20 (a ++ replicate 21 10) ≡ a = take_at a (replicate 21 10) 20 h in
    let back : drop 20 (a ++ replicate 21 10) ≡ replicate 21 10 = drop_at a (replicate 21 10) 20 h in
    ap (λ f. x ∷ (f ++ (b ++ drop 20 (drop 20 (a ++ replicate 21 10))))) front ∙ ap (λ r. x ∷ (a ++ (b ++ drop 20 r))) back

-- a verdict's line
pub verdict_line : (a b : List ℕ) (n p : ℕ) → length a ≡ 20 → a ≡ write_number 20 (pos n) → b ≡ write_number 20 (pos p) →
    put_mid 21 20 (122 ∷ (a ++ replicate 21 10)) b ≡ write_verdict n p
verdict_line a b n p h e f =
    two_columns 122 a b h ∙ ap (λ x. 122 ∷ (x ++ (b ++ (10 ∷ [])))) e ∙ ap (λ y. 122 ∷ (write_number 20 (pos n) ++ (y ++ (10 ∷ [])))) f
