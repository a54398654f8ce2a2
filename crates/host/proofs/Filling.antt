-- Lines laid behind each other.
use Rattle.std.proofs.Common.{◌≡◌, ℕ, zero, suc, ◌+◌, ◌-◌, ◌*◌, ◌/◌, ◌<◌, ◌≤◌, false, cond, eqb, List, [], ◌∷◌, ◌++◌, length, take, drop, sym, refl, ap, ◌∙◌, add-one, arith}
use borrow.Rule.Slice.PartMut.{put_mid, Post-is}
use Rattle.std.proofs.lemmas.List.{length-append, length-drop, length-take-le, take_at, take-append-le, drop-append-le, take-append-drop, nil_from_length}
use Rattle.std.proofs.lemmas.Bool.Decides.{nat_tests}
use Rattle.sheet.specs.declared.value.Value.{Value}
use Rattle.host.specs.Hosts.{Meaning, written}
use Rattle.host.specs.Meanings.{lines_mean}
use Rattle.host.specs.Texts.{written_value, written_values}

-- n lines are not changed by what comes behind them
front_only : (n : ℕ) (a b : List ℕ) → length a ≡ 22 * n → written_values n (a ++ b) ≡ written_values n a
front_only zero a b h = refl
front_only (suc n) a b h =
    let long : 22 ≤ length a = omega arith in
    let rest : length (drop 22 a) ≡ 22 * n = length-drop 22 a ∙ omega arith in
    ap (λ l. written_value l ∷ written_values n (drop 22 (a ++ b))) (take-append-le 22 a b long)
    ∙ ap (λ l. written_value (take 22 a) ∷ written_values n l) (drop-append-le 22 a b long)
    ∙ ap (λ vs. written_value (take 22 a) ∷ vs) (front_only n (drop 22 a) b rest)

one_more : (n : ℕ) (a l b : List ℕ) → length a ≡ 22 * n → length l ≡ 22 → written_values (suc n) (a ++ (l ++ b)) ≡ written_values n a ++ (written_value l ∷ [])
one_more zero a l b h k =
    let e : a ≡ [] = nil_from_length a h in
    ap (λ z. written_value (take 22 (z ++ (l ++ b))) ∷ []) e ∙ ap (λ z. written_value z ∷ []) (take_at l b 22 k)
one_more (suc n) a l b h k =
    let long : 22 ≤ length a = omega arith in
    let rest : length (drop 22 a) ≡ 22 * n = length-drop 22 a ∙ omega arith in
    ap (λ z. written_value z ∷ written_values (suc n) (drop 22 (a ++ (l ++ b)))) (take-append-le 22 a (l ++ b) long)
    ∙ ap (λ z. written_value (take 22 a) ∷ written_values (suc n) z) (drop-append-le 22 a (l ++ b) long)
    ∙ ap (λ vs. written_value (take 22 a) ∷ vs) (one_more n (drop 22 a) l b rest k)

-- the bytes with a line at place i
abbrev Laid : List ℕ → ℕ → List ℕ → List ℕ
Laid out i l = take i out ++ (l ++ drop (i + 22) out)

length_laid : (out l : List ℕ) (i : ℕ) → i + 22 ≤ length out → length l ≡ 22 → length (Laid out i l) ≡ length out
length_laid out l i h k =
    let t : length (take i out) ≡ i = length-take-le i out (omega arith) in
    let d : length (drop (i + 22) out) ≡ length out - (i + 22) = length-drop (i + 22) out in
    let a : length (l ++ drop (i + 22) out) ≡ length l + length (drop (i + 22) out) = length-append l (drop (i + 22) out) in
    length-append (take i out) (l ++ drop (i + 22) out) ∙ omega (arith, t, d, a, k, h)

written_more : (out l : List ℕ) (n : ℕ) (x : Value) → 22 * n + 22 ≤ length out → length l ≡ 22 → written_value l ≡ x
    → written_values (n + 1) (Laid out (22 * n) l) ≡ written_values n out ++ (x ∷ [])
written_more out l n x h k e =
    let t : length (take (22 * n) out) ≡ 22 * n = length-take-le (22 * n) out (omega arith) in
    ap (λ m. written_values m (Laid out (22 * n) l)) (add-one n)
    ∙ one_more n (take (22 * n) out) l (drop (22 * n + 22) out) t k
    ∙ ap (λ v. written_values n (take (22 * n) out) ++ (v ∷ [])) e
    ∙ ap (λ vs. vs ++ (x ∷ [])) (sym (front_only n (take (22 * n) out) (drop (22 * n) out) t) ∙ ap (written_values n) (take-append-drop (22 * n) out))

room_left : (len n : ℕ) → 22 * n + 22 ≤ len → (eqb ((len - 22 * n) / 22) 0 ≡ false) × ((len - 22 * (n + 1)) / 22 ≡ (len - 22 * n) / 22 - 1)
room_left len n h =
    let p : 0 < (len - 22 * n) / 22 = omega arith in
    (grind (arith, nat_tests, p), omega arith)

put_line : (vs : List Value) (out l : List ℕ) (n : ℕ) (x : Value) → 22 * n + 22 ≤ length out → length l ≡ 22 → written_value l ≡ x
    → lines_mean vs (n + 1) (Laid out (22 * n) l) ≡ written x (lines_mean vs n out)
put_line vs out l n x h k e =
    let r = room_left (length out) n h in
    let room : (length (Laid out (22 * n) l) - 22 * (n + 1)) / 22 ≡ (length out - 22 * n) / 22 - 1 = ap (λ m. (m - 22 * (n + 1)) / 22) (length_laid out l (22 * n) h k) ∙ r.1 in
    let more : Meaning = record { waiting = vs; written = written_values n out ++ (x ∷ []); room = (length out - 22 * n) / 22 - 1 } in
    ap (λ ws. record { waiting = vs; written = ws; room = (length (Laid out (22 * n) l) - 22 * (n + 1)) / 22 }) (written_more out l n x h k e)
    ∙ ap (λ m. record { waiting = vs; written = written_values n out ++ (x ∷ []); room = m }) room
    ∙ sym (ap (λ b. cond b (lines_mean vs n out) more) r.0)

-- the same of a line copied between the bytes before it and behind it
pub copy_line : (vs : List Value) (out l : List ℕ) (n : ℕ) (x : Value) → 22 * n + 22 ≤ length out → length l ≡ 22 → written_value l ≡ x
    → lines_mean vs (n + 1) (put_mid (22 * n) (22 * n + 22 - 22 * n) out l) ≡ written x (lines_mean vs n out)
copy_line vs out l n x h k e =
    ap (λ r. lines_mean vs (n + 1) (take (22 * n) out ++ (l ++ r))) (Post-is (22 * n) (22 * n + 22) out (omega arith)) ∙ put_line vs out l n x h k e
