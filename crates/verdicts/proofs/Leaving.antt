-- What judge leaves of what it was lent, counted.
use Rattle.std.proofs.Common.{◌≡◌, ℕ, zero, suc, ◌+◌, ◌-◌, ◌*◌, Bool, true, false, cond, nat_eq, List, [], ◌∷◌, length, take, drop, replicate, count_by, Some, None, Ok, Err, Option, Result, sym, refl, ap, ◌∙◌, arith}
use Rattle.std.proofs.lemmas.List.{drop-replicate, drop_at, take-map, length-replicate}
use Rattle.std.proofs.lemmas.List.Folds.{sum_by-replicate}
use Rattle.std.proofs.lemmas.List.Sums.{sum_by-cons}
use Rattle.sheet.specs.Tables.{Contents}
use Rattle.rules.specs.declared.fault.TableFault.{TableFault}
use Rattle.paths.specs.Rows.{Rows, count}
use Rattle.rows.specs.declared.row.Row.{Row}
use Rattle.rows.specs.Rows.{is_row, meaning, no_row, empty_row, equal_records}
use Rattle.transfer.specs.Stacks.{Stack}
use Rattle.judge.specs.Handing.{meanings}
use Rattle.judge.specs.Judgement.{left_in_rows, left_in_places, places_after, checked, RecordsLeft}
use Rattle.verdicts.specs.declared.outcome.Left.{Left}
use Rattle.verdicts.specs.Outcomes.{rows_left, places_left}

-- ---- what lies beyond is as it was
count_all : {X : Type 0} (p : X → Bool) (x : X) → p x ≡ true → (k : ℕ) → count_by p (replicate k x) ≡ k
count_all p x e k = let s = sum_by-replicate (λ y. cond (p y) 1 0) k x ∙ ap (λ b. k * cond b 1 0) e in omega (arith, s)

as_before : {X : Type 0} (p : X → Bool) (x : X) → p x ≡ true → (after : List X) (n k : ℕ) → drop n after ≡ drop n (replicate k x) → count_by p (drop n after) ≡ k - n
as_before p x e after n k d = ap (count_by p) (d ∙ drop-replicate n k x) ∙ count_all p x e (k - n)

places_beyond : (T : Contents) (o : Option TableFault) (places : List ℕ) → drop (length T.code) (places_after o T places) ≡ drop (length T.code) places
places_beyond T (Some f) places = refl
places_beyond T None places = drop_at (replicate (length T.code) 0) (drop (length T.code) places) (length T.code) (length-replicate (length T.code) 0)

rows_beyond : (o : Option TableFault) (v : Result (Rows Stack) TableFault) (n : ℕ) (before after : List Row) → RecordsLeft o v n before after → drop n after ≡ drop n before
rows_beyond (Some f) v n before after e = ap (drop n) e
rows_beyond None (Ok rows) n before after e = e
rows_beyond None (Err f) n before after e = ap (drop n) e ∙ drop_at (replicate n no_row) (drop n before) n (length-replicate n no_row)

-- ---- rows counted as records
counted : (rs : List Row) → count_by is_row rs ≡ count (meanings rs)
counted [] = refl
counted (r ∷ rs) = sum_by-cons (λ x. cond (is_row x) 1 0) r rs ∙ by (is_row r) refl (counted rs)
  where
    by : (b : Bool) → is_row r ≡ b → count_by is_row rs ≡ count (meanings rs) → cond (is_row r) 1 0 + count_by is_row rs ≡ count (meaning r ∷ meanings rs)
    by true e k = rw e (omega (arith, k))
    by false e k = rw e (omega (arith, k))

-- ---- empty rows
empties : (k : ℕ) → meanings (replicate k empty_row) ≡ replicate k (Some [])
empties zero = refl
empties (suc k) = ap (λ rows. Some [] ∷ rows) (empties k)

-- ---- unreached rows
pub unreached_rows : (k : ℕ) → meanings (replicate k no_row) ≡ replicate k None
unreached_rows zero = refl
unreached_rows (suc k) = ap (λ rows. None ∷ rows) (unreached_rows k)

-- ---- both lists
abbrev left_of : ℕ → ℕ → Left
left_of own rest = record { own = own; rest = rest }

pub rows_shown : (T : Contents) (r w : ℕ) (after : List Row) (left : Left) (o : Option TableFault) (v : Result (Rows Stack) TableFault) →
    meanings after ≡ left_in_rows T w (meanings (replicate r empty_row)) → RecordsLeft o v (length T.code) (replicate r empty_row) after →
    left.own ≡ count_by is_row (take (length T.code) after) → left.rest ≡ count_by (λ row. equal_records row empty_row) (drop (length T.code) after) →
    left ≡ rows_left T r w
rows_shown T r w after left o v m b own rest =
    let n = length T.code in
    ap (λ k. left_of k left.rest)
    (own ∙ counted (take n after) ∙ ap count (sym (take-map meaning n after)) ∙ ap (λ rows. count (take n rows)) (m ∙ ap (left_in_rows T w) (empties r)))
    ∙ ap (λ k. left_of (rows_left T r w).own k) (rest ∙ as_before (λ row. equal_records row empty_row) empty_row refl after n r (rows_beyond o v n (replicate r empty_row) after b))

pub places_shown : (T : Contents) (r w : ℕ) (after : List ℕ) (left : Left) → after ≡ left_in_places T r (replicate w 7) →
    left.own ≡ count_by (λ place. nat_eq place 0) (take (length T.code) after) → left.rest ≡ count_by (λ place. nat_eq place 7) (drop (length T.code) after) →
    left ≡ places_left T r w
places_shown T r w after left a own rest =
    let n = length T.code in
    ap (λ k. left_of k left.rest) (own ∙ ap (λ places. count_by (λ place. nat_eq place 0) (take n places)) a)
    ∙ ap (λ k. left_of (places_left T r w).own k)
    (rest ∙ as_before (λ place. nat_eq place 7) 7 refl after n w (ap (drop n) a ∙ places_beyond T (checked T r (length (replicate w 7))) (replicate w 7)))
