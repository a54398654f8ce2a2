use Rattle.std.proofs.Common.{◌≡◌, ℕ, zero, suc, ◌+◌, ◌-◌, ◌<◌, ◌≤◌, Bool, true, false, cond, ◌&&◌, T, eqb, leb, List, [], ◌∷◌, ◌++◌, map, length, get_or, take, drop, set, replicate, Some, None, Decides, sym, refl, ap, ◌∙◌, le_of_suc-le-suc, not-suc-le-zero, arith}
use Rattle.std.proofs.Math.Bool.{and_assoc}
use Rattle.std.proofs.lemmas.Bool.Decides.{same_from_decides}
use Rattle.std.proofs.lemmas.Slice.Eq.{bytes_eq-Decides}
use Rattle.std.proofs.lemmas.Bool.{eq-eqb, ltb-true, ne_eqb, eqb-true, and_parts, and_from, cond-true, cond_both, le-leb, leb-true}
use Rattle.std.proofs.lemmas.List.{take_more_set, map_push, drop-set-lt, drop_more, take-set, take-map, take-take, drop-set, at_drop_more, length-take-le, length-drop, take-append-drop}
use Rattle.rows.specs.declared.row.Row.{Row}
use Rattle.sheet.specs.declared.kind.Kind.TheVariants.{Address, Boolean, Character, Integer, Real}
use Rattle.rows.specs.declared.entry.Entry.{Entry}
use Rattle.rows.specs.declared.entry.Entry.TheVariants.{Value, Mark}
use Rattle.std.specs.List.{All}
use Rattle.std.specs.Cmp.Lexicographic.{pointwise}
use Rattle.std.proofs.lemmas.Slice.Eq.{slice_eq-Decides}
use Rattle.std.proofs.lemmas.Bool.Decides.{Decides-eqb}
use Rattle.rows.specs.Entries.{entry_of, proper, byte_of}
use Rattle.rows.specs.Rows.{every, entries, blanks, is_row, bottom_up, same, equal_records, EqualRecordsAreOne}

pub every_append : {X : Type 0} (p : X → Bool) (xs ys : List X) → every p (xs ++ ys) ≡ (every p xs && every p ys)
every_append p [] ys = refl
every_append p (x ∷ xs) ys = ap (λ b. p x && b) (every_append p xs ys) ∙ sym (and_assoc (p x) (every p xs) (every p ys))

pub entry_code : (e : Entry) → proper e ≡ true → entry_of (byte_of e) ≡ e
entry_code (Value Address) h = refl
entry_code (Value Boolean) h = refl
entry_code (Value Character) h = refl
entry_code (Value Integer) h = refl
entry_code (Value Real) h = refl
entry_code (Mark m) h =
    let l : m < 8 = ltb-true m 8 h in
    let a : eqb m 97 ≡ false = ne_eqb m 97 (λ e. omega arith) in
    let b : eqb m 98 ≡ false = ne_eqb m 98 (λ e. omega arith) in
    let c : eqb m 99 ≡ false = ne_eqb m 99 (λ e. omega arith) in
    let i : eqb m 105 ≡ false = ne_eqb m 105 (λ e. omega arith) in
    let r : eqb m 114 ≡ false = ne_eqb m 114 (λ e. omega arith) in
    simp (a, b, c, i, r)

-- a record whose three tests pass means its entries
pub means : (r : Row) → r.len ≤ 40 → every proper (entries r) ≡ true → blanks (drop r.len r.bytes) ≡ true
    → bottom_up r ≡ Some (entries r)
means r l p b =
    cond-true (is_row r) (Some (entries r)) None
    (and_from (leb r.len 40) (every proper (entries r) && blanks (drop r.len r.bytes)) (le-leb r.len 40 l)
    (and_from (every proper (entries r)) (blanks (drop r.len r.bytes)) p b))

pub valid_proper : (r : Row) → is_row r ≡ true → every proper (entries r) ≡ true
valid_proper r v =
    (and_parts (every proper (entries r)) (blanks (drop r.len r.bytes))
    (and_parts (leb r.len 40) (every proper (entries r) && blanks (drop r.len r.bytes)) v).1).0

pub valid_blank : (r : Row) → is_row r ≡ true → blanks (drop r.len r.bytes) ≡ true
valid_blank r v =
    (and_parts (every proper (entries r)) (blanks (drop r.len r.bytes))
    (and_parts (leb r.len 40) (every proper (entries r) && blanks (drop r.len r.bytes)) v).1).1

pub push_entries : (n b : ℕ) (xs : List ℕ) (e : Entry) → n < length xs → entry_of b ≡ e
    → map entry_of (take (n + 1) (set xs n b)) ≡ map entry_of (take n xs) ++ e ∷ []
push_entries n b xs e l q =
    ap (λ ys. map entry_of ys) (take_more_set xs n b l) ∙ map_push entry_of (take n xs) b ∙ ap (λ f. map entry_of (take n xs) ++ f ∷ []) q

pub push_means : (n b : ℕ) (xs : List ℕ) (e : Entry) → length xs ≡ 40 → n < 40
    → is_row (record { len = n; bytes = xs }) ≡ true → proper e ≡ true → b ≡ byte_of e
    → bottom_up (record { len = n + 1; bytes = set xs n b }) ≡ Some (map entry_of (take n xs) ++ e ∷ [])
push_means n b xs e k l v p q =
    let h : n < length xs = omega arith in
    let h' : n < n + 1 = omega arith in
    let le : n + 1 ≤ 40 = omega arith in
    let en : map entry_of (take (n + 1) (set xs n b)) ≡ map entry_of (take n xs) ++ e ∷ []
    = push_entries n b xs e h (ap entry_of q ∙ entry_code e p) in
    let pr : every proper (map entry_of (take (n + 1) (set xs n b))) ≡ true
    = ap (every proper) en ∙ every_append proper (map entry_of (take n xs)) (e ∷ [])
    ∙ and_from (every proper (map entry_of (take n xs))) (proper e && true) (valid_proper (record { len = n; bytes = xs }) v) (and_from (proper e) true p refl) in
    let bl : blanks (drop (n + 1) (set xs n b)) ≡ true
    = ap blanks (drop-set-lt (n + 1) xs n b h')
    ∙ (and_parts (eqb (get_or xs n 0) 0) (blanks (drop (n + 1) xs))
    (sym (ap blanks (drop_more xs n 0 h)) ∙ valid_blank (record { len = n; bytes = xs }) v)).1 in
    means (record { len = n + 1; bytes = set xs n b }) le pr bl ∙ ap Some en

pub every_take : {X : Type 0} (p : X → Bool) (m : ℕ) (xs : List X) → every p xs ≡ true → every p (take m xs) ≡ true
every_take p zero xs h = refl
every_take p (suc m) [] h = refl
every_take p (suc m) (x ∷ xs) h =
    let q = and_parts (p x) (every p xs) h in and_from (p x) (every p (take m xs)) q.0 (every_take p m xs q.1)

pub pop_means : (n : ℕ) (xs : List ℕ) → length xs ≡ 40 → n ≤ 40 → 0 < n → is_row (record { len = n; bytes = xs }) ≡ true
    → bottom_up (record { len = n - 1; bytes = set xs (n - 1) 0 }) ≡ Some (take (n - 1) (map entry_of (take n xs)))
pop_means n xs k l z v =
    let h : n - 1 < length xs = omega arith in
    let le : n - 1 ≤ 40 = omega arith in
    let ln : n - 1 ≤ n = omega arith in
    let e : n - 1 + 1 ≡ n = omega arith in
    let en : map entry_of (take (n - 1) (set xs (n - 1) 0)) ≡ take (n - 1) (map entry_of (take n xs))
    = ap (map entry_of) (take-set xs (n - 1) 0 ∙ sym (take-take (n - 1) n xs ln)) ∙ sym (take-map entry_of (n - 1) (take n xs)) in
    let pr : every proper (map entry_of (take (n - 1) (set xs (n - 1) 0))) ≡ true
    = ap (every proper) en ∙ every_take proper (n - 1) (map entry_of (take n xs)) (valid_proper (record { len = n; bytes = xs }) v) in
    let bl : blanks (drop (n - 1) (set xs (n - 1) 0)) ≡ true
    = ap blanks (drop-set xs (n - 1) 0 h) ∙ ap (λ m. blanks (drop m xs)) e ∙ valid_blank (record { len = n; bytes = xs }) v in
    means (record { len = n - 1; bytes = set xs (n - 1) 0 }) le pr bl ∙ ap Some en

-- equal meanings of rows are equal records
every_zero : (xs : List ℕ) → blanks xs ≡ true → xs ≡ replicate (length xs) 0
every_zero [] h = refl
every_zero (x ∷ xs) h =
    let q = and_parts (eqb x 0) (blanks xs) h in
    let a : x ≡ 0 = eqb-true x 0 q.0 in
    let b : xs ≡ replicate (length xs) 0 = every_zero xs q.1 in
    λ i. a i ∷ b i

pub code_entry : (n : ℕ) → byte_of (entry_of n) ≡ n
code_entry n =
    by n 97 (Value Address) _ refl (by n 98 (Value Boolean) _ refl (by n 99 (Value Character) _ refl (by n 105 (Value Integer) _ refl (by n 114 (Value Real) (Mark n) refl refl))))
  where
    by : (n k : ℕ) (e f : Entry) → byte_of e ≡ k → byte_of f ≡ n → byte_of (cond (eqb n k) e f) ≡ n
    by n k e f p q = cond_both (eqb n k) e f (λ x. byte_of x ≡ n) (λ t. p ∙ sym (eqb-true n k t)) (λ t. q)

pub codes_entries : (xs : List ℕ) → map byte_of (map entry_of xs) ≡ xs
codes_entries [] = refl
codes_entries (x ∷ xs) = λ i. code_entry x i ∷ codes_entries xs i

pub valid_len : (r : Row) → is_row r ≡ true → r.len ≤ 40
valid_len r v =
    leb-true r.len 40 (and_parts (leb r.len 40) (every proper (entries r) && blanks (drop r.len r.bytes)) v).0

-- one element of a test over a list, passed or failed
pub every_on : {X : Type 0} (p : X → Bool) (xs : List X) (i : ℕ) (d : X) → i < length xs → p (get_or xs i d) ≡ true
    → every p (drop i xs) ≡ every p xs → every p (drop (i + 1) xs) ≡ every p xs
every_on p xs i d h t e = sym (ap (λ b. b && every p (drop (i + 1) xs)) t) ∙ sym (at_drop_more (every p) xs i d h) ∙ e

pub every_map : {X Y : Type 0} (p : Y → Bool) (f : X → Y) (xs : List X) → every p (map f xs) ≡ every (λ x. p (f x)) xs
every_map p f [] = refl
every_map p f (x ∷ xs) = ap (λ b. p (f x) && b) (every_map p f xs)

-- a test that passes each element just where P holds of it
pub every_decides : {X : Type 0} (p : X → Bool) (P : X → Type 0) → ((x : X) → Decides (p x) (P x)) → (xs : List X) → Decides (every p xs) (All P xs)
every_decides p P each [] = ((λ e k d h. absurd (not-suc-le-zero h)), λ a. refl)
every_decides {X} p P each (x ∷ xs) = (to (every_decides p P each xs), from (every_decides p P each xs))
  where
    to : Decides (every p xs) (All P xs) → every p (x ∷ xs) ≡ true → All P (x ∷ xs)
    to rest e zero d h = (each x).0 (and_parts (p x) (every p xs) e).0
    to rest e (suc k) d h = rest.0 (and_parts (p x) (every p xs) e).1 k d (le_of_suc-le-suc h)

    from : Decides (every p xs) (All P xs) → All P (x ∷ xs) → every p (x ∷ xs) ≡ true
    from rest a = and_from (p x) (every p xs) ((each x).1 (a 0 x (omega arith))) (rest.1 (λ k d h. a (suc k) d (omega arith)))

pub proper_part : (r : Row) (xs : List ℕ) (p : Bool) → xs ≡ take r.len r.bytes → Decides p (All (λ b. proper (entry_of b) ≡ true) xs) → p ≡ every proper (entries r)
proper_part r xs p e h =
    same_from_decides p (every (λ b. proper (entry_of b)) xs) h
    (every_decides (λ b. proper (entry_of b)) (λ b. proper (entry_of b) ≡ true) (λ b. ((λ t. t), λ t. t)) xs)
    ∙ sym (every_map proper entry_of xs) ∙ ap (λ ys. every proper (map entry_of ys)) e

pub blank_part : (r : Row) (xs : List ℕ) (p : Bool) → xs ≡ drop r.len r.bytes → Decides p (All (λ b. b ≡ 0) xs) → p ≡ blanks (drop r.len r.bytes)
blank_part r xs p e h = same_from_decides p (blanks xs) h (every_decides (λ b. eqb b 0) (λ b. b ≡ 0) (λ b. Decides-eqb b 0) xs) ∙ ap blanks e

pub valid_last : (r : Row) → r.len ≤ 40 → every proper (entries r) ≡ true → is_row r ≡ blanks (drop r.len r.bytes)
valid_last r l p =
    ap (λ b. b && (every proper (entries r) && blanks (drop r.len r.bytes))) (le-leb r.len 40 l)
    ∙ ap (λ b. b && blanks (drop r.len r.bytes)) p

pub invalid : (r : Row) → every proper (entries r) ≡ false → is_row r ≡ false
invalid r p = by (leb r.len 40) (every proper (entries r)) p
  where
    by : (a b : Bool) → b ≡ false → (a && (b && blanks (drop r.len r.bytes))) ≡ false
    by false b e = refl
    by true b e = ap (λ x. x && blanks (drop r.len r.bytes)) e

-- a row's bottom-up says that it is is_row, and what its entries are
pub means_valid : (r : Row) (es : List Entry) → bottom_up r ≡ Some es → (is_row r ≡ true) × (entries r ≡ es)
means_valid r es e = by (is_row r) (entries r) es e
  where
    by : (b : Bool) (xs ys : List Entry) → cond b (Some xs) None ≡ Some ys → (b ≡ true) × (xs ≡ ys)
    by true xs ys q = (refl, cc)
    by false xs ys q = let z : ◌≡◌ {A = ℕ} 0 1 = cc in let no_way : ⊥ = omega arith in absurd no_way

pub push_valid : (n b : ℕ) (xs : List ℕ) (e : Entry) → length xs ≡ 40 → n < 40
    → is_row (record { len = n; bytes = xs }) ≡ true → proper e ≡ true → b ≡ byte_of e
    → (is_row (record { len = n + 1; bytes = set xs n b }) ≡ true) × (entries (record { len = n + 1; bytes = set xs n b }) ≡ map entry_of (take n xs) ++ e ∷ [])
push_valid n b xs e k l v p q = means_valid (record { len = n + 1; bytes = set xs n b }) (map entry_of (take n xs) ++ e ∷ []) (push_means n b xs e k l v p q)

-- records that are rows, with the same bytes in front are the same record
pub same_record : (a b : Row) → length a.bytes ≡ 40 → length b.bytes ≡ 40 → is_row a ≡ true → is_row b ≡ true
    → take a.len a.bytes ≡ take b.len b.bytes → a ≡ b
same_record a b la lb va vb e =
    let na = valid_len a va in
    let nb = valid_len b vb in
    let ka : length (take a.len a.bytes) ≡ a.len = length-take-le a.len a.bytes (omega arith) in
    let kb : length (take b.len b.bytes) ≡ b.len = length-take-le b.len b.bytes (omega arith) in
    let n : a.len ≡ b.len = sym ka ∙ ap length e ∙ kb in
    let da : length (drop a.len a.bytes) ≡ length a.bytes - a.len = length-drop a.len a.bytes in
    let db : length (drop b.len b.bytes) ≡ length b.bytes - b.len = length-drop b.len b.bytes in
    let dn : length (drop a.len a.bytes) ≡ length (drop b.len b.bytes) = omega arith in
    let za : drop a.len a.bytes ≡ drop b.len b.bytes
    = every_zero (drop a.len a.bytes) (valid_blank a va) ∙ ap (λ k. replicate k 0) dn
    ∙ sym (every_zero (drop b.len b.bytes) (valid_blank b vb)) in
    let m : a.bytes ≡ b.bytes
    = sym (take-append-drop a.len a.bytes) ∙ ap (λ x. x ++ drop a.len a.bytes) e
    ∙ ap (λ x. take b.len b.bytes ++ x) za ∙ take-append-drop b.len b.bytes in
    λ i. record { len = n i; bytes = m i }

-- `==` on records that are rows says whether their entries are the same
pub equals_same : (a b : Row) (r : Bool) → length a.bytes ≡ 40 → length b.bytes ≡ 40 → is_row a ≡ true → is_row b ≡ true
    → (T r → a ≡ b) × (a ≡ b → T r) → r ≡ same (entries a) (entries b)
equals_same a b r la lb va vb d =
    let f : map byte_of (entries a) ≡ map byte_of (entries b) → a ≡ b
    = λ e. same_record a b la lb va vb (sym (codes_entries (take a.len a.bytes)) ∙ e ∙ codes_entries (take b.len b.bytes)) in
    same_from_decides r (same (entries a) (entries b))
    ((λ t. ap (λ (x : Row). map byte_of (entries x)) (d.0 (true_T r t))), (λ e. is_true r (d.1 (f e))))
    (bytes_eq-Decides (map byte_of (entries a)) (map byte_of (entries b)))
  where
    true_T : (b : Bool) → b ≡ true → T b
    true_T b e = rw e tt

    is_true : (b : Bool) → T b → b ≡ true
    is_true true t = refl
    is_true false t = absurd t

pub equal_records_are_one : EqualRecordsAreOne
equal_records_are_one a b = record {
  one = one;
  equal = all;
  stacks = λ la lb va vb. equals_same a b (equal_records a b) la lb va vb (one, all);
}
  where
    tells : Decides (pointwise eqb a.bytes b.bytes) (a.bytes ≡ b.bytes)
    tells = slice_eq-Decides Decides-eqb a.bytes b.bytes (pointwise eqb a.bytes b.bytes) refl

    is_true : (x : Bool) → T x → x ≡ true
    is_true true t = refl
    is_true false t = absurd t

    one : T (equal_records a b) → a ≡ b
    one t =
        let parts = and_parts (eqb a.len b.len) (pointwise eqb a.bytes b.bytes) (is_true (equal_records a b) t) in
        let n : a.len ≡ b.len = eqb-true a.len b.len parts.0 in
        let m : a.bytes ≡ b.bytes = tells.0 parts.1 in
        λ i. record { len = n i; bytes = m i }

    all : a ≡ b → T (equal_records a b)
    all e =
        let n : eqb a.len b.len ≡ true = eq-eqb a.len b.len (ap (λ (r : Row). r.len) e) in
        let m : pointwise eqb a.bytes b.bytes ≡ true = tells.1 (ap (λ (r : Row). r.bytes) e) in
        rw (and_from (eqb a.len b.len) (pointwise eqb a.bytes b.bytes) n m) tt
