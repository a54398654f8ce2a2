-- What a row record means: a stack, or nothing (unreached). Cited by rows and by the verifier. Assumes nothing.
--   entries: the entries before its length, the bottom first
--   is_row: whether the record is a row
--   bottom_up: the stack that it holds, the bottom first
--   meaning: the stack that it holds, the top first
--   equal_records: whether two records have the same length and the same bytes
--   EqualRecordsAreOne: such records are the same record, and the other way round; of two rows it says whether they are the
--     same stack
--   packed: the record of a stack, if that is a row
use Rattle.std.specs.Prelude.{◌≡◌, ℕ, ◌-◌, Bool, true, cond, T, ◌&&◌, List, [], ◌∷◌, ◌++◌, map, reverse, length, take, drop, replicate, Some, None, Option, nat_eq, nat_le}
use Rattle.std.specs.Str.{bytes_eq}
use Rattle.std.specs.Cmp.Lexicographic.{pointwise}
use Rattle.rows.specs.declared.entry.Entry.{Entry}
use Rattle.rows.specs.declared.row.Row.{Row}
use Rattle.rows.specs.Entries.{entry_of, byte_of, proper}

-- the test passes at each element
abbrev pub every : {X : Type 0} → (X → Bool) → List X → Bool
every p [] = true
every p (x ∷ xs) = p x && every p xs

abbrev pub entries : Row → List Entry
entries r = map entry_of (take r.len r.bytes)

abbrev pub blanks : List ℕ → Bool
blanks xs = every (λ b. nat_eq b 0) xs

-- at most forty entries, each proper, and nothing behind them
abbrev pub is_row : Row → Bool
is_row r = nat_le r.len 40 && (every proper (entries r) && blanks (drop r.len r.bytes))

abbrev pub bottom_up : Row → Option (List Entry)
bottom_up r = cond (is_row r) (Some (entries r)) None

abbrev pub meaning : Row → Option (List Entry)
meaning r = cond (is_row r) (Some (reverse (entries r))) None

abbrev pub no_row : Row
no_row = record { len = 255; bytes = replicate 40 0 }

abbrev pub empty_row : Row
empty_row = record { len = 0; bytes = replicate 40 0 }

abbrev pub same : List Entry → List Entry → Bool
same es fs = bytes_eq (map byte_of es) (map byte_of fs)

abbrev pub equal_records : Row → Row → Bool
equal_records a b = nat_eq a.len b.len && pointwise nat_eq a.bytes b.bytes

pub record OneRecord (a b : Row) : Type 0 where
  pub one : T (equal_records a b) → a ≡ b
  pub equal : a ≡ b → T (equal_records a b)
  pub stacks : length a.bytes ≡ 40 → length b.bytes ≡ 40 → is_row a ≡ true → is_row b ≡ true → equal_records a b ≡ same (entries a) (entries b)

abbrev pub EqualRecordsAreOne : Type 0
EqualRecordsAreOne = (a b : Row) → OneRecord a b

-- the record of a list of entries, the bottom first
abbrev pub record_of : List Entry → Row
record_of es = record { len = length es; bytes = map byte_of es ++ replicate (40 - length es) 0 }

abbrev pub packed : List Entry → Option Row
packed es = cond (nat_le (length es) 40 && every proper es) (Some (record_of es)) None
