-- Numbers in columns: decimal, right-justified in blanks, no leading zero, no -0, the minus next to the digit.
-- Cited by the reader and the writer of columns. Assumes nothing.
--   read_number: the number that a list of columns holds, if it holds one
--   read_column: the same of at most 20 columns, the widest that any line has
--   write_number: a number in k columns
use Rattle.std.specs.Prelude.{ℕ, zero, suc, ◌+◌, ◌-◌, ◌*◌, Bool, cond, ◌&&◌, List, [], ◌∷◌, ◌++◌, length, replicate, ℤ, pos, negsuc, Some, None, Option, ◌==◌, nat_le}
use Rattle.std.specs.Fmt.{signed_decimal}

abbrev pub digit : ℕ → Bool
digit c = nat_le 48 c && nat_le c 57

-- the number that digits write after the number n, and nothing where another byte stands among them
abbrev pub digits_after : ℕ → List ℕ → Option ℕ
digits_after n [] = Some n
digits_after n (c ∷ cs) = cond (digit c) (digits_after (n * 10 + (c - 48)) cs) None

-- one digit, or more with no zero in front
abbrev pub natural : List ℕ → Option ℕ
natural [] = None
natural (c ∷ []) = digits_after 0 (c ∷ [])
natural (c ∷ d ∷ ds) = cond (c == 48) None (digits_after 0 (c ∷ d ∷ ds))

abbrev pub plus : Option ℕ → Option ℤ
plus None = None
plus (Some n) = Some (pos n)

-- there is no -0
abbrev pub minus : Option ℕ → Option ℤ
minus None = None
minus (Some zero) = None
minus (Some (suc n)) = Some (negsuc n)

abbrev pub whole : List ℕ → Option ℤ
whole [] = None
whole (c ∷ cs) = cond (c == 45) (minus (natural cs)) (plus (natural (c ∷ cs)))

abbrev pub after_blanks : List ℕ → List ℕ
after_blanks [] = []
after_blanks (c ∷ cs) = cond (c == 32) (after_blanks cs) (c ∷ cs)

abbrev pub read_number : List ℕ → Option ℤ
read_number cs = whole (after_blanks cs)

-- z in k columns
abbrev pub write_number : ℕ → ℤ → List ℕ
write_number k z = replicate (k - length (signed_decimal z)) 32 ++ signed_decimal z

abbrev pub read_column : List ℕ → Option ℤ
read_column cs = cond (nat_le (length cs) 20) (read_number cs) None
