-- Rows counted, and the judgement over rows that are blank at first.
use Rattle.std.proofs.Common.{◌≡◌, ℕ, zero, suc, ◌+◌, Bool, true, false, cond, List, [], ◌∷◌, ◌++◌, map, length, drop, replicate, count_by, None, Ok, Err, Result, sym, refl, ap, ◌∙◌, arith}
use mathlib.Core.List.{map-append}
use Rattle.std.proofs.lemmas.List.{drop-map, drop_at}
use Rattle.std.proofs.lemmas.List.Sums.{sum_by-cons}
use Rattle.sheet.specs.Tables.{Contents}
use Rattle.rules.specs.declared.fault.TableFault.{TableFault}
use Rattle.paths.specs.Judging.{Progress, enter, judge}
use Rattle.paths.specs.Rows.{Rows, count}
use Rattle.paths.proofs.Counts.{count_skip, count_one}
use Rattle.paths.proofs.Entering.{entry_loop}
use Rattle.rows.specs.declared.row.Row.{Row}
use Rattle.rows.specs.Rows.{is_row, meaning, no_row}
use Rattle.transfer.specs.Stacks.{Stack}
use Rattle.transfer.specs.Transfer.{stack_of}
use Rattle.judge.specs.declared.flaw.Flaw.{Flaw}
use Rattle.judge.specs.Flow.{entry_of, stacks}
use Rattle.judge.specs.Handing.{meanings, Follows, ComesTo}
use Rattle.judge.proofs.Handing.{reached, unreached}

-- rows are counted as records
pub counted : (rs : List Row) → count_by is_row rs ≡ count (meanings rs)
counted [] = refl
counted (r ∷ rs) = sum_by-cons (λ x. cond (is_row x) 1 0) r rs ∙ by (is_row r) refl (counted rs)
  where
    by : (b : Bool) → is_row r ≡ b → count_by is_row rs ≡ count (meanings rs) → cond (is_row r) 1 0 + count_by is_row rs ≡ count (meaning r ∷ meanings rs)
    by true e k = let c = count_one (meanings rs) 0 (meaning r) (stack_of r) (reached r e) in rw e (omega (arith, c, k))
    by false e k = let c = count_skip (meanings rs) 0 (meaning r) (unreached r e) in rw e (omega (arith, c, k))

-- ---- blank rows
pub blank_means : (n : ℕ) → meanings (replicate n no_row) ≡ replicate n None
blank_means zero = refl
blank_means (suc n) = ap (λ rows. None ∷ rows) (blank_means n)

module _ (T : Contents) where
  abbrev all : List Row → Progress Stack Flaw
  all rs = enter (stacks T) (map (entry_of T) T.procedures) (meanings rs)

  begins : (rs : List Row) → rs ≡ replicate (length T.code) no_row → judge (stacks T) ≡ all rs
  begins rs e = (entry_loop (stacks T)).begins ∙ ap (enter (stacks T) (map (entry_of T) T.procedures)) (sym (ap meanings e ∙ blank_means (length T.code)))

  pub comes_to : (rs : List Row) → rs ≡ replicate (length T.code) no_row → (r : Result (Unit {0}) TableFault) (rows : Rows Stack) (work : List ℕ)
      → Follows r (all rs) rows work → ComesTo r (judge (stacks T)) rows
  comes_to rs e (Ok u) rows work f = (work, begins rs e ∙ f)
  comes_to rs e (Err x) rows work f = (f.0, f.1, begins rs e ∙ f.2, f.3)

-- ---- the first n rows written over, and what they mean with the rest
pub written : (fs rs : List Row) (n : ℕ) → meanings (fs ++ drop n rs) ≡ meanings fs ++ drop n (meanings rs)
written fs rs n = map-append meaning fs (drop n rs) ∙ ap (λ rows. meanings fs ++ rows) (sym (drop-map meaning n rs))

-- written over once more
pub again : (fs ns rs : List Row) (n : ℕ) → length ns ≡ n → meanings (fs ++ drop n (ns ++ drop n rs)) ≡ meanings fs ++ drop n (meanings rs)
again fs ns rs n l = ap (λ r. meanings (fs ++ r)) (drop_at ns (drop n rs) n l) ∙ written fs rs n
