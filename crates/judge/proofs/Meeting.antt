-- Records compared whole, and what that says of the rows that they mean.
use Rattle.std.proofs.Common.{◌≡◌, ℕ, Bool, true, false, cond, length, Ok, Err, Result, sym, refl, ap, ◌∙◌, subst, arith, T}
use Rattle.rules.specs.declared.fault.TableFault.{TableFault}
use Rattle.rows.specs.declared.row.Row.{Row}
use Rattle.rows.specs.Rows.{is_row, meaning, equal_records}
use Rattle.rows.proofs.Laws.{equal_records_are_one}
use Rattle.transfer.specs.Transfer.{stack_of}
use Rattle.judge.specs.declared.flaw.Flaw.TheVariants.{Differs}
use Rattle.judge.specs.Flaws.{flaw_at}
use Rattle.judge.specs.Handing.{must_be}
use Rattle.judge.proofs.Handing.{reached, unreached, same_stacks}

abbrev answers : ℕ → Bool → Result (Unit {0}) TableFault
answers j t = cond t (Ok tt) (Err (flaw_at Differs j))

-- equal records are the same row; unequal ones are not
pub compared : (found row : Row) (j : ℕ) → length found.bytes ≡ 40 → length row.bytes ≡ 40 → is_row row ≡ true
    → must_be (meaning found) j (stack_of row) ≡ cond (equal_records found row) (Ok tt) (Err (flaw_at Differs j))
compared found row j a b e = by (is_row found) refl
  where
    strayed : is_row found ≡ false → (u : Bool) → equal_records found row ≡ u → equal_records found row ≡ false
    strayed h false k = k
    strayed h true k =
        let z = sym h ∙ subst (λ (x : Row). is_row x ≡ true) (sym ((equal_records_are_one found row).one (subst T (sym k) tt))) e in
        let y : ◌≡◌ {A = ℕ} 0 1 = cc in absurd (omega arith)

    by : (t : Bool) → is_row found ≡ t → must_be (meaning found) j (stack_of row) ≡ answers j (equal_records found row)
    by true h =
        ap (λ o. must_be o j (stack_of row)) (reached found h)
        ∙ ap (answers j) (sym ((equal_records_are_one found row).stacks a b h e ∙ same_stacks found row))
    by false h =
        ap (λ o. must_be o j (stack_of row)) (unreached found h) ∙ ap (answers j) (sym (strayed h (equal_records found row) refl))
