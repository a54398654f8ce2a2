-- No row has more than forty entries, so parameters that make no row are no row's.
use Rattle.std.proofs.Common.{◌≡◌, ℕ, ◌≤◌, Bool, true, false, cond, List, map, reverse, length, take, None, Ok, Err, sym, refl, ap, ◌∙◌, arith}
use Rattle.std.proofs.lemmas.List.{length-map, length-reverse, length-take}
use Rattle.sheet.specs.declared.kind.Kind.{Kind}
use Rattle.rules.specs.declared.fault.TableFault.{TableFault}
use Rattle.rows.specs.declared.entry.Entry.TheVariants.{Value}
use Rattle.rows.specs.declared.row.Row.{Row}
use Rattle.rows.specs.Entries.{entry_of, proper}
use Rattle.rows.specs.Rows.{entries, is_row, meaning, packed}
use Rattle.rows.proofs.Laws.{valid_len}
use Rattle.transfer.specs.Stacks.{Stack}
use Rattle.transfer.specs.Transfer.{stack_of}
use Rattle.transfer.proofs.Fitting.{every_reverse, values_proper, packs}
use Rattle.judge.specs.declared.flaw.Flaw.TheVariants.{Differs}
use Rattle.judge.specs.Flaws.{flaw_at}
use Rattle.judge.specs.Flow.{same_stack}
use Rattle.judge.proofs.Handing.{reached, unreached}
use Rattle.judge.proofs.Inside.{stacks_tell}
use Rattle.judge.specs.Handing.{must_be}
use Rattle.admit.specs.Local.{Check}

short : (row : Row) → is_row row ≡ true → length (stack_of row) ≤ 40
short row e =
    let v = valid_len row e in
    let a : length (stack_of row) ≡ length (entries row) = length-reverse (entries row) in
    let b : length (entries row) ≡ length (take row.len row.bytes) = length-map (take row.len row.bytes) entry_of in
    omega (arith, v, a, b, length-take row.len row.bytes)

long : (ts : List Kind) → packed (map Value ts) ≡ None → length (map Value (reverse ts)) ≤ 40 → ⊥
long ts e l =
    packs (map Value ts) (reverse (map Value ts)) refl
    (omega (arith, l, length-reverse (map Value ts), length-map ts Value, length-map (reverse ts) Value, length-reverse ts))
    (every_reverse proper (map Value ts) (values_proper ts)) e

pub no_row_so_long : (row : Row) (ts : List Kind) (i : ℕ) (x : TableFault) → packed (map Value ts) ≡ None → x ≡ flaw_at Differs i → Err x ≡ must_be (meaning row) i (map Value (reverse ts))
no_row_so_long row ts i x e k = ap Err k ∙ by (is_row row) refl
  where
    s : Stack
    s = map Value (reverse ts)

    unlike : is_row row ≡ true → (b : Bool) → same_stack (stack_of row) s ≡ b → ◌≡◌ {A = Check} (Err (flaw_at Differs i)) (cond b (Ok tt) (Err (flaw_at Differs i)))
    unlike h false q = refl
    unlike h true q = absurd (long ts e (omega (arith, short row h, ap length ((stacks_tell (stack_of row) s).0 q))))

    by : (b : Bool) → is_row row ≡ b → Err (flaw_at Differs i) ≡ must_be (meaning row) i s
    by true h = unlike h (same_stack (stack_of row) s) refl ∙ sym (ap (λ o. must_be o i s) (reached row h))
    by false h = sym (ap (λ o. must_be o i s) (unreached row h))
