-- What the call that undergoes a list of calls answers and leaves, from what its parts do.
use Rattle.std.proofs.Common.{◌≡◌, ℕ, suc, ◌+◌, ◌-◌, ◌<◌, ◌≤◌, Bool, true, false, cond, ◌&&◌, leb, List, ◌++◌, length, take, drop, replicate, Ok, Err, Result, sym, refl, ap, ◌∙◌, subst, arith, Bor}
use Rattle.std.proofs.lemmas.List.{length-replicate}
use Rattle.std.proofs.lemmas.Bool.{leb-true, le-leb, lt-leb}
use Rattle.sheet.specs.declared.table.Table.{Table}
use Rattle.sheet.specs.Tables.{Contents}
use Rattle.rules.specs.declared.fault.TableFault.{TableFault}
use Rattle.rules.specs.Lookups.{contents_of}
use Rattle.rows.specs.declared.row.Row.{Row}
use Rattle.admit.specs.declared.Passed.{Passed}
use Rattle.admit.specs.Admissions.{admission}
use Rattle.store.specs.declared.cell.Cell.{Cell}
use Rattle.store.specs.declared.cell.Cell.TheVariants.{Free}
use Rattle.host.specs.Hosts.{Meaning}
use Rattle.machine.specs.Runs.{begun, begun_cells}
use Rattle.machine.specs.States.{at, code_at, regs_at}
use Rattle.run.specs.declared.answer.Answer.{Answer}
use Rattle.run.specs.declared.answer.Call.{Call}
use Rattle.run.specs.declared.fault.UndergoFault.{UndergoFault}
use Rattle.run.specs.declared.fault.UndergoFault.TheVariants as fault
use Rattle.run.specs.declared.run.Refused.{Refused}
use Rattle.run.specs.declared.run.Run.{Run}
use Rattle.run.specs.Calls.{sized, begins, begin_cells}
use Rattle.run.specs.Promise.{KeptOf}
use Rattle.run.specs.Undergone.{told, state_after, Undergone, refused, made, undergone_by, undergone}
use Rattle.run.proofs.Listing.{first_told}
use Rattle.run.proofs.Promising.{admits, kept}

abbrev first_run : Passed → ℕ → Run
first_run p n = record { passed = p; regs = regs_at (code_at 0) 5 0 4 (n - 1) }

begins_ok : (p : Passed) (n : ℕ) (r : Run) → Ok r ≡ begins p n → (sized n ≡ true) × (r ≡ first_run p n)
begins_ok p n r e = cases (sized n) e
  where
    cases : (b : Bool) → Ok r ≡ cond {A = Result Run Refused} b (Ok (first_run p n)) (Err (record { passed = p })) → (b ≡ true) × (r ≡ first_run p n)
    cases true e = (refl, cc)
    cases false e = let z : ◌≡◌ {A = ℕ} 0 1 = cc in absurd (omega arith)

begins_err : (p : Passed) (n : ℕ) (r : Refused) → Err r ≡ begins p n → sized n ≡ false
begins_err p n r e = cases (sized n) e
  where
    cases : (b : Bool) → Err r ≡ cond {A = Result Run Refused} b (Ok (first_run p n)) (Err (record { passed = p })) → b ≡ false
    cases true e = let z : ◌≡◌ {A = ℕ} 0 1 = cc in absurd (omega arith)
    cases false e = refl

sized_five : (n : ℕ) → sized n ≡ true → 5 ≤ n
sized_five n e = cases (leb 5 n) refl e
  where
    cases : (b : Bool) → leb 5 n ≡ b → (b && leb n 65536) ≡ true → 5 ≤ n
    cases true q e = leb-true 5 n q
    cases false q e = let z : ◌≡◌ {A = ℕ} 0 1 = cc in absurd (omega arith)

cells_begun : (cs ds : List Cell) → sized (length cs) ≡ true → ds ≡ begin_cells cs → ds ≡ begun_cells (length cs)
cells_begun cs ds h e = e ∙ ap (λ (b : Bool). cond b (begun_cells (length cs)) cs) h

cells_same : (cs ds : List Cell) → sized (length cs) ≡ false → ds ≡ begin_cells cs → ds ≡ cs
cells_same cs ds h e = e ∙ ap (λ (b : Bool). cond b (begun_cells (length cs)) cs) h

module _ (t : Table) (rs : Bor (List Row)) (calls : List Call) (cs : List Cell) (h : Meaning) (xs : List Answer) where
  abbrev left_as : Result Run UndergoFault → List Cell → Undergone
  left_as r ds = record { answer = r; cells = ds; host = h; answers = xs }

  abbrev over : (b₁ b₂ : Bool) → Passed → Undergone
  over b₁ b₂ p = cond b₁
      (cond b₂
      (made p (state_after (contents_of p.table) calls (begun (length cs) h)) (told (contents_of p.table) calls (begun (length cs) h)) (drop (length calls) xs))
      (refused fault.StoreLength cs h xs))
      (refused fault.TooFewAnswers cs h xs)

  by_parts : (p : Passed) (b₁ b₂ : Bool) → Ok p ≡ admission t rs → leb (length calls) (length xs) ≡ b₁ → sized (length cs) ≡ b₂ → over b₁ b₂ p ≡ undergone t rs calls cs h xs
  by_parts p b₁ b₂ e e₁ e₂ = (λ j. over (sym e₁ j) (sym e₂ j) p) ∙ ap (λ (a : Result Passed TableFault). undergone_by a calls cs h xs) e

  pub by_table : (r : Result Run UndergoFault) (y : UndergoFault) (f : TableFault) → r ≡ Err y → y ≡ fault.Table f → Err f ≡ admission t rs
      → left_as r cs ≡ undergone t rs calls cs h xs
  by_table r y f e₁ e₂ e = ap (λ (a : Result Run UndergoFault). left_as a cs) (e₁ ∙ ap Err e₂) ∙ ap (λ (a : Result Passed TableFault). undergone_by a calls cs h xs) e

  pub by_answers : (p : Passed) → Ok p ≡ admission t rs → length xs < length calls → left_as (Err fault.TooFewAnswers) cs ≡ undergone t rs calls cs h xs
  by_answers p e l = by_parts p false (sized (length cs)) e (lt-leb (length calls) (length xs) l) refl

  pub by_store : (p : Passed) (q : Refused) (ds : List Cell) → Ok p ≡ admission t rs → length calls ≤ length xs → Err q ≡ begins p (length cs) → ds ≡ begin_cells cs
      → left_as (Err fault.StoreLength) ds ≡ undergone t rs calls cs h xs
  by_store p q ds e l b d =
      let s = begins_err p (length cs) q b in
      ap (λ (es : List Cell). left_as (Err fault.StoreLength) es) (cells_same cs ds s d) ∙ by_parts p true false e (le-leb (length calls) (length xs) l) s

  module _ (p : Passed) (r : Run) (ds : List Cell) (e : Ok p ≡ admission t rs) (l : length calls ≤ length xs) (b : Ok r ≡ begins p (length cs)) (d : ds ≡ begin_cells cs) where
    run_is : r ≡ first_run (record { table = t; rows = rs }) (length cs)
    run_is = (begins_ok p (length cs) r b).1 ∙ ap (λ (q : Passed). first_run q (length cs)) (admits t rs p e).1

    pub fits : length ds ≡ r.regs.last + 1
    fits =
        let B = begins_ok p (length cs) r b in
        let five = sized_five (length cs) B.0 in
        let long : length ds ≡ suc (suc (suc (suc (suc (length (replicate (length cs - 5) Free)))))) = ap (λ (es : List Cell). length es) (cells_begun cs ds B.0 d) in
        let free = length-replicate (length cs - 5) Free in
        let last : r.regs.last ≡ length cs - 1 = ap (λ (x : Run). x.regs.last) B.1 in
        omega arith

    module _ (r₁ : Run) (es : List Cell) (k : Meaning) (ys : List Answer)
        (told_is : ys ≡ told (contents_of r.passed.table) calls (at r.regs ds h) ++ drop (length calls) xs)
        (state_is : at r₁.regs es k ≡ state_after (contents_of r.passed.table) calls (at r.regs ds h))
        (same : r₁.passed ≡ r.passed) where
      begins_at : 5 ≤ length cs
      begins_at = sized_five (length cs) (begins_ok p (length cs) r b).0

      cells_are : ds ≡ begun_cells (length cs)
      cells_are = cells_begun cs ds (begins_ok p (length cs) r b).0 d

      told_begun : ys ≡ told (contents_of t) calls (begun (length cs) h) ++ drop (length calls) xs
      told_begun = told_is ∙ (λ j. told (contents_of (run_is j).passed.table) calls (at (run_is j).regs (cells_are j) h) ++ drop (length calls) xs)

      left_begun : at r₁.regs es k ≡ state_after (contents_of t) calls (begun (length cs) h)
      left_begun = state_is ∙ (λ j. state_after (contents_of (run_is j).passed.table) calls (at (run_is j).regs (cells_are j) h))

      passed_is : r₁.passed ≡ p
      passed_is = same ∙ ap (λ (x : Run). x.passed) (begins_ok p (length cs) r b).1

      table_is : contents_of t ≡ contents_of p.table
      table_is = ap (λ (q : Passed). contents_of q.table) (sym (admits t rs p e).1)

      pub by_all : ◌≡◌ {A = Undergone} (record { answer = Ok r₁; cells = es; host = k; answers = ys }) (undergone t rs calls cs h xs)
      by_all =
          let S : at r₁.regs es k ≡ state_after (contents_of p.table) calls (begun (length cs) h) = left_begun ∙ ap (λ (T : Contents). state_after T calls (begun (length cs) h)) table_is in
          let Y : ys ≡ told (contents_of p.table) calls (begun (length cs) h) ++ drop (length calls) xs = told_begun ∙ ap (λ (T : Contents). told T calls (begun (length cs) h) ++ drop (length calls) xs) table_is in
          let m : ◌≡◌ {A = Undergone} (record { answer = Ok r₁; cells = es; host = k; answers = ys })
          (made p (state_after (contents_of p.table) calls (begun (length cs) h)) (told (contents_of p.table) calls (begun (length cs) h)) (drop (length calls) xs))
          = λ j. record { answer = Ok (record { passed = passed_is j; regs = (S j).regs }); cells = (S j).cells; host = (S j).host; answers = Y j } in
          m ∙ by_parts p true true e (le-leb (length calls) (length xs) l) (begins_ok p (length cs) r b).0

      pub by_promise : KeptOf t rs.now (length cs) h calls (Ok r₁) es k ys
      by_promise = kept t rs p (length cs) h calls (at r₁.regs es k) (take (length calls) ys) e begins_at left_begun
          (ap (λ (zs : List Answer). take (length calls) zs) told_begun ∙ first_told (contents_of t) calls (begun (length cs) h) (drop (length calls) xs))

pub none_kept : (t : Table) (rs : List Row) (len : ℕ) (h : Meaning) (calls : List Call) (r : Result Run UndergoFault) (y : UndergoFault) (cs : List Cell) (k : Meaning) (xs : List Answer)
    → r ≡ Err y → KeptOf t rs len h calls r cs k xs
none_kept t rs len h calls r y cs k xs e = subst (λ (a : Result Run UndergoFault). KeptOf t rs len h calls a cs k xs) (sym e) tt
