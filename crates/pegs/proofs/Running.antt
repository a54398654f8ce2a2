-- A run over a store of the right length, from its beginning to its end.
use Rattle.std.proofs.Common.{◌≡◌, ℕ, ◌+◌, ◌-◌, ◌≤◌, true, cond, ◌&&◌, leb, List, length, replicate, Some, None, Ok, Err, Option, Result, sym, refl, ap, ◌∙◌, arith}
use lib.ListN.{length-replicate}
use Rattle.std.proofs.lemmas.Bool.{le-leb, eq-eqb}
use Rattle.std.proofs.lemmas.List.{length-append}
use Rattle.rules.specs.Lookups.{contents_of}
use Rattle.admit.specs.declared.Passed.{Passed}
use Rattle.store.specs.declared.cell.Cell.{Cell}
use Rattle.store.specs.declared.cell.Cell.TheVariants.{Free}
use Rattle.host.specs.Hosts.{Meaning}
use Rattle.machine.specs.declared.ending.Ending.{Ending}
use Rattle.machine.specs.declared.registers.Registers.{Registers}
use Rattle.machine.specs.Endings.{ending_of}
use Rattle.machine.specs.Frames.{place}
use Rattle.machine.specs.Runs.{begun_cells, begun, go}
use Rattle.machine.specs.States.{code_at, regs_at}
use Rattle.run.specs.declared.answer.Finish.TheVariants.{OtherStore}
use Rattle.run.specs.declared.run.Run.{Run}
use Rattle.run.specs.Answers.{finish_of, finish_number}
use Rattle.run.specs.Calls.{sized, begins, begin_cells, fits, Gone, as_answer, after_go, gone}

pub ending_told : (e : Option Ending) → finish_number (finish_of e) ≡ ending_of e
ending_told None = refl
ending_told (Some e) = refl

module _ (n : ℕ) (small : 5 ≤ n) (large : n ≤ 65536) where
  sized_so : sized n ≡ true
  sized_so = ap (λ b. b && leb n 65536) (le-leb 5 n small) ∙ le-leb n 65536 large

  begun_long : length (begun_cells n) ≡ n
  begun_long =
      let l = length-replicate 5 (place 0) in
      let k = length-replicate (n - 5) Free in
      length-append (replicate 5 (place 0)) (replicate (n - 5) Free) ∙ omega arith

  abbrev first : Registers
  first = regs_at (code_at 0) 5 0 4 (n - 1)

  fits_so : fits first.last (begun_cells n) ≡ true
  fits_so = eq-eqb (length (begun_cells n)) (n - 1 + 1) (begun_long ∙ omega arith)

  begins_so : (p : Passed) (m : ℕ) → m ≡ n → begins p m ≡ Ok (record { passed = p; regs = first })
  begins_so p m e =
      ap (begins p) e ∙ ap (λ b. cond b (Ok (record { passed = p; regs = first })) (Err (record { passed = p }))) sized_so

  cells_so : (cs : List Cell) → length cs ≡ n → begin_cells cs ≡ begun_cells n
  cells_so cs e = ap (λ m. cond (sized m) (begun_cells m) cs) e ∙ ap (λ b. cond b (begun_cells n) cs) sized_so

  same : {A E : Type 0} {x y : A} → ◌≡◌ {A = Result A E} (Ok x) (Ok y) → x ≡ y
  same e = cc

  -- what a go over another store answers
  abbrev elsewhere : Passed → Meaning → Gone
  elsewhere p h = record { answer = record { count = 0; finish = OtherStore }; run = record { passed = p; regs = first }; cells = begun_cells n; host = h }

  goes_on : (p : Passed) (cs ds : List Cell) (h : Meaning) (r : Run) (g : Gone) (k : ℕ)
      → length cs ≡ n → begins p (length cs) ≡ Ok r → ds ≡ begin_cells cs → g ≡ gone k r ds h → g ≡ after_go p (go (contents_of p.table) k (begun n h))
  goes_on p cs ds h r g k e b d q =
      let own : r ≡ record { passed = p; regs = first } = same (sym b ∙ begins_so p (length cs) e) in
      q
      ∙ ap (λ (s : Run). gone k s ds h) own
      ∙ ap (λ (x : List Cell). gone k (record { passed = p; regs = first }) x h) (d ∙ cells_so cs e)
      ∙ ap (λ b. cond b (after_go p (go (contents_of p.table) k (begun n h))) (elsewhere p h)) fits_so

  pub answer_is : (p : Passed) (cs ds : List Cell) (h : Meaning) (r : Run) (g : Gone) (k : ℕ)
      → length cs ≡ n → begins p (length cs) ≡ Ok r → ds ≡ begin_cells cs → g ≡ gone k r ds h → g.answer ≡ as_answer (go (contents_of p.table) k (begun n h))
  answer_is p cs ds h r g k e b d q = ap (λ (x : Gone). x.answer) (goes_on p cs ds h r g k e b d q)

  pub host_is : (p : Passed) (cs ds : List Cell) (h : Meaning) (r : Run) (g : Gone) (k : ℕ)
      → length cs ≡ n → begins p (length cs) ≡ Ok r → ds ≡ begin_cells cs → g ≡ gone k r ds h → g.host ≡ (go (contents_of p.table) k (begun n h)).state.host
  host_is p cs ds h r g k e b d q = ap (λ (x : Gone). x.host) (goes_on p cs ds h r g k e b d q)
