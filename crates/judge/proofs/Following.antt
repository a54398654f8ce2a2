-- One turn of the work list over rows as records is the path engine's.
use Rattle.std.proofs.Common.{◌≡◌, ℕ, zero, suc, ◌+◌, ◌<◌, Bool, true, false, cond, List, [], ◌∷◌, ◌++◌, length, get_or, Some, None, Ok, Err, Option, Result, sym, refl, ap, ◌∙◌, subst, inl, inr, arith, IsSome, MatchResult}
use Rattle.std.proofs.Math.Logic.{∥∥₁_elim, ∥∥₁_map}
use Rattle.std.specs.Option.{option_to_list}
use Rattle.std.proofs.lemmas.List.{length-map}
use Rattle.sheet.specs.Tables.{Contents}
use Rattle.rules.specs.declared.fault.TableFault.{TableFault}
use Rattle.rules.specs.Operands.{first_fault}
use Rattle.paths.specs.Flows.{breaks, hands_on}
use Rattle.paths.specs.Judging.{going, refused, judge_by, judge_one, settle, weight}
use Rattle.paths.specs.Lists.{All}
use Rattle.paths.specs.Loops.{Ready, WorkLoop}
use Rattle.paths.specs.Rows.{Rows, row_at}
use Rattle.paths.proofs.Loops.{judges, work_loop}
use Rattle.rows.specs.declared.row.Row.{Row}
use Rattle.rows.specs.Rows.{is_row, meaning}
use Rattle.transfer.specs.declared.breach.Breach.{Breach}
use Rattle.transfer.specs.declared.sent.Sent.{Sent}
use Rattle.transfer.specs.Stacks.{Stack}
use Rattle.transfer.specs.Transfer.{handed, transfer, stack_of, outcome}
use Rattle.transfer.proofs.Checking.{table_rule}
use Rattle.judge.specs.declared.flaw.Flaw.{Flaw}
use Rattle.judge.specs.declared.flaw.Flaw.TheVariants.{Broken}
use Rattle.judge.specs.Flaws.{flaw_at}
use Rattle.judge.specs.Flow.{as_step, stacks}
use Rattle.judge.specs.Handing.{meanings, handed_all}
use Rattle.judge.proofs.Admission.{law}
use Rattle.judge.proofs.Inside.{inside}
use Rattle.judge.proofs.Readying.{all_is}

abbrev pub past : Row
past = record { len = 0; bytes = [] }

means : (b : Bool) (t s : Stack) → cond b (Some t) None ≡ Some s → (b ≡ true) × (t ≡ s)
means true t s e = (refl, cc)
means false t s e = let z : ◌≡◌ {A = ℕ} 0 1 = cc in absurd (omega arith)

-- a row in place is that of a record
pub row_is : (rs : List Row) (i : ℕ) (s : Stack) → row_at (meanings rs) i ≡ Some s → (i < length rs) × (is_row (get_or rs i past) ≡ true) × (stack_of (get_or rs i past) ≡ s)
row_is [] i s e = let z : ◌≡◌ {A = ℕ} 0 1 = cc in absurd (omega arith)
row_is (r ∷ rs) zero s e = let m = means (is_row r) (stack_of r) s e in (omega arith, m.0, m.1)
row_is (r ∷ rs) (suc i) s e = let m = row_is rs i s e in (omega (arith, m.0), m.1, m.2)

row_there : (rs : List Row) (i : ℕ) → IsSome (row_at (meanings rs) i)
    → (i < length rs) × (is_row (get_or rs i past) ≡ true) × (row_at (meanings rs) i ≡ Some (stack_of (get_or rs i past)))
row_there rs i h = by (row_at (meanings rs) i) refl h
  where
    by : (o : Option Stack) → row_at (meanings rs) i ≡ o → IsSome o
        → (i < length rs) × (is_row (get_or rs i past) ≡ true) × (row_at (meanings rs) i ≡ Some (stack_of (get_or rs i past)))
    by None e h = cc
    by (Some s) e h = let m = row_is rs i s e in (m.0, m.1, e ∙ ap Some (sym m.2))

-- what waits has a row, and taking the top off leaves the others so
pub waiting_there : (rs : List Row) (i : ℕ) (work : List ℕ) → ∥ Ready (meanings rs) (i ∷ work) ∥₁ → IsSome (row_at (meanings rs) i)
waiting_there rs i work y = by (row_at (meanings rs) i) refl
  where
    by : (o : Option Stack) → row_at (meanings rs) i ≡ o → IsSome o
    by (Some s) e = refl
    by None e = absurd (∥∥₁_elim y (λ p q. absurd p) (λ y. let x = y.rowed i (inl refl) in let z = sym e ∙ x.1 in let w : ◌≡◌ {A = ℕ} 0 1 = cc in omega arith))

pub rest_ready : (rows : Rows Stack) (o : Option ℕ) (work work' : List ℕ) → work ≡ option_to_list o ++ work' → ∥ Ready rows work ∥₁ → ∥ Ready rows work' ∥₁
rest_ready rows None work work' e y = subst (λ (w : List ℕ). ∥ Ready rows w ∥₁) e y
rest_ready rows (Some i) work work' e y =
    ∥∥₁_map (subst (λ (w : List ℕ). ∥ Ready rows w ∥₁) e y) (λ y. record { distinct = y.distinct.1; rowed = λ k m. y.rowed k (inr m) })

module _ (T : Contents) (checked : first_fault T ≡ None) where
  -- the answer of the transfer function is what the instruction does
  stepped : (i : ℕ) (s : Stack) (r : Result Sent Breach) → outcome i r ≡ transfer T i s → (stacks T).transfer i s ≡ as_step (outcome i r)
  stepped i s r e = ap as_step (sym e)

  low : (i : ℕ) (s : Stack) (sent : Sent) → outcome i (Ok sent) ≡ transfer T i s → All (λ h. h.0 < length T.code) (handed sent.way i (stack_of sent.row))
  low i s sent e = (inside T checked (table_rule T checked)).goes i s (handed sent.way i (stack_of sent.row)) (stepped i s (Ok sent) e)

  broken : (rows : Rows Stack) (work : List ℕ) (i : ℕ) (s : Stack) (b : Breach) → row_at rows i ≡ Some s → outcome i (Err b) ≡ transfer T i s
      → judge_one (stacks T) i rows work ≡ refused (Broken b) i
  unfolding judge_by
  broken rows work i s b e o = judges (stacks T) i s (breaks (Broken b)) rows work e (stepped i s (Err b) o)

  went_on : (rows : Rows Stack) (work : List ℕ) (i : ℕ) (s : Stack) (sent : Sent) → row_at rows i ≡ Some s → outcome i (Ok sent) ≡ transfer T i s
      → judge_one (stacks T) i rows work ≡ handed_all (handed sent.way i (stack_of sent.row)) rows work
  unfolding judge_by
  went_on rows work i s sent e o =
      judges (stacks T) i s (hands_on (handed sent.way i (stack_of sent.row))) rows work e (stepped i s (Ok sent) o)
      ∙ all_is T (handed sent.way i (stack_of sent.row)) rows work

  -- ---- turn by turn
  pub turns : WorkLoop (stacks T)
  turns = work_loop (stacks T) (law T checked (table_rule T checked))

  -- before the turn rows are rs and the work list is i ∷ work; after it they are rs' and work'
  pub record Turned (rs rs' : List Row) (i : ℕ) (work work' : List ℕ) : Type 0 where
    pub same : settle (stacks T) (meanings rs) (i ∷ work) ≡ settle (stacks T) (meanings rs') work'
    pub less : weight (stacks T) (meanings rs') + length work' < weight (stacks T) (meanings rs) + length (i ∷ work)

  wide_is : (rs : List Row) → length rs ≡ length T.code → length (meanings rs) ≡ length T.code
  wide_is rs w = length-map rs meaning ∙ w

  pub turned : (rs rs' : List Row) (i : ℕ) (work work' : List ℕ) → length rs ≡ length T.code
      → judge_one (stacks T) i (meanings rs) work ≡ going (meanings rs') work' → Turned rs rs' i work work'
  turned rs rs' i work work' w e = record {
    same = turns.turn_on (meanings rs) i work (meanings rs') work' (wide_is rs w) e;
    less = turns.falls (meanings rs) i work (meanings rs') work' (wide_is rs w) e;
  }

  pub turned_out : (rs : List Row) (i : ℕ) (work : List ℕ) (f : Flaw) (n : ℕ) → length rs ≡ length T.code
      → judge_one (stacks T) i (meanings rs) work ≡ refused f n → settle (stacks T) (meanings rs) (i ∷ work) ≡ refused f n
  turned_out rs i work f n w e = turns.turn_out (meanings rs) i work f n (wide_is rs w) e

  pub nothing_waits : (rs : List Row) (work : List ℕ) → work ≡ [] → settle (stacks T) (meanings rs) work ≡ going (meanings rs) work
  nothing_waits rs work e = subst (λ (x : List ℕ). settle (stacks T) (meanings rs) x ≡ going (meanings rs) x) (sym e) (turns.ended (meanings rs))

-- ---- what instruction i, which has a row, comes to; r is the answer of the transfer function, and m the same with its error as a refusal
abbrev pub Mapped : ℕ → Result Sent Breach → Result Sent TableFault → Type 0
Mapped i r m = MatchResult r (λ s. m ≡ Ok s) (λ b. m ≡ Err (flaw_at (Broken b) i))

broke : (i : ℕ) (r : Result Sent Breach) (m : Result Sent TableFault) (x : TableFault) → Mapped i r m → m ≡ Err x → (b : Breach) × (r ≡ Err b) × (x ≡ flaw_at (Broken b) i)
broke i (Ok s) m x h e = let z : ◌≡◌ {A = Result Sent TableFault} (Ok s) (Err x) = sym h ∙ e in absurd (let y : ◌≡◌ {A = ℕ} 0 1 = cc in omega arith)
broke i (Err b) m x h e = let z : ◌≡◌ {A = Result Sent TableFault} (Err x) (Err (flaw_at (Broken b) i)) = sym e ∙ h in (b, refl, cc)

sent_is : (i : ℕ) (r : Result Sent Breach) (m : Result Sent TableFault) (s : Sent) → Mapped i r m → m ≡ Ok s → r ≡ Ok s
sent_is i (Ok t) m s h e = let z : ◌≡◌ {A = Result Sent TableFault} (Ok t) (Ok s) = sym h ∙ e in ap Ok (let y : t ≡ s = cc in y)
sent_is i (Err b) m s h e = let z : ◌≡◌ {A = Result Sent TableFault} (Err (flaw_at (Broken b) i)) (Ok s) = sym h ∙ e in absurd (let y : ◌≡◌ {A = ℕ} 0 1 = cc in omega arith)

module _ (T : Contents) (checked : first_fault T ≡ None) (rs : List Row) (i : ℕ) (there : IsSome (row_at (meanings rs) i)) (r : Result Sent Breach) (m : Result Sent TableFault) (mapped : Mapped i r m)
    (does : first_fault T ≡ None → is_row (get_or rs i past) ≡ true → outcome i r ≡ transfer T i (stack_of (get_or rs i past)))
  where
    own : outcome i r ≡ transfer T i (stack_of (get_or rs i past))
    own = does checked (row_there rs i there).1

    pub refuses : (work : List ℕ) (x : TableFault) → m ≡ Err x → (f : Flaw) × (n : ℕ) × (judge_one (stacks T) i (meanings rs) work ≡ refused f n) × (x ≡ flaw_at f n)
    refuses work x e =
        let b = broke i r m x mapped e in
        (Broken b.0, i, broken T checked (meanings rs) work i (stack_of (get_or rs i past)) b.0 (row_there rs i there).2 (sym (ap (outcome i) b.1) ∙ own), b.2)

    pub sends_inside : (s : Sent) (n : ℕ) → n ≡ length T.code → m ≡ Ok s → All (λ h. h.0 < n) (handed s.way i (stack_of s.row))
    sends_inside s n w e =
        subst (λ (k : ℕ). All (λ h. h.0 < k) (handed s.way i (stack_of s.row))) (sym w)
        (low T checked i (stack_of (get_or rs i past)) s (sym (ap (outcome i) (sent_is i r m s mapped e)) ∙ own))

    pub goes_on : (work : List ℕ) (s : Sent) → m ≡ Ok s → judge_one (stacks T) i (meanings rs) work ≡ handed_all (handed s.way i (stack_of s.row)) (meanings rs) work
    goes_on work s e = went_on T checked (meanings rs) work i (stack_of (get_or rs i past)) s (row_there rs i there).2 (sym (ap (outcome i) (sent_is i r m s mapped e)) ∙ own)
