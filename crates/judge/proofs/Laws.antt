-- What judging means, from the path engine and the checks.
use Rattle.std.proofs.Common.{◌≡◌, ℕ, Bool, true, false, cond, ◌&&◌, leb, List, map, length, Some, None, Ok, Err, Option, Result, sym, refl, ap, ◌∙◌, subst, arith}
use Rattle.std.specs.Option.{option_or}
use Rattle.std.proofs.lemmas.Bool.{le-leb, leb-true, and_parts, and_from}
use Rattle.sheet.specs.Tables.{Contents}
use Rattle.rules.specs.declared.fault.TableFault.{TableFault}
use Rattle.rules.specs.declared.fault.TableFault.TheVariants.{TooFewPlaces}
use Rattle.rules.specs.OperandLaws.{InstructionRule}
use Rattle.rules.specs.Operands.{operand_fault, first_fault}
use Rattle.rules.specs.ProcedureLaws.{TableRule}
use Rattle.rules.specs.Procedures.{table_fault}
use Rattle.rules.specs.Throughout.{HoldsThroughout}
use Rattle.rules.proofs.EffectLaws.{neither_left, neither_right}
use Rattle.rules.proofs.OperandLaws.{operands_are_checked}
use Rattle.rules.proofs.ProcedureLaws.{table_is_checked}
use Rattle.paths.specs.Exact.{Exact}
use Rattle.paths.specs.Lists.{Exactly}
use Rattle.paths.specs.Judging.{Progress, going, refused, judge}
use Rattle.paths.specs.Paths.{Reached}
use Rattle.paths.specs.Rows.{Rows, count}
use Rattle.paths.proofs.Exact.{strict_exact}
use Rattle.transfer.specs.Stacks.{Stack}
use Rattle.judge.specs.declared.flaw.Flaw.{Flaw}
use Rattle.judge.specs.declared.flaw.Flaw.TheVariants.{Differs}
use Rattle.judge.specs.Flaws.{flaw_at}
use Rattle.judge.specs.Flow.{same_stack, entry_of, step, stacks}
use Rattle.judge.specs.Judgement.{places_fault, checked, followed, judged_after, judged, answered}
use Rattle.judge.specs.Laws.{KeepsTheRules, LongEnough, JudgeAcceptsExactlyCleanTables, JudgeLeavesWhatPathsBring, JudgeCountsWhatPathsReach, Cause, ill_formed, too_few_places, not_allowed, met_on_a_path, JudgeRefusesForCause}
use Rattle.judge.proofs.Inside.{inside, stacks_tell}

-- ---- the checks before any path
pub unchecked : (T : Contents) → table_fault T ≡ None → operand_fault T ≡ None → first_fault T ≡ None
unchecked T a b = ap (λ o. option_or o (operand_fault T)) a ∙ b

-- what a table that passed its checks keeps
pub record Passed (T : Contents) : Type 0 where
  pub table : TableRule T
  pub operands : HoldsThroughout (InstructionRule T) T.code
  pub exact : Exact (stacks T)

pub passed : (T : Contents) → table_fault T ≡ None → operand_fault T ≡ None → Passed T
passed T a b = record {
  table = (table_is_checked T).0 a;
  operands = (operands_are_checked T).0 b;
  exact = strict_exact same_stack stacks_tell (length T.code) (map (entry_of T) T.procedures) (step T) Differs (inside T (unchecked T a b) ((table_is_checked T).0 a));
}

places_by : (b : Bool) → ◌≡◌ {A = Option TableFault} (cond b None (Some TooFewPlaces)) None → b ≡ true
places_by true e = refl
places_by false e = let z : ◌≡◌ {A = ℕ} 0 1 = cc in absurd (omega arith)

long : (T : Contents) (r w : ℕ) → places_fault T r w ≡ None → LongEnough T r w
long T r w e =
    let p = and_parts (leb (length T.code) r) (leb (length T.code) w) (places_by (leb (length T.code) r && leb (length T.code) w) e) in
    (leb-true (length T.code) r p.0, leb-true (length T.code) w p.1)

long_none : (T : Contents) (r w : ℕ) → LongEnough T r w → places_fault T r w ≡ None
long_none T r w l =
    ap (λ b. cond b None (Some TooFewPlaces)) (and_from (leb (length T.code) r) (leb (length T.code) w) (le-leb (length T.code) r l.0) (le-leb (length T.code) w l.1))

all_none : (T : Contents) (r w : ℕ) → checked T r w ≡ None → (table_fault T ≡ None) × (places_fault T r w ≡ None) × (operand_fault T ≡ None)
all_none T r w e =
    let p = neither_right (table_fault T) (option_or (places_fault T r w) (operand_fault T)) e in (
      neither_left (table_fault T) (option_or (places_fault T r w) (operand_fault T)) e,
      neither_left (places_fault T r w) (operand_fault T) p,
      neither_right (places_fault T r w) (operand_fault T) p,
    )

checked_none : (T : Contents) (r w : ℕ) → table_fault T ≡ None → places_fault T r w ≡ None → operand_fault T ≡ None → checked T r w ≡ None
checked_none T r w a b c = ap (λ o. option_or o (option_or (places_fault T r w) (operand_fault T))) a ∙ ap (λ o. option_or o (operand_fault T)) b ∙ c

-- ---- an answer, by the two ways that it comes about
ok_by : (T : Contents) (o : Option TableFault) (rows : Rows Stack) → judged_after o T ≡ Ok rows → (o ≡ None) × (followed (judge (stacks T)) ≡ Ok rows)
ok_by T None rows e = (refl, e)
ok_by T (Some f) rows e = let z : ◌≡◌ {A = ℕ} 0 1 = cc in absurd (omega arith)

going_by : (p : Progress Stack Flaw) (rows : Rows Stack) → followed p ≡ Ok rows → (work : List ℕ) × (p ≡ going rows work)
going_by (going rows' work) rows e = (work, (let z : rows' ≡ rows = cc in ap (λ x. going x work) z))
going_by (refused f n) rows e = let z : ◌≡◌ {A = ℕ} 0 1 = cc in absurd (omega arith)

refused_by : (p : Progress Stack Flaw) (x : TableFault) → followed p ≡ Err x → (f : Flaw) × (n : ℕ) × (p ≡ refused f n) × (flaw_at f n ≡ x)
refused_by (going rows work) x e = let z : ◌≡◌ {A = ℕ} 0 1 = cc in absurd (omega arith)
refused_by (refused f n) x e = (f, n, refl, cc)

pub accepted : (T : Contents) (r w : ℕ) (rows : Rows Stack) → judged T r w ≡ Ok rows → LongEnough T r w × Passed T × ((work : List ℕ) × (judge (stacks T) ≡ going rows work))
accepted T r w rows e =
    let o = ok_by T (checked T r w) rows e in
    let c = all_none T r w o.0 in
    (long T r w c.1, passed T c.0 c.2, going_by (judge (stacks T)) rows o.1)

keeps : (T : Contents) (r w : ℕ) (rows : Rows Stack) → judged T r w ≡ Ok rows → KeepsTheRules T
keeps T r w rows e =
    let a = accepted T r w rows e in
    let p = a.1 in
    let g = a.2 in
    record { table = p.table; operands = p.operands; paths = p.exact.accepts.0 (rows, g.0, g.1) }

accepts : (T : Contents) (r w : ℕ) → LongEnough T r w → KeepsTheRules T → (rows : Rows Stack) × (judged T r w ≡ Ok rows)
accepts T r w l k =
    let a = (table_is_checked T).1 k.table in
    let b = (operands_are_checked T).1 k.operands in
    let p = passed T a b in
    let g = p.exact.accepts.1 k.paths in
    (g.0, ap (λ o. judged_after o T) (checked_none T r w a (long_none T r w l) b) ∙ ap followed g.2)

pub judge_accepts_exactly_clean_tables : JudgeAcceptsExactlyCleanTables
judge_accepts_exactly_clean_tables T r w l = (λ a. keeps T r w a.0 a.1, accepts T r w l)

pub judge_leaves_what_paths_bring : JudgeLeavesWhatPathsBring
judge_leaves_what_paths_bring T r w rows e n s =
    let a = accepted T r w rows e in
    let g = a.2 in
    a.1.exact.brings rows g.0 g.1 n s

answer_by : (v : Result (Rows Stack) TableFault) (k : ℕ) → answered v ≡ Ok k → (rows : Rows Stack) × (v ≡ Ok rows) × (count rows ≡ k)
answer_by (Ok rows) k e = (rows, refl, cc)
answer_by (Err f) k e = let z : ◌≡◌ {A = ℕ} 0 1 = cc in absurd (omega arith)

pub judge_counts_what_paths_reach : JudgeCountsWhatPathsReach
judge_counts_what_paths_reach T r w k e =
    let o = answer_by (judged T r w) k e in
    let a = accepted T r w o.0 o.1 in
    let g = a.2 in
    subst (λ (n : ℕ). Exactly n (Reached (stacks T))) o.2 (a.1.exact.counts o.0 g.0 g.1)

-- ---- a refusal has its cause
path_cause : (T : Contents) (r w : ℕ) (x : TableFault) → table_fault T ≡ None → places_fault T r w ≡ None → operand_fault T ≡ None → followed (judge (stacks T)) ≡ Err x → Cause T r w x
path_cause T r w x a b c e =
    let p = passed T a c in
    let f = refused_by (judge (stacks T)) x e in
    subst (Cause T r w) f.3 (met_on_a_path f.0 f.1 p.table (long T r w b) p.operands (p.exact.names f.0 f.1 f.2))

err_is : (f x : TableFault) → ◌≡◌ {A = Result (Rows Stack) TableFault} (Err f) (Err x) → f ≡ x
err_is f x e = cc

operand_cause : (T : Contents) (r w : ℕ) (x : TableFault) (o : Option TableFault) → operand_fault T ≡ o → table_fault T ≡ None → places_fault T r w ≡ None
    → judged_after o T ≡ Err x → Cause T r w x
operand_cause T r w x None c a b e = path_cause T r w x a b c e
operand_cause T r w x (Some f) c a b e = not_allowed x ((table_is_checked T).0 a) (long T r w b) (c ∙ ap Some (err_is f x e))

places_cause : (T : Contents) (r w : ℕ) (x : TableFault) (t : Bool) → (leb (length T.code) r && leb (length T.code) w) ≡ t → table_fault T ≡ None
    → judged_after (option_or (cond t None (Some TooFewPlaces)) (operand_fault T)) T ≡ Err x → Cause T r w x
places_cause T r w x true b a e = operand_cause T r w x (operand_fault T) refl a (ap (λ t. cond t None (Some TooFewPlaces)) b) e
places_cause T r w x false b a e =
    let no_room : LongEnough T r w → ⊥ = λ l.
    let z = sym b ∙ and_from (leb (length T.code) r) (leb (length T.code) w) (le-leb (length T.code) r l.0) (le-leb (length T.code) w l.1) in
    let y : ◌≡◌ {A = ℕ} 0 1 = cc in omega arith in
    subst (Cause T r w) (err_is TooFewPlaces x e) (too_few_places ((table_is_checked T).0 a) no_room)

table_cause : (T : Contents) (r w : ℕ) (x : TableFault) (o : Option TableFault) → table_fault T ≡ o
    → judged_after (option_or o (option_or (places_fault T r w) (operand_fault T))) T ≡ Err x → Cause T r w x
table_cause T r w x None a e = places_cause T r w x (leb (length T.code) r && leb (length T.code) w) refl a e
table_cause T r w x (Some f) a e = ill_formed x (a ∙ ap Some (err_is f x e))

pub judge_refuses_for_cause : JudgeRefusesForCause
judge_refuses_for_cause T r w x e = table_cause T r w x (table_fault T) refl e
