use Rattle.std.proofs.Common.{◌≡◌, ℕ, List, Some, None, sym, ap, ◌∙◌, subst, arith}
use Rattle.std.proofs.lemmas.Result.{err_from_is_err_and}
use Rattle.pile.specs.Piles.{held}
use Rattle.rules.specs.Lookups.{contents_of}
use Rattle.paths.specs.Judging.{Progress, settle}
use Rattle.transfer.specs.Stacks.{Stack}
use Rattle.transfer.specs.Transfer.{stack_of}
use Rattle.judge.specs.declared.flaw.Flaw.{Flaw}
use Rattle.judge.specs.Flow.{stacks}
use Rattle.judge.specs.Handing.{meanings, handed_to, Follows}
use Rattle.judge.proofs.Entering.{entry_is, entry_there, entered_on, entered_out}
use Rattle.judge.proofs.verifier.Verifier.enter.Goals as goal

pub returns-in_err-row-clause-after : goal.returns-in_err-row-clause-after
returns-in_err-row-clause-after c =
    let o : c.entry_row.result ≡ None = grind arith in
    absurd (entry_there (contents_of c.args.self.now.table) c.args.procedure c.requires.few (sym c.entry_row.ensures ∙ o))

pub hand-requires-clause-row : goal.hand-requires-clause-row
hand-requires-clause-row c =
    let o : c.entry_row.result ≡ Some c.in_ok-row.row = grind arith in
    (entry_is (contents_of c.args.self.now.table) c.args.procedure c.in_ok-row.row (sym c.entry_row.ensures ∙ o)).0

pub returns-in_err-hand-clause-after : goal.returns-in_err-hand-clause-after
returns-in_err-hand-clause-after c =
    let v = c.args.self.now in
    let p = c.in_err-hand.ensures.after in
    let r = err_from_is_err_and c.from_residual-in_err-hand.result c.from_residual-in_err-hand.ensures.1 in
    let o : c.entry_row.result ≡ Some c.in_ok-row.row = grind arith in
    let q = entry_is (contents_of v.table) c.args.procedure c.in_ok-row.row (sym c.entry_row.ensures ∙ o) in
    let h = ap (λ (w : List ℕ). handed_to (meanings v.rows.now) w c.args.procedure.first (stack_of c.in_ok-row.row)) (sym c.requires.none) ∙ p.2 in
    rw (r.1, r.2) (p.0, p.1, entered_out (contents_of v.table) c.args.procedure (meanings v.rows.now) p.0 p.1 (stack_of c.in_ok-row.row) q.1 h, p.3)

pub returns-clause-after : goal.returns-clause-after
returns-clause-after c =
    let v = c.args.self.now in
    let u = c.hand.new.self in
    let p = c.in_ok-hand.ensures in
    let o : c.entry_row.result ≡ Some c.in_ok-row.row = grind arith in
    let q = entry_is (contents_of v.table) c.args.procedure c.in_ok-row.row (sym c.entry_row.ensures ∙ o) in
    let h = ap (λ (w : List ℕ). handed_to (meanings v.rows.now) w c.args.procedure.first (stack_of c.in_ok-row.row)) (sym c.requires.none) ∙ p.after in
    let e = entered_on (contents_of v.table) c.args.procedure (meanings v.rows.now) (meanings u.rows.now) (held u.work.now) (stack_of c.in_ok-row.row) q.1 h in
    let t = ap (λ t. settle (stacks (contents_of t)) (meanings u.rows.now) (held u.work.now)) p.kept.table in
    subst (λ (g : Progress Stack Flaw). Follows c.settle.result g (meanings c.settle.new.self.rows.now) (held c.settle.new.self.work.now)) (t ∙ sym e) c.settle.ensures.after
