use Rattle.std.proofs.Common.{sym, subst, rules}
use Rattle.std.proofs.lemmas.Result.{err_from_is_err_and}
use Rattle.paths.specs.Judging.{Progress}
use Rattle.rules.specs.Lookups.{contents_of}
use Rattle.transfer.specs.Stacks.{Stack}
use Rattle.judge.specs.declared.flaw.Flaw.{Flaw}
use Rattle.judge.specs.Handing.{Follows}
use Rattle.judge.specs.Verifying.{rows_of, waiting}
use Rattle.judge.proofs.Following.{Mapped, refuses, sends_inside, goes_on}
use Rattle.judge.proofs.verifier.Verifier.judge_one.Goals as goal

pub returns-in_err-sent-clause-after : goal.returns-in_err-sent-clause-after
returns-in_err-sent-clause-after c =
    let v = c.args.self.now in
    let m : Mapped c.args.i c.transfer.result c.map_err.result = search rules in
    let r = err_from_is_err_and c.from_residual.result c.from_residual.ensures.1 in
    rw (r.1, r.2) (refuses (contents_of v.table) v.checked v.rows.now c.args.i c.requires c.transfer.result c.map_err.result m c.transfer.ensures.value (waiting v) c.in_err-sent.field-0.0 c.in_err-sent.was)

pub hand_on-requires : goal.hand_on-requires
hand_on-requires c =
    let v = c.args.self.now in
    let m : Mapped c.args.i c.transfer.result c.map_err.result = search rules in
    sends_inside (contents_of v.table) v.checked v.rows.now c.args.i c.requires c.transfer.result c.map_err.result m c.transfer.ensures.value c.in_ok-sent.sent _ v.wide c.in_ok-sent.was

pub returns-clause-after : goal.returns-clause-after
returns-clause-after c =
    let v = c.args.self.now in
    let u = c.hand_on.new.self in
    let m : Mapped c.args.i c.transfer.result c.map_err.result = search rules in
    let p = goes_on (contents_of v.table) v.checked v.rows.now c.args.i c.requires c.transfer.result c.map_err.result m c.transfer.ensures.value (waiting v) c.in_ok-sent.sent c.in_ok-sent.was in
    subst (λ (q : Progress Stack Flaw). Follows c.hand_on.result q (rows_of u) (waiting u)) (sym p) c.hand_on.ensures.after
