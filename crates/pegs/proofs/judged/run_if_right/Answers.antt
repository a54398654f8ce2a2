use Rattle.std.proofs.Common.{length, sym, refl, ◌∙◌}
use Rattle.rules.specs.Lookups.{contents_of}
use Rattle.pegs.proofs.Attempting.{accepted_judge, admitted_then, refused_never, written}
use Rattle.judge.specs.Judgement.{judged}
use Rattle.pegs.proofs.judged.run_if_right.Goals as goal

pub returns-in_err-passed : goal.returns-in_err-passed
returns-in_err-passed c =
    let U = contents_of c.args.table in
    let old = c.deref_mut.result.now in
    let w = length c.deref_mut-2.result.now in
    let a = accepted_judge (judged U (length old) w) c.in_ok-judge.field-0 c.in_ok-judge.ensures.value in
    absurd (refused_never _ _ _ (admitted_then U w old c.judge.new.rows (c.deref_mut.ensures.len ∙ c.in_ok-rows.ensures.len) c.judge.auto.rows c.in_ok-judge.ensures.rows c.args.table c.deref.result a.0 c.in_err-passed.ensures.judged refl (written _ _ _ _ (sym (c.judge.auto.rows ∙ c.deref_mut.ensures.len)) c.deref.ensures.value) a.1) c.in_err-passed.ensures.value)
