use Rattle.std.proofs.Common.{◌≡◌, ◌+◌, ◌-◌, ◌<◌, sym, ap, ◌∙◌, arith}
use Rattle.sheet.specs.declared.procedure.Procedure.{Procedure}
use Rattle.rules.specs.Lookups.{contents_of, ancestor, procedure_at}
use Rattle.rules.proofs.Lookups.{climb_more}
use Rattle.rules.proofs.lookup.ancestor.Goals as goal

pub loop-preserved : goal.loop-preserved
loop-preserved c =
    let T = contents_of c.args.table in
    let left = c.args.j - c.loop.counter in
    let z : 0 < c.args.j - c.loop.counter = omega arith in
    let e : c.args.j - c.loop.counter - 1 ≡ c.args.j - (c.loop.counter + 1) = omega arith in
    ap (λ (x : Procedure). ancestor T (c.args.j - (c.loop.counter + 1)) x.parent) c.procedure_at-a.ensures
    ∙ ap (λ k. ancestor T k (procedure_at T c.loop.a).parent) (sym e)
    ∙ sym (climb_more T left c.loop.a z c.if-a-eq0.false) ∙ c.loop.invariant
