use Rattle.std.proofs.Common.{◌≡◌, ℕ, ◌<◌, ◌++◌, length, drop, replicate, ◌∙◌, subst, arith}
use Rattle.store.specs.Cells.{clean}
use Rattle.run.proofs.Filling.{fill_more}
use Rattle.run.proofs.clear.fill.Goals as goal

pub loop-i-preserved : goal.loop-i-preserved
loop-i-preserved g c =
    let lt : c.loop-i.i < length (g.S.Store.cells c.args.store.now) = omega arith in
    c.put_at.ensures ∙ rw c.loop-i.invariant (fill_more _ _ _ lt)

pub returns : goal.returns
returns g c =
    let all : c.loop-i.i ≡ c.args.n = omega arith in
    subst (λ (k : ℕ). g.S.Store.cells c.loop-i.store ≡ replicate k (clean c.args.cell) ++ drop k (g.S.Store.cells c.args.store.now)) all c.loop-i.invariant
