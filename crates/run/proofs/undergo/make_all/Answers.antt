use Rattle.std.proofs.Common.{◌<◌, length, ap, ◌∙◌, arith}
use Rattle.rules.specs.Lookups.{contents_of}
use Rattle.admit.specs.declared.Passed.{Passed}
use Rattle.run.proofs.Listing.{walk_on, walk_ends}
use Rattle.run.proofs.undergo.make_all.Goals as goal

pub loop-i-preserved : goal.loop-i-preserved
loop-i-preserved g c =
    let j : c.loop-i.i < length c.loop-i.answers = omega (arith, c.requires.room, c.loop-i-test.true) in
    let same = c.loop-i.invariant.1 in (
      walk_on _ _ _ _ _ _ _ _ _ _ _ (ap (λ (p : Passed). contents_of p.table) same) c.loop-i-test.true j c.make.ensures.value c.loop-i.invariant.0,
      c.make.ensures.same ∙ same,
      c.make.ensures.fits,
    )

pub returns : goal.returns
returns g c =
    let w = walk_ends _ _ _ _ _ _ _ c.loop-i-test.false c.loop-i.auto.i-end c.loop-i.invariant.0 in
    record { value = w.0; after = w.1; same = c.loop-i.invariant.1 }
