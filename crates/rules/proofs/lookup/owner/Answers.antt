use Rattle.std.proofs.Common.{◌-◌, ap, ◌∙◌}
use Rattle.rules.proofs.Lookups.{begun_counts}
use Rattle.rules.proofs.lookup.owner.Goals as goal

pub returns : goal.returns
returns c = c.saturating_sub.ensures ∙ ap (λ k. k - 1) (c.begun.ensures ∙ begun_counts c.args.table.procedures.now c.args.n)
