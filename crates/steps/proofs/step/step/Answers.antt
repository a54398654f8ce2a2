use Rattle.rules.specs.Lookups.{contents_of}
use Rattle.steps.proofs.Kept.{perform_leaves}
use Rattle.steps.proofs.step.step.Goals as goal

pub returns-clause-long : goal.returns-clause-long
returns-clause-long g c = (perform_leaves g.S.Store.cells (contents_of c.args.table) c.in_ok-n.n c.in_ok-operation.operation c.perform.ensures).long

pub returns-clause-last : goal.returns-clause-last
returns-clause-last g c = (perform_leaves g.S.Store.cells (contents_of c.args.table) c.in_ok-n.n c.in_ok-operation.operation c.perform.ensures).last
