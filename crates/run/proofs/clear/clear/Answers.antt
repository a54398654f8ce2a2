use Rattle.run.proofs.Filling.{fill_five}
use Rattle.run.proofs.clear.clear.Goals as goal

pub returns : goal.returns
returns g c = fill_five _ _ _ _ _ _ c.requires.whole c.requires.wide c.fill.ensures c.fill-2.ensures
