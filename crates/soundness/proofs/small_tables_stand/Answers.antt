use Rattle.soundness.proofs.SmallTables.{small_tables_come_out}
use Rattle.soundness.proofs.small_tables_stand.Goals as goal

pub returns : goal.returns
returns c = small_tables_come_out
