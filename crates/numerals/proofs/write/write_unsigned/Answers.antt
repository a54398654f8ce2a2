use Rattle.numerals.proofs.Laws.{written_numbers_read_back}
use Rattle.numerals.proofs.write.write_unsigned.Goals as goal

pub returns-clause-read : goal.returns-clause-read
returns-clause-read c = written_numbers_read_back
