use Rattle.std.proofs.Common.{rules}
use lib.Ieee.Bits.{of_bits-to_bits}
use Rattle.store.proofs.encode.value_word.Goals as goal

pub returns-in-Real : goal.returns-in-Real
returns-in-Real c = search (rules, of_bits-to_bits)
