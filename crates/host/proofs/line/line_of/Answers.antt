use Rattle.std.proofs.Common.{◌^◌, ◌<◌, T, rules}
use lib.Signed.{mag}
use lib.Ieee.{fits, binary64}
use Rattle.host.proofs.Written.{address_back, boolean_back, character_back, integer_back, real_back, by_its_line}
use Rattle.host.proofs.line.line_of.Goals as goal

pub returns-in-Address : goal.returns-in-Address
returns-in-Address c =
    let h : mag c.in-Address.field-0.0 < 2 ^ 31 = search rules in
    record { value = c.write_value.ensures; back = by_its_line _ _ _ c.write_value.ensures c.in-Address.is (address_back c.in-Address.field-0.0 h) }

pub returns-in-Boolean : goal.returns-in-Boolean
returns-in-Boolean c = record { value = c.write_value-in-Boolean.ensures; back = by_its_line _ _ _ c.write_value-in-Boolean.ensures c.in-Boolean.is (boolean_back c.in-Boolean.field-0) }

pub returns-in-Character : goal.returns-in-Character
returns-in-Character c =
    let h : c.in-Character.field-0 < 256 = search rules in
    record { value = c.write_value-in-Character.ensures; back = by_its_line _ _ _ c.write_value-in-Character.ensures c.in-Character.is (character_back c.in-Character.field-0 h) }

pub returns-in-Integer : goal.returns-in-Integer
returns-in-Integer c =
    let h : mag c.in-Integer.field-0 < 2 ^ 31 = search rules in
    record { value = c.write_value-in-Integer.ensures; back = by_its_line _ _ _ c.write_value-in-Integer.ensures c.in-Integer.is (integer_back c.in-Integer.field-0 h) }

pub returns-in-Real : goal.returns-in-Real
returns-in-Real c =
    let h : T (fits binary64 c.in-Real.field-0) = search rules in
    record { value = c.write_value-in-Real.ensures; back = by_its_line _ _ _ c.write_value-in-Real.ensures c.in-Real.is (real_back c.in-Real.field-0 h) }
