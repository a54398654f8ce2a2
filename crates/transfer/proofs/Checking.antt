-- What the rules of tables and operands leave to rely on: room for at most forty cells, and marks below 8. Assumes nothing.
use Rattle.std.proofs.Common.{◌≡◌, ℕ, ◌≤◌, true, ltb, Some, refl, arith}
use Rattle.std.specs.List.{slice_get}
use Rattle.std.proofs.lemmas.Bool.{lt-ltb, and_from}
use Rattle.sheet.specs.declared.instruction.Instruction.{Instruction}
use Rattle.sheet.specs.Tables.{Contents}
use Rattle.rules.specs.declared.effects.Gives.{Gives}
use Rattle.rules.specs.declared.effects.Gives.TheVariants as gives
use Rattle.rules.specs.EffectLaws.{SoundGives}
use Rattle.rules.specs.Effects.{effect_of}
use Rattle.rules.specs.Lookups.{room_at}
use Rattle.rules.specs.Operands.{operand_fault}
use Rattle.rules.specs.ProcedureLaws.{TableRule}
use Rattle.rules.specs.Procedures.{table_fault}
use Rattle.rules.proofs.EffectLaws.{neither_left, neither_right, effects_are_sound}
use Rattle.rules.proofs.LookupLaws.{rooms_are_small}
use Rattle.rules.proofs.ProcedureLaws.{table_is_checked}
use Rattle.transfer.specs.Stacks.{fitting}
use Rattle.transfer.specs.Transfer.{Checked}

pub table_rule : (T : Contents) → Checked T → TableRule T
table_rule T ok = (table_is_checked T).0 (neither_left (table_fault T) (operand_fault T) ok)

pub rooms : (T : Contents) → Checked T → (n : ℕ) → room_at T n ≤ 40
rooms T ok = rooms_are_small T (neither_right (table_fault T) (operand_fault T) ok)

sound_fits : (g : Gives) → SoundGives g → fitting g ≡ true
sound_fits gives.Nothing h = refl
sound_fits (gives.One t) h = refl
sound_fits (gives.Two t) h = refl
sound_fits (gives.Mark j) h = and_from (ltb j 8) true (lt-ltb j 8 (omega arith)) refl

pub fits_the_stack : (T : Contents) → Checked T → (n : ℕ) (x : Instruction) → slice_get T.code n ≡ Some x → fitting (effect_of T n x).gives ≡ true
fits_the_stack T ok n x e = sound_fits (effect_of T n x).gives (effects_are_sound T ok n x e).1
