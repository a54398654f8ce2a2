-- The number of each cause that stops a step. Assumes nothing.
use Rattle.std.specs.Prelude.{ℕ}
use Rattle.sheet.specs.declared.stop.Stop.{Stop}
use Rattle.sheet.specs.declared.stop.Stop.TheVariants.{NothingWaits, WrongInput, NoRoom, OutsideKind, OutsideBounds, ZeroDivisor, StoreFull, NoDataCell, OtherKindOfCell, NoValueYet, WrongCell, WrongMark, StackFull, OutsideCode}

abbrev pub stop_number : Stop → ℕ
stop_number NothingWaits = 31
stop_number WrongInput = 32
stop_number NoRoom = 33
stop_number OutsideKind = 41
stop_number OutsideBounds = 42
stop_number ZeroDivisor = 43
stop_number StoreFull = 44
stop_number NoDataCell = 45
stop_number OtherKindOfCell = 46
stop_number NoValueYet = 47
stop_number WrongCell = 60
stop_number WrongMark = 61
stop_number StackFull = 62
stop_number OutsideCode = 63
