-- The letters of lines and kinds. Cited by the line readers. Assumes nothing.
use Rattle.std.specs.Prelude.{ℕ, cond, Some, None, Ok, Err, Option, Result, ◌==◌}
use Rattle.sheet.specs.declared.kind.Kind.{Kind}
use Rattle.sheet.specs.declared.kind.Kind.TheVariants.{Address, Boolean, Character, Integer, Real}
use Rattle.columns.specs.declared.letters.LineKind.{LineKind}
use Rattle.columns.specs.declared.letters.LineKind.TheVariants.{Procedure, Cell, Code}
use Rattle.columns.specs.declared.fault.LineFault.{LineFault}
use Rattle.columns.specs.declared.fault.LineFault.TheVariants.{Malformed}
use Rattle.columns.specs.Faults.{then}

-- P, V, C
abbrev pub line_letter : ℕ → Result LineKind LineFault
line_letter c =
    cond (c == 80) (Ok Procedure)
    (cond (c == 86) (Ok Cell)
    (cond (c == 67) (Ok Code) (Err Malformed)))

-- a, b, c, i, r
abbrev pub kind_letter : ℕ → Result Kind LineFault
kind_letter c =
    cond (c == 97) (Ok Address)
    (cond (c == 98) (Ok Boolean)
    (cond (c == 99) (Ok Character)
    (cond (c == 105) (Ok Integer)
    (cond (c == 114) (Ok Real) (Err Malformed)))))

-- and - for none
abbrev pub optional_letter : ℕ → Result (Option Kind) LineFault
optional_letter c = cond (c == 45) (Ok None) (then (kind_letter c) (λ t. Ok (Some t)))
