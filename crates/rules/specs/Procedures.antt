-- The rules of tables. Cited by the check of them and by what it means. Assumes nothing.
--   main_ok: procedure 0 has parent 0, first instruction 0, no parameters and no result
--   form_ok: any other has a parent of lower number, and begins after the one before
--   depth_ok: at most 7 parents lead to procedure 0: there is no 8th ancestor
--   sizes_ok: at most 250 data cells, of which at most 35 are parameters
--   start_of, end_of: where the cells of procedure n must begin, after those of the one before it, and where they end
--   cells_ok: the cells of a procedure begin where they must and end inside the list
--   counts_ok: 1 to 4,096 instructions and 1 to 64 procedures
--   table_fault: at 0 for the counts, else at the lowest procedure that breaks a rule
use Rattle.std.specs.Prelude.{ℕ, ◌+◌, ◌-◌, Bool, cond, not, ◌&&◌, length, is_some, Some, Option, ◌==◌, nat_le, nat_lt}
use Rattle.std.specs.Option.{option_map}
use Rattle.sheet.specs.declared.procedure.Procedure.{Procedure}
use Rattle.sheet.specs.Tables.{Contents}
use Rattle.rules.specs.declared.fault.TableFault.{TableFault}
use Rattle.rules.specs.declared.fault.TableFault.TheVariants.{IllFormed}
use Rattle.rules.specs.Faults.{lowest}
use Rattle.rules.specs.Lookups.{procedure_at, ancestor}

abbrev pub main_ok : Procedure → Bool
main_ok P = P.parent == 0 && (P.first == 0 && (P.parameters == 0 && not (is_some P.result)))

abbrev pub form_ok : Contents → ℕ → Procedure → Bool
form_ok T n P = cond (n == 0) (main_ok P) (nat_lt P.parent n && nat_lt (procedure_at T (n - 1)).first P.first)

abbrev pub depth_ok : Contents → ℕ → Bool
depth_ok T n = not (is_some (ancestor T 8 n))

abbrev pub sizes_ok : Procedure → Bool
sizes_ok P = nat_le P.parameters 35 && (nat_le P.parameters P.count && nat_le P.count 250)

abbrev pub end_of : Procedure → ℕ
end_of P = P.offset + P.count

abbrev pub start_of : Contents → ℕ → ℕ
start_of T n = cond (n == 0) 0 (end_of (procedure_at T (n - 1)))

abbrev pub cells_ok : Contents → ℕ → Procedure → Bool
cells_ok T n P = P.offset == start_of T n && nat_le (end_of P) (length T.cells)

abbrev pub procedure_ok : Contents → ℕ → Procedure → Bool
procedure_ok T n P = form_ok T n P && (nat_lt P.first (length T.code) && (depth_ok T n && (sizes_ok P && cells_ok T n P)))

abbrev pub counts_ok : Contents → Bool
counts_ok T = (nat_le 1 (length T.code) && nat_le (length T.code) 4096) && (nat_le 1 (length T.procedures) && nat_le (length T.procedures) 64)

abbrev pub table_fault : Contents → Option TableFault
table_fault T = cond (counts_ok T) (option_map IllFormed (lowest (procedure_ok T) 0 T.procedures)) (Some (IllFormed 0))
