-- A procedure's parameters as a row, and what comes of its entry.
use Rattle.std.proofs.Common.{◌≡◌, ℕ, ◌<◌, ◌≤◌, true, List, [], ◌∷◌, ◌++◌, map, reverse, length, get_or, take, drop, Some, None, sym, refl, ap, ◌∙◌, arith}
use mathlib.Core.List.{map-append, reverse-append}
use Rattle.std.proofs.lemmas.List.{length-map, length-reverse, length-take}
use Rattle.std.proofs.lemmas.Option.{slice_get-get_or}
use Rattle.sheet.specs.declared.kind.Kind.{Kind}
use Rattle.sheet.specs.declared.procedure.Procedure.{Procedure}
use Rattle.sheet.specs.Tables.{Contents}
use Rattle.rules.specs.Lookups.{no_procedure}
use Rattle.rules.specs.Operands.{first_fault}
use Rattle.rules.specs.ProcedureLaws.{ProcedureRule}
use Rattle.paths.specs.Judging.{Progress, going, refused, hand, settle, enter}
use Rattle.paths.specs.Loops.{Ready, EntryLoop}
use Rattle.paths.specs.Rows.{Rows}
use Rattle.paths.proofs.Entering.{entry_loop}
use Rattle.rows.specs.declared.entry.Entry.TheVariants.{Value}
use Rattle.rows.specs.declared.row.Row.{Row}
use Rattle.rows.specs.Rows.{is_row, packed}
use Rattle.transfer.specs.Stacks.{Stack}
use Rattle.transfer.specs.Transfer.{stack_of}
use Rattle.transfer.proofs.Checking.{table_rule}
use Rattle.transfer.proofs.Fitting.{values_proper, packed_is, packs}
use Rattle.judge.specs.declared.flaw.Flaw.{Flaw}
use Rattle.judge.specs.Flow.{entry_of, stacks}
use Rattle.judge.specs.Handing.{handed_to, on_with, entered}
use Rattle.judge.proofs.Following.{turns}
use Rattle.judge.proofs.Readying.{hand_is, still_ready}

-- nothing waits
pub none_waits : (rows : Rows Stack) → Ready rows []
none_waits rows = record { distinct = tt; rowed = λ k m. absurd m }

values_turned : (ts : List Kind) → reverse (map Value ts) ≡ map Value (reverse ts)
values_turned [] = refl
values_turned (t ∷ ts) = reverse-append (Value t ∷ []) (map Value ts) ∙ ap (λ s. s ++ Value t ∷ []) (values_turned ts) ∙ sym (map-append Value (reverse ts) (t ∷ [])) ∙ sym (ap (map Value) (reverse-append (t ∷ []) ts))

module _ (T : Contents) (P : Procedure) where
  abbrev own : List Kind
  own = take P.parameters (drop P.offset T.cells)

  pub entry_is : (row : Row) → packed (map Value own) ≡ Some row → (is_row row ≡ true) × (stack_of row ≡ (entry_of T P).1)
  entry_is row e = let q = packed_is (map Value own) row e in (q.0, q.1 ∙ values_turned own)

  pub entry_there : P.parameters ≤ 35 → packed (map Value own) ≡ None → ⊥
  entry_there few e =
      packs (map Value own) (map Value (reverse own)) (values_turned own)
      (omega (arith, few, length-map (reverse own) Value, length-reverse own, length-take P.parameters (drop P.offset T.cells))) (values_proper (reverse own)) e

  -- what the entry comes to is what its hand comes to, and then all that waits
  pub entered_on : (rows rows' : Rows Stack) (work' : List ℕ) (s : Stack) → s ≡ (entry_of T P).1 → handed_to rows [] P.first s ≡ going rows' work'
      → entered T P rows ≡ settle (stacks T) rows' work'
  entered_on rows rows' work' s e h =
      ap (λ p. on_with p (λ r w. settle (stacks T) r w)) (ap (handed_to rows [] P.first) (sym e) ∙ h)

  pub entered_out : (rows : Rows Stack) (f : Flaw) (n : ℕ) (s : Stack) → s ≡ (entry_of T P).1 → handed_to rows [] P.first s ≡ refused f n
      → entered T P rows ≡ refused f n
  entered_out rows f n s e h =
      ap (λ p. on_with p (λ r w. settle (stacks T) r w)) (ap (handed_to rows [] P.first) (sym e) ∙ h)

-- ---- procedure by procedure
module _ (T : Contents) (checked : first_fault T ≡ None) where
  entries : EntryLoop (stacks T)
  entries = entry_loop (stacks T)

  module _ (P : Procedure) (Ps : List Procedure) (rows : Rows Stack) (wide : length rows ≡ length T.code) (inside : P.first < length rows) where
    abbrev handed : Progress Stack Flaw
    handed = handed_to rows [] (entry_of T P).0 (entry_of T P).1

    abbrev whole : Progress Stack Flaw
    whole = enter (stacks T) (map (entry_of T) (P ∷ Ps)) rows

    abbrev rest : Progress Stack Flaw → Progress Stack Flaw
    rest p = on_with p (λ r w. settle (stacks T) r w)

    same_hand : hand (stacks T) rows [] (entry_of T P).0 (entry_of T P).1 ≡ handed
    same_hand = hand_is T rows [] (entry_of T P).0 (entry_of T P).1

    pub next_procedure : (rows' : Rows Stack) (work' : List ℕ) → entered T P rows ≡ going rows' work'
        → (whole ≡ enter (stacks T) (map (entry_of T) Ps) rows') × (work' ≡ [])
    next_procedure rows' work' e = by handed refl e
      where
        by : (p : Progress Stack Flaw) → handed ≡ p → rest p ≡ going rows' work' → (whole ≡ enter (stacks T) (map (entry_of T) Ps) rows') × (work' ≡ [])
        by (going r w) h f =
            let y = still_ready rows r [] w (entry_of T P).0 (entry_of T P).1 inside (none_waits rows) h in (
              entries.turn_on (entry_of T P) (map (entry_of T) Ps) rows r w rows' work' (same_hand ∙ h) f,
              (turns T checked).empties r w rows' work' (y.1 ∙ wide) f,
            )
        by (refused g n) h f = let z : ◌≡◌ {A = ℕ} 0 1 = cc in absurd (omega arith)

    pub out_of_procedure : (f : Flaw) (n : ℕ) → entered T P rows ≡ refused f n → whole ≡ refused f n
    out_of_procedure f n e = by handed refl e
      where
        by : (p : Progress Stack Flaw) → handed ≡ p → rest p ≡ refused f n → whole ≡ refused f n
        by (going r w) h g = entries.path_out (entry_of T P) (map (entry_of T) Ps) rows r w f n (same_hand ∙ h) g
        by (refused g m) h k = entries.entry_out (entry_of T P) (map (entry_of T) Ps) rows f n (same_hand ∙ h ∙ k)

  pub no_procedures : (rows : Rows Stack) (work : List ℕ) → work ≡ [] → enter (stacks T) [] rows ≡ going rows work
  no_procedures rows work e = entries.ended rows ∙ ap (going rows) (sym e)

  pub procedure_keeps : (i : ℕ) → i < length T.procedures → ProcedureRule T i (get_or T.procedures i no_procedure)
  procedure_keeps i l = (table_rule T checked).each i (get_or T.procedures i no_procedure) (slice_get-get_or T.procedures i no_procedure l)
