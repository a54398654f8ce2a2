-- Small tables, judged, admitted and run by the definitions. Cited by the one proof over the list of them and by the call that
-- undergoes a list of calls. Assumes nothing.
--   main, square: the procedure of each table, and the one that table C calls
--   table_a, table_b, table_c: the tables; A and C by the room that their first ent leaves
--   Finding: what comes of a table: a refusal with its number and place, or the rows of judge, which admit accepts, and what
--     100 steps answer, write and leave in the registers
--   find: that, by the definitions, over a store of so many cells and with these values waiting
--   cases: each table with what should come of it
--   SmallTablesComeOut: it does
use Rattle.std.specs.Prelude.{◌≡◌, ℕ, ◌+◌, ◌-◌, List, [], ◌∷◌, map, length, ℤ, pos, Some, None, Ok, Err, Option, Result}
use Rattle.sheet.specs.declared.instruction.Instruction.{Instruction}
use Rattle.sheet.specs.declared.kind.Kind.{Kind}
use Rattle.sheet.specs.declared.kind.Kind.TheVariants as k
use Rattle.sheet.specs.declared.mnemonic.Mnemonic.{Mnemonic}
use Rattle.sheet.specs.declared.mnemonic.Mnemonic.TheVariants.{Mul, Ldc, Ldo, Sro, Lod, Str, Dpl, Fjp, In, Out, Mst, Cup, Ent, Retf, Hlt}
use Rattle.sheet.specs.declared.procedure.Procedure.{Procedure}
use Rattle.sheet.specs.declared.value.Value.{Value}
use Rattle.sheet.specs.declared.value.Value.TheVariants as v
use Rattle.sheet.specs.Tables.{Contents}
use Rattle.rules.specs.declared.fault.TableFault.{TableFault}
use Rattle.rules.specs.Faults.{fault_number, fault_place}
use Rattle.paths.specs.Rows.{Rows}
use Rattle.rows.specs.declared.entry.Entry.{Entry}
use Rattle.rows.specs.declared.entry.Entry.TheVariants as entry
use Rattle.transfer.specs.Stacks.{Stack}
use Rattle.judge.specs.Admission.{admitted}
use Rattle.judge.specs.Judgement.{judged}
use Rattle.host.specs.Hosts.{Meaning}
use Rattle.machine.specs.Endings.{ending_of}
use Rattle.machine.specs.Runs.{begun, Went, go}

-- without letters, with operands p and q; and with a letter
abbrev bare : Mnemonic → (p q : ℕ) → Instruction
bare m p q = record { mnemonic = m; t = None; t2 = None; p = pos p; q = pos q }

abbrev typed : Mnemonic → Kind → (p q : ℕ) → Instruction
typed m t p q = record { mnemonic = m; t = Some t; t2 = None; p = pos p; q = pos q }

abbrev main : (count : ℕ) → Procedure
main d = record { parent = 0; first = 0; parameters = 0; result = None; offset = 0; count = d }

abbrev square : Procedure
square = record { parent = 0; first = 6; parameters = 1; result = Some k.Integer; offset = 0; count = 1 }

abbrev pub table_a : (room : ℕ) → Contents
table_a p = record {
  procedures = main 1 ∷ [];
  cells = k.Integer ∷ [];
  code = bare Ent p 6 ∷ typed In k.Integer 0 0 ∷ typed Sro k.Integer 0 5 ∷ typed Ldo k.Integer 0 5 ∷ typed Ldc k.Integer 0 30 ∷ typed Mul k.Integer 0 0
      ∷ typed Out k.Integer 0 0 ∷ bare Hlt 0 0 ∷ [];
}

abbrev pub table_b : Contents
table_b = record {
  procedures = main 0 ∷ [];
  cells = [];
  code = bare Ent 2 5 ∷ typed In k.Boolean 0 0 ∷ bare Fjp 0 4 ∷ typed Ldc k.Integer 0 1 ∷ bare Hlt 0 0 ∷ [];
}

abbrev pub table_c : (room : ℕ) → Contents
table_c p = record {
  procedures = main 0 ∷ square ∷ [];
  cells = k.Integer ∷ [];
  code = bare Ent p 5 ∷ bare Mst 0 0 ∷ typed Ldc k.Integer 0 7 ∷ bare Cup 1 6 ∷ typed Out k.Integer 0 0 ∷ bare Hlt 0 0
      ∷ bare Ent 2 6 ∷ typed Lod k.Integer 0 5 ∷ typed Dpl k.Integer 0 0 ∷ typed Mul k.Integer 0 0 ∷ typed Str k.Integer 0 0 ∷ bare Retf 0 0 ∷ [];
}

pub record Registers : Type 0 where
  pub pc : ℤ
  pub sp : ℕ
  pub mp : ℕ
  pub ep : ℕ
  pub np : ℕ

pub data Finding : Type 0 where
  refused : (number place : ℕ) → Finding
  ran : Rows Stack → (count number : ℕ) → (written : List Value) → Registers → Finding

abbrev refusal : TableFault → Finding
refusal f = refused (fault_number f) (fault_place f)

abbrev ended : Rows Stack → Went → Finding
ended rows w = ran rows w.count (ending_of w.ending) w.state.host.written (record {
  pc = w.state.regs.pc.0;
  sp = w.state.regs.height - 1;
  mp = w.state.regs.mp;
  ep = w.state.regs.ep;
  np = w.state.regs.last + 1;
})

abbrev waits : List Value → Meaning
waits vs = record { waiting = vs; written = []; room = 10 }

abbrev run : Contents → (cells : ℕ) → List Value → Rows Stack → Option TableFault → Finding
run T len vs rows (Some f) = refusal f
run T len vs rows None = ended rows (go T 100 (begun len (waits vs)))

abbrev admit_and_run : Contents → (cells : ℕ) → List Value → Result (Rows Stack) TableFault → Finding
admit_and_run T len vs (Err f) = refusal f
admit_and_run T len vs (Ok rows) = run T len vs rows (admitted T (length T.code) rows)

abbrev pub find : Contents → (cells : ℕ) → List Value → Finding
find T len vs = admit_and_run T len vs (judged T (length T.code) (length T.code))

abbrev i : ℕ → Value
i n = v.Integer (pos n)

-- the rows of judge, each with its top first
abbrev rows_of : List Stack → Rows Stack
rows_of ss = map (λ s. Some s) ss

abbrev integer : Entry
integer = entry.Value k.Integer

abbrev mark : Entry
mark = entry.Mark 0

abbrev pub rows_a : Rows Stack
rows_a = rows_of ([] ∷ [] ∷ (integer ∷ []) ∷ [] ∷ (integer ∷ []) ∷ (integer ∷ integer ∷ []) ∷ (integer ∷ []) ∷ [] ∷ [])

abbrev pub rows_c : Rows Stack
rows_c = rows_of ([] ∷ [] ∷ (mark ∷ []) ∷ (integer ∷ mark ∷ []) ∷ (integer ∷ []) ∷ []
    ∷ (integer ∷ []) ∷ [] ∷ (integer ∷ []) ∷ (integer ∷ integer ∷ []) ∷ (integer ∷ []) ∷ [] ∷ [])

abbrev at : (pc sp mp ep np : ℕ) → Registers
at c s m e n = record { pc = pos c; sp = s; mp = m; ep = e; np = n }

pub record Case : Type 0 where
  pub found : Finding
  pub expected : Finding

abbrev pub cases : List Case
cases =
    record { found = find (table_a 3) 16 (i 12 ∷ []); expected = ran rows_a 7 1 (i 360 ∷ []) (at 7 5 0 8 16) }
    ∷ record { found = find (table_a 3) 16 []; expected = ran rows_a 1 31 [] (at 1 5 0 8 16) }
    ∷ record { found = find (table_a 10) 16 (i 12 ∷ []); expected = ran rows_a 7 1 (i 360 ∷ []) (at 7 5 0 15 16) }
    ∷ record { found = find (table_a 11) 16 (i 12 ∷ []); expected = ran rows_a 0 44 [] (at 0 4 0 4 16) }
    ∷ record { found = find (table_a 3) 16 (i 71582788 ∷ []); expected = ran rows_a 7 1 (i 2147483640 ∷ []) (at 7 5 0 8 16) }
    ∷ record { found = find (table_a 3) 16 (i 71582789 ∷ []); expected = ran rows_a 5 41 [] (at 5 7 0 8 16) }
    ∷ record { found = find table_b 16 []; expected = refused 24 4 }
    ∷ record { found = find (table_c 6) 13 []; expected = ran rows_c 11 1 (i 49 ∷ []) (at 5 4 0 10 13) }
    ∷ record { found = find (table_c 6) 12 []; expected = ran rows_c 4 44 [] (at 6 10 5 10 12) }
    ∷ record { found = find (table_c 5) 13 []; expected = refused 23 2 }
    ∷ []

abbrev pub SmallTablesComeOut : Type 0
SmallTablesComeOut = map (λ c. c.found) cases ≡ map (λ c. c.expected) cases
