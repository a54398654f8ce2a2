use Rattle.std.proofs.Common.{◌≡◌, ◌-◌, ◌++◌, map, take, drop, replicate}
use Rattle.rows.specs.Entries.{byte_of, proper}
use Rattle.rows.specs.Rows.{every}
use Rattle.rows.proofs.row.Row.pack.Given as goal

-- the entries below i are proper and written
abbrev pub invariant-loop-i : goal.invariant-loop-i
invariant-loop-i l =
    (l.bytes ≡ map byte_of (take l.i l.entries) ++ replicate (40 - l.i) 0) × (every proper (drop l.i l.entries) ≡ every proper l.entries)
