use Rattle.std.proofs.Common.{◌≡◌, ◌-◌}
use Rattle.rules.specs.Lookups.{contents_of, ancestor}
use Rattle.rules.proofs.lookup.ancestor.Given as goal

abbrev pub invariant-loop : goal.invariant-loop
invariant-loop l = ancestor (contents_of l.table) (l.j - l.counter) l.a ≡ ancestor (contents_of l.table) l.j l.n
