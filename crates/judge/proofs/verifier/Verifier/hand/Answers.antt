use Rattle.std.proofs.Common.{◌≡◌, length, drop, set, Ok, Result, sym, refl, ap, ◌∙◌, subst, arith, length-set}
use Rattle.std.proofs.lemmas.List.{drop-set-lt}
use Rattle.std.proofs.lemmas.Result.{MatchResult-at_ok}
use Rattle.pile.specs.Piles.{held, depth, places_of}
use Rattle.rules.specs.declared.fault.TableFault.{TableFault}
use Rattle.transfer.specs.Transfer.{stack_of}
use Rattle.judge.specs.Handing.{meanings, handed_to, Follows}
use Rattle.judge.proofs.Handing.{taken}
use Rattle.judge.proofs.Verifying.{few, pushed, still_waits}
use Rattle.judge.proofs.verifier.Verifier.hand.Goals as goal

pub invariant_of-self : goal.invariant_of-self
invariant_of-self c =
    let v = c.args.self.now in
    let new = sym c.if-is_reached.ensures in
    let l : length (set v.rows.now c.args.j c.args.row) ≡ length v.rows.now = length-set _ _ _ in
    let ok = pushed v c.args.j c.args.row c.requires.inside new c.push.result c.push.ensures.value in
    record {
      checked = v.checked;
      wide = l ∙ v.wide;
      roomy = omega (arith, l, c.push.ensures.room, v.roomy);
      ready = still_waits v c.args.j c.args.row c.requires.inside new _ c.requires.row (MatchResult-at_ok _ _ tt ok c.push.ensures.held);
    }

pub returns-clause-kept : goal.returns-clause-kept
returns-clause-kept c =
    let v = c.args.self.now in
    let l : length (set v.rows.now c.args.j c.args.row) ≡ length v.rows.now = length-set _ _ _ in
    let ok = pushed v c.args.j c.args.row c.requires.inside (sym c.if-is_reached.ensures) c.push.result c.push.ensures.value in
    record {
      table = refl;
      rows = refl;
      work = refl;
      places = c.push.ensures.name;
      rest = ap (λ n. drop n (places_of c.push.new.self)) l ∙ ap (drop (length v.rows.now)) (MatchResult-at_ok _ _ tt ok c.push.ensures.places)
          ∙ drop-set-lt (length v.rows.now) (places_of v.work.now) (depth v.work.now) c.args.j (few v c.args.j c.args.row c.requires.inside (sym c.if-is_reached.ensures));
    }

pub returns-clause-after : goal.returns-clause-after
returns-clause-after c =
    let v = c.args.self.now in
    let new = sym c.if-is_reached.ensures in
    let ok = pushed v c.args.j c.args.row c.requires.inside new c.push.result c.push.ensures.value in
    let m : c.map_err.result ≡ Ok tt = MatchResult-at_ok (λ x. c.map_err.result ≡ Ok x) _ tt ok c.map_err.ensures.cases in
    subst (λ (r : Result (Unit {0}) TableFault). Follows r (handed_to (meanings v.rows.now) (held v.work.now) c.args.j (stack_of c.args.row)) (meanings (set v.rows.now c.args.j c.args.row)) (held c.push.new.self))
    (sym m)
    (taken v.rows.now (held v.work.now) c.args.j c.args.row c.requires.inside _ new c.requires.row (MatchResult-at_ok _ _ tt ok c.push.ensures.held))
