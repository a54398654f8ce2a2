use Rattle.std.proofs.Common.{◌≡◌, ℕ, [], List, length, drop, sym, refl, ap, ◌∙◌, subst, arith}
use Rattle.std.proofs.lemmas.Result.{err_from_is_err_and}
use Rattle.pile.specs.Piles.{held}
use Rattle.pile.proofs.Stacks.{none_left}
use Rattle.rules.specs.Lookups.{contents_of}
use Rattle.paths.specs.Judging.{going, settle, weight}
use Rattle.paths.specs.Loops.{Ready}
use Rattle.judge.specs.Flow.{stacks}
use Rattle.judge.specs.Handing.{meanings}
use Rattle.judge.proofs.Following.{waiting_there, rest_ready, turned, turned_out, nothing_waits}
use Rattle.judge.proofs.Verifying.{kept_on}
use Rattle.judge.proofs.verifier.Verifier.settle.Goals as goal

pub invariant_of-self : goal.invariant_of-self
invariant_of-self c =
    let v = c.loop-i.self in
    record {
      checked = v.checked;
      wide = v.wide;
      roomy = omega (arith, c.pop.ensures.room, v.roomy);
      ready = rest_ready (meanings v.rows.now) _ _ _ c.pop.ensures.items v.ready;
    }

pub judge_one-requires : goal.judge_one-requires
judge_one-requires c =
    let v = c.loop-i.self in
    waiting_there v.rows.now c.in-Some.i (held c.pop.new.self) (subst (λ (w : List ℕ). ∥ Ready (meanings v.rows.now) w ∥₁) c.in-Some.ensures.items v.ready)

pub loop-i-smaller : goal.loop-i-smaller
loop-i-smaller c =
    let v = c.loop-i.self in
    let t = turned (contents_of v.table) v.checked v.rows.now c.judge_one.new.self.rows.now _ _ _ v.wide c.in_ok-judge_one.ensures.after in
    let e : weight (stacks (contents_of c.judge_one.new.self.table)) (meanings c.judge_one.new.self.rows.now) ≡ weight (stacks (contents_of v.table)) (meanings c.judge_one.new.self.rows.now)
    = ap (λ t. weight (stacks (contents_of t)) (meanings c.judge_one.new.self.rows.now)) c.in_ok-judge_one.ensures.kept.table in
    omega (arith, e, t.less, ap length c.in-Some.ensures.items)

pub loop-i-preserved : goal.loop-i-preserved
loop-i-preserved c =
    let v = c.loop-i.self in
    let p = c.in-Some.ensures in
    let q = c.in_ok-judge_one.ensures in
    let t = turned (contents_of v.table) v.checked v.rows.now c.judge_one.new.self.rows.now _ _ _ v.wide q.after in
    record {
      same = ap (λ t. settle (stacks (contents_of t)) (meanings c.judge_one.new.self.rows.now) (held c.judge_one.new.self.work.now)) q.kept.table
          ∙ sym t.same ∙ sym (ap (settle (stacks (contents_of v.table)) (meanings v.rows.now)) p.items) ∙ c.loop-i.invariant.same;
      kept = kept_on q.kept (kept_on (record { table = refl; rows = refl; work = refl; places = p.name; rest = ap (drop (length v.rows.now)) p.places }) c.loop-i.invariant.kept);
    }

-- what the turn refuses, the whole does
pub returns-in_err-judge_one-clause-after : goal.returns-in_err-judge_one-clause-after
returns-in_err-judge_one-clause-after c =
    let v = c.loop-i.self in
    let p = c.in-Some.ensures in
    let q = c.in_err-judge_one.ensures in
    let r = err_from_is_err_and c.from_residual.result c.from_residual.ensures.1 in
    let out = turned_out (contents_of v.table) v.checked v.rows.now c.in-Some.i (held c.pop.new.self) q.after.0 q.after.1 v.wide q.after.2 in
    rw (r.1, r.2) (q.after.0, q.after.1, sym c.loop-i.invariant.same ∙ ap (settle (stacks (contents_of v.table)) (meanings v.rows.now)) p.items ∙ out, q.after.3)

pub returns-clause-after : goal.returns-clause-after
returns-clause-after c =
    let v = c.loop-i.self in
    let p = c.in_default.ensures in
    let none : held v.work.now ≡ [] = none_left (held v.work.now) (sym p.value) in
    sym c.loop-i.invariant.same ∙ nothing_waits (contents_of v.table) v.checked v.rows.now (held v.work.now) none ∙ ap (going (meanings v.rows.now)) p.items
