use Rattle.std.proofs.Common.{◌≤◌, length, arith}
use Rattle.std.proofs.lemmas.Result.{err_from_is_err_and}
use Rattle.soundness.proofs.Admits.{admitted_runs_stay_typed}
use Rattle.soundness.proofs.Ground.{open_frames_lead_to_place_0}
use Rattle.soundness.proofs.Runs.{equal_totals}
use Rattle.soundness.proofs.SmallTables.{small_tables_come_out}
use Rattle.run.proofs.Promising.{equal_counts}
use Rattle.run.proofs.Undergoing.{by_table, by_store, fits, by_all, by_promise, none_kept}
use Rattle.run.proofs.undergo.undergo.Goals as goal

pub returns-in_err-passed : goal.returns-in_err-passed
returns-in_err-passed g c =
    let r = err_from_is_err_and c.from_residual.result c.from_residual.ensures.1 in
    record {
      value = by_table c.args.table c.args.rows c.args.calls.now (g.S.Store.cells c.args.store.now) (g.H.Host.means c.args.host.now) c.args.answers.now _ _ _ r.1 r.2 c.in_err-passed.ensures.value;
      kept = none_kept c.args.table c.args.rows.now (length (g.S.Store.cells c.args.store.now)) (g.H.Host.means c.args.host.now) c.args.calls.now _ _ _ _ _ r.1;
      law = equal_counts;
      typed = admitted_runs_stay_typed;
      frames = open_frames_lead_to_place_0;
      totals = equal_totals;
      small = small_tables_come_out;
    }

pub returns-then-answers-calls-clause-law : goal.returns-then-answers-calls-clause-law
returns-then-answers-calls-clause-law g c = equal_counts

pub returns-then-answers-calls-clause-typed : goal.returns-then-answers-calls-clause-typed
returns-then-answers-calls-clause-typed g c = admitted_runs_stay_typed

pub returns-then-answers-calls-clause-frames : goal.returns-then-answers-calls-clause-frames
returns-then-answers-calls-clause-frames g c = open_frames_lead_to_place_0

pub returns-then-answers-calls-clause-totals : goal.returns-then-answers-calls-clause-totals
returns-then-answers-calls-clause-totals g c = equal_totals

pub returns-then-answers-calls-clause-small : goal.returns-then-answers-calls-clause-small
returns-then-answers-calls-clause-small g c = small_tables_come_out

pub returns-in_err-run : goal.returns-in_err-run
returns-in_err-run g c =
    let enough : length c.args.calls.now ≤ length c.args.answers.now = omega arith in
    let r = err_from_is_err_and c.from_residual-in_err-run.result c.from_residual-in_err-run.ensures.1 in
    record {
      value = rw (r.1, r.2) (by_store c.args.table c.args.rows c.args.calls.now (g.S.Store.cells c.args.store.now) (g.H.Host.means c.args.host.now) c.args.answers.now c.in_ok-passed.passed _ _ c.in_ok-passed.ensures.value enough c.in_err-run.ensures.value c.in_err-run.ensures.after);
      kept = none_kept c.args.table c.args.rows.now (length (g.S.Store.cells c.args.store.now)) (g.H.Host.means c.args.host.now) c.args.calls.now _ _ _ _ _ r.1;
      law = equal_counts;
      typed = admitted_runs_stay_typed;
      frames = open_frames_lead_to_place_0;
      totals = equal_totals;
      small = small_tables_come_out;
    }

pub make_all-requires : goal.make_all-requires
make_all-requires g c =
    let enough : length c.args.calls.now ≤ length c.args.answers.now = omega arith in
    record {
      fits = fits c.args.table c.args.rows c.args.calls.now (g.S.Store.cells c.args.store.now) (g.H.Host.means c.args.host.now) c.args.answers.now c.in_ok-passed.passed c.in_ok-run.run' _ c.in_ok-passed.ensures.value enough c.in_ok-run.ensures.value c.in_ok-run.ensures.after;
      room = enough;
    }

pub returns : goal.returns
returns g c =
    let enough : length c.args.calls.now ≤ length c.args.answers.now = omega arith in
    let p = c.in_ok-passed.ensures.value in
    let b = c.in_ok-run.ensures in
    let m = c.make_all.ensures in
    record {
      value = by_all c.args.table c.args.rows c.args.calls.now (g.S.Store.cells c.args.store.now) (g.H.Host.means c.args.host.now) c.args.answers.now c.in_ok-passed.passed c.in_ok-run.run' _ p enough b.value b.after _ _ _ _ m.value m.after m.same;
      kept = by_promise c.args.table c.args.rows c.args.calls.now (g.S.Store.cells c.args.store.now) (g.H.Host.means c.args.host.now) c.args.answers.now c.in_ok-passed.passed c.in_ok-run.run' _ p enough b.value b.after _ _ _ _ m.value m.after m.same;
      law = equal_counts;
      typed = admitted_runs_stay_typed;
      frames = open_frames_lead_to_place_0;
      totals = equal_totals;
      small = small_tables_come_out;
    }
