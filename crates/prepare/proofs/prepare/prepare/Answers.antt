use Rattle.std.proofs.Common.{length, Ok, Err, ap, ◌∙◌}
use Rattle.std.proofs.lemmas.Result.{err_from_is_err_and}
use Rattle.columns.specs.TableText.{read_table, room_of}
use Rattle.rules.specs.Lookups.{contents_of}
use Rattle.judge.specs.Handing.{meanings}
use Rattle.prepare.specs.Preparing.{ready}
use Rattle.prepare.proofs.Reading.{fronts_are, reads, ready_is, rows_are, places_are, records_are}
use Rattle.prepare.proofs.prepare.prepare.Goals as goal

pub returns-in_err-reached : goal.returns-in_err-reached
returns-in_err-reached c =
    let R = read_table (room_of c.args.procedures.now c.args.cells.now c.args.code.now) c.args.text.now in
    let e = c.in_ok-extent.extent in
    let U = contents_of c.table_in-table.result in
    let q = c.in_ok-extent.ensures in
    let t = reads c.args.text.now c.args.procedures.now c.read_table.new.procedures c.args.cells.now c.read_table.new.cells c.args.code.now c.read_table.new.code e
    q.value q.procedures q.cells q.code in
    let f = c.table_in-table.ensures in
    let same = fronts_are U e c.read_table.new.procedures c.read_table.new.cells c.read_table.new.code f.procedures f.cells f.code ∙ t.holds in
    let j = c.in_err-reached.ensures in
    let r = err_from_is_err_and c.from_residual-in_err-reached.result c.from_residual-in_err-reached.ensures.1 in
    record {
      value = ready_is R t.table U e t.answer t.extent same (length c.args.rows.now) (length c.args.places.now) c.from_residual-in_err-reached.result (r.1 ∙ ap Err r.2 ∙ ap (ready e) j.value);
      procedures = q.procedures;
      cells = q.cells;
      code = q.code;
      rows = rows_are R t.table U e t.answer t.extent same (length c.args.places.now) (meanings c.args.rows.now) (meanings c.judge.new.rows) j.rows;
      records = records_are R t.table U e t.answer t.extent same (length c.args.places.now) c.args.rows.now c.judge.new.rows j.records;
      places = places_are R t.table U e t.answer t.extent same (length c.args.rows.now) c.args.places.now c.judge.new.places j.places;
    }

pub returns : goal.returns
returns c =
    let R = read_table (room_of c.args.procedures.now c.args.cells.now c.args.code.now) c.args.text.now in
    let e = c.in_ok-extent.extent in
    let U = contents_of c.table_in-table.result in
    let q = c.in_ok-extent.ensures in
    let t = reads c.args.text.now c.args.procedures.now c.read_table.new.procedures c.args.cells.now c.read_table.new.cells c.args.code.now c.read_table.new.code e
    q.value q.procedures q.cells q.code in
    let f = c.table_in-table.ensures in
    let same = fronts_are U e c.read_table.new.procedures c.read_table.new.cells c.read_table.new.code f.procedures f.cells f.code ∙ t.holds in
    let j = c.in_ok-reached.ensures in
    record {
      value = ready_is R t.table U e t.answer t.extent same (length c.args.rows.now) (length c.args.places.now) (Ok (record { extent = e; reached = c.in_ok-reached.reached })) (ap (ready e) j.value);
      procedures = q.procedures;
      cells = q.cells;
      code = q.code;
      rows = rows_are R t.table U e t.answer t.extent same (length c.args.places.now) (meanings c.args.rows.now) (meanings c.judge.new.rows) j.rows;
      records = records_are R t.table U e t.answer t.extent same (length c.args.places.now) c.args.rows.now c.judge.new.rows j.records;
      places = places_are R t.table U e t.answer t.extent same (length c.args.rows.now) c.args.places.now c.judge.new.places j.places;
    }
