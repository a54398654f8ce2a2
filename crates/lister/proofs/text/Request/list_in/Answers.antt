use Rattle.std.proofs.Common.{length, Ok, Err, ap, ◌∙◌}
use Rattle.columns.specs.TableText.{read_table, room_of}
use Rattle.rules.specs.Lookups.{contents_of}
use Rattle.prepare.specs.declared.fault.PrepareFault.TheVariants.{Table}
use Rattle.prepare.specs.Preparing.{ready}
use Rattle.prepare.proofs.Reading.{fronts_are, reads, ready_is}
use Rattle.lister.specs.Listings.{end_line}
use Rattle.lister.proofs.text.Request.list_in.Goals as goal

pub returns-in_ok-body-in-Ok-judge : goal.returns-in_ok-body-in-Ok-judge
returns-in_ok-body-in-Ok-judge c =
    let R = read_table (room_of c.args.procedures.now c.args.cells.now c.args.code.now) c.args.self.text.now in
    let e = c.in-Ok.extent in
    let U = contents_of c.table_in-table.result in
    let q = c.in-Ok.ensures in
    let t = reads c.args.self.text.now c.args.procedures.now c.read_table.new.procedures c.args.cells.now c.read_table.new.cells c.args.code.now c.read_table.new.code e
    q.value q.procedures q.cells q.code in
    let w = c.table_in-table.ensures in
    let same = fronts_are U e c.read_table.new.procedures c.read_table.new.cells c.read_table.new.code w.procedures w.cells w.code ∙ t.holds in
    c.end_line-in-Ok-judge.ensures
    ∙ ap end_line (ready_is R t.table U e t.answer t.extent same (length c.args.rows.now) (length c.args.places.now) (Ok (record { extent = e; reached = c.in-Ok-judge.reached })) (ap (ready e) c.in-Ok-judge.ensures.value))

pub returns-in_ok-body-in-Err-judge : goal.returns-in_ok-body-in-Err-judge
returns-in_ok-body-in-Err-judge c =
    let R = read_table (room_of c.args.procedures.now c.args.cells.now c.args.code.now) c.args.self.text.now in
    let e = c.in-Ok.extent in
    let U = contents_of c.table_in-table.result in
    let q = c.in-Ok.ensures in
    let t = reads c.args.self.text.now c.args.procedures.now c.read_table.new.procedures c.args.cells.now c.read_table.new.cells c.args.code.now c.read_table.new.code e
    q.value q.procedures q.cells q.code in
    let w = c.table_in-table.ensures in
    let same = fronts_are U e c.read_table.new.procedures c.read_table.new.cells c.read_table.new.code w.procedures w.cells w.code ∙ t.holds in
    c.end_line-in-Err-judge.ensures
    ∙ ap end_line (ready_is R t.table U e t.answer t.extent same (length c.args.rows.now) (length c.args.places.now) (Err (Table c.in-Err-judge.fault)) (ap (ready e) c.in-Err-judge.ensures.value))
