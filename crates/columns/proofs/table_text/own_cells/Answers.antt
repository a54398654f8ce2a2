use Rattle.std.proofs.Common.{◌∙◌, rules, tests}
use Rattle.std.proofs.lemmas.Iterator.Consumers.{count_from_yields_List, YieldsList-from_first}
use Rattle.std.proofs.lemmas.Iterator.Search.{YieldsList-from_take_while}
use Rattle.numerals.specs.Lines.{lines, lines_left}
use Rattle.columns.proofs.Laying.{says_cell, cells_before}
use Rattle.columns.proofs.table_text.own_cells.Goals as goal

pub returns : goal.returns
returns c =
    count_from_yields_List c.take_while.result c.count.result c.count.ensures.ran
    (YieldsList-from_take_while _ says_cell (YieldsList-from_first (λ x. x.now) lines_left (lines c.args.text.now) cc) c.take_while.ensures.closure c.take_while.ensures.done (λ x b q k. search (rules, tests)))
    ∙ cells_before c.args.text.now
