use Rattle.std.proofs.Common.{◌≡◌, eqb, ◌∙◌, arith, rules, tests}
use Rattle.std.specs.List.{prefix_len}
use Rattle.std.proofs.lemmas.Bool.Decides.{nat_tests}
use Rattle.std.proofs.lemmas.Iterator.{YieldsList-from_slice}
use Rattle.std.proofs.lemmas.Iterator.Consumers.{count_from_yields_List}
use Rattle.std.proofs.lemmas.Iterator.Search.{YieldsList-from_take_while}
use Rattle.std.proofs.lemmas.List.{take_rest}
use Rattle.std.proofs.lemmas.List.Folds.{length-prefix_len}
use Rattle.numerals.proofs.Laws.{read_numbers_write_back}
use Rattle.numerals.proofs.Reading.{without_blanks}
use Rattle.numerals.proofs.read.read_number.Goals as goal

pub returns-then-columns-gt-WIDEST-clause-written : goal.returns-then-columns-gt-WIDEST-clause-written
returns-then-columns-gt-WIDEST-clause-written c = read_numbers_write_back

pub returns-clause-value : goal.returns-clause-value
returns-clause-value c =
    let n : c.count-blanks.result ≡ prefix_len (λ b. eqb b 32) c.args.columns.now =
    count_from_yields_List c.take_while.result c.count-blanks.result c.count-blanks.ensures.ran
    (YieldsList-from_take_while _ (λ b. eqb b 32) (YieldsList-from_slice c.args.columns.now cc) c.take_while.ensures.closure c.take_while.ensures.done (λ x b q k. search (rules, tests)))
    ∙ length-prefix_len (λ b. eqb b 32) c.args.columns.now in
    let b = without_blanks c.args.columns.now in
    grind (arith, nat_tests, take_rest)

pub returns-clause-written : goal.returns-clause-written
returns-clause-written c = read_numbers_write_back
