use Rattle.std.proofs.Common.{◌≡◌, ◌∙◌, ◌+◌, ap, rules, tests}
use Rattle.std.specs.List.{enumerate_from, position_from}
use Rattle.std.specs.Option.{option_map}
use Rattle.std.proofs.lemmas.Iterator.Adapters.{position_from-zero}
use Rattle.std.proofs.lemmas.Iterator.Consumers.{YieldsList-from_first, YieldsList-from_enumerate}
use Rattle.std.proofs.lemmas.Iterator.Search.{position_from_yields_List}
use Rattle.numerals.specs.Lines.{lines, lines_left}
use Rattle.columns.proofs.ValueScanning.{fails, found_failing}
use Rattle.columns.proofs.value_text.first_fault.Goals as goal

pub returns : goal.returns
returns g c = λ test k.
    let m : c.map.result ≡ option_map (λ i. i + 1) c.position.result = search rules in
    let p : c.position.result ≡ position_from (fails test) 0 (enumerate_from 0 (lines c.args.text.now)) =
    position_from_yields_List (fails test) c.position.new.self _ c.position.result c.position.ensures.ran
    (YieldsList-from_enumerate (YieldsList-from_first (λ x. x.now) lines_left (lines c.args.text.now) cc) cc) (λ x b q h. search (rules, tests, k))
    ∙ position_from-zero (fails test) (enumerate_from 0 (lines c.args.text.now)) in
    m ∙ ap (option_map (λ i. i + 1)) p ∙ found_failing test 0 (lines c.args.text.now)
