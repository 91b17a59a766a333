use Rattle.std.proofs.Common.{refl, ◌∙◌, rules, tests}
use Rattle.std.proofs.lemmas.Iterator.{YieldsList-from_range}
use Rattle.std.proofs.lemmas.Iterator.Search.{all_from_yields_List}
use Rattle.board.specs.Description.{most_cpus}
use Rattle.board_record.specs.WellFormed.{entry_at, entries_stand}
use Rattle.board_record.proofs.Ranges.{all_range}
use Rattle.board_record.proofs.standing.are_entries_right.Goals as goal

pub returns : goal.returns
unfolding entries_stand
returns c =
    let a = c.args in
    let test = entry_at a.first a.last a.keepers a.entry.now a.context.now in
    all_from_yields_List test _ _ c.all.result c.all.ensures.ran (YieldsList-from_range 0 most_cpus most_cpus (cc) refl) (λ x b q k. search (rules, tests)) ∙ all_range most_cpus test
