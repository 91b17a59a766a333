use Rattle.std.proofs.Common.{refl, ◌∙◌, rules, tests}
use Rattle.std.proofs.lemmas.Iterator.{YieldsList-from_range}
use Rattle.std.proofs.lemmas.Iterator.Search.{all_from_yields_List}
use Rattle.board.specs.Description.{most_components}
use Rattle.board_record.specs.WellFormed.{image_at, images_stand}
use Rattle.board_record.proofs.Ranges.{all_range}
use Rattle.board_record.proofs.standing.are_images_right.Goals as goal

pub returns : goal.returns
unfolding images_stand
returns c =
    let a = c.args in
    let test = image_at a.b.now a.pending.now a.version.now in
    all_from_yields_List test _ _ c.all.result c.all.ensures.ran (YieldsList-from_range 0 most_components most_components (cc) refl) (λ x b q k. search (rules, tests)) ∙ all_range most_components test
