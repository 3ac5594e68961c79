-- The place that was found is that of the first byte that passes. Assumes nothing.
use Rattle.std.proofs.Common.{◌≡◌, ◌∙◌, List, ℕ, drop}
use Rattle.std.proofs.lemmas.Iterator.Search.{position_from_yields_List}
use Rattle.std.proofs.lemmas.Iterator.{YieldsList-from_slice}
use Rattle.std.specs.List.{before_first, position_or_len}
use Rattle.text.proofs.Cuts.{cut_at_first}
use Rattle.text.proofs.lines.cut_before.Goals as goal

pub returns-clause-first : goal.returns-clause-first
returns-clause-first g c = λ p h.
    let text : List ℕ = c.args.text.now in
    let found = position_from_yields_List p _ c.args.test c.position.result c.position.ensures.ran (YieldsList-from_slice text c.iter.ensures.rest) h in
    let cut = cut_at_first p text c.position.result c.unwrap_or-end.result found c.unwrap_or-end.ensures in
    let front : c.split_at.result.0.now ≡ before_first p text = c.split_at.ensures.front ∙ cut.0 in
    let back : c.split_at.result.1.now ≡ drop (position_or_len p text) text = c.split_at.ensures.back ∙ cut.1 in
    (front, back)
