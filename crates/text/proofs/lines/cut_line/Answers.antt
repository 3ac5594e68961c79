-- The byte that is passed over is the line's end. Assumes nothing.
use Rattle.std.proofs.Common.{◌==◌, rules, arith, sym, ◌∙◌}
use Rattle.std.proofs.lemmas.List.{drop_all, take_rest}
use Rattle.text.proofs.Cuts.{after_cut}
use Rattle.text.proofs.lines.cut_line.Goals as goal

pub returns-in-empty : goal.returns-in-empty
returns-in-empty c =
    let cut = c.cut_before.ensures.first (λ b. b == 10) (λ x b g h. search rules) in
    let rest = c.cut_before.result.1.now in
    (cut.0, drop_all 0 rest (omega arith) ∙ sym (drop_all 1 rest (omega arith)) ∙ after_cut (λ b. b == 10) c.args.text.now rest cut.1)

pub returns-in-len1-up : goal.returns-in-len1-up
returns-in-len1-up c =
    let cut = c.cut_before.ensures.first (λ b. b == 10) (λ x b g h. search rules) in
    let rest = c.cut_before.result.1.now in
    (cut.0, take_rest rest 1 ∙ after_cut (λ b. b == 10) c.args.text.now rest cut.1)
