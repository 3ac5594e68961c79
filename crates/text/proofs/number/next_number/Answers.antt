-- Spaces come first, and the number keeps its value. Assumes nothing.
use Rattle.std.proofs.Common.{◌≡◌, ◌==◌, ◌++◌, ◌∙◌, ap, not, rules, length, subst, sym}
use Rattle.std.specs.List.{before_first}
use Rattle.text.specs.Numbers.{Number}
use Rattle.text.proofs.Numbers.{blanks}
use Rattle.text.proofs.number.next_number.Goals as goal

pub returns : goal.returns
returns c =
    let line = c.args.line.now in
    let word = c.cut_before.result.1.now in
    let rest = c.in_ok-number.rest.now in
    let cut : c.cut_before.result.0.now ≡ before_first (λ b. not (b == 32)) line = (c.cut_before.ensures.first (λ b. not (b == 32)) (λ x b g h. search rules)).0 in
    let same : c.in_ok-number-2.number ≡ c.in_ok-number.number = search rules in
    record {
      spaces = length (before_first (λ b. not (b == 32)) line);
      word = word;
      begins = ap (λ front. front ++ word) (blanks line ∙ sym cut) ∙ c.cut_before.ensures.whole;
      number = subst (λ n. Number word n rest) (sym same) c.in_ok-number.ensures;
    }
