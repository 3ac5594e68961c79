-- The digits are a numeral, with no sign before them. Assumes nothing.
use Rattle.std.proofs.Common.{◌≡◌, ◌++◌, ◌<◌, ◌∙◌, not, ap, rules, length, sym, subst}
use Rattle.std.specs.Char.{is_ascii_digit}
use Rattle.std.specs.Str.Parse.{ParsesUnsigned}
use Rattle.text.specs.Numbers.{digits}
use Rattle.text.proofs.Numbers.{digits_all, value_told}
use Rattle.text.proofs.number.first_number.Goals as goal

pub returns : goal.returns
returns c =
    let text = c.args.text.now in
    let cut : c.cut_before.result.0.now ≡ digits text = (c.cut_before.ensures.first (λ b. not (is_ascii_digit b)) (λ x b g h. search rules)).0 in
    let same : c.in_ok-digits.digits.now ≡ c.cut_before.result.0.now = search rules in
    let front : 0 < length c.cut_before.result.0.now = search rules in
    let some : 0 < length (digits text) = subst (λ ds. 0 < length ds) cut front in
    let parsed : ParsesUnsigned 64 10 (digits text) c.parse.result = subst (λ ds. ParsesUnsigned 64 10 ds c.parse.result) (same ∙ cut) c.parse.ensures.value.0 in
    record {
      some = some;
      whole = ap (λ ds. ds ++ c.cut_before.result.1.now) (sym cut) ∙ c.cut_before.ensures.whole;
      value_is = value_told (digits text) c.parse.result c.unwrap_or.result some (digits_all text) parsed c.unwrap_or.ensures;
    }
