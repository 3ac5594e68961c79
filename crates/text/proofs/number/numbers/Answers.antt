-- One number more, and then nothing. Assumes nothing.
use Rattle.std.proofs.Common.{◌≡◌, ◌<◌, ◌≤◌, ◌∙◌, [], rules, arith, length, length-set, take, subst, sym}
use Rattle.std.proofs.lemmas.List.{take_all, take_more_set, drop_all}
use Rattle.text.specs.Numbers.{Numbers}
use Rattle.text.proofs.Numbers.{numbers_more}
use Rattle.text.proofs.number.numbers.Goals as goal

pub loop-value-preserved : goal.loop-value-preserved
loop-value-preserved g c =
    let line = c.args.line.now in
    let items = c.loop-value.value-items in
    let i = c.loop-value.value-index in
    let n = c.in_ok-value.field-0-0 in
    let rest = c.in_ok-value.field-0-1.now in
    let size : length items ≡ g.row.N = c.loop-value.invariant.0 in
    let low : i < length items = omega (arith, size, c.loop-value-test.true) in
    (length-set items i n ∙ size, subst (λ ns. Numbers line ns rest) (sym (take_more_set items i n low)) (numbers_more line (take i items) c.loop-value.rest.now n rest c.loop-value.invariant.1 c.in_ok-value.ensures))

pub returns-then-is_empty : goal.returns-then-is_empty
returns-then-is_empty g c =
    let items = c.loop-value.value-items in
    let i = c.loop-value.value-index in
    let few : length items ≤ i = omega (arith, c.loop-value.invariant.0, c.loop-value-test.false) in
    let none : c.loop-value.rest.now ≡ [] = drop_all 0 c.loop-value.rest.now (search rules) in
    subst (λ ns. Numbers c.args.line.now ns []) (take_all i items few) (subst (λ l. Numbers c.args.line.now (take i items) l) none c.loop-value.invariant.1)
