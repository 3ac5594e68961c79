-- Before value i is tried the table's first fault is that of the values from i on. Assumes nothing.
use Rattle.std.proofs.Common.{◌≡◌, ◌+◌, ◌*◌, sym, ◌∙◌, arith}
use Rattle.words.specs.Words.{words}
use Rattle.sheet.proofs.Values.{values-none, values-next, values_faulty}
use Rattle.sheet.proofs.sessions.check_values.Goals as goal

pub returns-then-v-gt-LARGEST_VALUE : goal.returns-then-v-gt-LARGEST_VALUE
returns-then-v-gt-LARGEST_VALUE c =
    rw c.at.ensures
    (sym (c.loop-i.invariant ∙ values_faulty (words c.args.table.now.0.now) _ _ c.loop-i.i (omega (arith, c.len-i-end.ensures)) c.entry-v.result c.entry-v.ensures.value c.then-v-gt-LARGEST_VALUE.either))

pub loop-i-preserved : goal.loop-i-preserved
loop-i-preserved c =
    let t = words c.args.table.now.0.now in
    let e : c.args.place + 2 * c.loop-i.i + 2 ≡ c.args.place + 2 * (c.loop-i.i + 1) = omega arith in
    let next =
    values-next t c.loop-i.before (c.args.place + 2 * c.loop-i.i) c.loop-i.i (omega (arith, c.len-i-end.ensures)) (omega (arith, c.entry-v.ensures.value)) (omega (arith, c.entry-v.ensures.value))
    in
    c.loop-i.invariant ∙ next ∙ rw (c.entry-v.ensures.value, e)

pub returns : goal.returns
returns c =
    sym (c.loop-i.invariant ∙ values-none (words c.args.table.now.0.now) c.loop-i.before (c.args.place + 2 * c.loop-i.i) c.loop-i.i (omega (arith, c.len-i-end.ensures)))
