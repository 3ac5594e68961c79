-- The next figure comes after those that were put. Assumes nothing.
use Rattle.std.proofs.Common.{add-one, arith, rules, ◌<◌, get_or-take}
use Rattle.slotrun.specs.Text.{nexts}
use Rattle.console.specs.Put.{put_none, put_both}
use Rattle.slotrun.proofs.lines.put_figures.Goals as goal

pub loop-figure-init : goal.loop-figure-init
unfolding nexts
loop-figure-init g c = (put_none c.args.page.now, omega arith)

pub loop-figure-preserved : goal.loop-figure-preserved
unfolding nexts
loop-figure-preserved g c =
    let i = c.loop-figure.invariant in
    let below : c.loop-figure.figure-index < c.args.count = search rules in
    (rw (add-one, ← get_or-take c.args.count c.args.figures.now c.loop-figure.figure-index _ below) (put_both _ _ _ i.0 c.put_next.ensures.put), omega (arith, i.1, c.put_next.ensures.few))
