-- The choice among the sessions so far. Assumes nothing.
use Rattle.std.proofs.Common.{◌≡◌, sym, ap, ◌∙◌, arith}
use Rattle.send.specs.Choice.{chosen_to, chosen-new, chosen-keep, chosen-to}
use Rattle.send.proofs.pick.Goals as goal
use Rattle.send.proofs.pick.Goals.{then-beats, else-beats}

pub loop-session-preserved : goal.loop-session-preserved
loop-session-preserved c =
    let run = c.args.run.now in
    let n = c.args.count in
    let i = c.loop-session.session in
    let best = c.loop-session.best in
    let so_far = sym c.loop-session.invariant.1 in
    let tested = c.beats.ensures n best c.loop-session.invariant.0 c.loop-session.invariant.2 in
    elim c.if-beats.branch [
      | then-beats w ↦ rw (w.best-is, w.least-is) (c.loop-session-test.true, sym (chosen-new run n best i c.beats.result so_far tested w.if-beats.true), w.head_due-least-then-beats.ensures)
      | else-beats w ↦ rw (w.best-is, w.least-is) (c.loop-session.invariant.0, sym (chosen-keep run n best i c.beats.result so_far tested w.if-beats.false), c.loop-session.invariant.2)
    ]

pub returns : goal.returns
returns c =
    let some = c.in_ok-best.ensures.0 in
    let e : c.loop-session.session ≡ c.args.count = omega (arith, some, c.loop-session-test.false, c.loop-session.auto.session-end (omega (arith, some))) in
    (c.loop-session.invariant.0, sym (chosen-to _ _) ∙ ap (chosen_to c.args.run.now c.args.count) (sym e) ∙ c.loop-session.invariant.1)
