-- The first that waits is the choice among the sessions up to it. Assumes nothing.
use Rattle.std.proofs.Common.{◌≡◌, refl, sym, ap, ◌∙◌, arith}
use Rattle.send.specs.Choice.{beats, beats-none, beats_idle, idle, chosen_to, chosen_to-zero, chosen-new, chosen-keep, chosen-to}
use Rattle.send.proofs.first_waiting.Goals as goal

pub loop-session-init : goal.loop-session-init
loop-session-init c = chosen_to-zero _ _

pub returns-then-waits : goal.returns-then-waits
returns-then-waits c =
    let run = c.args.run.now in
    let n = c.args.count in
    let i = c.loop-session.session in
    (c.loop-session-test.true, sym (chosen-new run n n i (beats run n n i) (sym c.loop-session.invariant) refl (beats-none run n n i (c.waits.ensures.0 c.if-waits.true) refl)))

pub loop-session-preserved : goal.loop-session-preserved
loop-session-preserved c =
    let run = c.args.run.now in
    let n = c.args.count in
    let i = c.loop-session.session in
    sym (chosen-keep run n n i (beats run n n i) (sym c.loop-session.invariant) refl (beats_idle run n n i (idle run i _ c.waits.ensures.1 c.if-waits.false)))

pub returns : goal.returns
returns c =
    let e : c.loop-session.session ≡ c.args.count = omega arith in
    sym (chosen-to _ _) ∙ ap (chosen_to c.args.run.now c.args.count) (sym e) ∙ c.loop-session.invariant
