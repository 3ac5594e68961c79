-- Each turn of the loop lends a block that the turns before left alone, and tells its three numbers. Assumes nothing.
use Rattle.std.proofs.Common.{◌+◌, ◌<◌, refl, sym, ap, ◌∙◌, length, arith}
use Rattle.std.proofs.Math.ListN.{length-set}
use Rattle.sheet.specs.Limits.{most_sessions}
use Rattle.intake.specs.Intakes.{intakes_none, length_intakes, block_lent, intakes_more, outcomes-none, outcomes-more}
use Rattle.run.proofs.intakes.intake_all.Goals as goal

pub loop-session-init : goal.loop-session-init
loop-session-init c = (refl, refl, sym (intakes_none _ _ _ _), sym (outcomes-none _ _ _))

pub intake-share-requires : goal.intake-share-requires
intake-share-requires c =
    let a = c.args in
    let ok = c.requires.all_sound.0 in
    let i = c.loop-session.session in
    let h : i < most_sessions = omega (arith, ok.few, c.loop-session-test.true) in
    (rw (c.block_range.ensures, block_lent a.run.now a.offers.now a.period a.done ok.size i h c.loop-session.run c.loop-session.invariant.2) (ok.sound i c.loop-session-test.true), c.requires.all_sound.1)

pub loop-session-preserved : goal.loop-session-preserved
loop-session-preserved c =
    let a = c.args in
    let ok = c.requires.all_sound.0 in
    let i = c.loop-session.session in
    let h : i < most_sessions = omega (arith, ok.few, c.loop-session-test.true) in
    let lent = block_lent a.run.now a.offers.now a.period a.done ok.size i h c.loop-session.run c.loop-session.invariant.2 in
    let now = rw (c.block_range.ensures, lent, c.from.ensures) at c.intake-share.ensures in
    let run = intakes_more a.run.now a.offers.now a.period a.done ok.size i h c.loop-session.run c.intake-share.new.block c.loop-session.invariant.2 now.0 in
    rw c.block_range.ensures (
      ap length run ∙ length_intakes a.run.now a.offers.now a.period a.done (i + 1),
      simp length-set c.loop-session.invariant.1,
      run,
      outcomes-more a.run.now a.offers.now a.outcomes.now i c.loop-session.outcomes c.intake-share.result c.loop-session.invariant.3 now.1,
    )
