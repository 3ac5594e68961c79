-- Each turn of the loop adds one session's shares and the packets that wait. Assumes nothing.
use Rattle.std.proofs.Common.{◌≤◌, refl, arith}
use Rattle.run.specs.Summed.{summed_none, summed_more, waiting-small, largest_offer}
use Rattle.run.proofs.tally.sum_up.Goals as goal

pub loop-session-init : goal.loop-session-init
loop-session-init c = summed_none _ _

pub loop-session-preserved : goal.loop-session-preserved
loop-session-preserved c =
    let run = c.args.run.now in
    let offers = c.args.offers.now in
    let l = c.loop-session in
    let s = l.sums in
    let sharing = c.requires.each l.session c.loop-session-test.true in
    let small : c.from-offered.result ≤ largest_offer = omega (arith, c.from-offered.ensures, (c.type_inv.offers l.session).fits) in
    rw c.block-block.ensures.value
    (summed_more run offers l.session s.offered s.taken_in s.over s.no_room s.waiting c.from-offered.result _ c.shares-share.result l.invariant c.from-offered.ensures small
    (rw c.block-block.ensures.value at c.shares-share.ensures) refl (waiting-small _ sharing))
