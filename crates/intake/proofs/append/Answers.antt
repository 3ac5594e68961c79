-- Each turn of the loop looks one packet up in what lies ahead, which the ring leaves alone, and writes its deadline; the next look-up begins where this one ended. Assumes nothing.
use Rattle.std.proofs.Common.{◌≡◌, refl, ◌+◌, ◌-◌, ◌≤◌, min, length, get_or, sym, arith}
use Rattle.std.proofs.Math.ListN.{length-set}
use Rattle.curve.specs.Delay.{slot, delay}
use Rattle.layout.specs.Layout.{service_length_at, service_ahead_at, service_ahead}
use Rattle.layout.specs.Part.{part_length}
use Rattle.intake.specs.Due.{told-some, begins-after}
use Rattle.intake.specs.Append.{packet, appended-none, appended-more, ahead_lent}
use Rattle.intake.proofs.append.Goals as goal
use Rattle.intake.proofs.append.Goals.{After-delay_from-slots}

-- what the look-up tells of the packet
told : (c : After-delay_from-slots) → delay c.args.period (service_ahead c.args.block.now) (packet c.args.block.now c.packets.q) ≡ slot c.delay_from-slots.result.0
told c =
    let a = c.args in
    rw (ahead_lent a.block.now a.period a.done c.requires.0 c.packets.block c.packets.q c.packets.invariant.1) at c.delay_from-slots.ensures.delay

pub packets-init : goal.packets-init
packets-init c =
    let a = c.args in
    (refl, sym (appended-none a.block.now a.period a.done), (omega arith, λ j h. absurd (omega arith)))

pub delay_from-slots-requires-clause-curve : goal.delay_from-slots-requires-clause-curve
delay_from-slots-requires-clause-curve c =
    let a = c.args in
    rw (ahead_lent a.block.now a.period a.done c.requires.0 c.packets.block c.packets.q c.packets.invariant.1) c.requires.0.service-ahead

pub delay_from-slots-requires-clause-begins : goal.delay_from-slots-requires-clause-begins
delay_from-slots-requires-clause-begins c =
    let a = c.args in
    rw (ahead_lent a.block.now a.period a.done c.requires.0 c.packets.block c.packets.q c.packets.invariant.1) c.packets.invariant.2

pub overflow_sub-slots : goal.overflow_sub-slots
overflow_sub-slots c =
    let d = (goal.at.overflow_sub-slots c).After-delay_from-slots in
    told-some c.args.period (service_ahead c.args.block.now) c.requires.0.service-ahead _ c.delay_from-slots.result.0 (told d)

pub packets-preserved : goal.packets-preserved
packets-preserved c =
    let d = (goal.at.packets-preserved c).After-delay_from-slots in
    let a = c.args in
    let b = a.block.now in
    let q = c.packets.q in
    let n : get_or b service_length_at 0 ≤ 64 = c.requires.0.numbers.service-short in
    let size : length b ≡ 752 = c.requires.0.size in
    let least : c.min-start.result ≡ min (c.delay_from-slots.result.0 - 1) (get_or b service_length_at 0) = c.min-start.ensures in (
      simp length-set c.packets.invariant.0,
      appended-more b a.period a.done c.packets.block q c.delay_from-slots.result.0 c.packets.invariant.1 (told d),
      begins-after a.period (service_ahead b) c.requires.0.service-ahead (packet b q) c.delay_from-slots.result.0 (told d) (packet b (q + 1)) c.min-start.result
          (omega arith)
          (omega (arith, least))
          (omega (arith, least, part_length b service_ahead_at (get_or b service_length_at 0) (omega arith))),
    )
