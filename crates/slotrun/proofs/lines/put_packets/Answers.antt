-- The next packet's line comes after those that were put. Assumes nothing.
use Rattle.std.proofs.Common.{◌*◌, ◌≤◌, length, arith, rules, ◌∙◌}
use Rattle.slotrun.proofs.Notes.{listed_none, listed_more, listed_room, listed_all}
use Rattle.slotrun.proofs.lines.put_packets.Goals as goal

pub loop-note-init : goal.loop-note-init
loop-note-init g c = (rw (c.into_iter-note-iterator.ensures.into_iter_gives, c.chunks_exact-note-items.ensures.rest) (listed_none c.args.page.now c.args.slot c.args.notes.now c.args.sent), search rules)

pub put_packet-requires : goal.put_packet-requires
put_packet-requires g c =
    let s = c.in-Some.ensures.steps in
    let enough : 3 * c.args.sent ≤ length c.args.notes.now = search rules in
    (search rules, omega (arith, listed_room c.loop-note.invariant.0 enough c.in-Some.note.now _ s.1.0 (s.1.1 ∙ c.loop-note.invariant.1) (omega arith)))

pub loop-note-preserved : goal.loop-note-preserved
loop-note-preserved g c =
    let s = c.in-Some.ensures.steps in
    let enough : 3 * c.args.sent ≤ length c.args.notes.now = search rules in
    (listed_more c.loop-note.invariant.0 enough c.in-Some.note.now _ s.1.0 (s.1.1 ∙ c.loop-note.invariant.1) c.put_packet.new.page c.put_packet.ensures.put c.put_packet.ensures.few, s.0 ∙ c.loop-note.invariant.1)

pub returns-clause-put : goal.returns-clause-put
returns-clause-put g c =
    let enough : 3 * c.args.sent ≤ length c.args.notes.now = search rules in
    rw (← listed_all c.loop-note.invariant.0 enough (omega (arith, c.in-None.ensures.steps.1.0, c.loop-note.invariant.1))) c.loop-note.invariant.0.put

pub returns-clause-few : goal.returns-clause-few
returns-clause-few g c = omega (arith, c.loop-note.invariant.0.fits, c.loop-note.invariant.0.few)
