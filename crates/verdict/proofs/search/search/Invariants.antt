-- The invariants of the search's three loops: slot counts, sessions, positions. Assumes nothing.
use Rattle.std.proofs.Common.{◌≡◌, None, ◌*◌, length, get_or}
use Rattle.sheet.specs.Ready.{on_from}
use Rattle.verdict.specs.Verdict.{can_send}
use Rattle.verdict.specs.Held.{Seen}
use Rattle.verdict.specs.Steps.{Shares, part_load, Walking}
use Rattle.verdict.proofs.search.search.Given as goal

abbrev pub invariant-slots : goal.invariant-slots
invariant-slots l =
    Walking (part_load l.sheet.bytes.now l.p l.count) (can_send l.each) (l.each * l.p) l.p l.t l.loads l.slack l.first l.steady
    × Seen l.sheet.bytes.now l.p (256 * l.count) l.end l.t l.firsts l.recent l.tries
    × (l.failing ≡ None)

abbrev pub invariant-sessions : goal.invariant-sessions
invariant-sessions l = (l.load ≡ part_load l.sheet.bytes.now l.p l.i l.t) × (length l.tries ≡ 65)

abbrev pub invariant-positions : goal.invariant-positions
invariant-positions l = Shares l.p (on_from l.sheet.bytes.now (get_or l.sheet.reading.starts l.i 0)) l.t l.tries l.x
