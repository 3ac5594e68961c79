-- The reader goes from session to session as `Reached` says, and answers what is left where the way ends. Assumes nothing.
use Rattle.std.proofs.Common.{◌≡◌, ◌≤◌, ◌<◌, drop, sym, ap, ◌∙◌, arith}
use Rattle.std.proofs.lemmas.Result.{err_from_is_err_and}
use Rattle.sheet.specs.Refusal.{Clear, first}
use Rattle.sheet.specs.Bytes.{period_of, count_of, record_bytes}
use Rattle.sheet.specs.Reading.{session_lines}
use Rattle.sheet.proofs.ClearsLaws.{head_clear}
use Rattle.sheet.proofs.MakesLaws.{session-fields}
use Rattle.sheet.specs.Told.{fault}
use Rattle.sheet.proofs.ToldLaws.{check_clear}
use Rattle.sheet.proofs.WalkLaws.{reached-none, reached-found, reached-next, reached-over, reached_end, from-here, reads-refused, reads-read}
use Rattle.sheet.proofs.read_sessions.Goals as goal
use Rattle.sheet.proofs.read_sessions.Goals.{After-check_session, After-sessions, In-sessions, In_ok-check_session}

-- a session is left, or none
below : (c : In-sessions) → c.sessions.i < count_of c.args.bytes.now
below c = omega (arith, c.sessions-test.true, c.byte-count.ensures.0)

past : (c : After-sessions) → count_of c.args.bytes.now ≤ c.sessions.i
past c = omega (arith, c.sessions-test.false, c.byte-count.ensures.0)

-- what is found of the session
found : (c : After-check_session) → fault c.check_session.result
    ≡ first (session_lines (period_of c.args.bytes.now) (drop c.sessions.at c.args.bytes.now) c.sessions.at)
found c =
    let bytes = c.args.bytes.now in
    let at = c.sessions.at in
    c.check_session.ensures
    ∙ ap (λ rest. first (session_lines c.byte-2.result rest at)) (from-here bytes at)
    ∙ ap (λ p. first (session_lines p (drop at bytes) at)) c.byte-2.ensures.0

clear : (c : In_ok-check_session) → Clear (session_lines (period_of c.args.bytes.now) (drop c.sessions.at c.args.bytes.now) c.sessions.at)
clear c = check_clear _ (found (goal.at.In_ok-check_session c).After-check_session) c.in_ok-check_session.was

pub sessions-init : goal.sessions-init
sessions-init c = reached-none c.args.bytes.now (head_clear c.args.bytes.now c.requires) c.requires.long

pub overflow_cast-at : goal.overflow_cast-at
overflow_cast-at c = omega (arith, c.requires.little, c.requires.all)

pub check_session-requires : goal.check_session-requires
check_session-requires c = (omega (arith, c.byte-2.ensures.0, c.requires.some-period), omega (arith, c.requires.little, c.requires.all))

pub returns-in_err-check_session : goal.returns-in_err-check_session
returns-in_err-check_session c =
    let p = err_from_is_err_and c.from_residual.result c.from_residual.ensures.1 in
    rw (p.1, p.2)
    (reads-refused c.args.bytes.now _
    (reached-found c.args.bytes.now c.sessions.i c.sessions.at c.sessions.starts c.sessions.invariant _ _ (below (goal.at.returns-in_err-check_session c).In-sessions)
    (sym (found (goal.at.returns-in_err-check_session c).After-check_session) ∙ ap fault c.in_err-check_session.was)))

pub bounds-starts-i : goal.bounds-starts-i
bounds-starts-i c = omega (arith, below (goal.at.bounds-starts-i c).In-sessions, c.requires.few)

pub record_bytes-at-requires : goal.record_bytes-at-requires
record_bytes-at-requires c =
    let f = session-fields _ _ _ (clear c) in
    rw (from-here c.args.bytes.now c.sessions.at) (omega (arith, f.all))

pub sessions-preserved : goal.sessions-preserved
sessions-preserved c =
    let size = c.record_bytes-at.ensures ∙ ap record_bytes (from-here c.args.bytes.now c.sessions.at) in
    rw size
    (reached-next c.args.bytes.now c.sessions.i c.sessions.at c.sessions.starts c.sessions.invariant (below (goal.at.sessions-preserved c).In-sessions) c.requires.few
    (clear (goal.at.sessions-preserved c).In_ok-check_session))

pub overflow_cast-at-then-at-bytes : goal.overflow_cast-at-then-at-bytes
overflow_cast-at-then-at-bytes c = omega (arith, c.requires.little, c.requires.all)

pub returns-then-at-bytes : goal.returns-then-at-bytes
returns-then-at-bytes c =
    rw c.at.ensures
    (reads-refused c.args.bytes.now _
    (reached-over c.args.bytes.now c.sessions.i c.sessions.at c.sessions.starts c.sessions.invariant (past (goal.at.returns-then-at-bytes c).After-sessions) c.if-at-bytes.true))

pub returns : goal.returns
returns c =
    let bytes = c.args.bytes.now in
    let over = past (goal.at.returns c).After-sessions in
    let e : c.sessions.i ≡ count_of bytes = omega (arith, over, c.sessions.invariant.within) in
    reads-read bytes _ c.sessions.at (reached_end bytes c.sessions.i c.sessions.at c.sessions.starts c.sessions.invariant over c.if-at-bytes.false) c.byte.ensures.0 c.byte-2.ensures.0 c.byte-count.ensures.0
    (rw e at c.sessions.invariant)
