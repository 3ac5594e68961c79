-- EVERY OPENED RUN PASSES THE TEST of refusal 14, before its first slot and after each. Assumes nothing.
use Rattle.std.specs.Prelude.{◌≡◌, List, ◌++◌, length, get_or}
use Rattle.std.proofs.Common.{sym, ap, subst, ◌∙◌}
use Prim.Native.Nat.{ℕ, zero, suc, ◌+◌, ◌-◌, ◌*◌, ◌≤◌, ◌<◌}
use native.Mathlib.Omega.{arith}
use Rattle.curve.proofs.LeastLaws.{least-le, le-least}
use Rattle.curve.specs.Total.{total}
use Rattle.curve.specs.Curve.{Curve, at}
use Rattle.curve.proofs.CurveLaws.{at_table}
use Rattle.curve.specs.Rises.{IsCurve}
use Rattle.sheet.specs.Limits.{most_capacity, largest_value}
use Rattle.sheet.specs.Sheet.{Session, Sheet, WellMade, session, session_count}
use Rattle.rules.specs.Count.{count_all}
use Rattle.rules.proofs.CountLaws.{count_all_snoc, count-length}
use Rattle.rules.specs.Model.{envelope_of, of_session, sends, one_slot, past}
use Rattle.rules.proofs.CurvesLaws.{made-curves, envelope-rises}
use Rattle.rules.proofs.Facts.{got, envelope-kept}
use Rattle.rules.proofs.Intake.{taken-split, in_room}
use Rattle.rules.proofs.Laws.{sent-most}
use Rattle.rules.specs.Ahead.{ahead}
use Rattle.rules.specs.Tables.{kept_curve}
use Rattle.rules.proofs.TablesLaws.{kept-curve}
use Rattle.layout.specs.Layout.{mark_at, capacity_at, period_at, count_at, done_at, service_length_at, envelope_length_at, room_at, service_rate_at, envelope_rate_at, taken_at, sent_at, envelope_ahead_at, block}
use Rattle.layout.specs.Sound.{most_slots, most_ahead, Below, Sound}
use Rattle.guard.specs.Opened.{Opened}
use Rattle.history.specs.Image.{block_of}
use Rattle.history.specs.Block.{Reads, Fitting, block_reads, service-is, envelope-is, service-ahead-is, envelope-ahead-is}
use Rattle.history.specs.Run.{RunReads}
use Rattle.history.specs.After.{ahead_table, moving_at, moving_of, run_with}
use Rattle.history.specs.Tables.{length-ahead, ahead-at, table-holds, fitting}
use Rattle.exact.specs.Share.{moving-got}
use Rattle.exact.specs.Slot.{run_with_reads}

-- what lies ahead is no more than what was taken in and a value of the table
ahead_small : (P : ℕ) (F : Curve) (A : ℕ → ℕ) (t v : ℕ) → Below largest_value F → A t + largest_value ≤ v → Below v (kept_curve F (ahead_table P F A t))
unfolding ahead
ahead_small P F A t v small h j l =
    let k : j < length F.table = omega (arith, length-ahead P F A t) in
    let e : t + suc j - t ≡ suc j = omega arith in
    omega (arith, ahead-at P F A t j k, least-le (λ s. A s + at P F (t + suc j - s)) t t (omega arith), ap (at P F) e, at_table P F j k, small j k)

module _ (sheet : Sheet) (made : WellMade sheet) (told : ℕ → List ℕ) (t : ℕ) where
  -- a session was sent no more than c packets a slot
  sent-few : (i u : ℕ) → count_all (of_session i) (past sheet told u).sent ≤ most_capacity * u
  unfolding past one_slot count_all
  sent-few i zero = omega arith
  sent-few i (suc u) =
      let now = (sends sheet (past sheet told u) (told u)).0 in
      omega (
        arith,
        sent-few i u,
        count_all_snoc (of_session i) (past sheet told u).sent now,
        count-length (of_session i) now,
        sent-most sheet (past sheet told u) (told u),
        made.capacity,
      )

  module _ (i : ℕ) (h : i < session_count sheet) (few : t ≤ most_slots) where
    abbrev P : ℕ
    P = sheet.period

    abbrev s : Session
    s = session sheet i

    abbrev a : ℕ → ℕ
    a = got sheet told i

    abbrev went : ℕ
    went = count_all (of_session i) (past sheet told t).sent

    abbrev b : List ℕ
    b = block_of s (moving_at P s a went t)

    fit : Fitting s (moving_at P s a went t)
    fit = fitting P s (made.each i h) a went t

    reads : Reads s (moving_at P s a went t) b
    reads = block_reads s (moving_at P s a went t) fit

    -- headroom is never negative
    headed : total a t ≤ ahead (at P s.envelope) (total a) t 1
    unfolding ahead envelope_of
    headed =
        le-least (λ u. total a u + at P s.envelope (t + 1 - u)) t (total a t)
        (λ u l.
        omega (
          arith,
          envelope-kept sheet told (made-curves sheet made) i u t h l,
          envelope-rises sheet (made-curves sheet made) i h (t - u) (t + 1 - u) (omega arith),
        ))

    most : total a t + largest_value ≤ most_ahead
    most = omega (arith, taken-split sheet told i t h, in_room sheet told i t h, (made.each i h).room, sent-few i t)

    -- what a table and what lies ahead of it are
    move : (Q : Curve → Type 0) {F G : Curve} → F ≡ G → Q G → Q F
    move Q e q = subst Q (sym e) q

    pub sound : Sound b P t
    sound =
        let S = (made.each i h).service in
        let E = (made.each i h).envelope in
        let one : 1 ≤ P = made.some-period in
        let long : P ≤ length s.envelope.table = E.curve.long in
        let n = reads.fields service_length_at (omega arith) in
        let m = reads.fields envelope_length_at (omega arith) in
        let room = reads.fields room_at (omega arith) in
        let rs = reads.fields service_rate_at (omega arith) in
        let re = reads.fields envelope_rate_at (omega arith) in
        let taken = reads.fields taken_at (omega arith) in
        let sent = reads.fields sent_at (omega arith) in
        let split = taken-split sheet told i t h in
        let head : get_or b envelope_ahead_at 0 ≡ ahead (at P s.envelope) (total a) t 1 =
        reads.envelope_aheads 0 (omega arith) ∙ ahead-at P s.envelope (total a) t 0 (omega arith) in
        record {
          size = reads.size;
          period = one;
          few = made.period;
          numbers = record {
            service-long = omega (arith, n, S.curve.long);
            service-short = omega (arith, n, S.short);
            envelope-long = omega (arith, m, long);
            envelope-short = omega (arith, m, E.short);
            room = omega (arith, room, (made.each i h).room);
            promises = omega (arith, rs, (made.each i h).promises);
            service-rate = omega (arith, rs, S.rate);
            envelope-rate = omega (arith, re, E.rate);
            in_order = omega (arith, sent, taken, split);
            sent-few = omega (arith, sent, sent-few i t);
            waiting = omega (arith, sent, taken, room, split, in_room sheet told i t h);
            headed = omega (arith, taken, head, headed);
          };
          service-small = move (Below largest_value) (service-is s _ b fit reads) S.values;
          envelope-small = move (Below largest_value) (envelope-is s _ b fit reads) E.values;
          service-ahead = move (IsCurve P) (service-ahead-is s _ b fit reads) (kept-curve P s.service S.curve (total a) t _ (table-holds P s.service (total a) t));
          service-ahead-small = move (Below most_ahead) (service-ahead-is s _ b fit reads) (ahead_small P s.service (total a) t most_ahead S.values most);
          envelope-ahead = move (IsCurve P) (envelope-ahead-is s _ b fit reads) (kept-curve P s.envelope E.curve (total a) t _ (table-holds P s.envelope (total a) t));
          envelope-ahead-small = move (Below most_ahead) (envelope-ahead-is s _ b fit reads) (ahead_small P s.envelope (total a) t most_ahead E.values most);
        }

  module _ (rest run : List ℕ) (is : run ≡ run_with sheet (past sheet told t) ++ rest) (few : t ≤ most_slots) where
    reads-run : RunReads sheet t (moving_of sheet (past sheet told t)) rest run
    reads-run = run_with_reads sheet made told t rest run is

    pub blocks-sound : (i : ℕ) → i < session_count sheet → Sound (block run i) sheet.period t
    blocks-sound i h =
        subst (λ (z : List ℕ). Sound z sheet.period t) (sym (reads-run.each i h ∙ ap (block_of (session sheet i)) (moving-got sheet told made i t h))) (sound i h few)

    -- THE TEST PASSES
    pub passes : Opened run
    passes =
        let head = reads-run.head in
        let c = head capacity_at (omega arith) in
        let p = head period_at (omega arith) in
        let n = head count_at (omega arith) in
        let d = head done_at (omega arith) in
        record {
          marked = head mark_at (omega arith);
          some-capacity = omega (arith, c, made.some-capacity);
          capacity = omega (arith, c, made.capacity);
          some-period = omega (arith, p, made.some-period);
          period = omega (arith, p, made.period);
          some-session = omega (arith, n, made.some-session);
          few = omega (arith, n, made.few);
          done = omega (arith, d);
          blocks = λ i h. rw (p, d) (blocks-sound i (omega (arith, n)));
        }
