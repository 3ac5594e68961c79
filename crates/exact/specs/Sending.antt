-- Sending by the numbers of a run is the rules' sending of what waits: the same packets, in the same order, with the same notes. Assumes nothing.
use Rattle.std.specs.Prelude.{◌≡◌, ◌≢◌}
use Rattle.std.proofs.Math.Path.{sym, ap}
use Rattle.std.proofs.Common.{◌∙◌, arith}
use mathlib.Core.List.{List, [], ◌∷◌, ◌++◌}
use Prim.Native.Nat.{ℕ, zero, suc, ◌+◌, ◌*◌, ◌≤◌, ◌<◌}
use Rattle.std.proofs.Math.Decide.{ℕ_discrete}
use Rattle.std.proofs.Math.ListN.{length, drop, length-append}
use Rattle.curve.specs.Delay.{slots_of}
use Rattle.sheet.specs.Limits.{most_sessions}
use Rattle.layout.specs.Layout.{run_numbers}
use Rattle.rules.specs.Count.{ind, count}
use Rattle.rules.proofs.CountLaws.{count-append}
use Rattle.rules.specs.Pick.{extract, send, next}
use Rattle.rules.proofs.PickLaws.{send-next}
use Rattle.rules.specs.Model.{Packet, first, of_session}
use Rattle.rules.proofs.TurnLaws.{own-test, other_test}
use Rattle.send.specs.Choice.{sent_of, chosen}
use Rattle.send.specs.Send.{note_numbers, note, noted-is, raised, step_run-stay, step_run-go, step_notes-stay, step_notes-go, step_count-stay, step_count-go, send_run, send_run-zero, send_run-suc}
use Rattle.send.specs.Send.{send_notes, send_notes-zero, send_notes-suc, send_count, send_count-zero, send_count-suc}
use Rattle.send.specs.Sent.{raised-here, raised-there, length-send_run, send_count-all}
use Rattle.exact.specs.Written.{notes_of, length-notes_of, notes_of-append, three-more}
use Rattle.exact.specs.Queue.{Queue, Head, none-chosen, goes, left}

-- a note after those of s, over the numbers that stood there
note-next : (s : List Packet) (x : Packet) (notes : List ℕ) → note_numbers * suc (length s) ≤ length notes
    → note (notes_of s ++ drop (note_numbers * length s) notes) (length s) x.owner x.number (slots_of x.due)
    ≡ notes_of (s ++ (x ∷ [])) ++ drop (note_numbers * length (s ++ (x ∷ []))) notes
unfolding note notes_of
note-next s x notes h =
    let at = note_numbers * length s in
    let first : at + 0 ≡ at = omega arith in
    let more : at + 3 ≡ note_numbers * length (s ++ (x ∷ [])) = omega (arith, length-append s (x ∷ [])) in
    rw first (three-more (notes_of s) notes at x.owner x.number (slots_of x.due) (length-notes_of s) (omega arith) ∙ rw (more, notes_of-append s (x ∷ [])))

-- up to k steps of the run have sent s and left l
pub record Same (run : List ℕ) (sessions k : ℕ) (s l : List Packet) : Type 0 where
  pub queue : Queue (send_run run sessions k) sessions l
  pub went : send_count run sessions k ≡ length s
  pub sent : (i : ℕ) → i < sessions → sent_of (send_run run sessions k) i ≡ sent_of run i + count (of_session i) s
  pub noted : (notes : List ℕ) → note_numbers * k ≤ length notes → send_notes run notes sessions k ≡ notes_of s ++ drop (note_numbers * length s) notes

module _ (run : List ℕ) (sessions : ℕ) (size : run_numbers ≤ length run) (few : sessions ≤ most_sessions) where
  start : (l : List Packet) → Queue run sessions l → Same run sessions 0 [] l
  unfolding count notes_of
  start l q = record {
    queue = rw (send_run-zero run sessions) q;
    went = send_count-zero run sessions;
    sent = λ i h. rw (send_run-zero run sessions) (omega arith);
    noted = λ notes h. send_notes-zero run sessions notes;
  }

  -- a step with nothing waiting
  stay : (k : ℕ) (s : List Packet) → Same run sessions k s [] → Same run sessions (suc k) s []
  stay k s c =
      let now = send_run run sessions k in
      let e = none-chosen now sessions c.queue in
      let run_is : send_run run sessions (suc k) ≡ now = send_run-suc run sessions k ∙ step_run-stay now sessions e in
      record {
        queue = rw run_is c.queue;
        went = send_count-suc run sessions k ∙ step_count-stay now sessions e (send_count run sessions k) ∙ c.went;
        sent = λ i h. rw run_is (c.sent i h);
        noted = λ notes h.
            send_notes-suc run sessions notes k ∙ step_notes-stay now sessions e (send_notes run notes sessions k) k ∙ c.noted notes (omega arith);
      }

  -- a step that sends one
  more : (k : ℕ) (s : List Packet) (y : Packet) (ys : List Packet) → Same run sessions k s (y ∷ ys)
      → Same run sessions (suc k) (s ++ ((extract first y ys).0 ∷ [])) (extract first y ys).1
  unfolding slots_of count ind
  more k s y ys c =
      record {
        queue = rw run_is (left now sessions y ys c.queue (omega (arith, length-send_run run sessions k)) few);
        went = send_count-suc run sessions k ∙ step_count-go now sessions n (send_count run sessions k) ∙ omega (arith, c.went, length-append s (x ∷ []));
        sent = λ i h. rw run_is (counts i h (ℕ_discrete i r));
        noted = λ notes h.
            send_notes-suc run sessions notes k
            ∙ step_notes-go now sessions n (send_notes run notes sessions k) k
            ∙ sym (noted-is now (send_notes run notes sessions k) k r x.owner x.number (slots_of x.due) (g.1.owner ∙ omega arith) g.1.number (ap slots_of g.1.due))
            ∙ ap (λ (l : List ℕ). note l k x.owner x.number (slots_of x.due)) (c.noted notes (omega arith))
            ∙ ap (λ (j : ℕ). note (notes_of s ++ drop (note_numbers * length s) notes) j x.owner x.number (slots_of x.due)) all
            ∙ note-next s x notes (omega (arith, all));
      }
    where
      now : List ℕ
      now = send_run run sessions k

      r : ℕ
      r = chosen now sessions

      x : Packet
      x = (extract first y ys).0

      g : (r < sessions) × Head now r x
      g = goes now sessions y ys c.queue

      n : r ≢ sessions
      n e = omega (arith, g.0)

      run_is : send_run run sessions (suc k) ≡ raised now r
      run_is = send_run-suc run sessions k ∙ step_run-go now sessions n

      -- all the steps up to here sent one
      all : k ≡ length s
      all = sym (send_count-all run sessions k n) ∙ c.went

      counts : (i : ℕ) → i < sessions → Dec (i ≡ r) → sent_of (raised now r) i ≡ sent_of run i + count (of_session i) (s ++ (x ∷ []))
      counts i h (yes e) =
          let up : sent_of (raised now r) i ≡ sent_of now i + 1 = rw e (raised-here now r (omega (arith, g.0, length-send_run run sessions k))) in
          omega (arith, up, c.sent i h, count-append (of_session i) s (x ∷ []), ap ind (own-test i x (g.1.owner ∙ ap suc (sym e))))
      counts i h (no d) =
          omega (
            arith,
            raised-there now r i d,
            c.sent i h,
            count-append (of_session i) s (x ∷ []),
            ap ind (other_test i x (λ o. d (omega (arith, g.1.owner)))),
          )

  step : (k : ℕ) (s l : List Packet) → Same run sessions k s l → Same run sessions (suc k) (next first s l).0 (next first s l).1
  unfolding next
  step k s [] c = stay k s c
  step k s (y ∷ ys) c = more k s y ys c

  module _ (l : List Packet) (q : Queue run sessions l) where
    same : (k : ℕ) → Same run sessions k (send first k l).0 (send first k l).1
    unfolding send
    same zero = start l q
    same (suc k) = rw (send-next first k l) (step k (send first k l).0 (send first k l).1 (same k))

    pub count-is : (k : ℕ) → send_count run sessions k ≡ length (send first k l).0
    count-is k = (same k).went

    pub sent_is : (k i : ℕ) → i < sessions → sent_of (send_run run sessions k) i ≡ sent_of run i + count (of_session i) (send first k l).0
    sent_is k = (same k).sent

    pub notes_are : (notes : List ℕ) (k : ℕ) → note_numbers * k ≤ length notes
        → send_notes run notes sessions k ≡ notes_of (send first k l).0 ++ drop (note_numbers * length (send first k l).0) notes
    notes_are notes k = (same k).noted notes
