-- What slot t + 1 of the rules has to choose from is what waits in the run, where the run has the counts and the deadlines of the rules. So its sending, by the
-- numbers of the run, is the rules' sending. Assumes nothing.
use Rattle.std.specs.Prelude.{◌≡◌, ◌⊎◌, ℕ, suc, ◌+◌, ◌-◌, ◌*◌, ◌%◌, ◌≤◌, ◌<◌, min, T, length, get_or, drop}
use Rattle.std.proofs.Common.{sym, ◌∙◌, inl, inr}
use Rattle.std.proofs.Math.Path.{ap}
use mathlib.Core.List.Memᴰ
use mathlib.Core.List.{List, ◌++◌, Memᴰ}
use native.Mathlib.Omega.{arith}
use Rattle.curve.specs.Total.{total}
use Rattle.curve.specs.Delay.{come}
use Rattle.sheet.specs.Limits.{most_sessions}
use Rattle.sheet.specs.Sheet.{Sheet, session_count}
use Rattle.layout.specs.Layout.{run_numbers, block_at, deadlines_at, ring}
use Rattle.rules.specs.Count.{count, count_all}
use Rattle.rules.proofs.CountLaws.{count_all_snoc}
use Rattle.rules.proofs.PickLaws.{send-count}
use Rattle.rules.specs.Deadline.{later, due_as}
use Rattle.rules.proofs.DeadlineLaws.{come-later}
use Rattle.rules.specs.Model.{Packet, of_session, packet, took, taken_in, arrivals, first, sends, one_slot, past}
use Rattle.rules.specs.Curves.{Curves}
use Rattle.rules.proofs.Facts.{got, new_packet, slots}
use Rattle.rules.specs.Arrived.{together}
use Rattle.rules.proofs.ArrivedLaws.{New, Arrived, arrivals-new, waiting-arrived}
use Rattle.rules.proofs.Intake.{taken-split}
use Rattle.rules.proofs.Laws.{rise}
use Rattle.rules.specs.Turn.{up_to_number}
use Rattle.rules.proofs.TurnLaws.{counted, waiting-after, sent-numbers}
use Rattle.send.specs.Choice.{taken_of, sent_of}
use Rattle.send.specs.Send.{note_numbers, send_run, send_notes, send_count}
use Rattle.exact.specs.Queue.{Queued, Queue}
use Rattle.exact.specs.Written.{notes_of}
use Rattle.exact.specs.Sending.{count-is, sent_is, notes_are}

-- one of those that wait together: it was taken in, and has a number after those sent
record Waiting (sheet : Sheet) (told : ℕ → List ℕ) (t : ℕ) (x : Packet) : Type 0 where
  here : Arrived sheet told (suc t) x
  after : count_all (of_session here.new.i) (past sheet told t).sent < x.number

module _ (sheet : Sheet) (told : ℕ → List ℕ) (curves : Curves sheet) (t : ℕ) where
  waiting : (x : Packet) → Memᴰ x (together sheet told t) → Waiting sheet told t x
  unfolding past one_slot new_packet packet
  waiting x m = go (Memᴰ.append_cases (past sheet told t).waiting m)
    where
      go : Memᴰ x (past sheet told t).waiting ⊎ Memᴰ x (arrivals sheet (took (taken_in sheet (past sheet told t) (told t))) (length (past sheet told t).taken))
          → Waiting sheet told t x
      go (inl k) =
          let a = waiting-arrived sheet told t x k in
          record {
            here = record { u = a.u; slot = omega (arith, a.slot); new = a.new };
            after = waiting-after sheet told curves a.new.i t a.new.session x k (ap (λ z. z.owner) a.new.is);
          }
      go (inr k) =
          let a : New sheet told t x = arrivals-new sheet told t x (rw (slots sheet told t) at k) in
          record {
            here = record { u = t; slot = omega arith; new = a };
            after = omega (arith, a.some, ap (λ z. z.number) a.is, taken-split sheet told a.i t a.session);
          }

  rises : (x y : Packet) → Memᴰ x (together sheet told t) → Memᴰ y (together sheet told t) → x.owner ≡ y.owner → x.number ≤ y.number
      → (s : ℕ) → T (come y.due s) → T (come x.due s)
  rises x y m n o l s h =
      let e : later x.due y.due ≡ y.due = rise sheet told curves t x y m n o l in
      ((come-later x.due y.due s).0 (rw (← (ap (λ d. come d s) e)) at h)).0

  -- those sent up to slot t and these have the numbers of all that were taken in, each once
  numbers : (i n : ℕ) → i < session_count sheet
      → count (up_to_number i n) (together sheet told t) + min (count_all (of_session i) (past sheet told t).sent) n ≡ min (total (got sheet told i) (suc t)) n
  unfolding past one_slot sends
  numbers i n h =
      omega (
        arith,
        counted sheet told i (suc t) n h,
        count_all_snoc (up_to_number i n) (past sheet told t).sent (sends sheet (past sheet told t) (told t)).0,
        send-count first (up_to_number i n) sheet.capacity (together sheet told t),
        sent-numbers sheet told curves i t h n,
      )

  module _ (run : List ℕ)
      (sent : (i : ℕ) → i < session_count sheet → sent_of run i ≡ count_all (of_session i) (past sheet told t).sent)
      (taken : (i : ℕ) → i < session_count sheet → taken_of run i ≡ total (got sheet told i) (suc t))
      (due : (i u q : ℕ) → i < session_count sheet → u ≤ t → 1 ≤ q → q ≤ got sheet told i u → count_all (of_session i) (past sheet told t).sent < total (got sheet told i) u + q
      → (new_packet sheet told i u q).due ≡ due_as (get_or run (block_at i + (deadlines_at + (total (got sheet told i) u + q - 1) % ring)) 0)) where
    queued : (x : Packet) → Memᴰ x (together sheet told t) → Queued run (session_count sheet) x
    unfolding new_packet packet
    queued x m = go (waiting x m)
      where
        go : Waiting sheet told t x → Queued run (session_count sheet) x
        go w =
            let a = w.here.new in
            let number : x.number ≡ total (got sheet told a.i) w.here.u + a.q = ap (λ z. z.number) a.is in
            record {
              i = a.i;
              session = a.session;
              owner = ap (λ z. z.owner) a.is;
              due = ap (λ z. z.due) a.is
                  ∙ due a.i w.here.u a.q a.session (omega (arith, w.here.slot)) a.some a.most (omega (arith, w.after, number))
                  ∙ ap (λ k. due_as (get_or run (block_at a.i + (deadlines_at + (k - 1) % ring)) 0)) (sym number);
            }

    pub waiting-queue : Queue run (session_count sheet) (together sheet told t)
    waiting-queue = record {
      each = queued;
      numbers = λ i n h. omega (arith, numbers i n h, ap (λ k. min k n) (sent i h), ap (λ k. min k n) (taken i h));
      rise = rises;
    }

    -- ONE SLOT: the run sends as many packets as the rules, of each session as many, and notes the same packets in the same order
    module _ (size : run_numbers ≤ length run) (few : session_count sheet ≤ most_sessions) where
      pub slot-count : send_count run (session_count sheet) sheet.capacity ≡ length (sends sheet (past sheet told t) (told t)).0
      unfolding sends
      slot-count = count-is run (session_count sheet) size few (together sheet told t) waiting-queue sheet.capacity

      pub slot-sent : (i : ℕ) → i < session_count sheet
          → sent_of (send_run run (session_count sheet) sheet.capacity) i ≡ count_all (of_session i) (past sheet told (suc t)).sent
      unfolding past one_slot sends
      slot-sent i h =
          omega (
            arith,
            sent_is run (session_count sheet) size few (together sheet told t) waiting-queue sheet.capacity i h,
            sent i h,
            count_all_snoc (of_session i) (past sheet told t).sent (sends sheet (past sheet told t) (told t)).0,
          )

      pub slot-notes : (notes : List ℕ) → note_numbers * sheet.capacity ≤ length notes
          → send_notes run notes (session_count sheet) sheet.capacity
          ≡ notes_of (sends sheet (past sheet told t) (told t)).0 ++ drop (note_numbers * length (sends sheet (past sheet told t) (told t)).0) notes
      unfolding sends
      slot-notes notes = notes_are run (session_count sheet) size few (together sheet told t) waiting-queue notes sheet.capacity
