-- What each slot wrote is what the rules say: the outcomes of each session, the packets sent, their notes one by one, and the sums over the slots. Assumes nothing.
use Rattle.std.specs.Prelude.{◌≡◌, List, ◌++◌, eqb, length, drop}
use Rattle.std.proofs.Math.Path.{refl, ap}
use Rattle.std.proofs.Common.{sym, ◌∙◌}
use Prim.Native.Nat.{ℕ, zero, suc, ◌+◌, ◌*◌, ◌≤◌, ◌<◌}
use native.Mathlib.Omega.{arith}
use Rattle.std.proofs.Math.ListN.{get_or}
use Rattle.curve.specs.Total.{total}
use Rattle.curve.proofs.TotalLaws.{total_cong}
use Rattle.curve.specs.Delay.{slot, slots_of}
use Rattle.sheet.specs.Sheet.{Sheet, session, session_count}
use Rattle.sheet.specs.Bytes.{sheet_of}
use Rattle.rules.specs.Count.{ind, count, count_all}
use Rattle.rules.proofs.CountLaws.{count_all_snoc}
use Rattle.rules.specs.Deadline.{deadline}
use Rattle.rules.proofs.DeadlineLaws.{deadline_cong}
use Rattle.rules.specs.Model.{Packet, Past, delay_of, of_session, over, no_room, packet, sends, one_slot, past, after}
use Rattle.rules.specs.Curves.{Curves}
use Rattle.rules.proofs.CurvesLaws.{made-curves}
use Rattle.rules.proofs.Facts.{got, new_packet}
use Rattle.rules.proofs.Numbered.{by_number}
use Rattle.intake.specs.Intakes.{outcome_numbers}
use Rattle.send.specs.Send.{note_numbers, session_at, packet_at, deadline_at}
use Rattle.exact.specs.Written.{outcomes_by, notes_of}
use Rattle.exact.specs.Slot.{due-slot}
use Rattle.kept.specs.Calls.{Calls, took_in, over_in, no_room_in, note_session, note_packet, note_deadline, noted_first, sent_in}
use Rattle.kept.specs.Numbers.{outcome_at, note_of, AtPlace, packet-at, place-among, note-at, noted-count, noted-before}
use Rattle.kept.specs.Promise.{taken, went, due_in, NoteOf}
use Rattle.kept.specs.Runs.{first_past, made, history, done}

module _ (bytes : List ℕ) (n : ℕ) (c : Calls bytes n) where
  abbrev sheet : Sheet
  sheet = sheet_of bytes

  abbrev told : ℕ → List ℕ
  told = c.offers

  -- the past at the end of slot u, by the rules
  abbrev p : ℕ → Past
  p = past sheet told

  -- the packets that slot u + 1 sends
  abbrev pub sent_at : ℕ → List Packet
  sent_at u = (sends sheet (p u) (told u)).0

  pub curves : Curves sheet
  curves = made-curves sheet (made bytes n c)

  module _ (u : ℕ) (h : u < n) where
    pub count-is : c.sent_count u ≡ length (sent_at u)
    count-is =
        let e : c.sent_count u ≡ length (sends sheet (after sheet (history bytes n c u)) (told u)).0 = cc (done bytes n c u h).answers in
        e ∙ ap (λ q. length (sends sheet q (told u)).0) (first_past sheet told u)

    abbrev notes_left : List ℕ
    notes_left = drop (note_numbers * length (sent_at u)) (c.notes u)

    notes_are : c.notes' u ≡ notes_of (sent_at u) ++ notes_left
    notes_are =
        (done bytes n c u h).notes_are
        ∙ ap (λ q. notes_of (sends sheet q (told u)).0 ++ drop (note_numbers * length (sends sheet q (told u)).0) (c.notes u)) (first_past sheet told u)

    outcomes_are : c.outcomes' u ≡ outcomes_by sheet (p u) (told u) ++ drop (outcome_numbers * session_count sheet) (c.outcomes u)
    outcomes_are =
        (done bytes n c u h).outcomes_are
        ∙ ap (λ q. outcomes_by sheet q (told u) ++ drop (outcome_numbers * session_count sheet) (c.outcomes u)) (first_past sheet told u)

    -- OUTCOMES
    number_at : (i r : ℕ) → i < session_count sheet → r < 3 → get_or (c.outcomes' u) (outcome_numbers * i + r) 0
        ≡ get_or (outcomes_by sheet (p u) (told u) ++ drop (outcome_numbers * session_count sheet) (c.outcomes u)) (outcome_numbers * i + r) 0
    number_at i r k l = ap (λ (z : List ℕ). get_or z (outcome_numbers * i + r) 0) outcomes_are

    pub took-is : (i : ℕ) → i < session_count sheet → took_in bytes n c i u ≡ got sheet told i u
    unfolding got
    took-is i k =
        let e : outcome_numbers * i ≡ outcome_numbers * i + 0 = omega arith in
        ap (λ x. get_or (c.outcomes' u) x 0) e ∙ number_at i 0 k (omega arith) ∙ outcome_at sheet (p u) (told u) _ i 0 k (omega arith)

    pub over-is : (i : ℕ) → i < session_count sheet → over_in bytes n c i u ≡ over sheet (p u) i (get_or (told u) i 0)
    over-is i k = number_at i 1 k (omega arith) ∙ outcome_at sheet (p u) (told u) _ i 1 k (omega arith)

    pub no_room-is : (i : ℕ) → i < session_count sheet → no_room_in bytes n c i u ≡ no_room sheet (p u) i (get_or (told u) i 0)
    no_room-is i k = number_at i 2 k (omega arith) ∙ outcome_at sheet (p u) (told u) _ i 2 k (omega arith)

    -- NOTES, counted by sessions
    pub sent_is : (i : ℕ) → sent_in bytes n c i u ≡ count (of_session i) (sent_at u)
    sent_is i =
        ap (noted_first bytes n c i u) count-is
        ∙ ap (λ (z : List ℕ). total (λ j. ind (eqb (get_or z (note_numbers * j + session_at) 0) (suc i))) (length (sent_at u))) notes_are
        ∙ noted-count i (sent_at u) notes_left

    -- and one by one
    module _ (j : ℕ) (x : Packet) (a : AtPlace (sent_at u) j x) where
      note-number : (r : ℕ) → r < 3 → get_or (c.notes' u) (note_numbers * j + r) 0 ≡ get_or (note_of x) r 0
      note-number r l = ap (λ (z : List ℕ). get_or z (note_numbers * j + r) 0) notes_are ∙ note-at (sent_at u) j x a notes_left r l

      pub first-is : (i : ℕ) → noted_first bytes n c i u j ≡ count (of_session i) a.before
      first-is i =
          ap (λ (z : List ℕ). total (λ m. ind (eqb (get_or z (note_numbers * m + session_at) 0) (suc i))) j) notes_are ∙ noted-before i (sent_at u) notes_left j x a

      pub session-is : note_session bytes n c u j ≡ x.owner
      session-is = note-number session_at (omega arith)

      pub packet-is : note_packet bytes n c u j ≡ x.number
      packet-is = note-number packet_at (omega arith)

      pub deadline-is : note_deadline bytes n c u j ≡ slots_of x.due
      deadline-is = note-number deadline_at (omega arith)

  -- THE SUMS
  module _ (i : ℕ) (k : i < session_count sheet) where
    pub taken_is : (u : ℕ) → u ≤ n → taken bytes n c i u ≡ total (got sheet told i) u
    taken_is u h = total_cong (took_in bytes n c i) (got sheet told i) u (λ v l. took-is v (omega arith) i k)

    pub went-is : (u : ℕ) → u ≤ n → went bytes n c i u ≡ count_all (of_session i) (p u).sent
    unfolding total past one_slot count_all
    went-is zero h = refl
    went-is (suc u) h = omega (arith, went-is u (omega arith), sent_is u h i, count_all_snoc (of_session i) (p u).sent (sent_at u))

    -- the deadline of a packet, by what the slots wrote
    pub due-is : (u q : ℕ) → u < n → due_in bytes n c i u q ≡ (new_packet sheet told i u q).due
    unfolding new_packet packet
    due-is u q h =
        deadline_cong (delay_of sheet i) (took_in bytes n c i) (got sheet told i) (taken bytes n c i u + q) (suc u) (λ j l. took-is j (omega arith) i k)
        ∙ ap (λ N. deadline (delay_of sheet i) (got sheet told i) (N + q) (suc u)) (taken_is u (omega arith))

  -- a note of the q-th packet of session i taken in slot u + 1
  pub note_is : (v j i u q : ℕ) → v < n → u < n → i < session_count sheet → 1 ≤ q → q ≤ got sheet told i u → AtPlace (sent_at v) j (new_packet sheet told i u q)
      → NoteOf bytes n c v j i (taken bytes n c i u + q) (due_in bytes n c i u q)
  unfolding new_packet packet delay_of
  note_is v j i u q h g k one most a =
      let x = new_packet sheet told i u q in
      let due : (new_packet sheet told i u q).due ≡ slot (slots_of (new_packet sheet told i u q).due) =
      due-slot sheet.period (session sheet i) ((made bytes n c).each i k) (got sheet told i) (total (got sheet told i) u + q) u (omega arith) in
      record {
        among = omega (arith, place-among (sent_at v) j x a, count-is v h);
        session-is = session-is v h j x a;
        packet-is = packet-is v h j x a ∙ ap (λ A. A + q) (sym (taken_is i k u (omega arith)));
        deadline-is = due-is i k u q g ∙ due ∙ ap slot (sym (deadline-is v h j x a));
      }

  -- BY NUMBER: a note of session i is of the packet after those of the session that are noted before it
  pub number_is : (v j i : ℕ) → v < n → i < session_count sheet → j < c.sent_count v → note_session bytes n c v j ≡ suc i → note_packet bytes n c v j ≡ suc (went bytes n c i v + noted_first bytes n c i v j)
  number_is v j i h k l o =
      let w = packet-at (sent_at v) j (omega (arith, count-is v h)) in
      let x = w.0 in
      let a = w.1 in
      omega (
        arith,
        packet-is v h j x a,
        by_number sheet told curves i v k a.before x a.others a.splits (sym (session-is v h j x a) ∙ o),
        went-is i k v (omega arith),
        first-is v h j x a i,
      )
