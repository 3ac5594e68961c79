-- DEMAND 3, as its reader sees it: what is kept at the end of slot t by a run on bytes that pass, over what the calls were told and what they wrote. Definitions alone.
use Rattle.std.specs.Prelude.{List, ◌⊎◌, ◌≡◌, ℕ, suc, ◌+◌, ◌-◌, ◌≤◌, ◌<◌, T}
use Rattle.curve.specs.Total.{total}
use Rattle.curve.specs.Delay.{Due, come}
use Rattle.sheet.specs.Sheet.{Sheet, session, session_count}
use Rattle.sheet.specs.Bytes.{sheet_of}
use Rattle.rules.specs.Deadline.{deadline, due_as}
use Rattle.rules.specs.Model.{envelope_of, service_of, delay_of, promised}
use Rattle.layout.specs.Sound.{most_slots}
use Rattle.kept.specs.Calls.{Calls, offered_in, took_in, over_in, no_room_in, note_session, note_packet, note_deadline, sent_in}

-- note j of slot v + 1 stands before note k of slot w + 1: in an earlier slot, or further up in the same
abbrev pub Earlier : ℕ → ℕ → ℕ → ℕ → Type 0
Earlier v j w k = (v < w) ⊎ ((v ≡ w) × (j < k))

module _ (bytes : List ℕ) (n : ℕ) (c : Calls bytes n) where
  abbrev sheet : Sheet
  sheet = sheet_of bytes

  -- packets of session i taken in during slots 1..t, as the slots wrote them: A(t)
  abbrev pub taken : ℕ → ℕ → ℕ
  taken i = total (took_in bytes n c i)

  -- packets of session i sent during slots 1..t, as the slots noted them
  abbrev pub went : ℕ → ℕ → ℕ
  went i = total (sent_in bytes n c i)

  -- the deadline of the q-th packet of session i taken in slot u + 1, by rule 3 of 01
  abbrev pub due_in : ℕ → ℕ → ℕ → Due
  due_in i u q = deadline (delay_of sheet i) (took_in bytes n c i) (taken i u + q) (suc u)

  -- note j of slot v + 1 is of packet N of session i, with its deadline
  pub record NoteOf (v j i N : ℕ) (due : Due) : Type 0 where
    pub among : j < c.sent_count v
    pub session-is : note_session bytes n c v j ≡ suc i
    pub packet-is : note_packet bytes n c v j ≡ N
    pub deadline-is : due ≡ due_as (note_deadline bytes n c v j)

  -- packet N of session i was sent in one of the slots 1..t, and noted there with its deadline
  pub record WasSent (i N : ℕ) (due : Due) (t : ℕ) : Type 0 where
    pub v : ℕ
    pub slot_is : v < t
    pub j : ℕ
    pub noted : NoteOf v j i N due

  -- note j of slot v + 1 is of a packet that was taken in in that slot or before it: the q-th of session i taken in slot u + 1
  pub record WasTaken (v j : ℕ) : Type 0 where
    pub i : ℕ
    pub session-is : i < session_count sheet
    pub u : ℕ
    pub slot_is : u ≤ v
    pub q : ℕ
    pub some : 1 ≤ q
    pub most : q ≤ took_in bytes n c i u
    pub noted : NoteOf v j i (taken i u + q) (due_in i u q)

  -- the offers to session i keep to its envelope up to slot t
  abbrev pub Conforms : ℕ → ℕ → Type 0
  Conforms i t = (s u : ℕ) → s ≤ u → u ≤ t → total (offered_in bytes n c i) u ≤ total (offered_in bytes n c i) s + envelope_of sheet i (u - s)

  pub record Kept (t : ℕ) : Type 0 where
    -- 1. every packet taken in whose deadline has come has been sent
    pub on_time : (i u q : ℕ) → i < session_count sheet → u < t → 1 ≤ q → q ≤ took_in bytes n c i u → T (come (due_in i u q) t) → WasSent i (taken i u + q) (due_in i u q) t
    -- 2. each session has been sent at least the least of A(s) + S(t-s) over s = 0..t
    pub served : (i : ℕ) → i < session_count sheet → promised (service_of sheet i) (taken i) t ≤ went i t
    -- 3. no stretch of slots took in more of a session than its envelope allows over its length
    pub within : (i s u : ℕ) → i < session_count sheet → s ≤ u → u ≤ t → taken i u ≤ taken i s + envelope_of sheet i (u - s)
    -- 4. a session whose offers stay within its envelope has none turned away over; and some for no room only where its room is full: those waiting at the end of the slot
    -- before, which are those taken in and not sent, and those taken in together make up the room
    pub conforming : (i : ℕ) → i < session_count sheet → Conforms i t → (u : ℕ) → u < t → over_in bytes n c i u ≡ 0
    pub no_room : (i u : ℕ) → i < session_count sheet → u < t → 1 ≤ no_room_in bytes n c i u → taken i u + took_in bytes n c i u ≡ (session sheet i).room + went i u
    -- 5. what is noted as sent are packets: each note is of one that was taken in, no packet is noted twice, and of two notes of a session the earlier has the lower packet
    pub was_taken : (v j : ℕ) → v < t → j < c.sent_count v → WasTaken v j
    pub once : (v j w k : ℕ) → v < t → w < t → j < c.sent_count v → k < c.sent_count w → note_session bytes n c v j ≡ note_session bytes n c w k → note_packet bytes n c v j ≡ note_packet bytes n c w k
        → (v ≡ w) × (j ≡ k)
    pub in_order : (v j w k : ℕ) → v < t → w < t → j < c.sent_count v → k < c.sent_count w → note_session bytes n c v j ≡ note_session bytes n c w k → Earlier v j w k
        → note_packet bytes n c v j < note_packet bytes n c w k

  -- DEMAND 3: at the end of each slot all of this is kept, and there are no more than a million slots
  pub record Demand3 : Type 0 where
    pub kept : (t : ℕ) → t ≤ n → Kept t
    pub most : n ≤ most_slots
