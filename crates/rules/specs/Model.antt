-- One slot as document 01 has it, rule by rule and in its order, over a sheet and the whole past: nothing of an older slot is forgotten. The rules are
-- definitions that compute, and proofs/ModelLaws.antt runs 01's examples on them: a wrong rule shows there as another run. Assumes nothing.
--
-- Sessions are indexed from 0 here; a packet carries its session as 01 counts it, from 1. What happened in slot u + 1 stands at index u of a list.
use Rattle.std.specs.Prelude.{◌≡◌, Bool, true, false, List, [], ◌∷◌, ◌++◌, leb, eqb, length, get_or}
use Prim.Native.Nat.{ℕ, zero, suc, ◌+◌, ◌-◌, min, compare, Ordering}
use Rattle.curve.specs.Least.{least}
use Rattle.curve.specs.Total.{total}
use Rattle.curve.specs.Curve.{Curve, at}
use Rattle.curve.specs.Delay.{Due, slot, never, delay}
use Rattle.sheet.specs.Sheet.{Sheet, session, session_count}
use Rattle.rules.specs.Steps.{steps}
use Rattle.rules.specs.Count.{count}
use Rattle.rules.specs.Pick.{send}
use Rattle.rules.specs.Deadline.{deadline}

-- a packet that was taken in: its session from 1, its number in the session from 1, its deadline
pub record Packet : Type 0 where
  pub owner : ℕ
  pub number : ℕ
  pub due : Due

-- what happened up to now: how many packets each session had taken in, slot by slot; the packets that wait; those that were sent, slot by slot
pub record Past : Type 0 where
  pub taken : List (List ℕ)
  pub waiting : List Packet
  pub sent : List (List Packet)

-- a session's two curves, as functions of slots
unfoldable pub envelope_of : Sheet → ℕ → ℕ → ℕ
envelope_of sheet i = at sheet.period (session sheet i).envelope

unfoldable pub service_of : Sheet → ℕ → ℕ → ℕ
service_of sheet i = at sheet.period (session sheet i).service

-- its D(q)
unfoldable pub delay_of : Sheet → ℕ → ℕ → Due
delay_of sheet i = delay sheet.period (session sheet i).service

-- packets of session i taken in during slot u + 1. A(t), those taken in during slots 1..t, is `total (took taken i) t`
unfoldable pub took : List (List ℕ) → ℕ → ℕ → ℕ
took taken i u = get_or (get_or taken u []) i 0

-- packets of session i that wait
unfoldable pub of_session : ℕ → Packet → Bool
of_session i x = eqb x.owner (suc i)

unfoldable pub waiting_of : Past → ℕ → ℕ
waiting_of p i = count (of_session i) p.waiting

-- 1. Headroom in slot u + 1: the least of A(s) + b(u+1-s) - A(u) over s = 0..u. Offers above it are turned away "over"
unfoldable pub headroom : (ℕ → ℕ) → (ℕ → ℕ) → ℕ → ℕ
headroom b a u = least (λ s. total a s + b (suc u - s) - total a u) u

unfoldable pub headroom_of : Sheet → Past → ℕ → ℕ
headroom_of sheet p i = headroom (envelope_of sheet i) (took p.taken i) (length p.taken)

unfoldable pub over : Sheet → Past → ℕ → ℕ → ℕ
over sheet p i offered = offered - headroom_of sheet p i

-- 2. Of those left, no more are taken than room minus the session's packets waiting at the end of the slot before. The rest are turned away "no room"
unfoldable pub takes : Sheet → Past → ℕ → ℕ → ℕ
takes sheet p i offered = min (offered - over sheet p i offered) ((session sheet i).room - waiting_of p i)

unfoldable pub no_room : Sheet → Past → ℕ → ℕ → ℕ
no_room sheet p i offered = offered - over sheet p i offered - takes sheet p i offered

-- a room is full when those waiting at the end of the slot before and those taken in together make up the room, before any is sent
abbrev pub RoomFull : Sheet → Past → ℕ → ℕ → Type 0
RoomFull sheet p i offered = waiting_of p i + takes sheet p i offered ≡ (session sheet i).room

-- f 0, .., f (n-1)
unfoldable pub listed : (ℕ → ℕ) → ℕ → List ℕ
listed f zero = []
listed f (suc n) = f 0 ∷ listed (λ i. f (suc i)) n

-- f 1, .., f n
unfoldable pub up_to : {X : Type 0} → (ℕ → X) → ℕ → List X
up_to f zero = []
up_to f (suc n) = up_to f n ++ (f (suc n) ∷ [])

-- f 0 ++ .. ++ f (n-1)
unfoldable pub joined : {X : Type 0} → (ℕ → List X) → ℕ → List X
joined f zero = []
joined f (suc n) = joined f n ++ f n

-- what each session has taken in, this slot included
unfoldable pub taken_in : Sheet → Past → List ℕ → List (List ℕ)
taken_in sheet p offers = p.taken ++ (listed (λ i. takes sheet p i (get_or offers i 0)) (session_count sheet) ∷ [])

-- 3. The q-th packet of session i taken in during slot u + 1, with its deadline: the largest of k - 1 + D(q + A(u) - A(k-1)) over all slots k ≤ u + 1 in
-- which the session had packets taken in. There is no reset
unfoldable pub packet : Sheet → (ℕ → ℕ) → ℕ → ℕ → ℕ → Packet
packet sheet a u i q = record { owner = suc i; number = total a u + q; due = deadline (delay_of sheet i) a (total a u + q) (suc u) }

-- all packets taken in during slot u + 1
unfoldable pub arrivals : Sheet → (ℕ → ℕ → ℕ) → ℕ → List Packet
arrivals sheet a u = joined (λ i. up_to (packet sheet (a i) u i) (a i u)) (session_count sheet)

-- least deadline first, ties to the lower session, then the lower packet
unfoldable pub then_by : Ordering → Bool → Bool
then_by Ordering.lt b = true
then_by Ordering.eq b = b
then_by Ordering.gt b = false

unfoldable pub compare_due : Due → Due → Ordering
compare_due (slot d) (slot e) = compare d e
compare_due (slot d) never = Ordering.lt
compare_due never (slot e) = Ordering.gt
compare_due never never = Ordering.eq

unfoldable pub tie : Packet → Packet → Bool
tie x y = then_by (compare x.owner y.owner) (leb x.number y.number)

unfoldable pub first : Packet → Packet → Bool
first x y = then_by (compare_due x.due y.due) (tie x y)

-- 4. Of all waiting packets, the new ones included, up to c are sent: those sent, in sending order, and those left
unfoldable pub sends : Sheet → Past → List ℕ → List Packet × List Packet
sends sheet p offers = send first sheet.capacity (p.waiting ++ arrivals sheet (took (taken_in sheet p offers)) (length p.taken))

-- the four rules together
unfoldable pub one_slot : Sheet → Past → List ℕ → Past
one_slot sheet p offers =
    let r = sends sheet p offers in
    record { taken = taken_in sheet p offers; waiting = r.1; sent = p.sent ++ (r.0 ∷ []) }

-- before slot 1, with nothing taken in
abbrev pub opened : Past
opened = record { taken = []; waiting = []; sent = [] }

-- the past after t slots, where slot u + 1 is told `told u`: its offers
unfoldable pub past : Sheet → (ℕ → List ℕ) → ℕ → Past
past sheet told zero = opened
past sheet told (suc t) = one_slot sheet (past sheet told t) (told t)

-- what slot u + 1 offers to session i
abbrev pub offered : (ℕ → List ℕ) → ℕ → ℕ → ℕ
offered told i u = get_or (told u) i 0

-- 01's run: the past after a history of offers, the oldest slot first
unfoldable pub after : Sheet → List (List ℕ) → Past
after sheet history = steps (one_slot sheet) opened history

-- A(s) of session i in a past
unfoldable pub taken_by : Past → ℕ → ℕ → ℕ
taken_by p i s = total (took p.taken i) s

-- What S promises by the end of slot t: the least of A(s) + S(t-s) over s = 0..t
unfoldable pub promised : (ℕ → ℕ) → (ℕ → ℕ) → ℕ → ℕ
promised S A t = least (λ s. A s + S (t - s)) t

-- 01's examples. A packet by its session, its number and its deadline
abbrev pack : ℕ → ℕ → ℕ → Packet
pack owner number due = record { owner = owner; number = number; due = slot due }

abbrev pub service : Curve
service = record { table = 1 ∷ []; rate = 1 }

abbrev pub envelope : Curve
envelope = record { table = 3 ∷ []; rate = 1 }

-- the sheet of K1 and K2
abbrev pub K2 : Sheet
K2 = record { capacity = 1; period = 1; sessions = record { service = service; envelope = envelope; room = 4 } ∷ [] }

-- the sheet of K3 and K12
abbrev pub K3 : Sheet
K3 =
    record {
      capacity = 1;
      period = 2;
      sessions =
          record { service = record { table = 0 ∷ 1 ∷ []; rate = 1 }; envelope = record { table = 2 ∷ 2 ∷ []; rate = 1 }; room = 4 }
          ∷ record { service = record { table = 1 ∷ 1 ∷ []; rate = 1 }; envelope = record { table = 2 ∷ 2 ∷ []; rate = 1 }; room = 4 }
          ∷ [];
    }

-- two sessions whose packets are due in one slot
abbrev pair : Sheet
pair =
    record {
      capacity = 2;
      period = 1;
      sessions = record { service = service; envelope = envelope; room = 4 } ∷ record { service = service; envelope = envelope; room = 4 } ∷ [];
    }

-- a room that is soon full
abbrev narrow : Sheet
narrow = record { capacity = 1; period = 1; sessions = record { service = service; envelope = envelope; room = 2 } ∷ [] }

pub record Runs : Type 0 where
  -- K2: slot 1 takes 3 and slot 2 takes 1, with deadlines 1, 2, 3, 4
  pub k2 : after K2 ((3 ∷ []) ∷ (3 ∷ []) ∷ [])
      ≡ record {
        taken = (3 ∷ []) ∷ (1 ∷ []) ∷ [];
        waiting = pack 1 3 3 ∷ pack 1 4 4 ∷ [];
        sent = (pack 1 1 1 ∷ []) ∷ (pack 1 2 2 ∷ []) ∷ [];
      }
  -- of the 3 offered in slot 2, 2 are over and none is without room
  pub k2-over : over K2 (after K2 ((3 ∷ []) ∷ [])) 0 3 ≡ 2
  pub k2-room : no_room K2 (after K2 ((3 ∷ []) ∷ [])) 0 3 ≡ 0
  -- K12: the run that 01 prints; all that was taken in is sent
  pub k12 : after K3 ((2 ∷ 2 ∷ []) ∷ (0 ∷ 0 ∷ []) ∷ (0 ∷ 0 ∷ []) ∷ (0 ∷ 0 ∷ []) ∷ [])
      ≡ record {
        taken = (2 ∷ 2 ∷ []) ∷ (0 ∷ 0 ∷ []) ∷ (0 ∷ 0 ∷ []) ∷ (0 ∷ 0 ∷ []) ∷ [];
        waiting = [];
        sent = (pack 2 1 1 ∷ []) ∷ (pack 1 1 2 ∷ []) ∷ (pack 2 2 3 ∷ []) ∷ (pack 1 2 4 ∷ []) ∷ [];
      }
  -- of equal deadlines the lower session goes first
  pub tied : (after pair ((1 ∷ 1 ∷ []) ∷ [])).sent ≡ ((pack 1 1 1 ∷ pack 2 1 1 ∷ []) ∷ [])
  -- with 1 waiting in a room of 2, of 3 offered 1 is over, 1 is taken in and 1 finds no room
  pub crowded : no_room narrow (after narrow ((3 ∷ []) ∷ [])) 0 3 ≡ 1
