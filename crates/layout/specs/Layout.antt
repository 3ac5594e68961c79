-- Where each number of a run stands in its slice of 12,288: a head, and a block for each of sixteen sessions. Assumes nothing.
use Rattle.std.specs.Prelude.{List, ℕ, ◌+◌, ◌*◌, get_or, take, drop}
use Rattle.curve.specs.Curve.{Curve}

-- the run, its head, a session's block
abbrev pub run_numbers : ℕ
run_numbers = 12288

abbrev pub head_numbers : ℕ
head_numbers = 256

abbrev pub block_numbers : ℕ
block_numbers = 752

-- the head: the mark of an opened run, c, P, the number of sessions, the slots done
abbrev pub mark : ℕ
mark = 1396917572

abbrev pub mark_at : ℕ
mark_at = 0

abbrev pub capacity_at : ℕ
capacity_at = 1

abbrev pub period_at : ℕ
period_at = 2

abbrev pub count_at : ℕ
count_at = 3

abbrev pub done_at : ℕ
done_at = 4

-- a block: the tables' lengths, the room, the rates, how many packets were taken in and how many sent
abbrev pub service_length_at : ℕ
service_length_at = 0

abbrev pub envelope_length_at : ℕ
envelope_length_at = 1

abbrev pub room_at : ℕ
room_at = 2

abbrev pub service_rate_at : ℕ
service_rate_at = 3

abbrev pub envelope_rate_at : ℕ
envelope_rate_at = 4

abbrev pub taken_at : ℕ
taken_at = 5

abbrev pub sent_at : ℕ
sent_at = 6

-- then the tables of the service and the envelope, what lies ahead of each, and the deadlines
abbrev pub service_at : ℕ
service_at = 16

abbrev pub envelope_at : ℕ
envelope_at = 80

abbrev pub service_ahead_at : ℕ
service_ahead_at = 144

abbrev pub envelope_ahead_at : ℕ
envelope_ahead_at = 208

abbrev pub deadlines_at : ℕ
deadlines_at = 272

-- the deadline of packet N stands at (N-1) mod 256
abbrev pub ring : ℕ
ring = 256

-- where the block of session i begins
abbrev pub block_at : ℕ → ℕ
block_at i = head_numbers + i * block_numbers

-- w numbers from a place on
abbrev pub part : ℕ → ℕ → List ℕ → List ℕ
part a w l = take w (drop a l)

abbrev pub block : List ℕ → ℕ → List ℕ
block run i = part (block_at i) block_numbers run

-- the four curves of a block: each is a table and a rate. What lies ahead has the rate of its curve (the tail law)
abbrev pub service : List ℕ → Curve
service b = record { table = part service_at (get_or b service_length_at 0) b; rate = get_or b service_rate_at 0 }

abbrev pub envelope : List ℕ → Curve
envelope b = record { table = part envelope_at (get_or b envelope_length_at 0) b; rate = get_or b envelope_rate_at 0 }

abbrev pub service_ahead : List ℕ → Curve
service_ahead b = record { table = part service_ahead_at (get_or b service_length_at 0) b; rate = get_or b service_rate_at 0 }

abbrev pub envelope_ahead : List ℕ → Curve
envelope_ahead b = record { table = part envelope_ahead_at (get_or b envelope_length_at 0) b; rate = get_or b envelope_rate_at 0 }
