-- The numbers of a run as a list, written from its parts: what every number of the slice is, with nothing left open. Assumes nothing.
use Rattle.std.specs.Prelude.{List, [], ◌∷◌, ℕ, zero, suc, ◌≤◌, length, replicate}
use Rattle.sheet.specs.Limits.{longest_table}
use Rattle.sheet.specs.Sheet.{Session, Sheet, session, session_count}
use Rattle.layout.specs.Layout.{run_numbers, block_numbers, mark, service_at, envelope_at, service_ahead_at, envelope_ahead_at, deadlines_at, ring, block_at}
use Rattle.layout.specs.Over.{over}

-- what changes in a session's block from slot to slot: the packets taken in and sent, what lies ahead of both curves, the deadlines
pub record Moving : Type 0 where
  pub taken : ℕ
  pub sent : ℕ
  pub service-ahead : List ℕ
  pub envelope-ahead : List ℕ
  pub deadlines : List ℕ

-- a session's numbers but its tables, in the order of the layout
abbrev pub fields_of : Session → Moving → List ℕ
fields_of s m = length s.service.table ∷ length s.envelope.table ∷ s.room ∷ s.service.rate ∷ s.envelope.rate ∷ m.taken ∷ m.sent ∷ []

-- two tables, each in its own place and in that of what lies ahead
unfoldable pub tables_over : List ℕ → List ℕ → List ℕ → List ℕ
tables_over l S b = over (over (over (over l service_at S) envelope_at b) service_ahead_at S) envelope_ahead_at b

-- zeros, and its numbers and tables written over them
unfoldable pub block_of : Session → Moving → List ℕ
block_of s m =
    over
    (over
    (over (over (over (over (replicate block_numbers 0) 0 (fields_of s m)) service_at s.service.table) envelope_at s.envelope.table) service_ahead_at m.service-ahead)
    envelope_ahead_at
    m.envelope-ahead)
    deadlines_at
    m.deadlines

-- a session's tables are no longer than their places
pub record ShortTables (s : Session) : Type 0 where
  pub service : length s.service.table ≤ longest_table
  pub envelope : length s.envelope.table ≤ longest_table

-- the head's numbers
abbrev pub head_of : Sheet → ℕ → List ℕ
head_of sheet done = mark ∷ sheet.capacity ∷ sheet.period ∷ session_count sheet ∷ done ∷ []

-- the blocks of the first k sessions written over a list
unfoldable pub blocks_over : List ℕ → Sheet → (ℕ → Moving) → ℕ → List ℕ
blocks_over l sheet m zero = l
blocks_over l sheet m (suc k) = over (blocks_over l sheet m k) (block_at k) (block_of (session sheet k) (m k))

-- RUN: zeros, the head, and a block for each session
unfoldable pub run_of : Sheet → ℕ → (ℕ → Moving) → List ℕ
run_of sheet done m = blocks_over (over (replicate run_numbers 0) 0 (head_of sheet done)) sheet m (session_count sheet)

-- before slot 1: nothing taken in, and what lies ahead is the curves themselves
abbrev pub fresh : Session → Moving
fresh s = record { taken = 0; sent = 0; service-ahead = s.service.table; envelope-ahead = s.envelope.table; deadlines = replicate ring 0 }

unfoldable pub opened_run : Sheet → List ℕ
opened_run sheet = run_of sheet 0 (λ i. fresh (session sheet i))
