-- The limits that document 01 sets to a sheet's numbers, each named once. Assumes nothing.
use Rattle.std.specs.Prelude.{ℕ}

-- the version byte
abbrev pub version : ℕ
version = 1

-- c, P and M are at least 1 and at most these
abbrev pub most_capacity : ℕ
most_capacity = 64

abbrev pub longest_period : ℕ
longest_period = 16

abbrev pub most_sessions : ℕ
most_sessions = 16

-- table lengths lie in P..64, values in 0..500
abbrev pub longest_table : ℕ
longest_table = 64

abbrev pub largest_value : ℕ
largest_value = 500

-- service rates lie in 1..256, envelope rates in 0..256, rooms in 1..256
abbrev pub largest_rate : ℕ
largest_rate = 256

abbrev pub largest_room : ℕ
largest_room = 256

-- the bytes before the first session, and a session's bytes before its tables
abbrev pub head_bytes : ℕ
head_bytes = 8

abbrev pub fixed_bytes : ℕ
fixed_bytes = 7

-- the bytes of the length itself, and the most that may follow it
abbrev pub length_bytes : ℕ
length_bytes = 4

abbrev pub most_following : ℕ
most_following = 4212

abbrev pub longest_sheet : ℕ
longest_sheet = 4216
