-- Which session a place of the sheet's bytes belongs to: the last that starts at or before it, of at most sixteen. Assumes nothing.
use Rattle.std.specs.Prelude.{◌≡◌, List, ℕ, suc, ◌+◌, ◌*◌, ◌≤◌, ◌<◌, drop}
use Rattle.std.proofs.Common.{sym, ap, ◌∙◌, arith, get_or-drop}
use Rattle.words.specs.Words.{byte_at}
use Rattle.sheet.specs.Limits.{head_bytes, fixed_bytes, most_sessions}
use Rattle.sheet.specs.Bytes.{record_bytes}
use Rattle.sheet.specs.Starts.{start_of}
use Rattle.sheet.proofs.StartsLaws.{start-zero, start-suc}
use Rattle.reasons.specs.declared.spot.Spot.{Spot}

-- the session of an index, which starts no later than the place
pub record Reached (bytes : List ℕ) (place index start : ℕ) : Type 0 where
  pub one : index < most_sessions
  pub start_is : start ≡ start_of bytes index
  pub from : head_bytes ≤ place → start ≤ place
  -- a start is a small number
  pub near : start ≤ head_bytes + 1027 * index

-- and the next one starts later
pub record Holds (bytes : List ℕ) (place : ℕ) (s : Spot) : Type 0 where
  pub reached : Reached bytes place s.index s.start
  pub to : s.index + 1 < most_sessions → place < start_of bytes (s.index + 1)

-- a session's bytes, by the two lengths that stand at its start
pub record_is : (bytes : List ℕ) (start a b : ℕ) → a ≡ byte_at bytes start → b ≡ byte_at bytes (start + 1) → fixed_bytes + 2 * a + 2 * b ≡ record_bytes (drop start bytes)
record_is bytes start a b e f =
    let z : start + 0 ≡ start = omega arith in
    let first : byte_at (drop start bytes) 0 ≡ a = get_or-drop start bytes 0 0 ∙ ap (byte_at bytes) z ∙ sym e in
    let second : byte_at (drop start bytes) 1 ≡ b = get_or-drop start bytes 1 0 ∙ sym f in
    omega (arith, first, second)

pub reached-first : (bytes : List ℕ) (place : ℕ) → Reached bytes place 0 head_bytes
reached-first bytes place = record { one = omega arith; start_is = sym (start-zero bytes); from = λ h. h; near = omega arith }

-- where the session after one that is reached starts
pub next_start : {bytes : List ℕ} {place index start size : ℕ} → Reached bytes place index start → size ≡ record_bytes (drop start bytes) → start + size ≡ start_of bytes (index + 1)
next_start {bytes} {place} {index} {start} {size} r e =
    let z : index + 1 ≡ suc index = omega arith in
    rw (z, start-suc bytes index, ← r.start_is) (ap (λ n. start + n) e)

pub reached-next : {bytes : List ℕ} {place index start size : ℕ} → Reached bytes place index start → index + 1 < most_sessions → size ≡ record_bytes (drop start bytes) → size ≤ 1027 → start + size ≤ place → Reached bytes place (index + 1) (start + size)
reached-next r h e few far = record { one = h; start_is = next_start r e; from = λ _. far; near = omega (arith, r.near) }
