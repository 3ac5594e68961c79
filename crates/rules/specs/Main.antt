-- What is kept at the end of every slot of a run: what THE MAIN THEOREM says of a sheet that passes. Assumes nothing.
use Rattle.std.specs.Prelude.{◌≡◌, false, ℕ, ◌+◌, ◌-◌, ◌≤◌, ◌<◌}
use mathlib.Core.List.{List, Memᴰ}
use Rattle.curve.specs.Total.{total}
use Rattle.curve.specs.Delay.{come}
use Rattle.sheet.specs.Sheet.{Sheet, session_count}
use Rattle.rules.specs.Count.{count_all}
use Rattle.rules.specs.Model.{Packet, Past, envelope_of, service_of, of_session, over, no_room, RoomFull, offered, taken_by, promised}

-- what is kept at the end of slot t, in a run whose past at the end of slot u is p u and whose slot u + 1 is offered `offers u`
pub record Kept (sheet : Sheet) (offers : ℕ → List ℕ) (p : ℕ → Past) (t : ℕ) : Type 0 where
  -- no waiting packet has a deadline that has come
  pub no_late : (x : Packet) → Memᴰ x (p t).waiting → come x.due t ≡ false
  -- each session was sent at least what S promises
  pub served : (i : ℕ) → i < session_count sheet → promised (service_of sheet i) (taken_by (p t) i) t ≤ count_all (of_session i) (p t).sent
  -- what is taken in keeps to the envelope
  pub within : (i s u : ℕ) → i < session_count sheet → s ≤ u → u ≤ t → taken_by (p t) i u ≤ taken_by (p t) i s + envelope_of sheet i (u - s)
  -- a session whose offers keep to its envelope has none turned away over
  pub conforming : (i : ℕ) → i < session_count sheet
      → ((s u : ℕ) → s ≤ u → u ≤ t → total (offered offers i) u ≤ total (offered offers i) s + envelope_of sheet i (u - s))
      → (u : ℕ) → u < t → over sheet (p u) i (offered offers i u) ≡ 0
  -- packets are turned away for want of room only where the room is full
  pub no_room : (i u : ℕ) → i < session_count sheet → u < t → 0 < no_room sheet (p u) i (offered offers i u) → RoomFull sheet (p u) i (offered offers i u)
