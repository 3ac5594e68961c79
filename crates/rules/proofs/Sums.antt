-- A slot's sums over all sessions: how many packets wait, how many are sent and how many are left. What the tally adds up. Assumes nothing.
use Rattle.std.specs.Prelude.{◌≡◌, refl, ◌⊎◌, true, ℕ, suc, ◌+◌, ◌≤◌, ◌<◌, min, length}
use Rattle.std.proofs.Math.Path.{ap}
use Rattle.std.proofs.Common.{inl, inr}
use mathlib.Core.List.{List, [], ◌∷◌, Memᴰ}
use native.Mathlib.Omega.{arith}
use Rattle.curve.specs.Total.{total}
use Rattle.curve.proofs.TotalLaws.{total-add, total-none, le_total, total_only}
use Rattle.sheet.specs.Sheet.{Sheet, session_count}
use Rattle.rules.specs.Count.{ind, count}
use Rattle.rules.proofs.CountLaws.{count-all}
use Rattle.rules.specs.Model.{Packet, of_session, waiting_of, takes, packet, sends, one_slot, past, offered}
use Rattle.rules.proofs.Facts.{got, new_packet, conserved}
use Rattle.rules.proofs.ArrivedLaws.{waiting-arrived}
use Rattle.rules.proofs.Intake.{new-all}
use Rattle.rules.proofs.Laws.{sent-most, none_held}
use Rattle.rules.proofs.TurnLaws.{own-test, other_test}

-- a packet of one of the first m sessions
abbrev Owned : ℕ → Packet → Type 0
Owned m x = (i : ℕ) × (i < m) × (x.owner ≡ suc i)

-- it is counted for one session, and for no other
one-owner : (m : ℕ) (x : Packet) → Owned m x → total (λ i. ind (of_session i x)) m ≡ 1
unfolding ind
one-owner m x (i, h, o) =
    let one : ind (of_session i x) ≡ 1 = ap ind (own-test i x o) in
    omega (
      arith,
      one,
      le_total (λ k. ind (of_session k x)) m i h,
      total_only (λ k. ind (of_session k x)) m i (λ k l n. ap ind (other_test k x (λ p. n (omega arith)))),
    )

by-session : (m : ℕ) (l : List Packet) → ((x : Packet) → Memᴰ x l → Owned m x) → total (λ i. count (of_session i) l) m ≡ length l
unfolding count
by-session m [] h = total-none (λ i. 0) m (λ i l. refl)
by-session m (x ∷ l) h =
    omega (
      arith,
      total-add (λ i. ind (of_session i x)) (λ i. count (of_session i) l) m,
      one-owner m x (h x (Memᴰ.head refl)),
      by-session m l (λ y k. h y (Memᴰ.tail k)),
    )

module _ (sheet : Sheet) (told : ℕ → List ℕ) (t : ℕ) where
  -- what waits at the end of slot t, by sessions
  pub waiting-total : total (waiting_of (past sheet told t)) (session_count sheet) ≡ length (past sheet told t).waiting
  unfolding waiting_of new_packet packet
  waiting-total =
      by-session (session_count sheet) (past sheet told t).waiting
      (λ x m.
      let a = waiting-arrived sheet told t x m in
      (a.new.i, a.new.session, ap (λ z. z.owner) a.new.is))

  -- packets taken in during slot t + 1
  abbrev pub taken_now : ℕ
  taken_now = total (λ i. takes sheet (past sheet told t) i (offered told i t)) (session_count sheet)

  -- what waited and what is new is sent or left
  pub sends-split : length (sends sheet (past sheet told t) (told t)).0 + length (sends sheet (past sheet told t) (told t)).1 ≡ length (past sheet told t).waiting + taken_now
  unfolding past one_slot got
  sends-split =
      omega (
        arith,
        conserved sheet told (λ x. true) t,
        new-all sheet told t,
        count-all (sends sheet (past sheet told t) (told t)).0,
        count-all (sends sheet (past sheet told t) (told t)).1,
        count-all (past sheet told t).waiting,
      )

  -- of all waiting packets, the new ones included, up to c are sent
  pub sends-count : length (sends sheet (past sheet told t) (told t)).0 ≡ min sheet.capacity (length (past sheet told t).waiting + taken_now)
  sends-count = go (none_held sheet (past sheet told t) (told t)) sends-split (sent-most sheet (past sheet told t) (told t))
    where
      s : ℕ
      s = length (sends sheet (past sheet told t) (told t)).0

      l : ℕ
      l = length (sends sheet (past sheet told t) (told t)).1

      w : ℕ
      w = length (past sheet told t).waiting + taken_now

      go : (l ≡ 0) ⊎ (s ≡ sheet.capacity) → s + l ≡ w → s ≤ sheet.capacity → s ≡ min sheet.capacity w
      go (inl e) p q = omega arith
      go (inr e) p q = omega arith
