-- What becomes of the offers of a session: each is taken in, over, or without room, and each packet taken in was sent or waits. Assumes nothing.
use Rattle.std.specs.Prelude.{◌≡◌, ◌⊎◌, ◌≢◌, Bool, true, false, ◌&&◌, List, length}
use Rattle.std.proofs.Math.Path.{refl, ap}
use Rattle.std.proofs.Common.{◌∙◌, inl, inr}
use Prim.Native.Nat.{ℕ, zero, suc, ◌+◌, ◌-◌, ◌≤◌, ◌<◌}
use native.Mathlib.Omega.{arith}
use borrow.Author.Tests.{eq-eqb, ne_eqb}
use Rattle.curve.proofs.OrderLaws.{le_suc_cases}
use Rattle.curve.proofs.LeastLaws.{le-least}
use Rattle.curve.specs.Total.{total}
use Rattle.curve.proofs.TotalLaws.{total_cong, le_total, total_only}
use Rattle.sheet.specs.Sheet.{Sheet, session, session_count}
use Rattle.rules.specs.Count.{ind, count, count_all, count_to}
use Rattle.rules.proofs.CountLaws.{count-all, count_to-all, count_to-none, count_to_cong}
use Rattle.rules.specs.Model.{Packet, envelope_of, of_session, waiting_of, headroom, over, takes, no_room, RoomFull, packet, past, offered}
use Rattle.rules.proofs.Facts.{got, new_packet, new, headroom-got, got-eq, conserved, all-conserved}

module _ (sheet : Sheet) (told : ℕ → List ℕ) where
  -- a new packet is of its session and of no other
  own : (i u q : ℕ) → of_session i (new_packet sheet told i u q) ≡ true
  unfolding new_packet packet of_session
  own i u q = eq-eqb (suc i) (suc i) refl

  other : (i u k q : ℕ) → k ≢ i → of_session i (new_packet sheet told k u q) ≡ false
  unfolding new_packet packet of_session
  other i u k q n = ne_eqb (suc k) (suc i) (λ e. n (omega arith))

  -- so of a test that no other session's packets pass, those of session i alone count
  new_only : (p : Packet → Bool) (i u : ℕ) → i < session_count sheet → ((k q : ℕ) → k ≢ i → p (new_packet sheet told k u q) ≡ false)
      → new sheet told p u ≡ count_to (λ q. p (new_packet sheet told i u q)) (got sheet told i u)
  unfolding new ind
  new_only p i u h none =
      omega (
        arith,
        total_only f (session_count sheet) i (λ k l n. count_to-none (λ q. p (new_packet sheet told k u q)) (got sheet told k u) (λ q. ap ind (none k q n))),
        le_total f (session_count sheet) i h,
      )
    where
      f : ℕ → ℕ
      f k = count_to (λ q. p (new_packet sheet told k u q)) (got sheet told k u)

  pub new-own : (i u : ℕ) → i < session_count sheet → new sheet told (of_session i) u ≡ got sheet told i u
  new-own i u h =
      new_only (of_session i) i u h (λ k q n. other i u k q n)
      ∙ count_to-all (λ q. of_session i (new_packet sheet told i u q)) (got sheet told i u) (own i u)

  pub new_of : (r : Packet → Bool) (i u : ℕ) → i < session_count sheet
      → new sheet told (λ x. of_session i x && r x) u ≡ count_to (λ q. r (new_packet sheet told i u q)) (got sheet told i u)
  new_of r i u h =
      new_only (λ x. of_session i x && r x) i u h (λ k q n. ap (λ b. b && r (new_packet sheet told k u q)) (other i u k q n))
      ∙ count_to_cong (λ q. of_session i (new_packet sheet told i u q) && r (new_packet sheet told i u q)) (λ q. r (new_packet sheet told i u q)) (got sheet told i u)
      (λ q k l. ap (λ b. b && r (new_packet sheet told i u q)) (own i u q))

  pub new-all : (u : ℕ) → new sheet told (λ x. true) u ≡ total (λ i. got sheet told i u) (session_count sheet)
  unfolding new
  new-all u = total_cong _ _ (session_count sheet) (λ i h. count_to-all (λ q. true) (got sheet told i u) (λ q. refl))

  -- TAKEN IN = sent + waiting, of a session and of all
  pub taken-split : (i t : ℕ) → i < session_count sheet
      → total (got sheet told i) t ≡ count_all (of_session i) (past sheet told t).sent + waiting_of (past sheet told t) i
  unfolding waiting_of
  taken-split i t h =
      omega (
        arith,
        all-conserved sheet told (of_session i) t,
        total_cong (new sheet told (of_session i)) (got sheet told i) t (λ u l. new-own i u h),
      )

  pub all_split : (t : ℕ)
      → total (λ u. total (λ i. got sheet told i u) (session_count sheet)) t
      ≡ count_all (λ x. true) (past sheet told t).sent + length (past sheet told t).waiting
  all_split t =
      omega (
        arith,
        all-conserved sheet told (λ x. true) t,
        count-all (past sheet told t).waiting,
        total_cong (new sheet told (λ x. true)) (λ u. total (λ i. got sheet told i u) (session_count sheet)) t (λ u l. new-all u),
      )

  -- what a session has waiting is no more than its room
  pub in_room : (i t : ℕ) → i < session_count sheet → waiting_of (past sheet told t) i ≤ (session sheet i).room
  unfolding past waiting_of count
  in_room i zero h = omega arith
  in_room i (suc t) h = omega (arith, in_room i t h, conserved sheet told (of_session i) t, new-own i t h, got-eq sheet told t i h)

  -- NO ROOM only when the room is full: those waiting at the end of slot t and those taken in slot t + 1 together make up the room
  pub full : (i t : ℕ) → i < session_count sheet → 0 < no_room sheet (past sheet told t) i (offered told i t)
      → RoomFull sheet (past sheet told t) i (offered told i t)
  unfolding no_room takes
  full i t h k = omega (arith, in_room i t h)

  -- CONFORMING OFFERS are never turned away over
  less-taken : (i s t : ℕ) → s ≤ t → total (got sheet told i) t + total (offered told i) s ≤ total (got sheet told i) s + total (offered told i) t
  unfolding total got takes
  less-taken i s zero l =
      let e : s ≡ 0 = omega arith in
      rw e (omega arith)
  less-taken i s (suc t) l = go (le_suc_cases s t l) (less-taken i s t)
    where
      go : (s ≤ t) ⊎ (s ≡ suc t)
          → (s ≤ t → total (got sheet told i) t + total (offered told i) s ≤ total (got sheet told i) s + total (offered told i) t)
          → total (got sheet told i) (suc t) + total (offered told i) s ≤ total (got sheet told i) s + total (offered told i) (suc t)
      go (inl k) ih = omega (arith, ih k)
      go (inr e) ih = rw e (omega arith)

  pub none_over : (i t : ℕ) → i < session_count sheet
      → ((s : ℕ) → s ≤ suc t → total (offered told i) (suc t) ≤ total (offered told i) s + envelope_of sheet i (suc t - s))
      → over sheet (past sheet told t) i (offered told i t) ≡ 0
  unfolding over headroom total
  none_over i t h conform =
      omega (
        arith,
        headroom-got sheet told t i h,
        le-least (λ s. total (got sheet told i) s + envelope_of sheet i (suc t - s) - total (got sheet told i) t) t (offered told i t)
            (λ s l. omega (arith, less-taken i s t l, conform s (omega arith))),
      )
