-- A packet by its number: the number fixes the packet, with its slot and its deadline; up to those sent it was sent, after them it waits. Assumes nothing.
use Rattle.std.specs.Prelude.{◌≡◌, ◌⊎◌, true, false}
use Rattle.std.proofs.Common.{sym, ◌∙◌, inl, inr}
use Rattle.std.proofs.Math.Path.{ap}
use mathlib.Core.List.Memᴰ
use mathlib.Core.List.{List, [], ◌∷◌, Memᴰ}
use Prim.Native.Nat.{ℕ, zero, suc, ◌+◌, ◌-◌, ◌≤◌, ◌<◌}
use native.Mathlib.Omega.{arith}
use Rattle.curve.proofs.OrderLaws.{le_or_lt}
use Rattle.curve.specs.Total.{total}
use Rattle.curve.proofs.TotalLaws.{total-suc, total_mono}
use Rattle.sheet.specs.Sheet.{Sheet, session_count}
use Rattle.rules.specs.Count.{count_all}
use Rattle.rules.proofs.CountLaws.{not_both, count-differs, count_all-differs}
use Rattle.rules.specs.Model.{Packet, of_session, packet, sends, one_slot, past}
use Rattle.rules.specs.Curves.{Curves}
use Rattle.rules.proofs.Facts.{got, new_packet}
use Rattle.rules.proofs.ArrivedLaws.{Arrived, waiting-arrived, sent-arrived}
use Rattle.rules.specs.Turn.{up_to_number}
use Rattle.rules.proofs.TurnLaws.{own-up_to, up_to-is, counted, sent-numbers}

module _ (sheet : Sheet) (told : ℕ → List ℕ) where
  -- packets that were sent were sent in one of the slots
  pub sent-slot : (t : ℕ) (l : List Packet) → Memᴰ l (past sheet told t).sent → (v : ℕ) × (v < t) × (l ≡ (sends sheet (past sheet told v) (told v)).0)
  unfolding past one_slot
  sent-slot zero l m = absurd (Memᴰ.not-nil m)
  sent-slot (suc t) l m = go (sent-slot t l) (Memᴰ.append_cases (past sheet told t).sent m)
    where
      go : (Memᴰ l (past sheet told t).sent → (v : ℕ) × (v < t) × (l ≡ (sends sheet (past sheet told v) (told v)).0))
          → Memᴰ l (past sheet told t).sent ⊎ Memᴰ l ((sends sheet (past sheet told t) (told t)).0 ∷ [])
          → (v : ℕ) × (v < suc t) × (l ≡ (sends sheet (past sheet told v) (told v)).0)
      go ih (inl k) =
          let w = ih k in
          (w.0, omega (arith, w.1), w.2)
      go ih (inr k) = (t, omega arith, Memᴰ.eq_of_singleton k)

  -- ONE PACKET for a number
  pub same-packet : (t : ℕ) (x : Packet) → Arrived sheet told t x → (i u q : ℕ) → 1 ≤ q → q ≤ got sheet told i u → x.owner ≡ suc i → x.number ≡ total (got sheet told i) u + q
      → x ≡ new_packet sheet told i u q
  unfolding new_packet packet
  same-packet t x a i u q one most o n =
      let j : a.new.i ≡ i = omega (arith, o, ap (λ z. z.owner) a.new.is) in
      let r : a.new.q ≤ got sheet told i a.u = omega (arith, a.new.most, ap (λ k. got sheet told k a.u) j) in
      let m : total (got sheet told i) a.u + a.new.q ≡ total (got sheet told i) u + q =
      omega (arith, n, ap (λ z. z.number) a.new.is, ap (λ k. total (got sheet told k) a.u) j) in
      let v : a.u ≡ u = one-slot a.u u a.new.q q a.new.some r one most m (le_or_lt a.u u) (le_or_lt u a.u) in
      let p : a.new.q ≡ q = omega (arith, m, ap (total (got sheet told i)) v) in
      a.new.is
      ∙ ap (λ k. new_packet sheet told k a.u a.new.q) j
      ∙ ap (λ k. new_packet sheet told i k a.new.q) v
      ∙ ap (new_packet sheet told i u) p
    where
      -- a number lies in one slot
      one-slot : (u v q r : ℕ) → 1 ≤ q → q ≤ got sheet told i u → 1 ≤ r → r ≤ got sheet told i v → total (got sheet told i) u + q ≡ total (got sheet told i) v + r
          → (u ≤ v) ⊎ (v < u) → (v ≤ u) ⊎ (u < v) → u ≡ v
      one-slot u v q r a b c d e (inl f) (inl g) = omega arith
      one-slot u v q r a b c d e (inl f) (inr g) = absurd (omega (arith, total_mono (got sheet told i) (suc u) v g, total-suc (got sheet told i) u))
      one-slot u v q r a b c d e (inr f) g = absurd (omega (arith, total_mono (got sheet told i) (suc v) u f, total-suc (got sheet told i) v))

  -- the packets of a session that two tests of numbers tell apart
  exactly : (i n : ℕ) (x : Packet) → up_to_number i (suc n) x ≡ true → up_to_number i n x ≡ false → (x.owner ≡ suc i) × (x.number ≡ suc n)
  exactly i n x a b =
      let w = up_to-is i x (suc n) a in
      (w.0, go w (le_or_lt x.number n))
    where
      go : (x.owner ≡ suc i) × (x.number ≤ suc n) → (x.number ≤ n) ⊎ (n < x.number) → x.number ≡ suc n
      go w (inl l) = absurd (not_both (sym b ∙ own-up_to i x n w.0 l))
      go w (inr l) = omega (arith, w.1)

  module _ (curves : Curves sheet) (i t : ℕ) (h : i < session_count sheet) where
    k : ℕ
    k = count_all (of_session i) (past sheet told t).sent

    -- a packet with the number n + 1
    with_number : (n : ℕ) → suc n ≤ total (got sheet told i) t → suc n ≤ k → (v : ℕ) × (v < t) × (x : Packet) × Memᴰ x (sends sheet (past sheet told v) (told v)).0
        × Arrived sheet told t x × (x.owner ≡ suc i) × (x.number ≡ suc n)
    unfolding k
    with_number n l m =
        let d = count_all-differs (up_to_number i n) (up_to_number i (suc n)) (past sheet told t).sent
        (omega (arith, sent-numbers sheet told curves i t h n, sent-numbers sheet told curves i t h (suc n))) in
        let e = exactly i n d.2 d.4 d.5 in
        let v = sent-slot t d.0 d.1 in
        (v.0, v.1, d.2, rw v.2 at d.3, sent-arrived sheet told t d.0 d.2 d.1 d.3, e.0, e.1)

    that_waits : (n : ℕ) → suc n ≤ total (got sheet told i) t → k < suc n → (x : Packet) × Memᴰ x (past sheet told t).waiting × (x.owner ≡ suc i) × (x.number ≡ suc n)
    unfolding k
    that_waits n l m =
        let d = count-differs (up_to_number i n) (up_to_number i (suc n)) (past sheet told t).waiting
        (omega (
          arith,
          counted sheet told i t n h,
          counted sheet told i t (suc n) h,
          sent-numbers sheet told curves i t h n,
          sent-numbers sheet told curves i t h (suc n),
        )) in
        let e = exactly i n d.0 d.2 d.3 in
        (d.0, d.1, e.0, e.1)

    module _ (u q : ℕ) (slot : u < t) (one : 1 ≤ q) (most : q ≤ got sheet told i u) where
      N : ℕ
      N = total (got sheet told i) u + q

      taken : N ≤ total (got sheet told i) t
      unfolding N
      taken = omega (arith, total_mono (got sheet told i) (suc u) t slot, total-suc (got sheet told i) u)

      up : suc (N - 1) ≡ N
      unfolding N
      up = omega arith

      -- up to those sent it was sent, in one of the slots
      pub was_sent : total (got sheet told i) u + q ≤ count_all (of_session i) (past sheet told t).sent
          → (v : ℕ) × (v < t) × Memᴰ (new_packet sheet told i u q) (sends sheet (past sheet told v) (told v)).0
      unfolding N k
      was_sent l =
          let w = with_number (N - 1) (omega (arith, up, taken)) (omega (arith, up)) in
          let e = same-packet t w.2 w.4 i u q one most w.5 (w.6 ∙ up) in
          (w.0, w.1, rw e at w.3)

      -- after them it waits
      pub still-waits : count_all (of_session i) (past sheet told t).sent < total (got sheet told i) u + q → Memᴰ (new_packet sheet told i u q) (past sheet told t).waiting
      unfolding N k
      still-waits l =
          let w = that_waits (N - 1) (omega (arith, up, taken)) (omega (arith, up)) in
          let e = same-packet t w.0 (waiting-arrived sheet told t w.0 w.1) i u q one most w.2 (w.3 ∙ up) in
          rw e at w.1
