-- What a sheet that passes promises, over every history: no deadline is missed, and each session is sent what its service promises. Assumes nothing.
use Rattle.std.specs.Prelude.{◌≡◌, ◌⊎◌, ◌≢◌, Bool, ◌&&◌, List, T}
use Rattle.std.proofs.Math.Path.{refl}
use Rattle.std.proofs.Common.{inl, inr}
use Prim.Native.Nat.{ℕ, suc, ◌+◌, ◌-◌, ◌*◌, ◌≤◌, ◌<◌}
use Rattle.std.proofs.Math.Nat.{sub_self}
use native.Mathlib.Omega.{arith}
use Rattle.curve.proofs.OrderLaws.{le_or_lt}
use Rattle.curve.specs.Least.{least}
use Rattle.curve.proofs.LeastLaws.{least-le}
use Rattle.curve.specs.Total.{total}
use Rattle.curve.proofs.TotalLaws.{total_cong, total-add}
use Rattle.curve.specs.Delay.{come}
use Rattle.sheet.specs.Sheet.{Sheet, session_count}
use Rattle.rules.specs.Count.{count, count_all, count_to}
use Rattle.rules.proofs.CountLaws.{ind_and_left, ind_and_right, count-le, count-length, count_all-le}
use Rattle.rules.specs.Core.{due_in}
use Rattle.rules.proofs.CoreLaws.{due-lower, none-late}
use Rattle.rules.proofs.DeadlineLaws.{due-sound, due-complete}
use Rattle.rules.specs.Model.{Packet, envelope_of, service_of, delay_of, of_session, packet, past, promised}
use Rattle.rules.specs.Curves.{Curves, WithinCapacity}
use Rattle.rules.proofs.CurvesLaws.{load-within, service-none, service-rises, delays}
use Rattle.rules.proofs.Facts.{got, new_packet, sent_in, waits, new, conserved, edf, all-conserved, envelope-kept, all-sent}
use Rattle.rules.proofs.Intake.{new_of}

-- a packet of session i that is due by t
abbrev both : ℕ → ℕ → Packet → Bool
both i t x = of_session i x && come x.due t

module _ (sheet : Sheet) (curves : Curves sheet) (told : ℕ → List ℕ) where
  -- the q-th packet of session i taken in during slot u + 1 is due by t
  unfoldable pub is_due : ℕ → ℕ → ℕ → ℕ → Bool
  is_due t i u q = come (new_packet sheet told i u q).due t

  new-due : (t u : ℕ)
      → total (λ i. due_in (got sheet told i) (is_due t i) (suc u)) (session_count sheet)
      ≡ total (λ i. due_in (got sheet told i) (is_due t i) u) (session_count sheet) + new sheet told (λ x. come x.due t) u
  unfolding due_in total new is_due
  new-due t u = total-add _ _ (session_count sheet)

  -- the DUE LAW of a new packet, each way
  law : (t i u q : ℕ) → i < session_count sheet → u < t → 1 ≤ q → q ≤ got sheet told i u → T (is_due t i u q)
      → (r : ℕ) → r ≤ u → total (got sheet told i) u + q ≤ total (got sheet told i) r + service_of sheet i (t - r)
  unfolding is_due new_packet packet
  law t i u q h l k m p =
      due-sound (delay_of sheet i) (service_of sheet i) (delays sheet curves i h) (got sheet told i) (total (got sheet told i) u + q) t
      (service-rises sheet curves i h) u l (omega arith) p

  law-back : (t i u q : ℕ) → i < session_count sheet → u < t
      → ((r : ℕ) → r ≤ u → total (got sheet told i) u + q ≤ total (got sheet told i) r + service_of sheet i (t - r)) → T (is_due t i u q)
  unfolding is_due new_packet packet
  law-back t i u q h l =
      due-complete (delay_of sheet i) (service_of sheet i) (delays sheet curves i h) (got sheet told i) (total (got sheet told i) u + q) t u l

  own-due : (t i u : ℕ) → i < session_count sheet → new sheet told (both i t) u ≡ count_to (is_due t i u) (got sheet told i u)
  unfolding is_due
  own-due t i u h = new_of sheet told (λ x. come x.due t) i u h

  -- NO DEADLINE IS MISSED: at the end of slot t no waiting packet has a deadline that has come.
  pub on_time : WithinCapacity sheet → (t : ℕ) → count (λ x. come x.due t) (past sheet told t).waiting ≡ 0
  unfolding past count waits
  on_time within t =
      none-late (session_count sheet) (got sheet told) (envelope_of sheet) (service_of sheet) (sent_in sheet told) (λ x. sheet.capacity * x) late (λ u. 0) (is_due t) t
      busy (load-within sheet within) refl (λ u. (omega arith, refl)) one-slot (envelope-kept sheet told curves) (λ i u q h l k m p r x. law t i u q h l k m p r)
    where
      late : ℕ → ℕ
      late u = count (λ x. come x.due t) (past sheet told u).waiting

      some : (u : ℕ) → late u ≤ waits sheet told u
      some u = count-length (λ x. come x.due t) (past sheet told u).waiting

      busy : (s : ℕ) → s ≤ t → ((u : ℕ) → s < u → u ≤ t → late u ≢ 0) → total (sent_in sheet told) s + sheet.capacity * (t - s) ≤ total (sent_in sheet told) t
      busy s l n =
          let e : s + (t - s) ≡ t = omega arith in
          omega (arith, rw e at (all-sent sheet told s (t - s) (λ u i j. positive u (n u i (omega arith)))))
        where
          positive : (u : ℕ) → late u ≢ 0 → 1 ≤ waits sheet told u
          positive u z = elim (le_or_lt 1 (late u)) [ inl p ↦ omega (arith, some u) | inr p ↦ absurd (z (omega arith)) ]

      one-slot : (u : ℕ)
          → (late (suc u) ≡ 0)
          ⊎ (late (suc u) + sent_in sheet told u + total (λ i. due_in (got sheet told i) (is_due t i) u) (session_count sheet)
          ≤ late u + total (λ i. due_in (got sheet told i) (is_due t i) (suc u)) (session_count sheet))
      one-slot u =
          elim (edf sheet told t u) [ inl e ↦ inl e | inr e ↦ inr (omega (arith, new-due t u, conserved sheet told (λ x. come x.due t) u)) ]

  -- THE PROMISE: by the end of slot t each session has had sent what S promises, the least of A(s) + S(t-s) over s = 0..t.
  pub promise : WithinCapacity sheet → (i t : ℕ) → i < session_count sheet
      → promised (service_of sheet i) (total (got sheet told i)) t ≤ count_all (of_session i) (past sheet told t).sent
  unfolding due_in promised
  promise within i t h =
      omega (
        arith,
        least-le f t t (omega arith),
        at_end,
        due-lower (got sheet told i) (is_due t i) (least f t) t all-due,
        total_cong (new sheet told (both i t)) (λ u. count_to (is_due t i u) (got sheet told i u)) t (λ u l. own-due t i u h),
        all-conserved sheet told (both i t) t,
        on_time within t,
        count-le (both i t) (λ x. come x.due t) (λ x. ind_and_right (of_session i x) (come x.due t)) (past sheet told t).waiting,
        count_all-le (both i t) (of_session i) (λ x. ind_and_left (of_session i x) (come x.due t)) (past sheet told t).sent,
      )
    where
      f : ℕ → ℕ
      f s = total (got sheet told i) s + service_of sheet i (t - s)

      at_end : service_of sheet i (t - t) ≡ 0
      at_end = rw (sub_self t) (service-none sheet i)

      all-due : (u q : ℕ) → u < t → 1 ≤ q → q ≤ got sheet told i u → total (got sheet told i) u + q ≤ least f t → T (is_due t i u q)
      all-due u q l k m n = law-back t i u q h l (λ r x. omega (arith, least-le f t r (omega arith)))
