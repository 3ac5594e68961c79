-- What the lists of the model come to, slot by slot: how many were taken in, that none is lost, which are sent, and that intake keeps to the envelope.
-- Assumes nothing.
use Rattle.std.specs.Prelude.{◌≡◌, ◌⊎◌, Bool, length, get_or}
use Rattle.std.proofs.Math.Path.{refl, ap}
use Rattle.std.proofs.Common.{inl, inr, length-append}
use mathlib.Core.List.{List, [], ◌∷◌}
use Prim.Native.Nat.{ℕ, zero, suc, ◌+◌, ◌-◌, ◌*◌, ◌≤◌, ◌<◌, min}
use native.Mathlib.Omega.{arith}
use Rattle.std.proofs.Math.ListN.{get_or-append}
use Rattle.std.proofs.Math.Seq.{get_or_at}
use Rattle.curve.proofs.OrderLaws.{le_or_lt, le_suc_cases}
use Rattle.curve.proofs.LeastLaws.{least_cong, least-le}
use Rattle.curve.specs.Total.{total}
use Rattle.curve.proofs.TotalLaws.{total_cong}
use Rattle.curve.specs.Delay.{come}
use Rattle.sheet.specs.Sheet.{Sheet, session, session_count}
use Rattle.rules.specs.Count.{count, count_all, count_to}
use Rattle.rules.proofs.CountLaws.{count-append, count_all_snoc, count_to_cong}
use Rattle.rules.proofs.PickLaws.{send-count, send_only, send-full}
use Rattle.rules.proofs.DeadlineLaws.{deadline_cong}
use Rattle.rules.specs.Model.{Packet, envelope_of, delay_of, took, waiting_of, headroom, headroom_of, over, takes, listed, up_to, joined}
use Rattle.rules.specs.Model.{taken_in, packet, arrivals, first, sends, one_slot, past, offered}
use Rattle.rules.specs.Curves.{Curves}
use Rattle.rules.proofs.CurvesLaws.{envelope-rises}
use Rattle.rules.proofs.Order.{first-early}

-- the list has f i at i
pub listed_at : (f : ℕ → ℕ) (n i : ℕ) → i < n → get_or (listed f n) i 0 ≡ f i
unfolding listed
listed_at f zero i h = absurd (omega arith)
listed_at f (suc n) zero h = refl
listed_at f (suc n) (suc i) h = listed_at (λ j. f (suc j)) n i (omega arith)

pub length-listed : (f : ℕ → ℕ) (n : ℕ) → length (listed f n) ≡ n
unfolding listed
length-listed f zero = refl
length-listed f (suc n) = ap suc (length-listed (λ j. f (suc j)) n)

count-up_to : {X : Type 0} (p : X → Bool) (f : ℕ → X) (n : ℕ) → count p (up_to f n) ≡ count_to (λ q. p (f q)) n
unfolding up_to count_to count
count-up_to p f zero = refl
count-up_to p f (suc n) = omega (arith, count-append p (up_to f n) (f (suc n) ∷ []), count-up_to p f n)

count-joined : {X : Type 0} (p : X → Bool) (f : ℕ → List X) (n : ℕ) → count p (joined f n) ≡ total (λ i. count p (f i)) n
unfolding joined count total
count-joined p f zero = refl
count-joined p f (suc n) = omega (arith, count-append p (joined f n) (f n), count-joined p f n)

-- how many of the packets taken in during slot u + 1 pass a test
pub count-arrivals : (p : Packet → Bool) (sheet : Sheet) (a : ℕ → ℕ → ℕ) (u : ℕ)
    → count p (arrivals sheet a u) ≡ total (λ i. count_to (λ q. p (packet sheet (a i) u i q)) (a i u)) (session_count sheet)
unfolding arrivals
count-arrivals p sheet a u = rw count-joined (total_cong _ _ (session_count sheet) (λ i h. rw count-up_to))

module _ (sheet : Sheet) (told : ℕ → List ℕ) where
  -- packets of session i taken in during slot u + 1
  unfoldable pub got : ℕ → ℕ → ℕ
  got i u = takes sheet (past sheet told u) i (offered told i u)

  pub slots : (t : ℕ) → length (past sheet told t).taken ≡ t
  unfolding past one_slot taken_in
  slots zero = refl
  slots (suc t) = simp (length-append) (omega (arith, slots t))

  pub took-got : (t i u : ℕ) → i < session_count sheet → u < t → took (past sheet told t).taken i u ≡ got i u
  unfolding past one_slot taken_in took got
  took-got zero i u h l = absurd (omega arith)
  took-got (suc t) i u h l = go (le_or_lt t u) (took-got t i u h)
    where
      go : (t ≤ u) ⊎ (u < t) → (u < t → took (past sheet told t).taken i u ≡ got i u) → took (past sheet told (suc t)).taken i u ≡ got i u
      go (inl m) ih =
          let e : u ≡ t = omega arith in
          rw (e, get_or_at (past sheet told t).taken _ [] [] t (slots t)) (listed_at _ _ i h)
      go (inr m) ih = rw (get_or-append (past sheet told t).taken _ [] u (omega (arith, slots t))) (ih m)

  -- A(s) of a session, in any past that reaches so far
  pub total-got : (t i s : ℕ) → i < session_count sheet → s ≤ t → total (took (past sheet told t).taken i) s ≡ total (got i) s
  total-got t i s h l = total_cong (took (past sheet told t).taken i) (got i) s (λ u k. took-got t i u h (omega arith))

  pub headroom-got : (u i : ℕ) → i < session_count sheet
      → headroom_of sheet (past sheet told u) i ≡ headroom (envelope_of sheet i) (got i) u
  unfolding headroom_of headroom
  headroom-got u i h =
      rw (slots u, total-got u i u h (omega arith))
      (least_cong _ _ u (λ s l. rw (total-got u i s h l)))

  pub got-eq : (u i : ℕ) → i < session_count sheet
      → got i u
      ≡ min (offered told i u - (offered told i u - headroom (envelope_of sheet i) (got i) u))
      ((session sheet i).room - waiting_of (past sheet told u) i)
  unfolding got takes over
  got-eq u i h = rw (← (headroom-got u i h))

  -- the q-th packet of session i taken in during slot u + 1
  unfoldable pub new_packet : ℕ → ℕ → ℕ → Packet
  new_packet i u q = packet sheet (got i) u i q

  pub packet-got : (u i q : ℕ) → i < session_count sheet → packet sheet (took (past sheet told (suc u)).taken i) u i q ≡ new_packet i u q
  unfolding packet new_packet
  packet-got u i q h =
      rw (
        total-got (suc u) i u h (omega arith),
        deadline_cong (delay_of sheet i) (took (past sheet told (suc u)).taken i) (got i) (total (got i) u + q) (suc u) (λ j l. took-got (suc u) i j h l),
      )

  -- how many of the packets taken in during slot u + 1 pass a test
  unfoldable pub new : (Packet → Bool) → ℕ → ℕ
  new p u = total (λ i. count_to (λ q. p (new_packet i u q)) (got i u)) (session_count sheet)

  count-new : (p : Packet → Bool) (u : ℕ) → count p (arrivals sheet (took (past sheet told (suc u)).taken) u) ≡ new p u
  unfolding new
  count-new p u =
      rw (count-arrivals p sheet (took (past sheet told (suc u)).taken) u)
      (total_cong _ _ (session_count sheet)
      (λ i h. rw (took-got (suc u) i u h (omega arith)) (count_to_cong _ _ (got i u) (λ q k l. ap p (packet-got u i q h)))))

  -- what waited and what is new is what was sent and what waits
  pub conserved : (p : Packet → Bool) (u : ℕ)
      → count p (sends sheet (past sheet told u) (told u)).0 + count p (past sheet told (suc u)).waiting ≡ count p (past sheet told u).waiting + new p u
  unfolding past one_slot sends
  conserved p u = rw (send-count, count-append, slots u) (omega (arith, count-new p u))

  -- packets sent in slot u + 1, and packets waiting at the end of slot u
  unfoldable pub sent_in : ℕ → ℕ
  sent_in u = length (sends sheet (past sheet told u) (told u)).0

  unfoldable pub waits : ℕ → ℕ
  waits u = length (past sheet told u).waiting

  -- EDF FACT: none whose deadline comes by t is left at the end of slot u + 1, or all that were sent in it are of those
  pub edf : (t u : ℕ)
      → (count (λ x. come x.due t) (past sheet told (suc u)).waiting ≡ 0)
      ⊎ (count (λ x. come x.due t) (sends sheet (past sheet told u) (told u)).0 ≡ sent_in u)
  unfolding past one_slot sends sent_in
  edf t u = send_only first (λ x. come x.due t) (first-early t) _ _

  -- NOTHING IS HELD BACK: nothing waits at the end of slot u + 1, or it sent all that it could
  pub not_held : (u : ℕ) → (waits (suc u) ≡ 0) ⊎ (sent_in u ≡ sheet.capacity)
  unfolding past one_slot sends sent_in waits
  not_held u = send-full first sheet.capacity _

  -- all that was taken in is sent or waits
  pub all-conserved : (p : Packet → Bool) (t : ℕ) → count_all p (past sheet told t).sent + count p (past sheet told t).waiting ≡ total (new p) t
  unfolding past one_slot total count_all count
  all-conserved p zero = refl
  all-conserved p (suc t) =
      omega (arith, all-conserved p t, conserved p t, count_all_snoc p (past sheet told t).sent (sends sheet (past sheet told t) (told t)).0)

  -- ENVELOPE: what is taken in keeps to the envelope
  pub envelope-kept : Curves sheet → (i s t : ℕ) → i < session_count sheet → s ≤ t → total (got i) t ≤ total (got i) s + envelope_of sheet i (t - s)
  unfolding total headroom
  envelope-kept curves i s zero h l =
      let e : s ≡ 0 = omega arith in
      rw e (omega arith)
  envelope-kept curves i s (suc t) h l = go (le_suc_cases s t l) (envelope-kept curves i s t h)
    where
      b : ℕ → ℕ
      b = envelope_of sheet i

      go : (s ≤ t) ⊎ (s ≡ suc t) → (s ≤ t → total (got i) t ≤ total (got i) s + b (t - s)) → total (got i) t + got i t ≤ total (got i) s + b (suc t - s)
      go (inl k) ih =
          omega (
            arith,
            ih k,
            got-eq t i h,
            envelope-rises sheet curves i h (t - s) (suc t - s) (omega arith),
            least-le (λ r. total (got i) r + b (suc t - r) - total (got i) t) t s k,
          )
      go (inr e) ih = rw e (omega arith)

-- BUSY: while packets wait at the end of each slot, each sends c
pub all-sent : (sheet : Sheet) (told : ℕ → List ℕ) (s d : ℕ)
    → ((u : ℕ) → s < u → u ≤ s + d → 1 ≤ waits sheet told u)
    → total (sent_in sheet told) (s + d) ≡ total (sent_in sheet told) s + sheet.capacity * d
unfolding total
all-sent sheet told s zero h =
    let e : s + 0 ≡ s = omega arith in
    rw e (omega arith)
all-sent sheet told s (suc d) h =
    let e : s + suc d ≡ suc (s + d) = omega arith in
    rw e
    (omega (
      arith,
      all-sent sheet told s d (λ u i l. h u i (omega arith)),
      sent (not_held sheet told (s + d)) (h (suc (s + d)) (omega arith) (omega arith)),
    ))
  where
    sent : (waits sheet told (suc (s + d)) ≡ 0) ⊎ (sent_in sheet told (s + d) ≡ sheet.capacity) → 1 ≤ waits sheet told (suc (s + d))
        → sent_in sheet told (s + d) ≡ sheet.capacity
    sent (inl z) p = absurd (omega arith)
    sent (inr z) p = z
