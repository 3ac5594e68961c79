-- Laws of specs/.antt. The laws of a slot and of a run that a reader of document 01 expects: each offer and each packet is accounted for, the packet sent is the one that comes first,
-- and a session's deadlines never fall. Assumes nothing.
use Rattle.std.specs.Prelude.{◌≡◌, ◌⊎◌, true, ℕ, suc, ◌+◌, ◌-◌, ◌≤◌, ◌<◌, length}
use Rattle.std.proofs.Math.Path.{sym, ap}
use Rattle.std.proofs.Common.{◌∙◌, inl, inr}
use mathlib.Core.List.Memᴰ
use mathlib.Core.List.{List, Memᴰ}
use native.Mathlib.Omega.{arith}
use Rattle.std.proofs.Math.Seq.{take-length}
use Rattle.curve.proofs.OrderLaws.{le_or_lt}
use Rattle.curve.specs.Total.{total}
use Rattle.curve.proofs.TotalLaws.{total_cong, total_mono, total_swap}
use Rattle.sheet.specs.Sheet.{Sheet, session_count}
use Rattle.rules.specs.Count.{count_all}
use Rattle.rules.specs.Pick.{Ordered}
use Rattle.rules.proofs.PickLaws.{send-before, send_ordered, send-full, send-most}
use Rattle.rules.specs.Deadline.{later}
use Rattle.rules.proofs.DeadlineLaws.{deadline-rises}
use Rattle.rules.specs.Model.{Packet, Past, envelope_of, service_of, delay_of, of_session, waiting_of, over, takes, no_room, packet, first, sends, past, after}
use Rattle.rules.specs.Model.{taken_by}
use Rattle.rules.specs.Curves.{Curves}
use Rattle.rules.proofs.CurvesLaws.{service-rises, envelope-rises, delays, delay-some}
use Rattle.rules.proofs.Order.{first_order}
use Rattle.rules.proofs.Facts.{got, new_packet, envelope-kept}
use Rattle.rules.specs.Arrived.{together}
use Rattle.rules.proofs.ArrivedLaws.{together-arrived}
use Rattle.rules.proofs.Intake.{taken-split, all_split}
use Rattle.rules.proofs.MainLaws.{taken-got}
use Rattle.rules.specs.Base.{offers_of}
use Rattle.rules.proofs.BaseLaws.{after-past}

-- of one slot, after any past
module _ (sheet : Sheet) (p : Past) where
  -- OFFERED = taken in + over + no room
  pub offers-split : (i offered : ℕ) → offered ≡ takes sheet p i offered + over sheet p i offered + no_room sheet p i offered
  unfolding no_room takes over
  offers-split i offered = omega arith

  module _ (offers : List ℕ) where
    -- THE PACKET SENT comes before every packet that is left
    pub sent-first : (x y : Packet) → Memᴰ x (sends sheet p offers).0 → Memᴰ y (sends sheet p offers).1 → first x y ≡ true
    unfolding sends
    sent-first = send-before first first_order sheet.capacity _

    -- and before those sent after it
    pub sent_in_order : Ordered first (sends sheet p offers).0
    unfolding sends
    sent_in_order = send_ordered first first_order sheet.capacity _

    -- never more than c are sent, and fewer only when none is left
    pub sent-most : length (sends sheet p offers).0 ≤ sheet.capacity
    unfolding sends
    sent-most = send-most first sheet.capacity _

    pub none_held : (length (sends sheet p offers).1 ≡ 0) ⊎ (length (sends sheet p offers).0 ≡ sheet.capacity)
    unfolding sends
    none_held = send-full first sheet.capacity _

module _ (sheet : Sheet) (told : ℕ → List ℕ) where
  new-rise : Curves sheet → (i u q v r : ℕ) → i < session_count sheet → 1 ≤ q → r ≤ got sheet told i v → 1 ≤ r
      → (new_packet sheet told i u q).number ≤ (new_packet sheet told i v r).number
      → later (new_packet sheet told i u q).due (new_packet sheet told i v r).due ≡ (new_packet sheet told i v r).due
  unfolding new_packet packet total
  new-rise curves i u q v r h some most one n =
      deadline-rises (delay_of sheet i) (service_of sheet i) (delays sheet curves i h) (service-rises sheet curves i h) (delay-some sheet i) (got sheet told i)
      (total (got sheet told i) u + q) (total (got sheet told i) v + r) u v n (in_turn (le_or_lt u v)) (omega arith)
    where
      in_turn : (u ≤ v) ⊎ (v < u) → u ≤ v
      in_turn (inl k) = k
      in_turn (inr k) = absurd (omega (arith, total_mono (got sheet told i) (suc v) u k))

  -- DEADLINES NEVER FALL with the packet number: of two packets of a session that wait together the one with the higher number is due no earlier
  pub rise : Curves sheet → (t : ℕ) (x y : Packet) → Memᴰ x (together sheet told t) → Memᴰ y (together sheet told t) → x.owner ≡ y.owner → x.number ≤ y.number
      → later x.due y.due ≡ y.due
  unfolding new_packet packet
  rise curves t x y m k o n =
      let a = together-arrived sheet told t x m in
      let b = together-arrived sheet told t y k in
      let same : b.new.i ≡ a.new.i = omega (arith, ap (λ z. z.owner) a.new.is, ap (λ z. z.owner) b.new.is) in
      let is : y ≡ new_packet sheet told a.new.i b.u b.new.q = b.new.is ∙ ap (λ j. new_packet sheet told j b.u b.new.q) same in
      let most : b.new.q ≤ got sheet told a.new.i b.u = omega (arith, b.new.most, ap (λ j. got sheet told j b.u) same) in
      let number : (new_packet sheet told a.new.i a.u a.new.q).number ≤ (new_packet sheet told a.new.i b.u b.new.q).number =
      omega (arith, n, ap (λ z. z.number) a.new.is, ap (λ z. z.number) is) in
      ap (λ z. later z.due y.due) a.new.is
      ∙ ap (λ z. later (new_packet sheet told a.new.i a.u a.new.q).due z.due) is
      ∙ new-rise curves a.new.i a.u a.new.q b.u b.new.q a.new.session a.new.some most b.new.some number
      ∙ sym (ap (λ z. z.due) is)

-- of a run
module _ (sheet : Sheet) (history : List (List ℕ)) where
  pub run_is : after sheet history ≡ past sheet (offers_of history) (length history)
  run_is = ap (after sheet) (sym (take-length history)) ∙ after-past sheet history (length history) (omega arith)

  -- TAKEN IN = sent + waiting, of each session and of all together
  pub session-split : (i : ℕ) → i < session_count sheet
      → taken_by (after sheet history) i (length history) ≡ count_all (of_session i) (after sheet history).sent + waiting_of (after sheet history) i
  session-split i h =
      rw run_is
      (omega (arith, taken-got sheet (offers_of history) (length history) i (length history) h (omega arith), taken-split sheet (offers_of history) i (length history) h))

  pub run-split : total (λ i. taken_by (after sheet history) i (length history)) (session_count sheet)
      ≡ count_all (λ x. true) (after sheet history).sent + length (after sheet history).waiting
  run-split =
      let t = length history in
      let told = offers_of history in
      rw run_is
      (omega (
        arith,
        total_cong (λ i. taken_by (past sheet told t) i t) (λ i. total (got sheet told i) t) (session_count sheet) (λ i h. taken-got sheet told t i t h (omega arith)),
        total_swap (got sheet told) (session_count sheet) t,
        all_split sheet told t,
      ))

  -- so of the packets that wait at the end of a slot
  pub deadlines-rise : Curves sheet → (x y : Packet) → Memᴰ x (after sheet history).waiting → Memᴰ y (after sheet history).waiting
      → x.owner ≡ y.owner → x.number ≤ y.number
      → later x.due y.due ≡ y.due
  deadlines-rise curves x y a b =
      let t = length history in
      let told = offers_of history in
      rise sheet told curves t x y (Memᴰ.append_left _ (rw run_is at a)) (Memᴰ.append_left _ (rw run_is at b))

  -- HEADROOM is never cut off at 0: A(u) is at most A(s) + b(u+1-s)
  pub headroom-whole : Curves sheet → (i s u : ℕ) → i < session_count sheet → s ≤ u → u ≤ length history
      → taken_by (after sheet history) i u ≤ taken_by (after sheet history) i s + envelope_of sheet i (suc u - s)
  headroom-whole curves i s u h l k =
      let told = offers_of history in
      rw run_is
      (omega (
        arith,
        taken-got sheet told (length history) i u h k,
        taken-got sheet told (length history) i s h (omega arith),
        envelope-kept sheet told curves i s u h l,
        envelope-rises sheet curves i h (u - s) (suc u - s) (omega arith),
      ))
