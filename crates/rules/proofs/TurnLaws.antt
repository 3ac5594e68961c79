-- Laws of specs/Turn.antt. A session's packets are sent in turn: those sent are the numbers 1..k and those that wait the numbers k+1..A, where k packets of it were sent and A taken in.
-- So a run needs no list of what waits. Assumes nothing.
use Rattle.std.specs.Prelude.{◌≡◌, ◌⊎◌, ◌≢◌, Bool, ◌&&◌}
use Rattle.std.proofs.Math.Path.{refl, ap}
use Rattle.std.proofs.Common.{sym, ◌∙◌, inl, inr}
use Rattle.std.proofs.Math.Bool.{true, false}
use mathlib.Core.List.Memᴰ
use mathlib.Core.List.{List, [], ◌∷◌, Memᴰ}
use Prim.Native.Nat.{ℕ, zero, suc, ◌+◌, ◌≤◌, ◌<◌, min}
use native.Mathlib.Omega.{arith}
use borrow.Author.Tests.{leb-true, le-leb, lt-leb, eqb-true, eq-eqb, ne_eqb}
use Rattle.std.proofs.Math.Dec.{leb, leb→le, le→leb}
use Rattle.curve.proofs.OrderLaws.{le_or_lt}
use Rattle.curve.specs.Total.{total}
use Rattle.curve.proofs.TotalLaws.{total_cong, total_mono}
use Rattle.curve.specs.Delay.{come}
use Rattle.sheet.specs.Sheet.{Sheet, session_count}
use Rattle.rules.specs.Count.{ind, count, count_all, count_to}
use Rattle.rules.proofs.CountLaws.{ind_and_left, not_both, count-some, count_no, count_all-le, count_all_le_in, count_all-lt}
use Rattle.rules.specs.Core.{due_in}
use Rattle.rules.proofs.CoreLaws.{due_upper, due-lower}
use Rattle.rules.specs.Deadline.{later}
use Rattle.rules.proofs.DeadlineLaws.{come-later}
use Rattle.rules.specs.Model.{Packet, of_session, packet, first, sends, one_slot, past}
use Rattle.rules.specs.Curves.{Curves}
use Rattle.rules.proofs.Order.{in_turn}
use Rattle.rules.proofs.Facts.{got, new_packet, new, all-conserved}
use Rattle.rules.specs.Arrived.{together}
use Rattle.rules.proofs.ArrivedLaws.{New, Arrived, chosen, sent-together, left-together, sent-arrived}
use Rattle.rules.proofs.Intake.{new_of, taken-split}
use Rattle.rules.proofs.Laws.{sent-first, rise}
use Rattle.rules.specs.Turn.{up_to_number}

-- the two tests of a session, by whose the packet is and by its number
module _ (i : ℕ) (x : Packet) where
  pub own-test : x.owner ≡ suc i → of_session i x ≡ true
  unfolding of_session
  own-test o = eq-eqb x.owner (suc i) o

  pub other_test : x.owner ≢ suc i → of_session i x ≡ false
  unfolding of_session
  other_test n = ne_eqb x.owner (suc i) n

  owned : of_session i x ≡ true → x.owner ≡ suc i
  unfolding of_session
  owned e = eqb-true x.owner (suc i) e

  module _ (n : ℕ) where
    pub own-up_to : x.owner ≡ suc i → x.number ≤ n → up_to_number i n x ≡ true
    own-up_to o l = ap (λ b. b && leb x.number n) (own-test o) ∙ le-leb x.number n l

    pub none-up_to : (x.owner ≡ suc i → n < x.number) → up_to_number i n x ≡ false
    none-up_to l = go (of_session i x) refl
      where
        go : (b : Bool) → of_session i x ≡ b → (b && leb x.number n) ≡ false
        go true e = lt-leb x.number n (l (owned e))
        go false e = refl

    pub all-up_to : (x.owner ≡ suc i → x.number ≤ n) → ind (of_session i x) ≤ ind (up_to_number i n x)
    unfolding ind
    all-up_to l = go (of_session i x) refl
      where
        go : (b : Bool) → of_session i x ≡ b → ind b ≤ ind (b && leb x.number n)
        go true e = omega (arith, ap ind (le-leb x.number n (l (owned e))))
        go false e = omega arith

    pub up_to-is : up_to_number i n x ≡ true → (x.owner ≡ suc i) × (x.number ≤ n)
    up_to-is = go (of_session i x) refl
      where
        go : (b : Bool) → of_session i x ≡ b → (b && leb x.number n) ≡ true → (x.owner ≡ suc i) × (x.number ≤ n)
        go true e f = (owned e, leb-true x.number n f)
        go false e f = absurd (not_both f)

module _ (sheet : Sheet) (told : ℕ → List ℕ) where
  -- a packet's number lies among those of its slot
  new_above : (u i : ℕ) (x : Packet) → New sheet told u x → x.owner ≡ suc i → total (got sheet told i) u < x.number
  unfolding new_packet packet
  new_above u i x a o =
      let e : a.i ≡ i = omega (arith, o, ap (λ z. z.owner) a.is) in
      omega (arith, a.some, ap (λ z. z.number) a.is, ap (λ j. total (got sheet told j) u) e)

  pub within : (t i : ℕ) (x : Packet) → Arrived sheet told t x → x.owner ≡ suc i → x.number ≤ total (got sheet told i) t
  unfolding new_packet packet total
  within t i x a o =
      let e : a.new.i ≡ i = omega (arith, o, ap (λ z. z.owner) a.new.is) in
      omega (
        arith,
        a.new.most,
        ap (λ z. z.number) a.new.is,
        ap (λ j. total (got sheet told j) a.u) e,
        ap (λ j. got sheet told j a.u) e,
        total_mono (got sheet told i) (suc a.u) t a.slot,
      )

  owner-is : (t : ℕ) (x : Packet) (a : Arrived sheet told t x) → x.owner ≡ suc a.new.i
  unfolding new_packet packet
  owner-is t x a = ap (λ z. z.owner) a.new.is

  -- of two packets of a session that wait together the one that comes first has no higher number
  pub comes_first : Curves sheet → (t : ℕ) (x y : Packet) → Memᴰ x (together sheet told t) → Memᴰ y (together sheet told t) → x.owner ≡ y.owner → first x y ≡ true → x.number ≤ y.number
  comes_first curves t x y a b o f = go (le_or_lt x.number y.number)
    where
      go : (x.number ≤ y.number) ⊎ (y.number < x.number) → x.number ≤ y.number
      go (inl k) = k
      go (inr k) =
          let e : later y.due x.due ≡ x.due = rise sheet told curves t y x b a (sym o) (omega arith) in
          in_turn x y (λ s h. ((come-later y.due x.due s).0 (rw (← (ap (λ d. come d s) e)) at h)).0) o f

  -- IN TURN: no packet waits that has a lower number than one that was sent
  pub turn : Curves sheet → (t : ℕ) (l : List Packet) (x y : Packet) → Memᴰ l (past sheet told t).sent → Memᴰ x l
      → Memᴰ y (past sheet told t).waiting → x.owner ≡ y.owner → x.number ≤ y.number
  unfolding past one_slot
  turn curves zero l x y k m n o = absurd (Memᴰ.not-nil k)
  turn curves (suc t) l x y k m n o =
      go (λ j p. turn curves t l x y j m p o) (Memᴰ.append_cases (past sheet told t).sent k) (chosen sheet told t y (inr n))
    where
      go : (Memᴰ l (past sheet told t).sent → Memᴰ y (past sheet told t).waiting → x.number ≤ y.number)
          → Memᴰ l (past sheet told t).sent ⊎ Memᴰ l ((sends sheet (past sheet told t) (told t)).0 ∷ [])
          → Memᴰ y (past sheet told t).waiting ⊎ New sheet told t y
          → x.number ≤ y.number
      go ih (inl j) (inl p) = ih j p
      go ih (inl j) (inr p) =
          let c = sent-arrived sheet told t l x j m in
          omega (
            arith,
            within t c.new.i x c (owner-is t x c),
            new_above t c.new.i y p (sym o ∙ owner-is t x c),
          )
      go ih (inr j) p =
          let now = rw (Memᴰ.eq_of_singleton j) at m in
          comes_first curves t x y (sent-together sheet told t x now) (left-together sheet told t y n) o (sent-first sheet (past sheet told t) (told t) x y now n)

  numbered : (i u n : ℕ) → i < session_count sheet
      → new sheet told (up_to_number i n) u ≡ count_to (λ q. leb (total (got sheet told i) u + q) n) (got sheet told i u)
  unfolding new_packet packet
  numbered i u n h = new_of sheet told (λ x. leb x.number n) i u h

  -- of the numbers 1..A those up to n were sent or wait, each once
  pub counted : (i t n : ℕ) → i < session_count sheet
      → count_all (up_to_number i n) (past sheet told t).sent + count (up_to_number i n) (past sheet told t).waiting ≡ min (total (got sheet told i) t) n
  unfolding total due_in
  counted i t n h =
      omega (
        arith,
        all-conserved sheet told (up_to_number i n) t,
        total_cong (new sheet told (up_to_number i n)) (λ u. count_to (λ q. leb (total a u + q) n) (a u)) t (λ u l. numbered i u n h),
        due_upper a (λ u q. leb (total a u + q) n) 0 n (omega arith) t (omega arith) (λ u q j k l m p. leb→le (total a u + q) n p),
        due-lower a (λ u q. leb (total a u + q) n) n t (λ u q j k l p. le→leb (total a u + q) n p),
      )
    where
      a : ℕ → ℕ
      a = got sheet told i

  module _ (curves : Curves sheet) (i t : ℕ) (h : i < session_count sheet) where
    -- THOSE THAT WAIT have the numbers after k
    pub waiting-after : (y : Packet) → Memᴰ y (past sheet told t).waiting → y.owner ≡ suc i
        → count_all (of_session i) (past sheet told t).sent < y.number
    waiting-after y m o =
        omega (
          arith,
          counted i t y.number h,
          count-some (up_to_number i y.number) y (past sheet told t).waiting m (own-up_to i y y.number o (omega arith)),
          count_all_le_in (of_session i) (up_to_number i y.number) (past sheet told t).sent
              (λ l x k n. all-up_to i x y.number (λ e. turn curves t l x y k n m (e ∙ sym o))),
        )

    -- THOSE SENT have the numbers up to k
    pub sent-up_to : (l : List Packet) (x : Packet) → Memᴰ l (past sheet told t).sent → Memᴰ x l → x.owner ≡ suc i
        → x.number ≤ count_all (of_session i) (past sheet told t).sent
    sent-up_to l x k m o = go x.number refl
      where
        a : Arrived sheet told t x
        a = sent-arrived sheet told t l x k m

        go : (n : ℕ) → x.number ≡ n → n ≤ count_all (of_session i) (past sheet told t).sent
        go zero e = omega arith
        go (suc n) e =
            omega (
              arith,
              counted i t n h,
              within t i x a o,
              count_no (up_to_number i n) (past sheet told t).waiting
                  (λ y p. none-up_to i y n (λ f. omega (arith, turn curves t l x y k m p (o ∙ sym f)))),
              count_all-lt (up_to_number i n) (of_session i) (λ z. ind_and_left (of_session i z) (leb z.number n)) x l (past sheet told t).sent k m
                  (none-up_to i x n (λ f. omega arith)) (own-test i x o),
            )

    -- so of those sent the numbers up to n are 1..k up to n, each once
    pub sent-numbers : (n : ℕ) → count_all (up_to_number i n) (past sheet told t).sent ≡ min (count_all (of_session i) (past sheet told t).sent) n
    sent-numbers n = go (le_or_lt (count_all (of_session i) (past sheet told t).sent) n)
      where
        go : (count_all (of_session i) (past sheet told t).sent ≤ n) ⊎ (n < count_all (of_session i) (past sheet told t).sent)
            → count_all (up_to_number i n) (past sheet told t).sent ≡ min (count_all (of_session i) (past sheet told t).sent) n
        go (inl j) =
            omega (
              arith,
              count_all-le (up_to_number i n) (of_session i) (λ z. ind_and_left (of_session i z) (leb z.number n)) (past sheet told t).sent,
              count_all_le_in (of_session i) (up_to_number i n) (past sheet told t).sent
                  (λ l x k m. all-up_to i x n (λ o. omega (arith, sent-up_to l x k m o))),
            )
        go (inr j) =
            omega (
              arith,
              counted i t n h,
              taken-split sheet told i t h,
              count_no (up_to_number i n) (past sheet told t).waiting (λ y m. none-up_to i y n (λ o. omega (arith, waiting-after y m o))),
            )
