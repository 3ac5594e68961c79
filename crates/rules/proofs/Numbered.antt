-- A session's packets go by number: over the whole run, in sending order, those sent of a session are its packets 1, 2, 3 and on. Assumes nothing.
use Rattle.std.specs.Prelude.{◌≡◌, Bool, true, ◌⊎◌, ℕ, zero, suc, ◌+◌, ◌≤◌, ◌<◌, min, leb}
use Rattle.std.proofs.Math.Path.{refl, ap}
use Rattle.std.proofs.Common.{sym, subst, ◌∙◌, inl, inr}
use mathlib.Core.List.Memᴰ
use mathlib.Core.List.{List, [], ◌∷◌, ◌++◌, Memᴰ}
use native.Mathlib.Omega.{arith}
use Rattle.sheet.specs.Sheet.{Sheet, session_count}
use Rattle.rules.specs.Count.{ind, count, count_all}
use Rattle.rules.proofs.CountLaws.{ind_and_left, count-append, count-le, count_le_in, count_no, count_all_snoc}
use Rattle.rules.specs.Pick.{Ordered}
use Rattle.rules.specs.Model.{Packet, of_session, first, sends, one_slot, past}
use Rattle.rules.specs.Curves.{Curves}
use Rattle.rules.specs.Arrived.{together}
use Rattle.rules.proofs.ArrivedLaws.{Arrived, sent-together, sent-arrived}
use Rattle.rules.proofs.Laws.{sent_in_order}
use Rattle.rules.specs.Turn.{up_to_number}
use Rattle.rules.proofs.TurnLaws.{own-test, own-up_to, none-up_to, all-up_to, comes_first, sent-numbers}

-- in a list in order, one comes after all before it and before all after it
module _ {X : Type 0} (le : X → X → Bool) (x : X) (others : List X) where
  after_those : (before : List X) → Ordered le (before ++ (x ∷ others)) → (y : X) → Memᴰ y before → le y x ≡ true
  after_those [] o y m = absurd (Memᴰ.not-nil m)
  after_those (z ∷ l) o y m = go (after_those l o.1 y) (Memᴰ.cases_cons m)
    where
      go : (Memᴰ y l → le y x ≡ true) → (y ≡ z) ⊎ Memᴰ y l → le y x ≡ true
      go ih (inl e) = ap (λ w. le w x) e ∙ o.0 x (Memᴰ.append_right l (Memᴰ.head refl))
      go ih (inr k) = ih k

  before_those : (before : List X) → Ordered le (before ++ (x ∷ others)) → (y : X) → Memᴰ y others → le x y ≡ true
  before_those [] o y m = o.0 y m
  before_those (z ∷ l) o y m = before_those l o.1 y m

module _ (sheet : Sheet) (told : ℕ → List ℕ) where
  -- what slot v + 1 sent was taken in by then
  pub sends-arrived : (v : ℕ) (x : Packet) → Memᴰ x (sends sheet (past sheet told v) (told v)).0 → Arrived sheet told (suc v) x
  unfolding past one_slot
  sends-arrived v x m = sent-arrived sheet told (suc v) (sends sheet (past sheet told v) (told v)).0 x (Memᴰ.append_right (past sheet told v).sent (Memᴰ.head refl)) m

  module _ (curves : Curves sheet) (i v : ℕ) (h : i < session_count sheet) where
    -- of those sent in slot v + 1, the numbers up to n
    sent_then : (n : ℕ) → min (count_all (of_session i) (past sheet told v).sent) n + count (up_to_number i n) (sends sheet (past sheet told v) (told v)).0
        ≡ min (count_all (of_session i) (past sheet told v).sent + count (of_session i) (sends sheet (past sheet told v) (told v)).0) n
    unfolding past one_slot
    sent_then n =
        let now = (sends sheet (past sheet told v) (told v)).0 in
        omega (
          arith,
          sent-numbers sheet told curves i v h n,
          sent-numbers sheet told curves i (suc v) h n,
          count_all_snoc (up_to_number i n) (past sheet told v).sent now,
          count_all_snoc (of_session i) (past sheet told v).sent now,
        )

    module _ (before : List Packet) (x : Packet) (others : List Packet) (is : (sends sheet (past sheet told v) (told v)).0 ≡ before ++ (x ∷ others)) (o : x.owner ≡ suc i) where
      in_order : Ordered first (before ++ (x ∷ others))
      in_order = subst (Ordered first) is (sent_in_order sheet (past sheet told v) (told v))

      waited : (y : Packet) → Memᴰ y (before ++ (x ∷ others)) → Memᴰ y (together sheet told v)
      waited y m = sent-together sheet told v y (rw is m)

      x-waited : Memᴰ x (together sheet told v)
      x-waited = waited x (Memᴰ.append_right before (Memᴰ.head refl))

      -- those of the session before it have no higher number, those after it no lower
      not_higher : (y : Packet) → Memᴰ y before → y.owner ≡ suc i → y.number ≤ x.number
      not_higher y m p =
          comes_first sheet told curves v y x (waited y (Memᴰ.append_left (x ∷ others) m)) x-waited (p ∙ sym o) (after_those first x others before in_order y m)

      not_lower : (y : Packet) → Memᴰ y others → y.owner ≡ suc i → x.number ≤ y.number
      not_lower y m p =
          comes_first sheet told curves v x y x-waited (waited y (Memᴰ.append_right before (Memᴰ.tail m))) (o ∙ sym p) (before_those first x others before in_order y m)

      split : (q : Packet → Bool) → count q (sends sheet (past sheet told v) (told v)).0 ≡ count q before + (ind (q x) + count q others)
      unfolding count
      split q = ap (count q) is ∙ count-append q before (x ∷ others)

      -- BY NUMBER: a packet that slot v + 1 sends has the number after those of its session that were sent before it
      pub by_number : x.number ≡ suc (count_all (of_session i) (past sheet told v).sent + count (of_session i) before)
      unfolding ind
      by_number = go x.number refl
        where
          own : ind (of_session i x) ≡ 1
          own = ap ind (own-test i x o)

          go : (n : ℕ) → x.number ≡ n → n ≡ suc (count_all (of_session i) (past sheet told v).sent + count (of_session i) before)
          go zero e = absurd (omega (arith, sent_then 0, split (up_to_number i 0), ap ind (own-up_to i x 0 o (omega arith))))
          go (suc n) e =
              omega (
                arith,
                own,
                split (of_session i),
                sent_then n,
                split (up_to_number i n),
                ap ind (none-up_to i x n (λ _. omega arith)),
                count-le (up_to_number i n) (of_session i) (λ y. ind_and_left (of_session i y) (leb y.number n)) before,
                count_no (up_to_number i n) others (λ y m. none-up_to i y n (λ p. omega (arith, not_lower y m p))),
                sent_then (suc n),
                split (up_to_number i (suc n)),
                ap ind (own-up_to i x (suc n) o (omega arith)),
                count_le_in (of_session i) (up_to_number i (suc n)) before (λ y m. all-up_to i y (suc n) (λ p. omega (arith, not_higher y m p))),
              )
