-- The order of sending, least deadline first, then the lower session, then the lower packet: it is an order, and what is due sooner goes sooner. Assumes nothing.
use Rattle.std.specs.Prelude.{◌≡◌, ◌⊎◌, Bool, true, false, T, leb}
use Rattle.std.proofs.Math.Path.{refl, ap}
use Rattle.std.proofs.Common.{sym, ◌∙◌, inl, inr, arith, leb-true, leb-false, le-leb, eqb-true, leb→le, le→leb}
use Prim.Native.Nat.{ℕ, ◌≤◌, ◌<◌, compare, Ordering}
use Rattle.std.proofs.lemmas.Bool.{eqb-false}
use Rattle.std.proofs.Math.Dec.{is_le, compare_is_eq}
use Rattle.curve.proofs.OrderLaws.{le_or_lt}
use Rattle.curve.specs.Delay.{Due, slot, never, come}
use Rattle.rules.specs.Count.{ind}
use Rattle.rules.proofs.CountLaws.{not_both}
use Rattle.rules.specs.Pick.{Early, IsOrder}
use Rattle.rules.specs.Model.{Packet, then_by, compare_due, tie, first}

-- a deadline that comes earlier has come before one that comes later
ind_leb : (d e t : ℕ) → d ≤ e → ind (leb e t) ≤ ind (leb d t)
unfolding ind
ind_leb d e t h = go (leb e t) refl (leb d t) refl
  where
    go : (b : Bool) → leb e t ≡ b → (c : Bool) → leb d t ≡ c → ind b ≤ ind c
    go true x true y = omega arith
    go true x false y = absurd (omega (arith, leb-true e t x, leb-false d t y))
    go false x c y = omega arith

due-early : (d e : Due) (t : ℕ) (b : Bool)
    → (then_by (compare_due d e) b ≡ true → ind (come e t) ≤ ind (come d t)) × (then_by (compare_due d e) b ≡ false → ind (come d t) ≤ ind (come e t))
unfolding come then_by compare_due ind
due-early (slot d) (slot e) t b = go (compare d e) refl
  where
    go : (o : Ordering) → compare d e ≡ o
        → (then_by o b ≡ true → ind (leb e t) ≤ ind (leb d t)) × (then_by o b ≡ false → ind (leb d t) ≤ ind (leb e t))
    go Ordering.lt c = (λ h. ind_leb d e t (leb-true d e (ap is_le c)), λ h. absurd (omega (arith, ap ind h)))
    go Ordering.eq c =
        let k : d ≡ e = eqb-true d e (ap compare_is_eq c) in
        (λ h. ind_leb d e t (omega arith), λ h. ind_leb e d t (omega arith))
    go Ordering.gt c = (λ h. absurd (omega (arith, ap ind h)), λ h. ind_leb e d t (omega (arith, leb-false d e (ap is_le c))))
due-early (slot d) never t b = (λ h. omega arith, λ h. absurd (omega (arith, ap ind h)))
due-early never (slot e) t b = (λ h. absurd (omega (arith, ap ind h)), λ h. omega arith)
due-early never never t b = (λ h. omega arith, λ h. omega arith)

pub first-early : (t : ℕ) → Early first (λ x. come x.due t)
unfolding first
first-early t x y = due-early x.due y.due t (tie x y)

-- two numbers compared, one way or another
data Compared (m n : ℕ) (o : Ordering) : Type 0 where
  less : m < n → o ≡ Ordering.lt → Compared m n o
  same : m ≡ n → o ≡ Ordering.eq → Compared m n o
  more : n < m → o ≡ Ordering.gt → Compared m n o

compared : (m n : ℕ) → Compared m n (compare m n)
compared m n = go (compare m n) refl
  where
    go : (o : Ordering) → compare m n ≡ o → Compared m n o
    go Ordering.lt c =
        let d : m ≡ n → ⊥ = eqb-false m n (ap compare_is_eq c) in
        less (strictly d (leb-true m n (ap is_le c)) (le_or_lt n m)) refl
      where
        strictly : (m ≡ n → ⊥) → m ≤ n → (n ≤ m) ⊎ (m < n) → m < n
        strictly d l (inl k) = absurd (d (omega arith))
        strictly d l (inr k) = k
    go Ordering.eq c = same (eqb-true m n (ap compare_is_eq c)) refl
    go Ordering.gt c = more (leb-false m n (ap is_le c)) refl

-- compared the other way
unfoldable flip : Ordering → Ordering
flip Ordering.lt = Ordering.gt
flip Ordering.eq = Ordering.eq
flip Ordering.gt = Ordering.lt

compare_flip : (m n : ℕ) → compare n m ≡ flip (compare m n)
unfolding flip
compare_flip m n = go (compare m n) (compared m n) (compare n m) (compared n m)
  where
    go : (o : Ordering) → Compared m n o → (p : Ordering) → Compared n m p → p ≡ flip o
    go o (less l e) p (more k f) = f ∙ sym (ap flip e)
    go o (same l e) p (same k f) = f ∙ sym (ap flip e)
    go o (more l e) p (less k f) = f ∙ sym (ap flip e)
    go o (less l e) p (less k f) = absurd (omega arith)
    go o (less l e) p (same k f) = absurd (omega arith)
    go o (same l e) p (less k f) = absurd (omega arith)
    go o (same l e) p (more k f) = absurd (omega arith)
    go o (more l e) p (same k f) = absurd (omega arith)
    go o (more l e) p (more k f) = absurd (omega arith)

flip-due : (d e : Due) → compare_due e d ≡ flip (compare_due d e)
unfolding flip compare_due
flip-due (slot d) (slot e) = compare_flip d e
flip-due (slot d) never = refl
flip-due never (slot e) = refl
flip-due never never = refl

-- two comparisons after each other, where neither is the wrong way round
unfoldable chain : Ordering → Ordering → Ordering
chain Ordering.lt p = Ordering.lt
chain Ordering.eq p = p
chain Ordering.gt p = Ordering.gt

compare_chain : (l m n : ℕ) → is_le (compare l m) ≡ true → is_le (compare m n) ≡ true → compare l n ≡ chain (compare l m) (compare m n)
unfolding chain
compare_chain l m n h k = go (compare l m) (compared l m) (compare m n) (compared m n) (compare l n) (compared l n) (leb-true l m h) (leb-true m n k)
  where
    go : (o : Ordering) → Compared l m o → (p : Ordering) → Compared m n p → (r : Ordering) → Compared l n r → l ≤ m → m ≤ n → r ≡ chain o p
    go o (less a e) p q r (less c g) x y = g ∙ sym (ap (λ z. chain z p) e)
    go o (same a e) p (less b f) r (less c g) x y = g ∙ sym (ap (λ z. chain z p) e ∙ f)
    go o (same a e) p (same b f) r (same c g) x y = g ∙ sym (ap (λ z. chain z p) e ∙ f)
    go o (less a e) p q r (same c g) x y = absurd (omega arith)
    go o (less a e) p q r (more c g) x y = absurd (omega arith)
    go o (same a e) p (less b f) r (same c g) x y = absurd (omega arith)
    go o (same a e) p (less b f) r (more c g) x y = absurd (omega arith)
    go o (same a e) p (same b f) r (less c g) x y = absurd (omega arith)
    go o (same a e) p (same b f) r (more c g) x y = absurd (omega arith)
    go o (same a e) p (more b f) r q x y = absurd (omega arith)
    go o (more a e) p q r s x y = absurd (omega arith)

chain-due : (c d e : Due) → is_le (compare_due c d) ≡ true → is_le (compare_due d e) ≡ true → compare_due c e ≡ chain (compare_due c d) (compare_due d e)
unfolding chain compare_due
chain-due (slot c) (slot d) (slot e) h k = compare_chain c d e h k
chain-due (slot c) (slot d) never h k = go (compare c d) h
  where
    go : (o : Ordering) → is_le o ≡ true → Ordering.lt ≡ chain o Ordering.lt
    go Ordering.lt x = refl
    go Ordering.eq x = refl
    go Ordering.gt x = absurd (not_both x)
chain-due (slot c) never (slot e) h k = absurd (not_both k)
chain-due (slot c) never never h k = refl
chain-due never (slot d) e h k = absurd (not_both h)
chain-due never never (slot e) h k = absurd (not_both k)
chain-due never never never h k = refl

-- what comes first by an ordering and then by a test
module _ (b c : Bool) where
  by_total : (o : Ordering) → (b ≡ false → c ≡ true) → then_by o b ≡ false → then_by (flip o) c ≡ true
  unfolding then_by flip
  by_total Ordering.lt h k = absurd (not_both (sym k))
  by_total Ordering.eq h k = h k
  by_total Ordering.gt h k = refl

by_le : (o : Ordering) (b : Bool) → then_by o b ≡ true → is_le o ≡ true
unfolding then_by
by_le Ordering.lt b h = refl
by_le Ordering.eq b h = refl
by_le Ordering.gt b h = absurd (not_both h)

by_chain : (o p : Ordering) (b c d : Bool) → (b ≡ true → c ≡ true → d ≡ true) → then_by o b ≡ true → then_by p c ≡ true → then_by (chain o p) d ≡ true
unfolding then_by chain
by_chain Ordering.lt p b c d f h k = refl
by_chain Ordering.eq Ordering.lt b c d f h k = refl
by_chain Ordering.eq Ordering.eq b c d f h k = f h k
by_chain Ordering.eq Ordering.gt b c d f h k = absurd (not_both k)
by_chain Ordering.gt p b c d f h k = absurd (not_both h)

tie-total : (x y : Packet) → tie x y ≡ false → tie y x ≡ true
unfolding tie
tie-total x y h =
    ap (λ o. then_by o (leb y.number x.number)) (compare_flip x.owner y.owner)
    ∙ by_total (leb x.number y.number) (leb y.number x.number) (compare x.owner y.owner)
    (λ l. le-leb y.number x.number (omega (arith, leb-false x.number y.number l)))
    h

tie-trans : (x y z : Packet) → tie x y ≡ true → tie y z ≡ true → tie x z ≡ true
unfolding tie
tie-trans x y z h k =
    let o = compare x.owner y.owner in
    let p = compare y.owner z.owner in
    ap (λ r. then_by r (leb x.number z.number))
    (compare_chain x.owner y.owner z.owner (by_le o (leb x.number y.number) h) (by_le p (leb y.number z.number) k))
    ∙ by_chain o p (leb x.number y.number) (leb y.number z.number) (leb x.number z.number)
    (λ l m. le-leb x.number z.number (omega (arith, leb-true x.number y.number l, leb-true y.number z.number m)))
    h k

first-total : (x y : Packet) → first x y ≡ false → first y x ≡ true
unfolding first
first-total x y h =
    ap (λ o. then_by o (tie y x)) (flip-due x.due y.due) ∙ by_total (tie x y) (tie y x) (compare_due x.due y.due) (tie-total x y) h

first-trans : (x y z : Packet) → first x y ≡ true → first y z ≡ true → first x z ≡ true
unfolding first
first-trans x y z h k =
    let o = compare_due x.due y.due in
    let p = compare_due y.due z.due in
    ap (λ r. then_by r (tie x z)) (chain-due x.due y.due z.due (by_le o (tie x y) h) (by_le p (tie y z) k))
    ∙ by_chain o p (tie x y) (tie y z) (tie x z) (tie-trans x y z) h k

-- ORDER: of two packets one comes first, and what comes first stays so over a third
pub first_order : IsOrder first
first_order = record { total = first-total; trans = first-trans }

-- WHAT COMES FIRST, case by case: the lower deadline; of equal ones the lower session; of one session the lower packet
compare_less : (m n : ℕ) → m < n → compare m n ≡ Ordering.lt
compare_less m n h = go (compared m n)
  where
    go : Compared m n (compare m n) → compare m n ≡ Ordering.lt
    go (less l e) = e
    go (same l e) = absurd (omega arith)
    go (more l e) = absurd (omega arith)

compare_same : (m n : ℕ) → m ≡ n → compare m n ≡ Ordering.eq
compare_same m n h = go (compared m n)
  where
    go : Compared m n (compare m n) → compare m n ≡ Ordering.eq
    go (less l e) = absurd (omega arith)
    go (same l e) = e
    go (more l e) = absurd (omega arith)

compare_more : (m n : ℕ) → n < m → compare m n ≡ Ordering.gt
unfolding flip
compare_more m n h = compare_flip n m ∙ ap flip (compare_less n m h)

same-due : (d : Due) → compare_due d d ≡ Ordering.eq
unfolding compare_due
same-due (slot d) = compare_same d d refl
same-due never = refl

module _ (x y : Packet) where
  by-deadlines : (d e : ℕ) → x.due ≡ slot d → y.due ≡ slot e → first x y ≡ then_by (compare d e) (tie x y)
  unfolding first compare_due
  by-deadlines d e f g = ap (λ z. then_by (compare_due z y.due) (tie x y)) f ∙ ap (λ z. then_by (compare_due (slot d) z) (tie x y)) g

  pub lower-deadline : (d e : ℕ) → x.due ≡ slot d → y.due ≡ slot e → d < e → first x y ≡ true
  unfolding then_by
  lower-deadline d e f g h = by-deadlines d e f g ∙ ap (λ o. then_by o (tie x y)) (compare_less d e h)

  -- what comes first has no later deadline
  pub first-due : (d e : ℕ) → x.due ≡ slot d → y.due ≡ slot e → first x y ≡ true → d ≤ e
  first-due d e f g h = leb-true d e (by_le (compare d e) (tie x y) (sym (by-deadlines d e f g) ∙ h))

  -- and an earlier one, where its session is the higher
  pub first_strict : (d e : ℕ) → x.due ≡ slot d → y.due ≡ slot e → first x y ≡ true → y.owner < x.owner → d < e
  unfolding then_by tie
  first_strict d e f g h l = go (compared d e)
    where
      go : Compared d e (compare d e) → d < e
      go (less k o) = k
      go (same k o) =
          absurd
          (not_both
          (sym
          (by-deadlines d e f g
          ∙ ap (λ z. then_by z (tie x y)) o
          ∙ ap (λ z. then_by z (leb x.number y.number)) (compare_more x.owner y.owner l))
          ∙ h))
      go (more k o) = absurd (omega (arith, first-due d e f g h))

  even : x.due ≡ y.due → first x y ≡ tie x y
  unfolding first then_by
  even e = ap (λ z. then_by (compare_due z y.due) (tie x y)) e ∙ ap (λ o. then_by o (tie x y)) (same-due y.due)

  pub lower-session : x.due ≡ y.due → x.owner < y.owner → first x y ≡ true
  unfolding then_by tie
  lower-session e h = even e ∙ ap (λ o. then_by o (leb x.number y.number)) (compare_less x.owner y.owner h)

  pub lower-packet : x.due ≡ y.due → x.owner ≡ y.owner → first x y ≡ leb x.number y.number
  unfolding then_by tie
  lower-packet e h = even e ∙ ap (λ o. then_by o (leb x.number y.number)) (compare_same x.owner y.owner h)

-- where d has come whenever e has, e does not come first by its deadline alone
no_earlier : (d e : Due) (b : Bool) → ((t : ℕ) → T (come e t) → T (come d t)) → then_by (compare_due e d) b ≡ true → compare_due e d ≡ Ordering.eq
unfolding come then_by compare_due
no_earlier (slot d) (slot e) b h k =
    let l : d ≤ e = leb→le d e (h e (le→leb e e (omega arith))) in
    go (compare e d) (compared e d) l k
  where
    go : (o : Ordering) → Compared e d o → d ≤ e → then_by o b ≡ true → o ≡ Ordering.eq
    go o (less x y) l k = absurd (omega arith)
    go o (same x y) l k = y
    go o (more x y) l k = absurd (not_both (sym (ap (λ z. then_by z b) y) ∙ k))
no_earlier (slot d) never b h k = absurd (not_both k)
no_earlier never (slot e) b h k = absurd (h e (le→leb e e (omega arith)))
no_earlier never never b h k = refl

-- IN TURN: of two packets of a session, the one that comes first though its deadline is no earlier has the lower number
pub in_turn : (x y : Packet) → ((t : ℕ) → T (come x.due t) → T (come y.due t)) → x.owner ≡ y.owner → first x y ≡ true → x.number ≤ y.number
unfolding first then_by tie
in_turn x y h o f =
    let e = no_earlier y.due x.due (tie x y) h f in
    let g : tie x y ≡ true = sym (ap (λ z. then_by z (tie x y)) e) ∙ f in
    leb-true x.number y.number (sym (ap (λ z. then_by z (leb x.number y.number)) (compare_same x.owner y.owner o)) ∙ g)
