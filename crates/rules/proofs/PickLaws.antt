-- Laws of specs/Pick.antt. Sending: the least of a list, again and again, with what that leaves. Over any order, so that the rule of the order stands by itself in the model.
-- Assumes nothing.
use Rattle.std.specs.Prelude.{◌≡◌, ◌⊎◌, Bool, length}
use Rattle.std.proofs.Math.Path.{refl, sym, ap}
use Rattle.std.proofs.Common.{◌∙◌}
use Rattle.std.proofs.Math.Logic.{inl, inr}
use Rattle.std.proofs.Math.Bool.{true, false, not}
use mathlib.Core.List.Memᴰ
use mathlib.Core.List.{List, [], ◌∷◌, Memᴰ}
use Prim.Native.Nat.{ℕ, zero, suc, ◌+◌, ◌≤◌}
use native.Mathlib.Omega.{arith}
use Rattle.std.proofs.lemmas.Bool.{not-false}
use Rattle.rules.specs.Count.{ind, count}
use Rattle.rules.proofs.CountLaws.{ind_cases, not_both, count-length, count_none, count-short}
use Rattle.rules.specs.Pick.{keep, extract, send, Early, next, IsOrder, Ordered}

module _ {X : Type 0} where
  pub extract-count : (le : X → X → Bool) (p : X → Bool) (x : X) (l : List X)
      → ind (p (extract le x l).0) + count p (extract le x l).1 ≡ ind (p x) + count p l
  unfolding count keep extract
  extract-count le p x [] = refl
  extract-count le p x (y ∷ l) = go (le x (extract le y l).0) (extract-count le p y l)
    where
      go : (b : Bool) → ind (p (extract le y l).0) + count p (extract le y l).1 ≡ ind (p y) + count p l
          → ind (p (keep x (y ∷ l) (extract le y l) b).0) + count p (keep x (y ∷ l) (extract le y l) b).1
          ≡ ind (p x) + (ind (p y) + count p l)
      go true ih = refl
      go false ih = omega arith

  extract-least : (le : X → X → Bool) (p : X → Bool) → Early le p → (x : X) (l : List X)
      → ind (p (extract le x l).0) ≡ 0 → ind (p x) + count p l ≡ 0
  unfolding count keep extract
  extract-least le p early x [] h = omega arith
  extract-least le p early x (y ∷ l) h = go (le x (extract le y l).0) refl h (extract-least le p early y l)
    where
      go : (b : Bool) → le x (extract le y l).0 ≡ b → ind (p (keep x (y ∷ l) (extract le y l) b).0) ≡ 0
          → (ind (p (extract le y l).0) ≡ 0 → ind (p y) + count p l ≡ 0) → ind (p x) + (ind (p y) + count p l) ≡ 0
      go true e k ih = omega (arith, ih (omega (arith, (early x (extract le y l).0).0 e)))
      go false e k ih = omega (arith, ih k, (early x (extract le y l).0).1 e)

  -- NOTHING IS LOST: what is sent and what is left is what there was, by any test
  pub send-count : (le : X → X → Bool) (p : X → Bool) (k : ℕ) (l : List X) → count p (send le k l).0 + count p (send le k l).1 ≡ count p l
  unfolding count send
  send-count le p zero l = omega arith
  send-count le p (suc k) [] = refl
  send-count le p (suc k) (x ∷ l) = omega (arith, send-count le p k (extract le x l).1, extract-count le p x l)

  -- none that passes is left, or all k that were sent pass
  send-edf : (le : X → X → Bool) (p : X → Bool) → Early le p → (k : ℕ) (l : List X)
      → (count p (send le k l).1 ≡ 0) ⊎ (count p (send le k l).0 ≡ k)
  unfolding count send
  send-edf le p early zero l = inr refl
  send-edf le p early (suc k) [] = inl refl
  send-edf le p early (suc k) (x ∷ l) = go (send-edf le p early k (extract le x l).1) (ind_cases (p (extract le x l).0))
    where
      go : (count p (send le k (extract le x l).1).1 ≡ 0) ⊎ (count p (send le k (extract le x l).1).0 ≡ k)
          → (ind (p (extract le x l).0) ≡ 0) ⊎ (ind (p (extract le x l).0) ≡ 1)
          → (count p (send le k (extract le x l).1).1 ≡ 0)
          ⊎ (ind (p (extract le x l).0) + count p (send le k (extract le x l).1).0 ≡ suc k)
      go (inl z) d = inl z
      go (inr z) (inr o) = inr (omega arith)
      go (inr z) (inl o) =
          inl
          (omega (
            arith,
            extract-least le p early x l o,
            extract-count le p x l,
            send-count le p k (extract le x l).1,
          ))

  -- at most k are sent
  pub send-most : (le : X → X → Bool) (k : ℕ) (l : List X) → length (send le k l).0 ≤ k
  unfolding send
  send-most le zero l = omega arith
  send-most le (suc k) [] = omega arith
  send-most le (suc k) (x ∷ l) = omega (arith, send-most le k (extract le x l).1)

  -- EARLIEST FIRST: none that passes is left, or all that were sent pass. It does not speak of k, so that a slot that can send less fits it too
  pub send_only : (le : X → X → Bool) (p : X → Bool) → Early le p → (k : ℕ) (l : List X)
      → (count p (send le k l).1 ≡ 0) ⊎ (count p (send le k l).0 ≡ length (send le k l).0)
  send_only le p early k l =
      elim (send-edf le p early k l) [ inl e ↦ inl e | inr e ↦ inr (omega (arith, send-most le k l, count-length p (send le k l).0)) ]

  -- NOTHING IS HELD BACK: none is left, or k were sent
  pub send-full : (le : X → X → Bool) (k : ℕ) (l : List X) → (length (send le k l).1 ≡ 0) ⊎ (length (send le k l).0 ≡ k)
  unfolding send
  send-full le zero l = inr refl
  send-full le (suc k) [] = inl refl
  send-full le (suc k) (x ∷ l) = elim (send-full le k (extract le x l).1) [ inl e ↦ inl e | inr e ↦ inr (omega arith) ]

  -- what is sent, and what is left, was there
  pub extract-member : (le : X → X → Bool) (x : X) (l : List X) (z : X)
      → (z ≡ (extract le x l).0) ⊎ Memᴰ z (extract le x l).1 → Memᴰ z (x ∷ l)
  unfolding keep extract
  extract-member le x [] z (inl e) = Memᴰ.head e
  extract-member le x [] z (inr m) = Memᴰ.tail m
  extract-member le x (y ∷ l) z m = go (le x (extract le y l).0) (extract-member le y l z) m
    where
      go : (b : Bool) → ((z ≡ (extract le y l).0) ⊎ Memᴰ z (extract le y l).1 → Memᴰ z (y ∷ l))
          → (z ≡ (keep x (y ∷ l) (extract le y l) b).0) ⊎ Memᴰ z (keep x (y ∷ l) (extract le y l) b).1
          → Memᴰ z (x ∷ y ∷ l)
      go true ih (inl e) = Memᴰ.head e
      go true ih (inr k) = Memᴰ.tail k
      go false ih (inl e) = Memᴰ.tail (ih (inl e))
      go false ih (inr k) = elim (Memᴰ.cases_cons k) [ inl e ↦ Memᴰ.head e | inr n ↦ Memᴰ.tail (ih (inr n)) ]

  pub send-member : (le : X → X → Bool) (k : ℕ) (l : List X) (z : X) → Memᴰ z (send le k l).0 ⊎ Memᴰ z (send le k l).1 → Memᴰ z l
  unfolding send
  send-member le zero l z (inl m) = absurd (Memᴰ.not-nil m)
  send-member le zero l z (inr m) = m
  send-member le (suc k) [] z (inl m) = m
  send-member le (suc k) [] z (inr m) = m
  send-member le (suc k) (x ∷ l) z (inl m) = extract-member le x l z (go (λ n. send-member le k (extract le x l).1 z (inl n)) (Memᴰ.cases_cons m))
    where
      go : (Memᴰ z (send le k (extract le x l).1).0 → Memᴰ z (extract le x l).1)
          → (z ≡ (extract le x l).0) ⊎ Memᴰ z (send le k (extract le x l).1).0
          → (z ≡ (extract le x l).0) ⊎ Memᴰ z (extract le x l).1
      go ih (inl e) = inl e
      go ih (inr n) = inr (ih n)
  send-member le (suc k) (x ∷ l) z (inr m) = extract-member le x l z (inr (send-member le k (extract le x l).1 z (inr m)))

  next-cons : (le : X → X → Bool) (w : X) (s l : List X) → next le (w ∷ s) l ≡ (w ∷ (next le s l).0, (next le s l).1)
  unfolding next
  next-cons le w s [] = refl
  next-cons le w s (x ∷ l) = refl

  -- ONE BY ONE: sending up to k + 1 is sending up to k and then one more
  pub send-next : (le : X → X → Bool) (k : ℕ) (l : List X) → send le (suc k) l ≡ next le (send le k l).0 (send le k l).1
  unfolding send next
  send-next le zero [] = refl
  send-next le zero (x ∷ l) = refl
  send-next le (suc k) [] = refl
  send-next le (suc k) (x ∷ l) =
      let e = extract le x l in
      ap (λ r. (e.0 ∷ r.0, r.1)) (send-next le k e.1) ∙ sym (next-cons le e.0 (send le k e.1).0 (send le k e.1).1)

  module _ (le : X → X → Bool) (order : IsOrder le) where
    itself : (x : X) → le x x ≡ true
    itself x = go (le x x) refl
      where
        go : (b : Bool) → le x x ≡ b → le x x ≡ true
        go true e = e
        go false e = order.total x x e

    -- what comes strictly before w comes early
    before-early : (w : X) → Early le (λ z. not (le w z))
    unfolding ind
    before-early w x y = (along x y, λ e. along y x (order.total x y e))
      where
        along : (x y : X) → le x y ≡ true → ind (not (le w y)) ≤ ind (not (le w x))
        along x y e = go (le w x) refl (le w y) refl
          where
            go : (b : Bool) → le w x ≡ b → (c : Bool) → le w y ≡ c → ind (not c) ≤ ind (not b)
            go b p true q = omega arith
            go true p false q = absurd (not_both (sym q ∙ order.trans w x y p e))
            go false p false q = omega arith

    none_before : (w z : X) (l : List X) → count (λ y. not (le w y)) l ≡ 0 → Memᴰ z l → le w z ≡ true
    none_before w z l h m = not-false (le w z) (count_none (λ y. not (le w y)) z l h m)

    extract-before : (x : X) (l : List X) → ind (not (le (extract le x l).0 x)) + count (λ y. not (le (extract le x l).0 y)) l ≡ 0
    unfolding ind
    extract-before x l =
        let w = (extract le x l).0 in
        extract-least le (λ y. not (le w y)) (before-early w) x l (ap (λ b. ind (not b)) (itself w))

    -- the least comes before all there were
    pub extract-first : (x : X) (l : List X) (z : X) → Memᴰ z (x ∷ l) → le (extract le x l).0 z ≡ true
    unfolding count
    extract-first x l z m = none_before (extract le x l).0 z (x ∷ l) (extract-before x l) m

    -- LEAST FIRST: what is sent comes before all that is left
    pub send-before : (k : ℕ) (l : List X) (x y : X) → Memᴰ x (send le k l).0 → Memᴰ y (send le k l).1 → le x y ≡ true
    send-before k l x y m n = go (send_only le (λ z. not (le x z)) (before-early x) k l)
      where
        go : (count (λ z. not (le x z)) (send le k l).1 ≡ 0) ⊎ (count (λ z. not (le x z)) (send le k l).0 ≡ length (send le k l).0)
            → le x y ≡ true
        go (inl e) = none_before x y (send le k l).1 e n
        go (inr e) = absurd (omega (arith, count-short (λ z. not (le x z)) x (send le k l).0 m (ap not (itself x))))

    -- and in that order
    pub send_ordered : (k : ℕ) (l : List X) → Ordered le (send le k l).0
    unfolding send
    send_ordered zero l = tt
    send_ordered (suc k) [] = tt
    send_ordered (suc k) (x ∷ l) = (
      λ y m.
          let w = (extract le x l).0 in
          none_before w y (send le k (extract le x l).1).0
          (omega (
            arith,
            extract-before x l,
            extract-count le (λ z. not (le w z)) x l,
            send-count le (λ z. not (le w z)) k (extract le x l).1,
          ))
          m,
      send_ordered k (extract le x l).1,
    )
