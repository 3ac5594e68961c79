-- Laws of specs/Delay.antt. The delay look-up of a curve: D(q), the least m ≥ 1 with S(m) ≥ q, or never where S stays below q. Assumes nothing.
use Rattle.std.specs.Prelude.{◌≡◌, refl, ◌⊎◌, ◌↔◌, Bool, true, false, leb}
use Rattle.std.proofs.Common.{sym, ◌∙◌, inl, inr, arith, leb-true, leb-false, leb→le, le→leb}
use Rattle.std.proofs.Math.Path.{ap}
use Prim.Native.Nat.{ℕ, zero, suc, ◌+◌, ◌*◌, ◌≤◌, ◌<◌}
use Rattle.std.proofs.Math.Dec.{T}
use Rattle.std.proofs.Math.ListN.{length}
use Rattle.curve.specs.Order.{Rises}
use Rattle.curve.proofs.OrderLaws.{le_or_lt}
use Rattle.curve.specs.Curve.{Curve, at}
use Rattle.curve.specs.Rises.{IsCurve}
use Rattle.curve.proofs.RisesLaws.{at-rises, grows, at-within}
use Rattle.curve.specs.Delay.{Due, slot, never, come, slots_of, find, delay, Found, Delays, First}

sound : (f : ℕ → ℕ) → Rises f → (q k m x : ℕ) → T (come (find f q k m) x) → q ≤ f x
unfolding come find
sound f rises q zero m x h = absurd h
sound f rises q (suc k) m x h = go (leb q (f m)) refl h (sound f rises q k (suc m) x)
  where
    go : (b : Bool) → leb q (f m) ≡ b → T (come (elim b [ true ↦ slot m | false ↦ find f q k (suc m) ]) x)
        → (T (come (find f q k (suc m)) x) → q ≤ f x)
        → q ≤ f x
    go true e t ih = omega (arith, leb-true q (f m) e, rises m x (leb→le m x t))
    go false e t ih = ih t

pub find-found : (f : ℕ → ℕ) (q k m y : ℕ) → m ≤ y → y < m + k → q ≤ f y → Found f q m (find f q k m)
unfolding find
find-found f q zero m y h l w = absurd (omega arith)
find-found f q (suc k) m y h l w = go (leb q (f m)) refl (λ i. find-found f q k (suc m) y i (omega arith) w)
  where
    other : f m < q → (x : ℕ) → q ≤ f x → m ≤ x → suc m ≤ x
    other s x g i = past (le_or_lt (suc m) x)
      where
        past : (suc m ≤ x) ⊎ (x < suc m) → suc m ≤ x
        past (inl j) = j
        past (inr j) =
            let e : x ≡ m = omega arith in
            absurd (omega (arith, ap f e))

    go : (b : Bool) → leb q (f m) ≡ b → (suc m ≤ y → Found f q (suc m) (find f q k (suc m)))
        → Found f q m (elim b [ true ↦ slot m | false ↦ find f q k (suc m) ])
    go true e ih = record { place = m; is = refl; from = omega arith; reaches = leb-true q (f m) e; before = λ x i j. absurd (omega arith) }
    go false e ih =
        let s : f m < q = leb-false q (f m) e in
        let g = ih (other s y w h) in
        record { place = g.place; is = g.is; from = omega (arith, g.from); reaches = g.reaches; before = λ x i j. under s g x i j (le_or_lt q (f x)) }
      where
        under : f m < q → (g : Found f q (suc m) (find f q k (suc m))) (x : ℕ) → m ≤ x → x < g.place → (q ≤ f x) ⊎ (f x < q) → f x < q
        under s g x i j (inl a) = g.before x (other s x a i) j
        under s g x i j (inr a) = a

complete : (f : ℕ → ℕ) (q k m x y : ℕ) → m ≤ x → q ≤ f x → m ≤ y → y < m + k → q ≤ f y → T (come (find f q k m) x)
unfolding come
complete f q k m x y hx qx hy l qy = go (find-found f q k m y hy l qy)
  where
    go : Found f q m (find f q k m) → T (come (find f q k m) x)
    go g = rw g.is (le→leb g.place x (here (le_or_lt g.place x)))
      where
        here : (g.place ≤ x) ⊎ (x < g.place) → g.place ≤ x
        here (inl a) = a
        here (inr a) = absurd (omega (arith, g.before x hx a))

-- nothing that a search finds comes before its start
pub find-from : (f : ℕ → ℕ) (q k m x : ℕ) → T (come (find f q k m) x) → m ≤ x
unfolding come find
find-from f q zero m x h = absurd h
find-from f q (suc k) m x h = go (leb q (f m)) h (find-from f q k (suc m) x)
  where
    go : (b : Bool) → T (come (elim b [ true ↦ slot m | false ↦ find f q k (suc m) ]) x) → (T (come (find f q k (suc m)) x) → suc m ≤ x) → m ≤ x
    go true t ih = leb→le m x t
    go false t ih = omega (arith, ih t)

-- a search from 1 on does it for any function that never falls, where k q tries are enough for what it ever gives
pub find-delays : (f k : ℕ → ℕ) → Rises f → ((q : ℕ) → 1 ≤ k q) → ((q x : ℕ) → q ≤ f x → q ≤ f (k q)) → Delays (λ q. find f q (k q) 1) f
find-delays f k rises some enough q m h =
    (sound f rises q (k q) 1 m, λ a. complete f q (k q) 1 m (k q) h a (some q) (omega arith) (enough q m a))

-- two that have come at the same slots are one
pub due_ext : (d e : Due) → ((t : ℕ) → T (come d t) ↔ T (come e t)) → d ≡ e
unfolding come
due_ext (slot d) (slot e) h =
    let k : d ≡ e = omega (arith, leb→le e d ((h d).0 (le→leb d d (omega arith))), leb→le d e ((h e).1 (le→leb e e (omega arith)))) in
    ap slot k
due_ext (slot d) never h = absurd ((h d).0 (le→leb d d (omega arith)))
due_ext never (slot e) h = absurd ((h e).1 (le→leb e e (omega arith)))
due_ext never never h = refl

-- no D(q) has come before slot 1
pub delay-from : (P : ℕ) (S : Curve) (q t : ℕ) → T (come (delay P S q) t) → 1 ≤ t
unfolding delay
delay-from P S q t h = omega (arith, find-from (at P S) q (length S.table + q * P) _ t h)

module _ (P : ℕ) (S : Curve) (good : IsCurve P S) where
  -- D LAW: D(q) ≤ m exactly when q ≤ S(m), for m ≥ 1 and every rate
  pub delay-law : Delays (delay P S) (at P S)
  unfolding delay
  delay-law =
      let p : 1 ≤ P = good.period in
      let l : P ≤ length S.table = good.long in
      find-delays (at P S) (λ q. length S.table + q * P) (at-rises P S good) (λ q. omega arith) (at-within P S good)

  -- with a rate, there is always a slot in which it comes
  pub delay-found : 1 ≤ S.rate → (q : ℕ) → Found (at P S) q 1 (delay P S q)
  unfolding delay
  delay-found rate q =
      let p : 1 ≤ P = good.period in
      let l : P ≤ length S.table = good.long in
      let n : ℕ = length S.table + q * P in
      find-found (at P S) q n 1 n (omega arith) (omega arith) (grows P S good rate q)

  pub delay-slot : 1 ≤ S.rate → (q : ℕ) → delay P S q ≡ slot (slots_of (delay P S q))
  unfolding slots_of
  delay-slot rate q =
      let found = delay-found rate q in
      found.is ∙ ap (λ d. slot (slots_of d)) (sym found.is)

  -- D(q) is the least, where there is one
  pub delay-is : (q m : ℕ) → First (at P S) q m → delay P S q ≡ slot m
  unfolding delay come
  delay-is q m g = due_ext (delay P S q) (slot m) (λ t. (there t, back t))
    where
      there : (t : ℕ) → T (come (delay P S q) t) → T (leb m t)
      there t h = go (le_or_lt m t)
        where
          one : 1 ≤ t
          one = delay-from P S q t h

          go : (m ≤ t) ⊎ (t < m) → T (leb m t)
          go (inl a) = le→leb m t a
          go (inr a) = absurd (omega (arith, g.before t one a, (delay-law q t one).0 h))

      back : (t : ℕ) → T (leb m t) → T (come (delay P S q) t)
      back t h =
          let a : m ≤ t = leb→le m t h in
          (delay-law q t (omega (arith, g.from))).1 (omega (arith, g.reaches, at-rises P S good m t a))

  -- and never where there is none
  pub delay-never : (q : ℕ) → ((m : ℕ) → 1 ≤ m → at P S m < q) → delay P S q ≡ never
  unfolding delay come
  delay-never q h = due_ext (delay P S q) never (λ t. (none t, λ k. absurd k))
    where
      none : (t : ℕ) → T (come (delay P S q) t) → ⊥
      none t k =
          let one : 1 ≤ t = delay-from P S q t k in
          omega (arith, h t one, (delay-law q t one).0 k)
