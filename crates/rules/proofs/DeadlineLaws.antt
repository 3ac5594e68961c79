-- Laws of specs/Deadline.antt. Deadlines in document 01's words (rule 3 of one slot), and the DUE LAW: by which slots a deadline has come. Assumes nothing.
use Rattle.std.specs.Prelude.{◌≡◌, refl, ◌⊎◌, ◌↔◌}
use Rattle.std.proofs.Common.{inl, inr, leb→le}
use Prim.Native.Nat.{ℕ, zero, suc, ◌+◌, ◌-◌, ◌≤◌, ◌<◌, max}
use native.Mathlib.Omega.{arith}
use Rattle.std.proofs.Math.Dec.{T, le→leb}
use Rattle.curve.specs.Order.{Rises}
use Rattle.curve.proofs.OrderLaws.{le_or_lt}
use Rattle.curve.specs.Total.{total}
use Rattle.curve.proofs.TotalLaws.{total_cong}
use Rattle.curve.specs.Delay.{Due, slot, never, come, Delays}
use Rattle.curve.proofs.DelayLaws.{due_ext}
use Rattle.rules.specs.Deadline.{later, shift, if_any, deadline}

-- K2, where D(q) is q: of 3 packets taken in in slot 1 the first is due in slot 1; the next, taken in in slot 2, is due in slot 4, since slot 1 binds it too
k2_intake : ℕ → ℕ
k2_intake zero = 3
k2_intake (suc j) = 1

k2-due : (deadline slot k2_intake 1 1 ≡ slot 1) × (deadline slot k2_intake 4 2 ≡ slot 4)
unfolding deadline later shift if_any total k2_intake
k2-due = (refl, refl)

-- the larger has come when both have
pub come-later : (d e : Due) (t : ℕ) → T (come (later d e) t) ↔ (T (come d t) × T (come e t))
unfolding come later
come-later (slot d) (slot e) t = (
  λ h. (le→leb d t (omega (arith, leb→le (max d e) t h)), le→leb e t (omega (arith, leb→le (max d e) t h))),
  λ h. le→leb (max d e) t (omega (arith, leb→le d t h.0, leb→le e t h.1)),
)
come-later (slot d) never t = (λ h. absurd h, λ h. h.1)
come-later never e t = (λ h. absurd h, λ h. h.0)

pub come-shift : (j : ℕ) (d : Due) (t : ℕ) → j ≤ t → T (come (shift j d) t) ↔ T (come d (t - j))
unfolding come shift
come-shift j (slot d) t h = (λ k. le→leb d (t - j) (omega (arith, leb→le (j + d) t k)), λ k. le→leb (j + d) t (omega (arith, leb→le d (t - j) k)))
come-shift j never t h = (λ k. k, λ k. k)

pub shift_from : (j : ℕ) (d : Due) (t : ℕ) → T (come (shift j d) t) → j ≤ t
unfolding come shift
shift_from j (slot d) t h = omega (arith, leb→le (j + d) t h)
shift_from j never t h = absurd h

pub come-if_any : (a : ℕ) (d : Due) (t : ℕ) → T (come (if_any a d) t) ↔ (1 ≤ a → T (come d t))
unfolding come if_any
come-if_any zero d t = (λ h k. absurd (omega arith), λ h. le→leb 0 t (omega arith))
come-if_any (suc a) d t = (λ h k. h, λ h. h (omega arith))

module _ (D : ℕ → Due) (S : ℕ → ℕ) (law : Delays D S) (a : ℕ → ℕ) (N t : ℕ) where
  one-slot : (j : ℕ) → j < t → T (come (if_any (a j) (shift j (D (N - total a j)))) t) ↔ (1 ≤ a j → N ≤ total a j + S (t - j))
  one-slot j l =
      let d : Due = D (N - total a j) in (
        λ h p. omega (arith, (law (N - total a j) (t - j) (omega arith)).0 ((come-shift j d t (omega arith)).0 ((come-if_any (a j) (shift j d) t).0 h p))),
        λ h. (come-if_any (a j) (shift j d) t).1
            (λ p. (come-shift j d t (omega arith)).1 ((law (N - total a j) (t - j) (omega arith)).1 (omega (arith, h p)))),
      )

  deadline-sound : (k j : ℕ) → k ≤ t → T (come (deadline D a N k) t) → j < k → 1 ≤ a j → N ≤ total a j + S (t - j)
  unfolding deadline
  deadline-sound zero j l h i p = absurd (omega arith)
  deadline-sound (suc k) j l h i p = go (le_or_lt k j) (deadline-sound k j (omega arith))
    where
      both : T (come (deadline D a N k) t) × T (come (if_any (a k) (shift k (D (N - total a k)))) t)
      both = (come-later (deadline D a N k) (if_any (a k) (shift k (D (N - total a k)))) t).0 h

      go : (k ≤ j) ⊎ (j < k) → (T (come (deadline D a N k) t) → j < k → 1 ≤ a j → N ≤ total a j + S (t - j)) → N ≤ total a j + S (t - j)
      go (inl m) ih = let e : j ≡ k = omega arith in rw e ((one-slot k l).0 both.1 (rw e at p))
      go (inr m) ih = ih both.0 m p

  deadline-complete : (k : ℕ) → k ≤ t → ((j : ℕ) → j < k → 1 ≤ a j → N ≤ total a j + S (t - j)) → T (come (deadline D a N k) t)
  unfolding deadline come
  deadline-complete zero l h = le→leb 0 t (omega arith)
  deadline-complete (suc k) l h =
      (come-later (deadline D a N k) (if_any (a k) (shift k (D (N - total a k)))) t).1
      (deadline-complete k (omega arith) (λ j i. h j (omega arith)), (one-slot k l).1 (h k (omega arith)))

  -- DUE LAW: of a packet taken in slot u + 1, with the number N, and t ≥ u + 1
  pub due-sound : Rises S → (u : ℕ) → u < t → 1 ≤ a u → T (come (deadline D a N (suc u)) t) → (r : ℕ) → r ≤ u → N ≤ total a r + S (t - r)
  unfolding total
  due-sound rises u l p h r k = back (u - r) r (omega arith)
    where
      back : (d r : ℕ) → r + d ≡ u → N ≤ total a r + S (t - r)
      back zero r e = let f : r ≡ u = omega arith in rw f (deadline-sound (suc u) u l h (omega arith) p)
      back (suc d) r e = go (le_or_lt 1 (a r)) (back d (suc r) (omega arith))
        where
          go : (1 ≤ a r) ⊎ (a r < 1) → N ≤ total a (suc r) + S (t - suc r) → N ≤ total a r + S (t - r)
          go (inl m) ih = deadline-sound (suc u) r l h (omega arith) m
          go (inr m) ih = omega (arith, rises (t - suc r) (t - r) (omega arith))

  pub due-complete : (u : ℕ) → u < t → ((r : ℕ) → r ≤ u → N ≤ total a r + S (t - r)) → T (come (deadline D a N (suc u)) t)
  due-complete u l h = deadline-complete (suc u) l (λ j i p. h j (omega arith))

pub deadline_cong : (D : ℕ → Due) (a b : ℕ → ℕ) (N k : ℕ) → ((j : ℕ) → j < k → a j ≡ b j) → deadline D a N k ≡ deadline D b N k
unfolding deadline
deadline_cong D a b N zero h = refl
deadline_cong D a b N (suc k) h =
    rw (deadline_cong D a b N k (λ j l. h j (omega arith)), total_cong a b k (λ j l. h j (omega arith)), h k (omega arith))

-- a deadline lies after the slots before its packet's own, where no D(q) is below 1
pub deadline-from : (D : ℕ → Due) → ((q t : ℕ) → T (come (D q) t) → 1 ≤ t) → (a : ℕ → ℕ) (N u t : ℕ) → 1 ≤ a u → T (come (deadline D a N (suc u)) t) → u < t
unfolding deadline
deadline-from D some a N u t p h =
    let d : Due = D (N - total a u) in
    let k : T (come (shift u d) t) = (come-if_any (a u) (shift u d) t).0 ((come-later (deadline D a N u) (if_any (a u) (shift u d)) t).0 h).1 p in
    let l : u ≤ t = shift_from u d t k in
    omega (arith, some (N - total a u) (t - u) ((come-shift u d t l).0 k))

-- the later of d and e is e, where d has come whenever e has
pub later-is : (d e : Due) → ((t : ℕ) → T (come e t) → T (come d t)) → later d e ≡ e
later-is d e h = due_ext (later d e) e (λ t. (λ k. ((come-later d e t).0 k).1, λ k. (come-later d e t).1 (h t k, k)))

-- NEVER FALLS: a packet with a higher number, taken in the same slot or a later one, has no earlier deadline
pub deadline-rises : (D : ℕ → Due) (S : ℕ → ℕ) → Delays D S → Rises S → ((q t : ℕ) → T (come (D q) t) → 1 ≤ t)
    → (a : ℕ → ℕ) (N M u v : ℕ) → N ≤ M → u ≤ v → 1 ≤ a v
    → later (deadline D a N (suc u)) (deadline D a M (suc v)) ≡ deadline D a M (suc v)
deadline-rises D S law rises some a N M u v n l p = later-is (deadline D a N (suc u)) (deadline D a M (suc v)) come_too
  where
    come_too : (t : ℕ) → T (come (deadline D a M (suc v)) t) → T (come (deadline D a N (suc u)) t)
    come_too t h =
        let k : v < t = deadline-from D some a M v t p h in
        due-complete D S law a N t u (omega arith) (λ r m. omega (arith, due-sound D S law a M t rises v k p h r (omega arith)))
