-- Where numbers written into a list meet its parts: zeros over zeros change nothing, a part given back is written over its place, and what stands past a list stays. Assumes nothing.
use Rattle.std.specs.Prelude.{◌≡◌, List, ◌++◌, ◌⊎◌, ℕ, zero, ◌+◌, ◌-◌, ◌≤◌, ◌<◌, length, get_or, take, drop, replicate}
use Rattle.std.proofs.Common.{sym, ap, ◌∙◌, inl, inr, arith, length-append, length-drop, ext_get_or, length-take-le, get_or-take, get_or-drop, get_or-append-add}
use Rattle.std.proofs.lemmas.List.{length-replicate, get_or-replicate}
use Rattle.std.proofs.Math.ListN.{get_or-append, get_or-eq_default}
use Rattle.curve.proofs.OrderLaws.{le_or_lt}
use Rattle.layout.specs.Layout.{part}
use Rattle.layout.specs.Part.{part_same}
use Rattle.layout.specs.Over.{over, length_over, over_out, over_inside}

-- a number of a list of zeros
pub zeros-at : (n i : ℕ) → get_or (replicate n zero) i zero ≡ zero
zeros-at n i = go (le_or_lt n i)
  where
    go : (n ≤ i) ⊎ (i < n) → get_or (replicate n zero) i zero ≡ zero
    go (inl h) = get_or-eq_default (replicate n zero) zero {n = i} (omega (arith, length-replicate n zero))
    go (inr h) = get_or-replicate n i zero zero h

-- zeros over zeros
pub over_zeros : (l : List ℕ) (a k : ℕ) → a + k ≤ length l → ((i : ℕ) → a ≤ i → i < a + k → get_or l i 0 ≡ 0) → over l a (replicate k 0) ≡ l
over_zeros l a k h z = ext_get_or 0 (over l a (replicate k 0)) l (length_over l a (replicate k 0)) (λ i b. go i (le_or_lt a i) (le_or_lt (a + k) i))
  where
    n : length (replicate k zero) ≡ k
    n = length-replicate k zero

    go : (i : ℕ) → (a ≤ i) ⊎ (i < a) → (a + k ≤ i) ⊎ (i < a + k) → get_or (over l a (replicate k 0)) i 0 ≡ get_or l i 0
    go i (inr p) q = over_out l a (replicate k 0) i (inl p)
    go i (inl p) (inl q) = over_out l a (replicate k 0) i (inr (omega (arith, n)))
    go i (inl p) (inr q) =
        let e : a + (i - a) ≡ i = omega arith in
        (rw e at (over_inside l a (replicate k 0) (omega (arith, n)) (i - a) (omega (arith, n)))) ∙ zeros-at k (i - a) ∙ sym (z i p q)

-- a part that was lent and is given back is written over its place
pub over_splice : (l : List ℕ) (a w : ℕ) (y : List ℕ) → length y ≡ w → a + w ≤ length l → take a l ++ (y ++ drop w (drop a l)) ≡ over l a y
over_splice l a w y e f =
    ext_get_or 0 (take a l ++ (y ++ drop w (drop a l))) (over l a y) lengths (λ i b. go i (le_or_lt a i) (le_or_lt (a + w) i))
  where
    head : length (take a l) ≡ a
    head = length-take-le a l (omega arith)

    lengths : length (take a l ++ (y ++ drop w (drop a l))) ≡ length (over l a y)
    lengths = omega (arith, length-append (take a l) (y ++ drop w (drop a l)), head, length-append y (drop w (drop a l)), length-drop w (drop a l), length-drop a l, length_over l a y)

    go : (i : ℕ) → (a ≤ i) ⊎ (i < a) → (a + w ≤ i) ⊎ (i < a + w) → get_or (take a l ++ (y ++ drop w (drop a l))) i 0 ≡ get_or (over l a y) i 0
    go i (inr p) q =
        get_or-append (take a l) (y ++ drop w (drop a l)) 0 i (omega (arith, head)) ∙ get_or-take a l i 0 p ∙ sym (over_out l a y i (inl p))
    go i (inl p) (inl q) =
        let m = i - (a + w) in
        let k : i ≡ length (take a l) + (length y + m) = omega (arith, head) in
        let r : a + (w + m) ≡ i = omega arith in
        ap (λ j. get_or (take a l ++ (y ++ drop w (drop a l))) j 0) k
        ∙ get_or-append-add (take a l) (y ++ drop w (drop a l)) (length y + m) 0
        ∙ get_or-append-add y (drop w (drop a l)) m 0
        ∙ get_or-drop w (drop a l) m 0
        ∙ get_or-drop a l (w + m) 0
        ∙ ap (λ j. get_or l j 0) r
        ∙ sym (over_out l a y i (inr (omega arith)))
    go i (inl p) (inr q) =
        let m = i - a in
        let k : i ≡ length (take a l) + m = omega (arith, head) in
        let r : a + m ≡ i = omega arith in
        ap (λ j. get_or (take a l ++ (y ++ drop w (drop a l))) j 0) k
        ∙ get_or-append-add (take a l) (y ++ drop w (drop a l)) m 0
        ∙ get_or-append y (drop w (drop a l)) 0 m (omega arith)
        ∙ sym (rw r at (over_inside l a y (omega arith) m (omega arith)))

-- what stands past a list stays past it
pub over-append : (l r : List ℕ) (a : ℕ) (y : List ℕ) → a + length y ≤ length l → over (l ++ r) a y ≡ over l a y ++ r
over-append l r a y f =
    ext_get_or 0 (over (l ++ r) a y) (over l a y ++ r) lengths (λ i b. go i (le_or_lt (length l) i) (le_or_lt a i) (le_or_lt (a + length y) i))
  where
    n : length (over l a y) ≡ length l
    n = length_over l a y

    whole : length (l ++ r) ≡ length l + length r
    whole = length-append l r

    lengths : length (over (l ++ r) a y) ≡ length (over l a y ++ r)
    lengths = omega (arith, length_over (l ++ r) a y, whole, length-append (over l a y) r, n)

    go : (i : ℕ) → (length l ≤ i) ⊎ (i < length l) → (a ≤ i) ⊎ (i < a) → (a + length y ≤ i) ⊎ (i < a + length y)
        → get_or (over (l ++ r) a y) i 0 ≡ get_or (over l a y ++ r) i 0
    go i (inl b) p q =
        let k : i ≡ length l + (i - length l) = omega arith in
        let m : i ≡ length (over l a y) + (i - length l) = omega (arith, n) in
        over_out (l ++ r) a y i (inr (omega arith))
        ∙ ap (λ j. get_or (l ++ r) j 0) k
        ∙ get_or-append-add l r (i - length l) 0
        ∙ sym (ap (λ j. get_or (over l a y ++ r) j 0) m ∙ get_or-append-add (over l a y) r (i - length l) 0)
    go i (inr b) (inr p) q =
        over_out (l ++ r) a y i (inl p) ∙ get_or-append l r 0 i b ∙ sym (get_or-append (over l a y) r 0 i (omega (arith, n)) ∙ over_out l a y i (inl p))
    go i (inr b) (inl p) (inl q) =
        over_out (l ++ r) a y i (inr q) ∙ get_or-append l r 0 i b ∙ sym (get_or-append (over l a y) r 0 i (omega (arith, n)) ∙ over_out l a y i (inr q))
    go i (inr b) (inl p) (inr q) =
        let e : a + (i - a) ≡ i = omega arith in
        (rw e at (over_inside (l ++ r) a y (omega (arith, whole)) (i - a) (omega arith)))
        ∙ sym (get_or-append (over l a y) r 0 i (omega (arith, n)) ∙ (rw e at (over_inside l a y f (i - a) (omega arith))))

-- a part that what is written does not meet stays
pub over-apart : (l : List ℕ) (a : ℕ) (new : List ℕ) (b w : ℕ) → b + w ≤ length l → (b + w ≤ a) ⊎ (a + length new ≤ b) → part b w (over l a new) ≡ part b w l
over-apart l a new b w h d = part_same l (over l a new) b w (length_over l a new) h (λ i q. over_out l a new (b + i) (go i q d))
  where
    go : (i : ℕ) → i < w → (b + w ≤ a) ⊎ (a + length new ≤ b) → (b + i < a) ⊎ (a + length new ≤ b + i)
    go i q (inl s) = inl (omega arith)
    go i q (inr s) = inr (omega arith)
