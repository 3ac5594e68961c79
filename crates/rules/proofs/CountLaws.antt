-- Laws of specs/Count.antt. Counting: how many of a list pass a test, and how many of the numbers 1..n. The theorems about a run count packets and never reorder them. Assumes nothing.
use Rattle.std.specs.Prelude.{◌≡◌, ◌⊎◌, Bool, ◌&&◌, ℕ, zero, suc, ◌+◌, ◌≤◌, ◌<◌, min, T, length}
use Rattle.std.proofs.Math.Path.{refl, ap}
use Rattle.std.proofs.Math.Logic.{inl, inr}
use Rattle.std.proofs.Math.Bool.{true, false}
use mathlib.Core.List.{List, [], ◌∷◌, ◌++◌, Memᴰ}
use native.Mathlib.Omega.{arith}
use Rattle.curve.proofs.OrderLaws.{le_or_lt}
use Rattle.rules.specs.Count.{ind, count, count_all, count_to}

ind_false : ind false ≡ 0
unfolding ind
ind_false = refl

pub ind_cases : (b : Bool) → (ind b ≡ 0) ⊎ (ind b ≡ 1)
unfolding ind
ind_cases true = inr refl
ind_cases false = inl refl

-- no test has both answers
pub not_both : false ≡ true → ⊥
unfolding ind
not_both e = omega (arith, ap ind e)

pub ind_and_left : (a b : Bool) → ind (a && b) ≤ ind a
unfolding ind
ind_and_left true true = omega arith
ind_and_left true false = omega arith
ind_and_left false b = omega arith

pub ind_and_right : (a b : Bool) → ind (a && b) ≤ ind b
unfolding ind
ind_and_right true b = omega arith
ind_and_right false b = omega arith

module _ {X : Type 0} where
  pub count-append : (p : X → Bool) (l m : List X) → count p (l ++ m) ≡ count p l + count p m
  unfolding count
  count-append p [] m = omega arith
  count-append p (x ∷ l) m = omega (arith, count-append p l m)

  -- a test that passes less often
  pub count-le : (p q : X → Bool) → ((x : X) → ind (p x) ≤ ind (q x)) → (l : List X) → count p l ≤ count q l
  unfolding count
  count-le p q h [] = omega arith
  count-le p q h (x ∷ l) = omega (arith, h x, count-le p q h l)

  -- a test that always passes
  pub count-all : (l : List X) → count (λ x. true) l ≡ length l
  unfolding count ind
  count-all [] = refl
  count-all (x ∷ l) = omega (arith, count-all l)

  pub count-length : (p : X → Bool) (l : List X) → count p l ≤ length l
  unfolding count
  count-length p [] = omega arith
  count-length p (x ∷ l) = elim (ind_cases (p x)) [ inl e ↦ omega (arith, count-length p l) | inr e ↦ omega (arith, count-length p l) ]

  -- where none is counted, no member passes
  pub count_none : (p : X → Bool) (x : X) (l : List X) → count p l ≡ 0 → Memᴰ x l → p x ≡ false
  unfolding count ind
  count_none p x l h (Memᴰ.head {x = y} {xs = ys} e) = go (p x) (omega (arith, ap (λ z. ind (p z)) e))
    where
      go : (b : Bool) → ind b ≡ 0 → b ≡ false
      go true k = absurd (omega arith)
      go false k = refl
  count_none p x l h (Memᴰ.tail {xs = ys} m) = count_none p x ys (omega arith) m

  -- where a member fails, not all are counted
  pub count-short : (p : X → Bool) (x : X) (l : List X) → Memᴰ x l → p x ≡ false → count p l < length l
  unfolding count ind
  count-short p x l (Memᴰ.head {x = y} {xs = ys} e) h =
      omega (arith, ap (λ z. ind (p z)) e, ap ind h, count-length p ys)
  count-short p x l (Memᴰ.tail {x = y} {xs = ys} m) h =
      elim (ind_cases (p y)) [ inl e ↦ omega (arith, count-short p x ys m h) | inr e ↦ omega (arith, count-short p x ys m h) ]

  -- where a member passes, one is counted
  pub count-some : (p : X → Bool) (x : X) (l : List X) → Memᴰ x l → p x ≡ true → 1 ≤ count p l
  unfolding count ind
  count-some p x l (Memᴰ.head {x = y} {xs = ys} e) h = omega (arith, ap (λ z. ind (p z)) e, ap ind h)
  count-some p x l (Memᴰ.tail {x = y} {xs = ys} m) h = omega (arith, count-some p x ys m h)

  -- and where every member fails, none is
  pub count_no : (p : X → Bool) (l : List X) → ((x : X) → Memᴰ x l → p x ≡ false) → count p l ≡ 0
  unfolding count ind
  count_no p [] h = refl
  count_no p (x ∷ l) h = omega (arith, ap ind (h x (Memᴰ.head refl)), count_no p l (λ y m. h y (Memᴰ.tail m)))

  -- so where one is counted, a member passes
  pub count_witness : (p : X → Bool) (l : List X) → 1 ≤ count p l → (x : X) × Memᴰ x l × (p x ≡ true)
  unfolding count ind
  count_witness p [] h = absurd (omega arith)
  count_witness p (y ∷ l) h = go (p y) refl (count_witness p l)
    where
      go : (b : Bool) → p y ≡ b → (1 ≤ count p l → (x : X) × Memᴰ x l × (p x ≡ true)) → (x : X) × Memᴰ x (y ∷ l) × (p x ≡ true)
      go true e ih = (y, Memᴰ.head refl, e)
      go false e ih =
          let w = ih (omega (arith, ap ind e)) in
          (w.0, Memᴰ.tail w.1, w.2)

  -- a test that passes less often among the members
  pub count_le_in : (p q : X → Bool) (l : List X) → ((x : X) → Memᴰ x l → ind (p x) ≤ ind (q x)) → count p l ≤ count q l
  unfolding count
  count_le_in p q [] h = omega arith
  count_le_in p q (x ∷ l) h = omega (arith, h x (Memᴰ.head refl), count_le_in p q l (λ y m. h y (Memᴰ.tail m)))

  -- and once less
  count-lt : (p q : X → Bool) → ((x : X) → ind (p x) ≤ ind (q x)) → (x : X) (l : List X) → Memᴰ x l → p x ≡ false → q x ≡ true → count p l < count q l
  unfolding count ind
  count-lt p q h x l (Memᴰ.head {x = y} {xs = ys} e) f g =
      omega (arith, ap (λ z. ind (p z)) e, ap (λ z. ind (q z)) e, ap ind f, ap ind g, count-le p q h ys)
  count-lt p q h x l (Memᴰ.tail {x = y} {xs = ys} m) f g = omega (arith, h y, count-lt p q h x ys m f g)

  -- where one test passes more often than another, a member passes the one and fails the other
  pub count-differs : (p q : X → Bool) (l : List X) → count p l < count q l → (x : X) × Memᴰ x l × (q x ≡ true) × (p x ≡ false)
  unfolding count
  count-differs p q [] h = absurd (omega arith)
  count-differs p q (x ∷ l) h = go (p x) refl (q x) refl (count-differs p q l)
    where
      there : ind (q x) ≤ ind (p x) → (count p l < count q l → (y : X) × Memᴰ y l × (q y ≡ true) × (p y ≡ false)) → (y : X) × Memᴰ y (x ∷ l) × (q y ≡ true) × (p y ≡ false)
      there k ih =
          let w = ih (omega arith) in
          (w.0, Memᴰ.tail w.1, w.2, w.3)

      go : (b : Bool) → p x ≡ b → (c : Bool) → q x ≡ c → (count p l < count q l → (y : X) × Memᴰ y l × (q y ≡ true) × (p y ≡ false))
          → (y : X) × Memᴰ y (x ∷ l) × (q y ≡ true) × (p y ≡ false)
      go false e true f ih = (x, Memᴰ.head refl, f, e)
      go true e true f ih = there (omega (arith, ap ind e, ap ind f)) ih
      go b e false f ih = there (omega (arith, ap ind f, none)) ih
        where
          none : ind false ≡ 0
          none = ind_false

  pub count_all-differs : (p q : X → Bool) (ls : List (List X)) → count_all p ls < count_all q ls
      → (l : List X) × Memᴰ l ls × (x : X) × Memᴰ x l × (q x ≡ true) × (p x ≡ false)
  unfolding count_all
  count_all-differs p q [] h = absurd (omega arith)
  count_all-differs p q (l ∷ ls) h = go (le_or_lt (count q l) (count p l)) (count_all-differs p q ls)
    where
      go : (count q l ≤ count p l) ⊎ (count p l < count q l)
          → (count_all p ls < count_all q ls → (k : List X) × Memᴰ k ls × (x : X) × Memᴰ x k × (q x ≡ true) × (p x ≡ false))
          → (k : List X) × Memᴰ k (l ∷ ls) × (x : X) × Memᴰ x k × (q x ≡ true) × (p x ≡ false)
      go (inl e) ih =
          let w = ih (omega arith) in
          (w.0, Memᴰ.tail w.1, w.2, w.3, w.4, w.5)
      go (inr e) ih =
          let w = count-differs p q l e in
          (l, Memᴰ.head refl, w.0, w.1, w.2, w.3)

  pub count_all_snoc : (p : X → Bool) (ls : List (List X)) (l : List X) → count_all p (ls ++ (l ∷ [])) ≡ count_all p ls + count p l
  unfolding count_all
  count_all_snoc p [] l = omega arith
  count_all_snoc p (k ∷ ls) l = omega (arith, count_all_snoc p ls l)

  pub count_all-le : (p q : X → Bool) → ((x : X) → ind (p x) ≤ ind (q x)) → (ls : List (List X)) → count_all p ls ≤ count_all q ls
  unfolding count_all
  count_all-le p q h [] = omega arith
  count_all-le p q h (l ∷ ls) = omega (arith, count-le p q h l, count_all-le p q h ls)

  pub count_all_le_in : (p q : X → Bool) (ls : List (List X)) → ((l : List X) (x : X) → Memᴰ l ls → Memᴰ x l → ind (p x) ≤ ind (q x))
      → count_all p ls ≤ count_all q ls
  unfolding count_all
  count_all_le_in p q [] h = omega arith
  count_all_le_in p q (l ∷ ls) h =
      omega (arith, count_le_in p q l (λ x m. h l x (Memᴰ.head refl) m), count_all_le_in p q ls (λ k x m. h k x (Memᴰ.tail m)))

  pub count_all-lt : (p q : X → Bool) → ((x : X) → ind (p x) ≤ ind (q x)) → (x : X) (l : List X) (ls : List (List X))
      → Memᴰ l ls → Memᴰ x l → p x ≡ false → q x ≡ true
      → count_all p ls < count_all q ls
  unfolding count_all
  count_all-lt p q h x l ls (Memᴰ.head {x = k} {xs = ks} e) m f g =
      omega (arith, ap (count p) e, ap (count q) e, count-lt p q h x l m f g, count_all-le p q h ks)
  count_all-lt p q h x l ls (Memᴰ.tail {x = k} {xs = ks} n) m f g =
      omega (arith, count-le p q h k, count_all-lt p q h x l ks n m f g)

pub count_to_cong : (p r : ℕ → Bool) (n : ℕ) → ((q : ℕ) → 1 ≤ q → q ≤ n → p q ≡ r q) → count_to p n ≡ count_to r n
unfolding count_to
count_to_cong p r zero h = refl
count_to_cong p r (suc n) h = rw (count_to_cong p r n (λ q k l. h q k (omega arith)), h (suc n) (omega arith) (omega arith))

pub count_to-le : (p : ℕ → Bool) (n : ℕ) → count_to p n ≤ n
unfolding count_to
count_to-le p zero = omega arith
count_to-le p (suc n) = elim (ind_cases (p (suc n))) [ inl e ↦ omega (arith, count_to-le p n) | inr e ↦ omega (arith, count_to-le p n) ]

pub count_to-none : (p : ℕ → Bool) (n : ℕ) → ((q : ℕ) → ind (p q) ≡ 0) → count_to p n ≡ 0
unfolding count_to
count_to-none p zero h = refl
count_to-none p (suc n) h = omega (arith, count_to-none p n h, h (suc n))

pub count_to-all : (p : ℕ → Bool) (n : ℕ) → ((q : ℕ) → p q ≡ true) → count_to p n ≡ n
unfolding count_to ind
count_to-all p zero h = refl
count_to-all p (suc n) h = omega (arith, count_to-all p n h, ap ind (h (suc n)))

-- of the numbers x + 1 .. x + n, those that pass are up to m: then no more pass than lie between
pub count_to_upper : (p : ℕ → Bool) (n x m : ℕ) → ((q : ℕ) → 1 ≤ q → q ≤ n → T (p q) → x + q ≤ m) → count_to p n + min x m ≤ min (x + n) m
unfolding count_to ind
count_to_upper p zero x m h = omega arith
count_to_upper p (suc n) x m h = go (p (suc n)) (h (suc n) (omega arith) (omega arith)) (count_to_upper p n x m (λ q k l. h q k (omega arith)))
  where
    go : (b : Bool) → (T b → x + suc n ≤ m) → count_to p n + min x m ≤ min (x + n) m → count_to p n + ind b + min x m ≤ min (x + suc n) m
    go true k ih = omega (arith, k tt)
    go false k ih = omega arith

-- those up to m all pass: then no fewer do
pub count_to-lower : (p : ℕ → Bool) (n x m : ℕ) → ((q : ℕ) → 1 ≤ q → q ≤ n → x + q ≤ m → T (p q)) → min (x + n) m ≤ count_to p n + min x m
unfolding count_to ind
count_to-lower p zero x m h = omega arith
count_to-lower p (suc n) x m h = go (p (suc n)) (h (suc n) (omega arith) (omega arith)) (count_to-lower p n x m (λ q k l. h q k (omega arith)))
  where
    go : (b : Bool) → (x + suc n ≤ m → T b) → min (x + n) m ≤ count_to p n + min x m → min (x + suc n) m ≤ count_to p n + ind b + min x m
    go true k ih = omega arith
    go false k ih = elim (le_or_lt (x + suc n) m) [ inl l ↦ absurd (k l) | inr l ↦ omega arith ]
