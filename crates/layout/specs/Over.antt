-- A list with numbers written into it: at places that are told one by one, or from one place on. Every other place keeps its number. Assumes nothing.
use Rattle.std.specs.Prelude.{◌≡◌, List, ◌⊎◌, length, set}
use Rattle.std.proofs.Math.Path.{refl}
use Rattle.std.proofs.Common.{sym, ◌∙◌, inl, inr, ext_get_or, get_or-set_same}
use Prim.Native.Nat.{ℕ, zero, suc, ◌+◌, ◌≤◌, ◌<◌}
use Rattle.std.proofs.Math.Numerals.{add-one}
use native.Mathlib.Omega.{arith}
use Rattle.std.proofs.Math.ListN.{get_or, length-set}
use Rattle.std.proofs.Math.Seq.{get_or-set_other}
use Rattle.curve.proofs.OrderLaws.{le_or_lt}
use Rattle.layout.specs.Layout.{part}
use Rattle.layout.specs.Part.{part_length, part_at}

-- k numbers: the i-th, from 0, is f i and is written at the place p i
unfoldable pub puts : List ℕ → (ℕ → ℕ) → (ℕ → ℕ) → ℕ → List ℕ
puts l p f zero = l
puts l p f (suc k) = set (puts l p f k) (p k) (f k)

-- these numbers, from the place a on
unfoldable pub over : List ℕ → ℕ → List ℕ → List ℕ
over l a new = puts l (λ i. a + i) (λ i. get_or new i 0) (length new)

module _ (l : List ℕ) (p f : ℕ → ℕ) where
  pub puts_none : puts l p f 0 ≡ l
  unfolding puts
  puts_none = refl

  pub puts-more : (k : ℕ) → set (puts l p f k) (p k) (f k) ≡ puts l p f (k + 1)
  unfolding puts
  puts-more k = rw add-one

  pub length-puts : (k : ℕ) → length (puts l p f k) ≡ length l
  unfolding puts
  length-puts zero = refl
  length-puts (suc k) = length-set (puts l p f k) (p k) (f k) ∙ length-puts k

  pub puts_out : (k x : ℕ) → ((i : ℕ) → i < k → p i ≡ x → ⊥) → get_or (puts l p f k) x 0 ≡ get_or l x 0
  unfolding puts
  puts_out zero x h = refl
  puts_out (suc k) x h =
      get_or-set_other (puts l p f k) (p k) x (f k) 0 (λ e. h k (omega arith) (sym e)) ∙ puts_out k x (λ i b. h i (omega arith))

  pub puts_in : (k : ℕ) → ((i : ℕ) → i < k → p i < length l) → ((i j : ℕ) → i < j → j < k → p i ≡ p j → ⊥) → (i : ℕ) → i < k
      → get_or (puts l p f k) (p i) 0 ≡ f i
  unfolding puts
  puts_in zero h d i b = absurd (omega arith)
  puts_in (suc k) h d i b = go (puts_in k (λ j s. h j (omega arith)) (λ j m s r. d j m s (omega arith)) i) (le_or_lt k i)
    where
      go : (i < k → get_or (puts l p f k) (p i) 0 ≡ f i) → (k ≤ i) ⊎ (i < k) → get_or (set (puts l p f k) (p k) (f k)) (p i) 0 ≡ f i
      go ih (inl a) =
          let e : i ≡ k = omega arith in
          rw e (get_or-set_same (puts l p f k) (p k) (f k) 0 (omega (arith, length-puts k, h k (omega arith))))
      go ih (inr a) = get_or-set_other (puts l p f k) (p k) (p i) (f k) 0 (λ e. d i k a (omega arith) e) ∙ ih a

module _ (l : List ℕ) (a : ℕ) (new : List ℕ) where
  pub length_over : length (over l a new) ≡ length l
  unfolding over
  length_over = length-puts l (λ i. a + i) (λ i. get_or new i 0) (length new)

  pub over_out : (x : ℕ) → (x < a) ⊎ (a + length new ≤ x) → get_or (over l a new) x 0 ≡ get_or l x 0
  unfolding over
  over_out x (inl h) = puts_out l (λ i. a + i) (λ i. get_or new i 0) (length new) x (λ i b e. omega arith)
  over_out x (inr h) = puts_out l (λ i. a + i) (λ i. get_or new i 0) (length new) x (λ i b e. omega arith)

  pub over_inside : a + length new ≤ length l → (i : ℕ) → i < length new → get_or (over l a new) (a + i) 0 ≡ get_or new i 0
  unfolding over
  over_inside h i b =
      puts_in l (λ i. a + i) (λ i. get_or new i 0) (length new) (λ j s. omega arith) (λ j m s r e. omega arith) i b

  -- the numbers stand where they were written
  pub over-part : a + length new ≤ length l → part a (length new) (over l a new) ≡ new
  over-part h =
      let k = part_length (over l a new) a (length new) (omega (arith, length_over)) in
      ext_get_or 0 (part a (length new) (over l a new)) new k
      (λ i b. let q : i < length new = omega arith in part_at (over l a new) a (length new) i q ∙ over_inside h i q)
