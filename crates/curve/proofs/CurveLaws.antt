-- Laws of specs/Curve.antt. A curve as document 01 has it, a table and a linear tail, with the theorem that its three rules leave one function. Assumes nothing.
use Rattle.std.specs.Prelude.{◌≡◌, ◌⊎◌, get_or}
use Rattle.std.proofs.Math.Path.{refl, sym, ap}
use Rattle.std.proofs.Common.{◌∙◌, inl, inr, not-suc-le-zero, le-leb}
use Prim.Native.Nat.{ℕ, zero, suc, ◌+◌, ◌-◌, ◌*◌, ◌≤◌, ◌<◌, zero-le}
use native.Mathlib.Omega.{arith}
use Rattle.std.proofs.lemmas.Bool.{lt-leb}
use Rattle.std.proofs.Math.ListN.{length}
use Rattle.curve.proofs.OrderLaws.{le_or_lt}
use Rattle.curve.specs.Curve.{Curve, entry, value, at, Follows}

module _ (P : ℕ) (F : Curve) where
  in_table : (k x : ℕ) → x ≤ length F.table → value (suc k) P F x ≡ entry F.table x
  unfolding value
  in_table k x h = rw (le-leb x (length F.table) h, value)

  in_tail : (k x : ℕ) → length F.table < x → value (suc k) P F x ≡ value k P F (x - P) + F.rate
  unfolding value
  in_tail k x h = rw (lt-leb x (length F.table) h, value) refl

  -- two bounds that are large enough give one value
  enough : 1 ≤ P → (k l x : ℕ) → x ≤ k → x ≤ l → value k P F x ≡ value l P F x
  unfolding value entry
  enough p zero zero x hk hl = refl
  enough p zero (suc l) zero hk hl = sym (in_table l 0 zero-le)
  enough p zero (suc l) (suc x) hk hl = absurd (not-suc-le-zero hk)
  enough p (suc k) zero zero hk hl = in_table k 0 zero-le
  enough p (suc k) zero (suc x) hk hl = absurd (not-suc-le-zero hl)
  enough p (suc k) (suc l) x hk hl = go (enough p k l (x - P)) (le_or_lt x (length F.table))
    where
      go : (x - P ≤ k → x - P ≤ l → value k P F (x - P) ≡ value l P F (x - P))
          → (x ≤ length F.table) ⊎ (length F.table < x)
          → value (suc k) P F x ≡ value (suc l) P F x
      go ih (inl a) = in_table k x a ∙ sym (in_table l x a)
      go ih (inr a) = in_tail k x a ∙ ap (λ v. v + F.rate) (ih (omega arith) (omega arith)) ∙ sym (in_tail l x a)

  -- F(0) = 0
  pub at_zero : at P F 0 ≡ 0
  unfolding at value
  at_zero = refl

  -- F(1)..F(n) are the table
  pub at_table : (i : ℕ) → i < length F.table → at P F (suc i) ≡ get_or F.table i 0
  unfolding at entry
  at_table i h = in_table i (suc i) h

  pub at_entry : (x : ℕ) → x ≤ length F.table → at P F x ≡ entry F.table x
  unfolding at entry
  at_entry zero h = at_zero
  at_entry (suc x) h = in_table x (suc x) h

  -- TAIL LAW: F(x+P) = F(x) + r, where x + P is past the table
  pub at_tail : 1 ≤ P → (x : ℕ) → length F.table < x + P → at P F (x + P) ≡ at P F x + F.rate
  unfolding at
  at_tail p x h = go (x + P) refl
    where
      go : (y : ℕ) → y ≡ x + P → value y P F y ≡ value x P F x + F.rate
      go zero e = absurd (omega arith)
      go (suc y) e =
          let b : suc y - P ≡ x = omega arith in
          in_tail y (suc y) (omega arith) ∙ ap (λ v. v + F.rate) (rw b (enough p y x x (omega arith) (omega arith)))

  -- F(x) = F(x-P) + r for x > n, as 01 writes it
  pub at-past : 1 ≤ P → P ≤ length F.table → (x : ℕ) → length F.table < x → at P F x ≡ at P F (x - P) + F.rate
  at-past p l x h =
      let e : x - P + P ≡ x = omega arith in
      rw e at (at_tail p (x - P) (omega arith))

  -- k periods on from a place whose next period ends past the table
  pub at-periods : 1 ≤ P → (k y : ℕ) → length F.table < y + P → at P F (y + k * P) ≡ at P F y + k * F.rate
  at-periods p zero y h =
      let e : y + 0 * P ≡ y = omega arith in
      rw e (omega arith)
  at-periods p (suc k) y h =
      let e : y + suc k * P ≡ y + k * P + P = omega arith in
      rw e (omega (arith, at_tail p (y + k * P) (omega arith), at-periods p k y h))

module _ (P : ℕ) (F : Curve) (p : 1 ≤ P) (l : P ≤ length F.table) where
  -- `at` follows them
  pub at_follows : Follows P F (at P F)
  at_follows = record { none = at_zero P F; table = at_table P F; past = at-past P F p l }

  -- and nothing else does
  only_to : (f : ℕ → ℕ) → Follows P F f → (k x : ℕ) → x ≤ k → f x ≡ at P F x
  only_to f g zero x h =
      let e : x ≡ 0 = omega arith in
      rw e (g.none ∙ sym (at_zero P F))
  only_to f g (suc k) x h = go x h (only_to f g k (x - P)) (le_or_lt x (length F.table))
    where
      go : (x : ℕ) → x ≤ suc k → (x - P ≤ k → f (x - P) ≡ at P F (x - P)) → (x ≤ length F.table) ⊎ (length F.table < x) → f x ≡ at P F x
      go zero b ih d = g.none ∙ sym (at_zero P F)
      go (suc y) b ih (inl a) = g.table y a ∙ sym (at_table P F y a)
      go (suc y) b ih (inr a) = omega (arith, g.past (suc y) a, ih (omega arith), at-past P F p l (suc y) a)

  pub at_only : (f : ℕ → ℕ) → Follows P F f → (x : ℕ) → f x ≡ at P F x
  at_only f g x = only_to f g x x (omega arith)
