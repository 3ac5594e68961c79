-- Sending: the least of a list, again and again, with what that leaves. Over any order, so that the rule of the order stands by itself in the model.
-- Assumes nothing.
use Rattle.std.specs.Prelude.{◌≡◌, Bool}
use Rattle.std.proofs.Math.Bool.{true, false}
use mathlib.Core.List.{List, [], ◌∷◌, ◌++◌, Memᴰ}
use Prim.Native.Nat.{ℕ, zero, suc, ◌≤◌}
use Rattle.rules.specs.Count.{ind}

module _ {X : Type 0} where
  -- x goes first, or what went first before it
  unfoldable pub keep : X → List X → X × List X → Bool → X × List X
  keep x l e true = (x, l)
  keep x l e false = (e.0, x ∷ e.1)

  -- the least of x ∷ l, and the others in their order
  unfoldable pub extract : (X → X → Bool) → X → List X → X × List X
  extract le x [] = (x, [])
  extract le x (y ∷ l) =
      let e = extract le y l in
      keep x (y ∷ l) e (le x e.0)

  -- up to k, each time the least of all that are left: those sent, in that order, and those left
  unfoldable pub send : (X → X → Bool) → ℕ → List X → List X × List X
  send le zero l = ([], l)
  send le (suc k) [] = ([], [])
  send le (suc k) (x ∷ l) =
      let e = extract le x l in
      let r = send le k e.1 in
      (e.0 ∷ r.0, r.1)

  -- a test that what comes earlier passes before what comes later
  abbrev pub Early : (X → X → Bool) → (X → Bool) → Type 0
  Early le p = (x y : X) → (le x y ≡ true → ind (p y) ≤ ind (p x)) × (le x y ≡ false → ind (p x) ≤ ind (p y))

  -- one more: the least of those left goes after those sent
  unfoldable pub next : (X → X → Bool) → List X → List X → List X × List X
  next le s [] = (s, [])
  next le s (x ∷ l) =
      let e = extract le x l in
      (s ++ (e.0 ∷ []), e.1)

  -- an order: of two one comes first, and what comes first stays so over a third
  pub record IsOrder (le : X → X → Bool) : Type 0 where
    pub total : (x y : X) → le x y ≡ false → le y x ≡ true
    pub trans : (x y z : X) → le x y ≡ true → le y z ≡ true → le x z ≡ true

  -- each comes before all after it
  abbrev pub Ordered : (X → X → Bool) → List X → Type 0
  Ordered le [] = Unit {0}
  Ordered le (x ∷ l) = ((y : X) → Memᴰ y l → le x y ≡ true) × Ordered le l
