-- What a test tells: its answer is true exactly where the property holds. Assumes nothing.
use Rattle.std.specs.Prelude.{◌≡◌, refl, Bool, true, false, ◌&&◌, ℕ, ◌≤◌}
use Rattle.std.proofs.Common.{sym, ◌∙◌, arith}
use Rattle.std.proofs.Math.Dec.{leb}
use Rattle.std.proofs.lemmas.Bool.{leb-true, leb-false}

abbrev pub Tells : Bool → Type 0 → Type 0
Tells r A = (r ≡ true → A) × (r ≡ false → A → ⊥)

pub apart : true ≡ false → ⊥
apart e =
    let z : ◌≡◌ {A = ℕ} 0 1 = cc in
    omega arith

pub tells_true : {A : Type 0} → A → Tells true A
tells_true a = (λ e. a, λ e. absurd (apart e))

pub tells_false : {A : Type 0} → (A → ⊥) → Tells false A
tells_false n = (λ e. absurd (apart (sym e)), λ e. n)

-- of two properties that hold together, a test of one is a test of the other
pub tells_map : (r : Bool) {A B : Type 0} → (A → B) → (B → A) → Tells r A → Tells r B
tells_map r f g t = (λ e. f (t.0 e), λ e b. t.1 e (g b))

-- a test of two properties, of which the second is tried only where the first holds
pub tells_then : {A B : Type 0} (r b : Bool) → r ≡ b → A → Tells b B → Tells r (A × B)
tells_then r b e a t = (λ f. (a, t.0 (sym e ∙ f)), λ f x. t.1 (sym e ∙ f) x.1)

pub tells_else : {A B : Type 0} (r : Bool) → r ≡ false → (A → ⊥) → Tells r (A × B)
tells_else r e n = (λ f. absurd (apart (sym f ∙ e)), λ f x. n x.0)

pub tells_both : {A B : Type 0} (a b : Bool) → Tells a A → Tells b B → Tells (a && b) (A × B)
tells_both true b s t = tells_then b b refl (s.0 refl) t
tells_both false b s t = tells_else false refl (s.1 refl)

pub tells_le : (x y : ℕ) → Tells (leb x y) (x ≤ y)
tells_le x y = (leb-true x y, λ e h. let l = leb-false x y e in omega arith)
