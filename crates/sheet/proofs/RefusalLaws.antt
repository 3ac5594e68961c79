-- Laws of specs/Refusal.antt. Refusals as document 01 tables them: a list of lines in the order of the reading, of which the first that applies is answered. Assumes nothing.
use Rattle.std.specs.Prelude.{◌≡◌, refl, Bool, true, false, not, ◌||◌, List, [], ◌∷◌, ◌++◌, ℕ, ◌≤◌, ◌<◌, ltb, eqb}
use Rattle.std.proofs.Common.{sym, ◌∙◌, true≢false, arith, ltb-false, lt-ltb, le-ltb, eq-eqb, ne_eqb}
use Rattle.sheet.specs.Refusal.{Refusal, none, refused, Line, line, first, outside, or_else, Clear}

pub outside_low : (low high x : ℕ) → x < low → outside low high x ≡ true
unfolding outside
outside_low low high x h = rw (lt-ltb x low h)

pub outside_high : (low high x : ℕ) → low ≤ x → high < x → outside low high x ≡ true
unfolding outside
outside_high low high x l h = rw (le-ltb x low l, lt-ltb high x h)

pub within : (low high x : ℕ) → low ≤ x → x ≤ high → outside low high x ≡ false
unfolding outside
within low high x l h = rw (le-ltb x low l, le-ltb high x h)

-- tests that are joined or negated
pub or_left : (a b : Bool) → a ≡ true → (a || b) ≡ true
or_left a b e = rw e

pub or_right : (a b : Bool) → a ≡ false → b ≡ true → (a || b) ≡ true
or_right a b e f = rw (e, f)

pub or_neither : (a b : Bool) → a ≡ false → b ≡ false → (a || b) ≡ false
or_neither a b e f = rw (e, f)

pub differs : (x y : ℕ) → (x ≡ y → ⊥) → not (eqb x y) ≡ true
differs x y h = rw (ne_eqb x y h)

pub agrees : (x y : ℕ) → x ≡ y → not (eqb x y) ≡ false
agrees x y e = rw (eq-eqb x y e)

pub or_false : (a b : Bool) → (a || b) ≡ false → (a ≡ false) × (b ≡ false)
or_false true b e = absurd (true≢false e)
or_false false b e = (refl, e)

pub not_outside : (low high x : ℕ) → outside low high x ≡ false → (low ≤ x) × (x ≤ high)
unfolding outside
not_outside low high x e =
    let b = or_false (ltb x low) (ltb high x) e in
    (ltb-false x low b.0, ltb-false high x b.1)

module _ (number : ℕ) (applies : Bool) (place : ℕ) (ls : List Line) where
  -- the first line applies
  pub first-here : applies ≡ true → first (line number applies place ∷ ls) ≡ refused number place
  unfolding first
  first-here e = rw (e, first)

  -- it does not
  pub first_next : applies ≡ false → first (line number applies place ∷ ls) ≡ first ls
  unfolding first
  first_next e = rw (e, first)

pub first-append : (xs ys : List Line) → first (xs ++ ys) ≡ or_else (first xs) (first ys)
unfolding first or_else
first-append [] ys = refl
first-append (line number true place ∷ xs) ys = refl
first-append (line number false place ∷ xs) ys = first-append xs ys

-- a refusal of the first list is that of both
pub first_found : (xs ys : List Line) (number place : ℕ) → first xs ≡ refused number place → first (xs ++ ys) ≡ refused number place
unfolding or_else
first_found xs ys number place e = first-append xs ys ∙ rw e

-- no line at all
pub clear-nil : Clear []
unfolding first
clear-nil = refl

pub refused_none : {number place : ℕ} → refused number place ≡ none → ⊥
refused_none e =
    let z : ◌≡◌ {A = ℕ} 0 1 = cc in
    omega arith

-- then the next list's is that of both
pub first-clear : (xs ys : List Line) → Clear xs → first (xs ++ ys) ≡ first ys
unfolding or_else
first-clear xs ys e = first-append xs ys ∙ rw e

-- none of two lists applies exactly when none of either does
pub clear-append : (xs ys : List Line) → Clear (xs ++ ys) → Clear xs × Clear ys
unfolding or_else
clear-append xs ys e = go (first xs) refl (sym (first-append xs ys) ∙ e)
  where
    go : (f : Refusal) → first xs ≡ f → or_else f (first ys) ≡ none → Clear xs × Clear ys
    go none a b = (a, b)
    go (refused number place) a b = absurd (refused_none b)

pub append-clear : (xs ys : List Line) → Clear xs → Clear ys → Clear (xs ++ ys)
append-clear xs ys a b = first-clear xs ys a ∙ b

module _ (number : ℕ) (applies : Bool) (place : ℕ) (ls : List Line) where
  pub clear_next : Clear (line number applies place ∷ ls) → (applies ≡ false) × Clear ls
  clear_next e = go applies refl
    where
      go : (b : Bool) → applies ≡ b → (applies ≡ false) × Clear ls
      go true h = absurd (refused_none (sym (first-here number applies place ls h) ∙ e))
      go false h = (h, sym (first_next number applies place ls h) ∙ e)

  pub next-clear : applies ≡ false → Clear ls → Clear (line number applies place ∷ ls)
  next-clear h e = first_next number applies place ls h ∙ e
