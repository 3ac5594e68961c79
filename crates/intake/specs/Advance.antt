-- What lies ahead of a curve, one slot further: ahead(x) becomes the lesser of ahead(x+1) and A + F(x), A the packets taken in. Assumes nothing.
use Rattle.std.specs.Prelude.{◌≡◌, refl, List, [], ◌∷◌, ℕ, zero, suc, ◌+◌, ◌-◌, ◌≤◌, ◌<◌, min, get_or, set}
use Rattle.std.proofs.Math.Path.{sym, ap}
use Rattle.std.proofs.Common.{ext_get_or, ◌∙◌, arith}
use Rattle.std.proofs.Math.ListN.{length}
use Rattle.curve.specs.Curve.{Curve, at}
use Rattle.curve.proofs.CurveLaws.{at_table, at_tail}
use Rattle.sheet.specs.Limits.{largest_value, largest_rate}
use Rattle.curve.specs.Lookup.{curve_with}
use Rattle.layout.specs.Sound.{most_ahead}
use Rattle.layout.specs.Over.{puts, puts_none, puts-more, puts_out, puts_in, length-puts}

-- the values from x on, for the curve's own values from x - 1 on
unfoldable pub advanced_from : ℕ → Curve → ℕ → ℕ → List ℕ → List ℕ
advanced_from P ahead total x [] = []
advanced_from P ahead total x (own ∷ owns) = min (at P ahead x) (total + own) ∷ advanced_from P ahead total (suc x) owns

-- the new table: its j-th number, from 0, is at the slot count j + 1, so it looks at ahead(j+2). `own` is the curve's own table
unfoldable pub advanced : ℕ → Curve → ℕ → List ℕ → List ℕ
advanced P ahead total own = advanced_from P ahead total 2 own

length_from : (P : ℕ) (ahead : Curve) (total x : ℕ) (own : List ℕ) → length (advanced_from P ahead total x own) ≡ length own
unfolding advanced_from
length_from P ahead total x [] = refl
length_from P ahead total x (v ∷ own) = ap suc (length_from P ahead total (suc x) own)

from_at : (P : ℕ) (ahead : Curve) (total x : ℕ) (own : List ℕ) (j : ℕ) → j < length own
    → get_or (advanced_from P ahead total x own) j 0 ≡ min (at P ahead (j + x)) (total + get_or own j 0)
unfolding advanced_from
from_at P ahead total x [] j h = absurd (omega arith)
from_at P ahead total x (v ∷ own) zero h =
    let e : x ≡ 0 + x = omega arith in
    ap (λ y. min (at P ahead y) (total + v)) e
from_at P ahead total x (v ∷ own) (suc j) h =
    let e : j + suc x ≡ suc j + x = omega arith in
    from_at P ahead total (suc x) own j (omega arith) ∙ ap (λ y. min (at P ahead y) (total + get_or own j 0)) e

pub length-advanced : (P : ℕ) (ahead : Curve) (total : ℕ) (own : List ℕ) → length (advanced P ahead total own) ≡ length own
unfolding advanced
length-advanced P ahead total own = length_from P ahead total 2 own

pub advanced-at : (P : ℕ) (ahead : Curve) (total : ℕ) (own : List ℕ) (j : ℕ) → j < length own
    → get_or (advanced P ahead total own) j 0 ≡ min (at P ahead (j + 2)) (total + get_or own j 0)
unfolding advanced
advanced-at P ahead total own j h = from_at P ahead total 2 own j h

-- what a step asks of the curve's own table and of what lies ahead of it
pub record Advances (own ahead : List ℕ) (P rate total : ℕ) : Type 0 where
  pub period : 1 ≤ P
  pub long : P ≤ length ahead
  pub alike : length own ≡ length ahead
  pub rate-small : rate ≤ largest_rate
  pub total-small : total ≤ most_ahead
  pub own-small : (j : ℕ) → j < length own → get_or own j 0 ≤ largest_value
  pub ahead_small : (j : ℕ) → j < length ahead → get_or ahead j 0 ≤ most_ahead

module _ (own ahead : List ℕ) (P rate total : ℕ) where
  -- what lies ahead, after the first j of its new numbers are written
  abbrev pub advancing : ℕ → List ℕ
  advancing j = puts ahead (λ i. i) (λ i. get_or (advanced P (curve_with ahead rate) total own) i 0) j

  pub advancing-none : ahead ≡ advancing 0
  advancing-none = sym (puts_none ahead (λ i. i) (λ i. get_or (advanced P (curve_with ahead rate) total own) i 0))

  module _ (ok : Advances own ahead P rate total) where
    pub advancing-all : advancing (length ahead) ≡ advanced P (curve_with ahead rate) total own
    advancing-all =
        let new = advanced P (curve_with ahead rate) total own in
        let n : length (advancing (length ahead)) ≡ length ahead = length-puts ahead (λ i. i) (λ i. get_or new i 0) (length ahead) in
        ext_get_or 0 (advancing (length ahead)) new (n ∙ sym ok.alike ∙ sym (length-advanced P (curve_with ahead rate) total own))
        (λ i b. puts_in ahead (λ i. i) (λ i. get_or new i 0) (length ahead) (λ k h. h) (λ k m h g e. omega arith) i (omega (arith, n)))

    module _ (j : ℕ) (h : j < length ahead) where
      -- what a turn of the loop reads, after j numbers are written, is what stood there at first
      pub next_in : j + 1 < length ahead → get_or (advancing j) (j + 1) 0 ≡ at P (curve_with ahead rate) (j + 2)
      next_in b =
          let e : suc (j + 1) ≡ j + 2 = omega arith in
          puts_out ahead (λ i. i) (λ i. get_or (advanced P (curve_with ahead rate) total own) i 0) j (j + 1) (λ i s e. omega arith)
          ∙ sym (at_table P (curve_with ahead rate) (j + 1) b)
          ∙ ap (at P (curve_with ahead rate)) e

      pub next-join : length ahead ≤ j + 1 → get_or ahead (length ahead - P) 0 + rate ≡ at P (curve_with ahead rate) (j + 2)
      next-join b =
          let p : 1 ≤ P = ok.period in
          let q : P ≤ length ahead = ok.long in
          let e : suc (length ahead - P) + P ≡ j + 2 = omega arith in
          ap (λ v. v + rate) (sym (at_table P (curve_with ahead rate) (length ahead - P) (omega arith)))
          ∙ sym (at_tail P (curve_with ahead rate) p (suc (length ahead - P)) (omega arith))
          ∙ ap (at P (curve_with ahead rate)) e

      -- the number that it writes
      pub advancing-more : (next : ℕ) → next ≡ at P (curve_with ahead rate) (j + 2) → set (advancing j) j (min next (total + get_or own j 0)) ≡ advancing (j + 1)
      advancing-more next e =
          let new : min next (total + get_or own j 0) ≡ get_or (advanced P (curve_with ahead rate) total own) j 0 =
          ap (λ x. min x (total + get_or own j 0)) e ∙ sym (advanced-at P (curve_with ahead rate) total own j (omega (arith, ok.alike))) in
          ap (set (advancing j) j) new ∙ puts-more ahead (λ i. i) (λ i. get_or (advanced P (curve_with ahead rate) total own) i 0) j
