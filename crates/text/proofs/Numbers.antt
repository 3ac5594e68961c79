-- Numbers in a line: what the digits that were cut off are worth, and one number after another. Assumes nothing.
use Rattle.std.proofs.Common.{◌≡◌, refl, sym, ap, subst, ◌∙◌, not, Bool, true, false, List, [], ◌∷◌, ◌++◌, ℕ, suc, ◌-◌, ◌^◌, ◌<◌, ◌≤◌, ◌==◌, ◌⊎◌, inl, inr, Result, Ok, Err, length, min, replicate, get_or, arith, length-take, get_or-take}
use Rattle.std.proofs.lemmas.List.{ext_get_or, get_or-replicate, length-replicate}
use Rattle.std.proofs.Math.Nat.{min-eq_left, min-eq_right}
use Rattle.std.proofs.lemmas.Bool.{cases_lt}
use Rattle.std.proofs.lemmas.Bool.Decides.{nat_tests}
use Rattle.std.proofs.lemmas.List.Sums.{fails_before_first}
use Rattle.std.specs.Char.{digit_value, is_ascii_digit}
use Rattle.std.specs.List.{before_first, position_or_len}
use Rattle.std.specs.Result.{result_unwrap_or}
use Rattle.std.specs.Str.Parse.{AllDigits, ParsesUnsigned, digits_value, without_leading_plus}
use Rattle.text.specs.Numbers.{Next, Numbers, digits}

digit_low : (c : ℕ) → is_ascii_digit c ≡ true → digit_value c < 10
digit_low c h = grind (arith, nat_tests)

no_plus : (c : ℕ) (cs : List ℕ) → digit_value c < 10 → without_leading_plus (c ∷ cs) ≡ c ∷ cs
no_plus c cs h = grind (arith, nat_tests)

all_from : (ds : List ℕ) → ((i : ℕ) → i < length ds → is_ascii_digit (get_or ds i 0) ≡ true) → AllDigits 10 ds
all_from [] h = tt
all_from (c ∷ cs) h = (digit_low c (h 0 (omega arith)), all_from cs (λ i l. h (suc i) (omega arith)))

not_false : (b : Bool) → not b ≡ false → b ≡ true
not_false true e = refl
not_false false e = sym e

pub digits_all : (text : List ℕ) → AllDigits 10 (digits text)
digits_all text = all_from (digits text) (λ i l.
    let low : i < position_or_len (λ b. not (is_ascii_digit b)) text = omega (arith, l, length-take (position_or_len (λ b. not (is_ascii_digit b)) text) text) in
    ap is_ascii_digit (get_or-take (position_or_len (λ b. not (is_ascii_digit b)) text) text i 0 low) ∙ not_false _ (fails_before_first (λ b. not (is_ascii_digit b)) text i 0 low))

pub value_told : {E : Type 0} (ds : List ℕ) (r : Result ℕ E) (v : ℕ) → 0 < length ds → AllDigits 10 ds → ParsesUnsigned 64 10 ds r → v ≡ result_unwrap_or r (2 ^ 64 - 1) → v ≡ min (digits_value 10 ds) (2 ^ 64 - 1)
value_told [] r v h a p m = absurd (omega arith)
value_told (c ∷ cs) (Ok x) v h a p m = let e = no_plus c cs a.0 in let q = rw e at p in m ∙ q.1 ∙ sym (min-eq_left (omega (arith, q.0.1)))
value_told (c ∷ cs) (Err e) v h a p m = let e = no_plus c cs a.0 in let q = rw e at p in m ∙ sym (min-eq_right (high (λ l. q ((h, a), l))))
  where
    high : (digits_value 10 (c ∷ cs) < 2 ^ 64 → ⊥) → 2 ^ 64 - 1 ≤ digits_value 10 (c ∷ cs)
    high n = go (cases_lt (digits_value 10 (c ∷ cs)) (2 ^ 64))
      where
        go : (digits_value 10 (c ∷ cs) < 2 ^ 64) ⊎ (2 ^ 64 ≤ digits_value 10 (c ∷ cs)) → 2 ^ 64 - 1 ≤ digits_value 10 (c ∷ cs)
        go (inl l) = absurd (n l)
        go (inr l) = omega (arith, l)

blank : (b : ℕ) → not (b == 32) ≡ false → b ≡ 32
blank b e = grind (arith, nat_tests)

-- what comes before a line's first other byte is spaces
pub blanks : (line : List ℕ) → replicate (length (before_first (λ b. not (b == 32)) line)) 32 ≡ before_first (λ b. not (b == 32)) line
blanks line =
    let n = position_or_len (λ b. not (b == 32)) line in
    let front = before_first (λ b. not (b == 32)) line in
    ext_get_or 0 (replicate (length front) 32) front (length-replicate {A = ℕ} (length front) 32) (λ i l.
    let low : i < n = omega (arith, l, length-replicate {A = ℕ} (length front) 32, length-take n line) in
    get_or-replicate (length front) i 32 0 (omega (arith, l, length-replicate {A = ℕ} (length front) 32)) ∙ sym (get_or-take n line i 0 low ∙ blank _ (fails_before_first (λ b. not (b == 32)) line i 0 low)))

pub numbers_more : (line values rest : List ℕ) (n : ℕ) (after : List ℕ) → Numbers line values rest → Next rest n after → Numbers line (values ++ (n ∷ [])) after
numbers_more line [] rest n after h k = (after, subst (λ l. Next l n after) h k, refl)
numbers_more line (v ∷ more) rest n after h k = (h.0, h.1, numbers_more h.0 more rest n after h.2 k)
