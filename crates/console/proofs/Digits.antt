-- What the loop keeps that writes a number's digits, the last one first, and what they are worth behind other text. Assumes nothing.
use Rattle.std.proofs.Common.{add-one, ◌^◌, ◌*◌, pow-suc, ◌≡◌, refl, List, [], ◌∷◌, ◌++◌, ℕ, zero, suc, ◌+◌, ◌-◌, ◌/◌, ◌%◌, ◌<◌, ◌≤◌, length, drop, set, sym, ap, ◌∙◌, append_assoc, append-nil, arith, length-append, length-set, lt-ltb}
use Rattle.std.proofs.Math.Nat.{mod-lt}
use Rattle.std.proofs.lemmas.List.{drop-set, drop_all}
use Rattle.std.specs.Option.{IfNone, IfSome, unwrap_or}
use Rattle.std.specs.declared.option.Option.{Option}
use Rattle.std.specs.Prelude.{None, Some}
use Rattle.console.specs.Digits.{digit_byte, last_digits}
use Rattle.console.specs.Text.{places, places_are}

-- the digits from `i` on stand in the room, and those of `rest` belong before them
pub record Stands (room : List ℕ) (i rest size n : ℕ) : Type 0 where
  pub to : i ≤ size
  pub as_long : length room ≡ size
  pub digits : last_digits 10 i rest ++ drop i room ≡ last_digits 10 size n

pub stands_first : (room : List ℕ) (n : ℕ) → Stands room (length room) n (length room) n
stands_first room n = record { to = omega arith; as_long = refl; digits = rw (drop_all (length room) room (omega arith)) (append-nil _) }

pub stands_more : {room : List ℕ} {i rest size n : ℕ} → Stands room (i + 1) rest size n → Stands (set room i (48 + rest % 10)) i (rest / 10) size n
stands_more {room} {i} {rest} {size} {n} s =
    let fits : i < length room = omega (arith, s.to, s.as_long) in
    let byte : digit_byte (rest % 10) ≡ 48 + rest % 10 = rw (lt-ltb (rest % 10) 10 (mod-lt rest (omega arith))) in
    record {
      to = omega (arith, s.to);
      as_long = length-set room i (48 + rest % 10) ∙ s.as_long;
      digits = rw (drop-set room i (48 + rest % 10) fits, add-one i, ← byte) (sym (append_assoc (last_digits 10 i (rest / 10)) (digit_byte (rest % 10) ∷ []) (drop (suc i) room)) ∙ rw add-one at s.digits);
    }

pub length_digits : (k n : ℕ) → length (last_digits 10 k n) ≡ k
length_digits zero n = refl
length_digits (suc k) n = length-append (last_digits 10 k (n / 10)) _ ∙ ap (λ m. m + 1) (length_digits k (n / 10)) ∙ omega arith

-- the power of ten below a number says how many digits it has
pub places-by : (n : ℕ) (power : Option ℕ) → IfNone power (n ≡ 0) → IfSome power (λ k. 10 ^ k ≤ n) → IfSome power (λ k. n < 10 * 10 ^ k) → IfSome power (λ k. k < 10) → unwrap_or power 0 + 1 ≡ places 9 n
unfolding places
places-by n None zero-is low high few = rw zero-is refl
places-by n (Some k) zero-is low high few =
    let next : 10 ^ suc k ≡ 10 ^ k * 10 = pow-suc 10 k in
    let below : n < 10 ^ (k + 1) = rw (add-one, next) (omega (arith, high)) in
    let same : k + 1 - 1 ≡ k = omega arith in
    places_are 9 (k + 1) n (omega (arith, few)) (omega arith, below, λ _. rw same low)
