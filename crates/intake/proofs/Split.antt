-- A block that is split where what lies ahead begins: what each part has of it, and that the two steps over the parts are those of the definition. Assumes nothing.
use Rattle.std.proofs.Common.{◌≡◌, refl, ◌+◌, ◌-◌, ◌≤◌, ◌++◌, ℕ, List, length, take, drop, get_or, sym, ap, ◌∙◌, arith}
use Rattle.std.proofs.Math.Seq.{take-add}
use Rattle.std.proofs.lemmas.List.{append_assoc, length-take-le, take-take, drop-take, drop-drop, take_at, drop_at}
use Rattle.layout.specs.Layout.{service_length_at, envelope_length_at, service_rate_at, envelope_rate_at, taken_at, service_at, envelope_at, service_ahead_at, envelope_ahead_at, part}
use Rattle.layout.specs.Over.{over}
use Rattle.layout.specs.Part.{part_length, part_lent}
use Rattle.layout.specs.Sound.{Sound}
use Rattle.layout.specs.Splice.{over_splice}
use Rattle.curve.specs.Lookup.{curve_with}
use Rattle.intake.specs.Advance.{advanced, length-advanced}
use Rattle.intake.specs.Intake.{counted, served, took_in, length-counted, length-served, served-by, took_in-by}

-- a part of the front of a list
front_part : (l : List ℕ) (k a n : ℕ) → a + n ≤ k → take (a + n - a) (drop a (take k l)) ≡ part a n l
front_part l k a n h =
    let e : k ≡ a + (k - a) = omega arith in
    part_lent (take k l) a n
    ∙ ap (λ (m : ℕ). take n (drop a (take m l))) e
    ∙ ap (take n) (drop-take a (k - a) l)
    ∙ take-take n (k - a) (drop a l) (omega arith)

-- a list that is split at k, of whose back the first n numbers become y
module _ (l : List ℕ) (k n : ℕ) (y : List ℕ) (e : length y ≡ n) (f : k + n ≤ length l) where
  front_length : length (take k l) ≡ k
  front_length = length-take-le k l (omega arith)

  front-kept : take k l ≡ take k (over l k y)
  front-kept = sym (take_at (take k l) (y ++ drop n (drop k l)) k front_length) ∙ ap (take k) (over_splice l k n y e f)

  back-now : y ++ drop n (drop k l) ≡ drop k (over l k y)
  back-now = sym (drop_at (take k l) (y ++ drop n (drop k l)) k front_length) ∙ ap (drop k) (over_splice l k n y e f)

-- and whose back is split again
joined : (l : List ℕ) (k m n : ℕ) (y : List ℕ) → length y ≡ n → k + m + n ≤ length l → take k l ++ (take m (drop k l) ++ (y ++ drop n (drop (k + m) l))) ≡ over l (k + m) y
joined l k m n y e f =
    sym (append_assoc (take k l) (take m (drop k l)) (y ++ drop n (drop (k + m) l)))
    ∙ ap (λ (front : List ℕ). front ++ (y ++ drop n (drop (k + m) l))) (sym (take-add k m l))
    ∙ over_splice l (k + m) n y e f

-- the block b with k more packets counted, split into the curves' own tables and what lies ahead of them
module _ (b : List ℕ) (P done k : ℕ) (ok : Sound b P done) (own ahead z : List ℕ) (front : own ≡ take service_ahead_at z) (back : ahead ≡ drop service_ahead_at z) (start : z ≡ counted b P done k) where
  abbrev first : List ℕ
  first = counted b P done k

  abbrev second : List ℕ
  second = served b P done k

  abbrev service_n : ℕ
  service_n = get_or b service_length_at 0

  abbrev envelope_n : ℕ
  envelope_n = get_or b envelope_length_at 0

  abbrev total : ℕ
  total = get_or b taken_at 0 + k

  first-size : length first ≡ 752
  first-size = length-counted b P done k ∙ ok.size

  second-size : length second ≡ 752
  second-size = length-served b P done k ∙ ok.size

  service-short : service_n ≤ 64
  service-short = ok.numbers.service-short

  envelope-short : envelope_n ≤ 64
  envelope-short = ok.numbers.envelope-short

  pub service-own : take (service_at + service_n - service_at) (drop service_at own) ≡ part service_at service_n first
  service-own =
      let h = service-short in
      rw (front, start) (front_part first service_ahead_at service_at service_n (omega arith))

  pub service-ahead : take service_n ahead ≡ part service_ahead_at service_n first
  service-ahead = rw (back, start) refl

  -- once what lies ahead of the service is y
  module _ (y : List ℕ) (step : y ≡ advanced P (curve_with (take service_n ahead) (get_or b service_rate_at 0)) total (take (service_at + service_n - service_at) (drop service_at own))) where
    y-size : length y ≡ service_n
    y-size =
        let h = service-short in
        ap length step ∙ length-advanced P _ total _ ∙ ap length service-own ∙ part_length first service_at service_n (omega (arith, first-size))

    second-is : over first service_ahead_at y ≡ second
    second-is = served-by b P done k ok first y refl (rw (service-own, service-ahead) at step)

    own-then : own ≡ take service_ahead_at second
    own-then =
        let h = service-short in
        front ∙ ap (take service_ahead_at) start ∙ front-kept first service_ahead_at service_n y y-size (omega (arith, first-size)) ∙ ap (take service_ahead_at) second-is

    ahead-then : y ++ drop service_n ahead ≡ drop service_ahead_at second
    ahead-then =
        let h = service-short in
        ap (λ (l : List ℕ). y ++ drop service_n l) (back ∙ ap (drop service_ahead_at) start) ∙ back-now first service_ahead_at service_n y y-size (omega (arith, first-size))
        ∙ ap (drop service_ahead_at) second-is

    pub envelope-own : take (envelope_at + envelope_n - envelope_at) (drop envelope_at own) ≡ part envelope_at envelope_n second
    envelope-own =
        let h = envelope-short in
        rw own-then (front_part second service_ahead_at envelope_at envelope_n (omega arith))

    -- and its back is split where what lies ahead of the envelope begins
    module _ (middle rest : List ℕ) (front' : middle ≡ take 64 (y ++ drop service_n ahead)) (back' : rest ≡ drop 64 (y ++ drop service_n ahead)) where
      rest-then : rest ≡ drop envelope_ahead_at second
      rest-then = back' ∙ ap (drop 64) ahead-then ∙ drop-drop 64 service_ahead_at second

      pub envelope-ahead : take envelope_n rest ≡ part envelope_ahead_at envelope_n second
      envelope-ahead = rw rest-then refl

      -- the block when what lies ahead of the envelope is x
      pub whole : (x : List ℕ) → x ≡ advanced P (curve_with (take envelope_n rest) (get_or b envelope_rate_at 0)) total (take (envelope_at + envelope_n - envelope_at) (drop envelope_at own))
          → own ++ (middle ++ (x ++ drop envelope_n rest)) ≡ took_in b P done k
      whole x last =
          let h = envelope-short in
          let n : length x ≡ envelope_n = ap length last ∙ length-advanced P _ total _ ∙ ap length envelope-own ∙ part_length second envelope_at envelope_n (omega (arith, second-size)) in
          ap (λ (l : List ℕ). l ++ (middle ++ (x ++ drop envelope_n rest))) own-then
          ∙ ap (λ (l : List ℕ). take service_ahead_at second ++ (l ++ (x ++ drop envelope_n rest))) (front' ∙ ap (take 64) ahead-then)
          ∙ ap (λ (l : List ℕ). take service_ahead_at second ++ (take 64 (drop service_ahead_at second) ++ (x ++ drop envelope_n l))) rest-then
          ∙ joined second service_ahead_at 64 envelope_n x n (omega (arith, second-size))
          ∙ took_in-by b P done k ok second x refl (rw (envelope-own, envelope-ahead) at last)
