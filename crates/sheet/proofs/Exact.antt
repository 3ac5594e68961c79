-- Bytes that read are the bytes of the sheet that they give. So a sheet has exactly one byte string, and no bytes go unread. Assumes nothing.
use Rattle.std.specs.Prelude.{◌≡◌, refl, List, [], ◌∷◌, ◌++◌, ℕ, zero, suc, ◌+◌, ◌-◌, ◌*◌, ◌/◌, ◌%◌, ◌≤◌, ◌<◌, length, take, drop}
use Rattle.std.proofs.Common.{sym, ap, ◌∙◌, append_assoc, ltb-false, take-append-drop, drop-cons, drop-drop, get_or-drop, length-take-le}
use native.Mathlib.Omega.{arith}
use Rattle.std.proofs.Math.ListN.{length-drop}
use Rattle.words.specs.Words.{byte_at, words}
use Rattle.words.specs.Written.{four_bytes, each_two}
use Rattle.sheet.specs.Limits.{version, head_bytes, fixed_bytes, length_bytes}
use Rattle.sheet.specs.Refusal.{none, Clear}
use Rattle.sheet.proofs.RefusalLaws.{clear-append, clear_next}
use Rattle.sheet.specs.Bytes.{following, period_of, count_of, service_length, envelope_length, envelope_place, record_bytes, session_of, sessions_of, sheet_of}
use Rattle.sheet.specs.Reading.{session_lines, body_lines, reading}
use Rattle.sheet.proofs.ClearsLaws.{clear-head}
use Rattle.sheet.proofs.StartsLaws.{count-is, clear-parts}
use Rattle.sheet.specs.Makes.{AllBytes}
use Rattle.sheet.proofs.MakesLaws.{service-length, envelope-length, session-fields}
use Rattle.sheet.specs.Written.{session_bytes, body_bytes, bytes_of}

-- bytes from a place on, and up to one
all_drop : (n : ℕ) (xs : List ℕ) → AllBytes xs → AllBytes (drop n xs)
all_drop n xs all i = rw (get_or-drop n xs i 0) (all (n + i))

all_take : (n : ℕ) (xs : List ℕ) → AllBytes xs → AllBytes (take n xs)
all_take zero xs all i = omega arith
all_take (suc n) [] all i = omega arith
all_take (suc n) (x ∷ xs) all zero = all 0
all_take (suc n) (x ∷ xs) all (suc i) = all_take n xs (λ j. all (suc j)) i

-- an even number of bytes, read as numbers and written again
each_two-words : (xs : List ℕ) (n : ℕ) → length xs ≡ 2 * n → AllBytes xs → each_two (words xs) ≡ xs
unfolding each_two words
each_two-words [] n e all = refl
each_two-words (a ∷ []) n e all = absurd (omega arith)
each_two-words (a ∷ b ∷ s) n e all =
    let low : b < 256 = all 1 in
    let p : (a * 256 + b) / 256 ≡ a = omega arith in
    let q : (a * 256 + b) % 256 ≡ b = omega arith in
    rw (p, q, each_two-words s (n - 1) (omega arith) (λ i. all (suc (suc i))))

-- the first bytes one by one
seven : (xs : List ℕ) → 7 ≤ length xs
    → xs ≡ byte_at xs 0 ∷ byte_at xs 1 ∷ byte_at xs 2 ∷ byte_at xs 3 ∷ byte_at xs 4 ∷ byte_at xs 5 ∷ byte_at xs 6 ∷ drop 7 xs
seven xs h =
    drop-cons xs 0 0 (omega arith)
    ∙ ap (λ t. byte_at xs 0 ∷ t) (drop-cons xs 1 0 (omega arith)
    ∙ ap (λ t. byte_at xs 1 ∷ t) (drop-cons xs 2 0 (omega arith)
    ∙ ap (λ t. byte_at xs 2 ∷ t) (drop-cons xs 3 0 (omega arith)
    ∙ ap (λ t. byte_at xs 3 ∷ t) (drop-cons xs 4 0 (omega arith)
    ∙ ap (λ t. byte_at xs 4 ∷ t) (drop-cons xs 5 0 (omega arith)
    ∙ ap (λ t. byte_at xs 5 ∷ t) (drop-cons xs 6 0 (omega arith)))))))

eight : (xs : List ℕ) → 8 ≤ length xs
    → xs ≡ byte_at xs 0 ∷ byte_at xs 1 ∷ byte_at xs 2 ∷ byte_at xs 3 ∷ byte_at xs 4 ∷ byte_at xs 5 ∷ byte_at xs 6 ∷ byte_at xs 7 ∷ drop 8 xs
eight xs h =
    seven xs (omega arith)
    ∙ ap (λ t. byte_at xs 0 ∷ byte_at xs 1 ∷ byte_at xs 2 ∷ byte_at xs 3 ∷ byte_at xs 4 ∷ byte_at xs 5 ∷ byte_at xs 6 ∷ t) (drop-cons xs 7 0 (omega arith))

-- two stretches from a place on and what follows them are all that is there
stretches : (xs : List ℕ) (from n k : ℕ) → (take n (drop from xs) ++ take k (drop (from + n) xs)) ++ drop (from + n + k) xs ≡ drop from xs
stretches xs from n k =
    append_assoc (take n (drop from xs)) (take k (drop (from + n) xs)) (drop (from + n + k) xs)
    ∙ ap (λ t. take n (drop from xs) ++ t) (ap (λ t. take k (drop (from + n) xs) ++ t) (sym (drop-drop k (from + n) xs)) ∙ take-append-drop k (drop (from + n) xs) ∙ sym (drop-drop n from xs))
    ∙ take-append-drop n (drop from xs)

module _ (rest : List ℕ) (bytes : AllBytes rest) (all : record_bytes rest ≤ length rest) where
  -- the tables' bytes
  service-exact : each_two (session_of rest).service.table ≡ take (2 * service_length rest) (drop fixed_bytes rest)
  unfolding session_of
  service-exact =
      each_two-words (take (2 * service_length rest) (drop fixed_bytes rest)) (service_length rest)
      (length-take-le (2 * service_length rest) (drop fixed_bytes rest) (omega (arith, length-drop fixed_bytes rest)))
      (all_take (2 * service_length rest) (drop fixed_bytes rest) (all_drop fixed_bytes rest bytes))

  envelope-exact : each_two (session_of rest).envelope.table ≡ take (2 * envelope_length rest) (drop (envelope_place rest) rest)
  unfolding session_of
  envelope-exact =
      each_two-words (take (2 * envelope_length rest) (drop (envelope_place rest) rest)) (envelope_length rest)
      (length-take-le (2 * envelope_length rest) (drop (envelope_place rest) rest) (omega (arith, length-drop (envelope_place rest) rest)))
      (all_take (2 * envelope_length rest) (drop (envelope_place rest) rest) (all_drop (envelope_place rest) rest bytes))

  -- the fields that are not the bytes themselves
  room-exact : (session_of rest).room - 1 ≡ byte_at rest 2
  unfolding session_of
  room-exact = omega arith

  service-rate-exact : ((session_of rest).service.rate / 256 ≡ byte_at rest 3) × ((session_of rest).service.rate % 256 ≡ byte_at rest 4)
  unfolding session_of
  service-rate-exact =
      let low : byte_at rest 4 < 256 = bytes 4 in
      (omega arith, omega arith)

  envelope-rate-exact : ((session_of rest).envelope.rate / 256 ≡ byte_at rest 5) × ((session_of rest).envelope.rate % 256 ≡ byte_at rest 6)
  unfolding session_of
  envelope-rate-exact =
      let low : byte_at rest 6 < 256 = bytes 6 in
      (omega arith, omega arith)

  -- SESSION: its bytes and what follows them are all that is there
  pub session-exact : session_bytes (session_of rest) ++ drop (record_bytes rest) rest ≡ rest
  unfolding session_bytes
  session-exact =
      rw (
        service-length rest all,
        envelope-length rest all,
        room-exact,
        service-rate-exact.0,
        service-rate-exact.1,
        envelope-rate-exact.0,
        envelope-rate-exact.1,
        service-exact,
        envelope-exact,
        stretches rest fixed_bytes (2 * service_length rest) (2 * envelope_length rest),
      )
      (sym (seven rest (omega arith)))

empty : (xs : List ℕ) → length xs ≤ 0 → xs ≡ []
empty [] h = refl
empty (x ∷ xs) h = absurd (omega arith)

-- the sessions' bytes, to the end
pub body_exact : (P : ℕ) (rest : List ℕ) (place m : ℕ) → AllBytes rest → Clear (body_lines P rest place m) → body_bytes (sessions_of rest m) ≡ rest
unfolding body_lines body_bytes sessions_of
body_exact P rest place zero bytes e = sym (empty rest (ltb-false 0 (length rest) (clear_next _ _ _ _ e).0))
body_exact P rest place (suc m) bytes e =
    let parts = clear-append (session_lines P rest place) _ e in
    let after = drop (record_bytes rest) rest in
    ap (λ t. session_bytes (session_of rest) ++ t) (body_exact P after (place + record_bytes rest) m (all_drop (record_bytes rest) rest bytes) parts.1)
    ∙ session-exact rest bytes (session-fields P rest place parts.0).all

-- a number's four bytes
four-exact : (a b c d : ℕ) → b < 256 → c < 256 → d < 256 → four_bytes ((a * 256 + b) * 65536 + (c * 256 + d)) ≡ a ∷ b ∷ c ∷ d ∷ []
four-exact a b c d hb hc hd =
    let high : ((a * 256 + b) * 65536 + (c * 256 + d)) / 65536 ≡ a * 256 + b = omega arith in
    let low : ((a * 256 + b) * 65536 + (c * 256 + d)) % 65536 ≡ c * 256 + d = omega arith in
    let p : (a * 256 + b) / 256 ≡ a = omega arith in
    let q : (a * 256 + b) % 256 ≡ b = omega arith in
    let r : (c * 256 + d) / 256 ≡ c = omega arith in
    let s : (c * 256 + d) % 256 ≡ d = omega arith in
    rw (high, low, p, q, r, s)

-- EXACT: the bytes are those of their sheet
pub exact : (bytes : List ℕ) → AllBytes bytes → reading bytes ≡ none → bytes_of (sheet_of bytes) ≡ bytes
unfolding bytes_of sheet_of
exact bytes all e =
    let parts = clear-parts bytes e in
    let h = clear-head bytes parts.0 in
    let rest = drop head_bytes bytes in
    let body : body_bytes (sessions_of rest (count_of bytes)) ≡ rest = body_exact (period_of bytes) rest head_bytes (count_of bytes) (all_drop head_bytes bytes all) parts.1 in
    let count : length (sessions_of rest (count_of bytes)) ≡ count_of bytes = count-is bytes in
    let long : head_bytes ≤ length bytes = h.long in
    let follow : following bytes ≡ length bytes - length_bytes = h.all in
    let n : head_bytes - length_bytes + length rest ≡ following bytes = omega (arith, length-drop head_bytes bytes) in
    let b = byte_at bytes in
    rw (body, count, n)
    (ap (λ f. f ++ (version ∷ b 5 ∷ b 6 ∷ b 7 ∷ rest)) (four-exact (b 0) (b 1) (b 2) (b 3) (all 1) (all 2) (all 3))
    ∙ ap (λ v. b 0 ∷ b 1 ∷ b 2 ∷ b 3 ∷ v ∷ b 5 ∷ b 6 ∷ b 7 ∷ rest) (sym h.one)
    ∙ sym (eight bytes long))

-- ONE STRING: bytes that read and give the same sheet are the same
pub same_bytes : (xs ys : List ℕ) → AllBytes xs → AllBytes ys → reading xs ≡ none → reading ys ≡ none → sheet_of xs ≡ sheet_of ys → xs ≡ ys
same_bytes xs ys a b c d e = sym (exact xs a c) ∙ ap bytes_of e ∙ exact ys b d
