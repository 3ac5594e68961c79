-- Laws of specs/Walk.antt. What the reader keeps on its way from session to session, and what it may answer where the way ends. Assumes nothing.
use Rattle.std.specs.Prelude.{◌≡◌, ◌⊎◌, Ok, Err, List, [], ◌∷◌, ◌++◌, ltb, length, get_or, set, take, drop}
use Rattle.std.proofs.Math.Path.{sym}
use Rattle.std.proofs.Common.{ap, ◌∙◌, inl, inr, add-one, lt-ltb, le-ltb, length-set, length-drop, take_all, drop-drop, get_or-set_same, get_or-set_other}
use Prim.Native.Nat.{ℕ, zero, suc, ◌+◌, ◌-◌, ◌≤◌, ◌<◌}
use Rattle.std.proofs.Math.Decide.{ℕ_discrete}
use native.Mathlib.Omega.{arith}
use Rattle.std.proofs.lemmas.List.{length-replicate, get_or-replicate}
use Rattle.std.proofs.Math.ListN.{get_or-eq_default}
use Rattle.curve.proofs.OrderLaws.{le_or_lt}
use Rattle.refusal.specs.Numbers.{number_of}
use Rattle.refusal.specs.declared.Refusal.{Refusal as Refused}
use Rattle.sheet.specs.Limits.{most_sessions, head_bytes}
use Rattle.sheet.specs.Refusal.{none, refused, line, first, Clear}
use Rattle.sheet.proofs.RefusalLaws.{first_found, first-clear, first-here, first_next, clear-nil}
use Rattle.sheet.specs.Bytes.{capacity_of, period_of, count_of, record_bytes}
use Rattle.sheet.specs.Reading.{head_lines, session_lines, body_lines, lines, reading}
use Rattle.sheet.specs.Starts.{start_of}
use Rattle.sheet.proofs.StartsLaws.{start-zero, start-suc}
use Rattle.sheet.proofs.MakesLaws.{session-fields}
use Rattle.sheet.specs.Told.{answer_to, sessions_read, no_starts, placed, Reads}
use Rattle.sheet.specs.declared.Reading.{Reading}
use Rattle.sheet.specs.Walk.{Reached}

-- a place is a session's start, or 0
pub placed-start : (bytes : List ℕ) (m j : ℕ) → j < m → placed bytes m j ≡ start_of bytes j
unfolding placed
placed-start bytes m j h = rw (lt-ltb j m h, placed)

placed-none : (bytes : List ℕ) (m j : ℕ) → m ≤ j → placed bytes m j ≡ 0
unfolding placed
placed-none bytes m j h = rw (le-ltb j m h, placed)

sixteen-zeros : length no_starts ≡ most_sessions
sixteen-zeros = length-replicate most_sessions zero

-- sixteen zeros are the places of no session
pub zeros : (bytes : List ℕ) (j : ℕ) → get_or no_starts j 0 ≡ placed bytes 0 j
zeros bytes j = go (le_or_lt most_sessions j) ∙ sym (placed-none bytes 0 j (omega arith))
  where
    go : (most_sessions ≤ j) ⊎ (j < most_sessions) → get_or no_starts j 0 ≡ 0
    go (inl h) = get_or-eq_default no_starts 0 {n = j} (omega (arith, sixteen-zeros))
    go (inr h) = get_or-replicate most_sessions j 0 0 h

module _ (bytes : List ℕ) where
  -- before the first
  pub reached-none : Clear (head_lines bytes) → head_bytes ≤ length bytes → Reached bytes 0 head_bytes no_starts
  unfolding reading lines
  reached-none e long =
      let z : count_of bytes - 0 ≡ count_of bytes = omega arith in
      record {
        within = omega arith;
        start = sym (start-zero bytes);
        inside = long;
        left = first-clear (head_lines bytes) _ e ∙ rw z;
        sixteen = sixteen-zeros;
        each = zeros bytes;
      }

  module _ (i at : ℕ) (starts : List ℕ) (r : Reached bytes i at starts) where
    -- what is left begins with session i
    more : i < count_of bytes → reading bytes
        ≡ first (session_lines (period_of bytes) (drop at bytes) at ++ body_lines (period_of bytes) (drop (record_bytes (drop at bytes)) (drop at bytes)) (at + record_bytes (drop at bytes)) (count_of bytes - suc i))
    unfolding body_lines
    more h =
        let e : count_of bytes - i ≡ suc (count_of bytes - suc i) = omega arith in
        r.left ∙ rw e

    -- its refusal is the reading's
    pub reached-found : (number place : ℕ) → i < count_of bytes → first (session_lines (period_of bytes) (drop at bytes) at) ≡ refused number place → reading bytes ≡ refused number place
    reached-found number place h e = more h ∙ first_found (session_lines (period_of bytes) (drop at bytes) at) _ number place e

    -- with none, the next session is reached
    pub reached-next : i < count_of bytes → count_of bytes ≤ most_sessions → Clear (session_lines (period_of bytes) (drop at bytes) at)
        → Reached bytes (i + 1) (at + record_bytes (drop at bytes)) (set starts i at)
    reached-next h few e =
        let f = session-fields (period_of bytes) (drop at bytes) at e in
        let in_place : at ≤ length bytes = r.inside in
        let s : i + 1 ≡ suc i = add-one i in
        record {
          within = omega arith;
          start = rw s (ap (λ k. k + record_bytes (drop k bytes)) r.start ∙ sym (start-suc bytes i));
          inside = omega (arith, f.all, length-drop at bytes);
          left =
              more h
              ∙ first-clear (session_lines (period_of bytes) (drop at bytes) at) _ e
              ∙ rw (drop-drop (record_bytes (drop at bytes)) at bytes, s);
          sixteen = length-set starts i at ∙ r.sixteen;
          each = λ j. go j (ℕ_discrete j i) (le_or_lt (i + 1) j);
        }
      where
        go : (j : ℕ) → Dec (j ≡ i) → (i + 1 ≤ j) ⊎ (j < i + 1) → get_or (set starts i at) j 0 ≡ placed bytes (i + 1) j
        go j (yes q) d =
            let w : i < length starts = omega (arith, r.sixteen) in
            rw q (get_or-set_same starts i at 0 w ∙ r.start ∙ sym (placed-start bytes (i + 1) i (omega arith)))
        go j (no q) (inl d) =
            get_or-set_other starts i j at 0 q ∙ r.each j ∙ placed-none bytes i j (omega arith) ∙ sym (placed-none bytes (i + 1) j d)
        go j (no q) (inr d) =
            get_or-set_other starts i j at 0 q ∙ r.each j ∙ placed-start bytes i j (omega arith) ∙ sym (placed-start bytes (i + 1) j d)

    -- past the last session: bytes are left over, or the sheet reads
    last : count_of bytes ≤ i → reading bytes ≡ first (line 11 (ltb 0 (length (drop at bytes))) at ∷ [])
    unfolding body_lines
    last h =
        let e : count_of bytes - i ≡ 0 = omega arith in
        r.left ∙ rw e

    pub reached-over : count_of bytes ≤ i → at < length bytes → reading bytes ≡ refused 11 at
    reached-over h l = last h ∙ first-here _ _ _ _ (lt-ltb 0 (length (drop at bytes)) (omega (arith, length-drop at bytes)))

    pub reached_end : count_of bytes ≤ i → length bytes ≤ at → reading bytes ≡ none
    reached_end h l = last h ∙ first_next _ _ _ _ (le-ltb 0 (length (drop at bytes)) (omega (arith, length-drop at bytes))) ∙ clear-nil

-- the bytes from a place on, as a slice's part has them
pub from-here : (bytes : List ℕ) (at : ℕ) → take (length bytes - at) (drop at bytes) ≡ drop at bytes
from-here bytes at = take_all (length bytes - at) (drop at bytes) (omega (arith, length-drop at bytes))

-- what may be answered
pub reads-refused : (bytes : List ℕ) (r : Refused) → reading bytes ≡ refused (number_of r.cause) r.place → Reads bytes (Err r)
unfolding answer_to sessions_read
reads-refused bytes r e =
    record {
      outcome_is = rw e;
      sixteen = sixteen-zeros;
      each = rw e (zeros bytes);
    }

pub reads-read : (bytes : List ℕ) (r : Reading) (at : ℕ) → reading bytes ≡ none
    → r.capacity.0 ≡ capacity_of bytes
    → r.period.0 ≡ period_of bytes
    → r.count ≡ count_of bytes
    → Reached bytes (count_of bytes) at r.starts
    → Reads bytes (Ok r)
unfolding answer_to sessions_read
reads-read bytes r at e ec ep em w =
    record {
      outcome_is = rw (e, ec, ep, em);
      sixteen = w.sixteen;
      each = rw e w.each;
    }
