-- Laws of specs/Held.antt. The two windows of the search at slot count t, the first values and the last ones, and that the four numbers of a try stand in them. Assumes nothing.
use Rattle.std.specs.Prelude.{◌≡◌, List, ℕ, ◌+◌, ◌-◌, ◌*◌, ◌≤◌, ◌<◌, min, length, get_or}
use Rattle.std.proofs.Common.{sym, ap, ◌∙◌, arith}
use Rattle.curve.specs.Curve.{Curve, at}
use Rattle.sheet.specs.Sheet.{session}
use Rattle.sheet.specs.Bytes.{session_of, sheet_of}
use Rattle.sheet.specs.Ready.{Ready, on_from}
use Rattle.sheet.proofs.ReadyLaws.{made_at, session-there}
use Rattle.verdict.proofs.ReadyLaws.{curve-most}
use Rattle.verdict.specs.Share.{better}
use Rattle.verdict.specs.Window.{row_places, session_places, window_places, Window}
use Rattle.verdict.specs.Held.{Seen, Held}

module _ (bytes : List ℕ) (P n t : ℕ) where
  pub seen_none : (firsts recent tries : List ℕ) → Window bytes P 0 n firsts → length recent ≡ window_places → length tries ≡ 65 → Seen bytes P n 0 1 firsts recent tries
  seen_none firsts recent tries w e f = record { first = w; places = e; last = λ h. absurd (omega arith); near = omega arith; long = f }

  pub seen_next : (end : ℕ) (firsts recent tries : List ℕ) → Window bytes P 0 n firsts → Held bytes P n end t recent → length tries ≡ 65 → Seen bytes P n end (t + 1) firsts recent tries
  seen_next end firsts recent tries w h f = record { first = w; places = h.values.places; last = λ k. h.values; near = omega (arith, h.near); long = f }

  -- a new window
  pub held_new : {end last : ℕ} {recent values : List ℕ} → end ≡ last → recent ≡ values → last ≡ t + 127 - min t 64 → Window bytes P last n values → Held bytes P n end t recent
  held_new e f g w = rw (e, f) (record { ahead = omega arith; near = omega arith; values = w })

  -- or the one that was
  pub held_old : {end last : ℕ} {firsts recent values tries : List ℕ} → end ≡ last → recent ≡ values → t ≤ last → Seen bytes P n last t firsts values tries → Held bytes P n end t recent
  held_old e f h w = rw (e, f) (record { ahead = h; near = w.near; values = w.last h })

-- the four numbers of try x of session i
module _ (bytes starts : List ℕ) (count c P : ℕ) (r : Ready bytes starts count c P) (firsts recent : List ℕ) (end t i x : ℕ)
    (first : Window bytes P 0 (session_places * count) firsts) (held : Held bytes P (session_places * count) end t recent) (h : i < count) (k : x ≤ min t 64)
  where
    abbrev b : Curve
    b = (session (sheet_of bytes) i).envelope

    abbrev S : Curve
    S = (session (sheet_of bytes) i).service

    b-first : get_or firsts (session_places * i + x) 0 ≡ at P b x
    b-first =
        let e : 0 - x + (x - 0) ≡ x = omega arith in
        first.envelope i x (omega arith) (omega arith) ∙ ap (at P b) e

    S-first : get_or firsts (session_places * i + x + row_places) 0 ≡ at P S x
    S-first =
        let e : 0 - x + (x - 0) ≡ x = omega arith in
        first.service i x (omega arith) (omega arith) ∙ ap (at P S) e

    away : end - (x + (end - t)) + (x + (end - t) - end) ≡ t - x
    away = omega (arith, held.ahead)

    b-back : get_or recent (session_places * i + x + (end - t)) 0 ≡ at P b (t - x)
    b-back =
        let e : session_places * i + x + (end - t) ≡ session_places * i + (x + (end - t)) = omega arith in
        ap (λ k. get_or recent k 0) e ∙ held.values.envelope i (x + (end - t)) (omega (arith, held.near)) (omega (arith, held.near)) ∙ ap (at P b) away

    S-back : get_or recent (session_places * i + x + (end - t) + row_places) 0 ≡ at P S (t - x)
    S-back =
        let e : session_places * i + x + (end - t) + row_places ≡ session_places * i + (x + (end - t)) + row_places = omega arith in
        ap (λ k. get_or recent k 0) e ∙ held.values.service i (x + (end - t)) (omega (arith, held.near)) (omega (arith, held.near)) ∙ ap (at P S) away

    -- their sums are small
    pub one-small : get_or firsts (session_places * i + x) 0 + get_or recent (session_places * i + x + (end - t) + row_places) 0 ≤ 1000 + 256 * t
    one-small =
        let made = made_at bytes starts count c P r i h in
        omega (arith, b-first, S-back, curve-most P b made.envelope x, curve-most P S made.service (t - x))

    pub two-small : get_or recent (session_places * i + x + (end - t)) 0 + get_or firsts (session_places * i + x + row_places) 0 ≤ 1000 + 256 * t
    two-small =
        let made = made_at bytes starts count c P r i h in
        omega (arith, S-first, b-back, curve-most P S made.service x, curve-most P b made.envelope (t - x))

    -- and the lesser of them is the try
    pub try_is : min (get_or firsts (session_places * i + x) 0 + get_or recent (session_places * i + x + (end - t) + row_places) 0) (get_or recent (session_places * i + x + (end - t)) 0 + get_or firsts (session_places * i + x + row_places) 0)
        ≡ better P (session_of (on_from bytes (get_or starts i 0))).envelope (session_of (on_from bytes (get_or starts i 0))).service t x
    unfolding better
    try_is = rw (b-first, S-back, b-back, S-first) (ap (λ w. better P w.envelope w.service t x) (sym (session-there bytes starts count c P r i h)))
