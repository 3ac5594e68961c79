-- What can be read back from the numbers that a slot wrote: a session's three, and the packets sent, one by one and counted by sessions. Assumes nothing.
use Rattle.std.specs.Prelude.{◌≡◌, refl, ◌⊎◌, eqb}
use Rattle.std.proofs.Common.{sym, ◌∙◌, inl, inr, arith, length-append}
use Rattle.std.proofs.Math.Path.{ap}
use mathlib.Core.List.Memᴰ
use mathlib.Core.List.{List, [], ◌∷◌, ◌++◌, Memᴰ, append_assoc}
use Prim.Native.Nat.{ℕ, zero, suc, ◌+◌, ◌*◌, ◌≤◌, ◌<◌}
use Rattle.std.proofs.Math.ListN.{length, get_or, get_or-append}
use Rattle.std.proofs.Math.Seq.{get_or-append-add}
use Rattle.curve.proofs.OrderLaws.{le_or_lt}
use Rattle.curve.specs.Total.{total}
use Rattle.curve.proofs.TotalLaws.{total-zero, total-front, total_cong}
use Rattle.curve.specs.Delay.{slots_of}
use Rattle.sheet.specs.Sheet.{Sheet, session_count}
use Rattle.rules.specs.Count.{ind, count}
use Rattle.rules.specs.Model.{Packet, Past, of_session, joined}
use Rattle.intake.specs.Intakes.{outcome_numbers}
use Rattle.send.specs.Send.{note_numbers, session_at}
use Rattle.exact.specs.Written.{outcome_of, outcomes_by, notes_of, length-notes_of, notes_of-append, length-outcomes}

-- the r-th number of session i among those of all
module _ (sheet : Sheet) (p : Past) (offers rest : List ℕ) where
  outcome_to : (n i r : ℕ) → i < n → r < 3 → (more : List ℕ) → get_or (joined (outcome_of sheet p offers) n ++ more) (outcome_numbers * i + r) 0 ≡ get_or (outcome_of sheet p offers i) r 0
  unfolding joined
  outcome_to zero i r h l more = absurd (omega arith)
  outcome_to (suc n) i r h l more = go (outcome_to n i r) (le_or_lt n i)
    where
      f : ℕ → List ℕ
      f = outcome_of sheet p offers

      whole : (joined f n ++ f n) ++ more ≡ joined f n ++ (f n ++ more)
      whole = append_assoc (joined f n) (f n) more

      go : (i < n → r < 3 → (more : List ℕ) → get_or (joined f n ++ more) (outcome_numbers * i + r) 0 ≡ get_or (f i) r 0) → (n ≤ i) ⊎ (i < n)
          → get_or ((joined f n ++ f n) ++ more) (outcome_numbers * i + r) 0 ≡ get_or (f i) r 0
      go ih (inr k) = ap (λ (z : List ℕ). get_or z (outcome_numbers * i + r) 0) whole ∙ ih k l (f n ++ more)
      go ih (inl k) =
          let e : i ≡ n = omega arith in
          let at : outcome_numbers * i + r ≡ length (joined f n) + r = omega (arith, length-outcomes sheet p offers n) in
          ap (λ (z : List ℕ). get_or z (outcome_numbers * i + r) 0) whole
          ∙ ap (λ x. get_or (joined f n ++ (f n ++ more)) x 0) at
          ∙ get_or-append-add (joined f n) (f n ++ more) r 0
          ∙ get_or-append (f n) more 0 r l
          ∙ ap (λ x. get_or (f x) r 0) (sym e)

  pub outcome_at : (i r : ℕ) → i < session_count sheet → r < 3 → get_or (outcomes_by sheet p offers ++ rest) (outcome_numbers * i + r) 0 ≡ get_or (outcome_of sheet p offers i) r 0
  unfolding outcomes_by
  outcome_at i r h l = outcome_to (session_count sheet) i r h l rest

-- the note of a packet: session, packet, deadline
abbrev pub note_of : Packet → List ℕ
note_of x = x.owner ∷ x.number ∷ slots_of x.due ∷ []

-- a packet stands at place j of a list, with those before it and those after it
pub record AtPlace (l : List Packet) (j : ℕ) (x : Packet) : Type 0 where
  pub before : List Packet
  pub others : List Packet
  pub splits : l ≡ before ++ (x ∷ others)
  pub place : length before ≡ j

-- one place further on
next_place : (y : Packet) (l : List Packet) (j : ℕ) (x : Packet) → AtPlace l j x → AtPlace (y ∷ l) (suc j) x
next_place y l j x a = record { before = y ∷ a.before; others = a.others; splits = ap (λ (z : List Packet). y ∷ z) a.splits; place = ap suc a.place }

-- each member has a place, and each place a packet, which is a member
pub place_of : (l : List Packet) (x : Packet) → Memᴰ x l → (j : ℕ) × AtPlace l j x
place_of [] x m = elim m [ ]
place_of (y ∷ ys) x (Memᴰ.head e) = (0, record { before = []; others = ys; splits = ap (λ z. z ∷ ys) (sym e); place = refl })
place_of (y ∷ ys) x (Memᴰ.tail m) =
    let w = place_of ys x m in
    (suc w.0, next_place y ys w.0 x w.1)

pub packet-at : (l : List Packet) (j : ℕ) → j < length l → (x : Packet) × AtPlace l j x
packet-at [] j h = absurd (omega arith)
packet-at (y ∷ l) zero h = (y, record { before = []; others = l; splits = refl; place = refl })
packet-at (y ∷ l) (suc j) h =
    let w = packet-at l j (omega arith) in
    (w.0, next_place y l j w.0 w.1)

module _ (l : List Packet) (j : ℕ) (x : Packet) (a : AtPlace l j x) where
  pub member : Memᴰ x l
  member = rw a.splits (Memᴰ.append_right a.before (Memᴰ.head refl))

  pub place-among : j < length l
  place-among = omega (arith, ap length a.splits, length-append a.before (x ∷ a.others), a.place)

  module _ (rest : List ℕ) where
    -- its note, after those of the packets before it
    noted-after : notes_of l ++ rest ≡ notes_of a.before ++ (notes_of (x ∷ a.others) ++ rest)
    noted-after = ap (λ z. notes_of z ++ rest) a.splits ∙ ap (λ z. z ++ rest) (notes_of-append a.before (x ∷ a.others)) ∙ append_assoc (notes_of a.before) (notes_of (x ∷ a.others)) rest

    pub note-at : (r : ℕ) → r < 3 → get_or (notes_of l ++ rest) (note_numbers * j + r) 0 ≡ get_or (note_of x) r 0
    unfolding notes_of
    note-at r h =
        let at : note_numbers * j + r ≡ length (notes_of a.before) + r = omega (arith, length-notes_of a.before, a.place) in
        ap (λ (z : List ℕ). get_or z (note_numbers * j + r) 0) noted-after
        ∙ ap (λ k. get_or (notes_of a.before ++ (notes_of (x ∷ a.others) ++ rest)) k 0) at
        ∙ get_or-append-add (notes_of a.before) (notes_of (x ∷ a.others) ++ rest) r 0
        ∙ get_or-append (note_of x) (notes_of a.others ++ rest) 0 r h

-- further on by one note
shift : (r : ℕ) (x : Packet) (l : List Packet) (rest : List ℕ) (j : ℕ) → get_or (notes_of (x ∷ l) ++ rest) (note_numbers * suc j + r) 0 ≡ get_or (notes_of l ++ rest) (note_numbers * j + r) 0
unfolding notes_of
shift r x l rest j =
    let e : note_numbers * suc j + r ≡ suc (suc (suc (note_numbers * j + r))) = omega arith in
    ap (λ k. get_or (x.owner ∷ x.number ∷ slots_of x.due ∷ (notes_of l ++ rest)) k 0) e

-- how many notes are of a session
pub noted-count : (i : ℕ) (l : List Packet) (rest : List ℕ) → total (λ j. ind (eqb (get_or (notes_of l ++ rest) (note_numbers * j + session_at) 0) (suc i))) (length l) ≡ count (of_session i) l
unfolding count of_session notes_of
noted-count i [] rest = total-zero (λ j. ind (eqb (get_or (notes_of [] ++ rest) (note_numbers * j + session_at) 0) (suc i)))
noted-count i (x ∷ l) rest =
    total-front (λ j. ind (eqb (get_or (notes_of (x ∷ l) ++ rest) (note_numbers * j + session_at) 0) (suc i))) (length l)
    ∙ ap (λ k. ind (eqb x.owner (suc i)) + k) (total_cong _ _ (length l) (λ j h. ap (λ v. ind (eqb v (suc i))) (shift session_at x l rest j)) ∙ noted-count i l rest)

-- and how many before a place
pub noted-before : (i : ℕ) (l : List Packet) (rest : List ℕ) (j : ℕ) (x : Packet) (a : AtPlace l j x)
    → total (λ m. ind (eqb (get_or (notes_of l ++ rest) (note_numbers * m + session_at) 0) (suc i))) j ≡ count (of_session i) a.before
noted-before i l rest j x a =
    ap (λ (z : List ℕ). total (λ m. ind (eqb (get_or z (note_numbers * m + session_at) 0) (suc i))) j) (noted-after l j x a rest)
    ∙ ap (total (λ m. ind (eqb (get_or (notes_of a.before ++ (notes_of (x ∷ a.others) ++ rest)) (note_numbers * m + session_at) 0) (suc i)))) (sym a.place)
    ∙ noted-count i a.before (notes_of (x ∷ a.others) ++ rest)
