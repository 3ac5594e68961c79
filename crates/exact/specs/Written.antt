-- The numbers that a slot writes, by the rules: three for each session and three for each packet sent. And how three numbers are written after others. Assumes nothing.
use Rattle.std.specs.Prelude.{◌≡◌, refl, List, [], ◌∷◌, ◌++◌, ℕ, zero, suc, ◌+◌, ◌*◌, ◌≤◌, length, get_or, drop, set}
use Rattle.std.proofs.Common.{sym, ap, ◌∙◌, append_assoc, arith, length-append, length-drop, take_at, drop-drop}
use Rattle.std.proofs.lemmas.List.Edits.{sets-eq}
use Rattle.std.proofs.Math.Seq.{drop-append-add}
use Rattle.curve.specs.Delay.{slots_of}
use Rattle.sheet.specs.Sheet.{Sheet, session_count}
use Rattle.rules.specs.Model.{Packet, Past, over, takes, no_room, joined}
use Rattle.intake.specs.Intakes.{outcome_numbers}
use Rattle.send.specs.Send.{note_numbers}

-- of session i, with so many offered: taken in, over, no room
abbrev pub outcome_of : Sheet → Past → List ℕ → ℕ → List ℕ
outcome_of sheet p offers i =
    takes sheet p i (get_or offers i 0) ∷ over sheet p i (get_or offers i 0) ∷ no_room sheet p i (get_or offers i 0) ∷ []

-- OUTCOMES of all sessions, in sheet order
unfoldable pub outcomes_by : Sheet → Past → List ℕ → List ℕ
outcomes_by sheet p offers = joined (outcome_of sheet p offers) (session_count sheet)

-- NOTES of packets, in sending order: session, packet, deadline
unfoldable pub notes_of : List Packet → List ℕ
notes_of [] = []
notes_of (x ∷ l) = x.owner ∷ x.number ∷ slots_of x.due ∷ notes_of l

pub length-notes_of : (l : List Packet) → length (notes_of l) ≡ note_numbers * length l
unfolding notes_of
length-notes_of [] = refl
length-notes_of (x ∷ l) = omega (arith, length-notes_of l)

pub notes_of-append : (l m : List Packet) → notes_of (l ++ m) ≡ notes_of l ++ notes_of m
unfolding notes_of
notes_of-append [] m = refl
notes_of-append (x ∷ l) m = rw (notes_of-append l m)

pub length-outcomes : (sheet : Sheet) (p : Past) (offers : List ℕ) (n : ℕ) → length (joined (outcome_of sheet p offers) n) ≡ outcome_numbers * n
unfolding joined
length-outcomes sheet p offers zero = refl
length-outcomes sheet p offers (suc n) = omega (arith, length-append (joined (outcome_of sheet p offers) n) (outcome_of sheet p offers n), length-outcomes sheet p offers n)

-- three numbers written after those of p, over what stood in l
pub three-more : (p l : List ℕ) (n a b c : ℕ) → length p ≡ n → n + 3 ≤ length l
    → set (set (set (p ++ drop n l) n a) (n + 1) b) (n + 2) c ≡ (p ++ (a ∷ b ∷ c ∷ [])) ++ drop (n + 3) l
three-more p l n a b c e h =
    let q = drop n l in
    let e1 : n + 1 ≡ suc n = omega arith in
    let e2 : n + 2 ≡ suc (suc n) = omega arith in
    let size : n + 3 ≤ length (p ++ q) = omega (arith, length-append p q, length-drop n l) in
    let rest : drop (n + 3) (p ++ q) ≡ drop (n + 3) l = ap (λ k. drop (k + 3) (p ++ q)) (sym e) ∙ drop-append-add p q 3 ∙ drop-drop 3 n l in
    rw (e1, e2) (sets-eq (a ∷ b ∷ c ∷ []) (p ++ q) n size ∙ rw (take_at p q n e, rest, append_assoc))
