-- What the loop keeps that puts the lines of a slot's packets, three numbers after three. Assumes nothing.
use Rattle.std.specs.Prelude.{◌≡◌, refl, List, ◌++◌, ℕ, ◌+◌, ◌-◌, ◌*◌, ◌≤◌, ◌<◌, length, take, drop, get_or}
use Rattle.std.proofs.Common.{sym, ap, ◌∙◌, arith, length-append, length-drop, length-take-le, get_or-drop, get_or-take, drop-drop}
use Rattle.std.proofs.Math.Seq.{drop-append_seam}
use Rattle.std.proofs.lemmas.List.{get_or_append_left}
use Rattle.console.specs.Put.{Put, put_none, put_both}
use Rattle.console.specs.Text.{line_bytes}
use Rattle.slotrun.specs.Text.{packet_line, packet_lines}
use Rattle.slotrun.specs.Laws.{no_lines, lines_more}

-- the lines of the first packets stand, and the numbers of the others are left
pub record Listed (before : List ℕ) (slot : ℕ) (notes : List ℕ) (sent : ℕ) (rest page : List ℕ) : Type 0 where
  pub done : ℕ
  pub few : done ≤ sent
  pub left : rest ≡ drop (3 * done) (take (3 * sent) notes)
  pub put : Put before (packet_lines slot notes done) page
  pub fits : length page ≤ length before + line_bytes * done

pub listed_none : (page : List ℕ) (slot : ℕ) (notes : List ℕ) (sent : ℕ) → Listed page slot notes sent (take (3 * sent) notes) page
listed_none page slot notes sent = record { done = 0; few = omega arith; left = refl; put = rw no_lines (put_none page); fits = omega arith }

module _ {before : List ℕ} {slot : ℕ} {notes : List ℕ} {sent : ℕ} {rest page : List ℕ} (l : Listed before slot notes sent rest page) (enough : 3 * sent ≤ length notes) where
  -- how many numbers are left
  left-length : length rest ≡ 3 * sent - 3 * l.done
  left-length = ap length l.left ∙ length-drop (3 * l.done) (take (3 * sent) notes) ∙ ap (λ n. n - 3 * l.done) (length-take-le (3 * sent) notes enough)

  module _ (note rest' : List ℕ) (split : rest ≡ note ++ rest') (three : length note ≡ 3) where
    next-fits : l.done + 1 ≤ sent
    next-fits = omega (arith, left-length, ap length split, length-append note rest', three)

    number : (j : ℕ) → j < 3 → get_or note j 0 ≡ get_or notes (3 * l.done + j) 0
    number j h =
        sym (get_or_append_left note rest' 0 j (omega (arith, three))) ∙ ap (λ xs. get_or xs j 0) (sym split ∙ l.left) ∙ get_or-drop (3 * l.done) (take (3 * sent) notes) j 0 ∙ get_or-take (3 * sent) notes (3 * l.done + j) 0 (omega (arith, next-fits))

    first : get_or note 0 0 ≡ get_or notes (3 * l.done) 0
    first = number 0 (omega arith) ∙ ap (λ k. get_or notes k 0) (omega arith)

    -- there is room for the next line
    pub listed_room : sent ≤ 64 → length page + line_bytes ≤ length before + 16384
    listed_room few = omega (arith, l.fits, next-fits)

    pub listed_more : (page' : List ℕ) → Put page (packet_line slot (get_or note 0 0) (get_or note 1 0) (get_or note 2 0)) page' → length page' ≤ length page + line_bytes → Listed before slot notes sent rest' page'
    listed_more page' put few =
        let line : packet_line slot (get_or note 0 0) (get_or note 1 0) (get_or note 2 0) ≡ packet_line slot (get_or notes (3 * l.done) 0) (get_or notes (3 * l.done + 1) 0) (get_or notes (3 * l.done + 2) 0) =
        rw (first, number 1 (omega arith), number 2 (omega arith)) refl in
        let next : 3 * l.done + 3 ≡ 3 * (l.done + 1) = omega arith in
        record {
          done = l.done + 1;
          few = next-fits;
          left = sym (drop-append_seam note rest') ∙ ap (λ n. drop n (note ++ rest')) three ∙ ap (drop 3) (sym split ∙ l.left) ∙ drop-drop 3 (3 * l.done) (take (3 * sent) notes) ∙ ap (λ n. drop n (take (3 * sent) notes)) next;
          put = rw lines_more (put_both before (packet_lines slot notes l.done) _ l.put (rw (← line) put));
          fits = omega (arith, l.fits, few);
        }

  -- where less than three numbers are left, all lines stand
  pub listed_all : length rest < 3 → l.done ≡ sent
  listed_all short = omega (arith, left-length, l.few)
