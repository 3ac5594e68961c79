-- A tally that began at zero with its run and went to each slot adds up after each, and no slot of a million finds it without room. Assumes nothing.
use Rattle.std.specs.Prelude.{◌≡◌, List, length, get_or}
use Rattle.std.proofs.Math.Path.{refl, ap}
use Rattle.std.proofs.Common.{◌∙◌}
use Prim.Native.Nat.{ℕ, zero, suc, ◌+◌, ◌*◌, ◌≤◌}
use native.Mathlib.Omega.{arith}
use Rattle.curve.specs.Total.{total}
use Rattle.curve.proofs.TotalLaws.{total_cong, total-add, total-most}
use Rattle.sheet.specs.Sheet.{Sheet, WellMade, session_count}
use Rattle.sheet.specs.Bytes.{sheet_of}
use Rattle.sheet.specs.Makes.{AllBytes}
use Rattle.rules.specs.Model.{Past, over, takes, no_room, one_slot, past}
use Rattle.rules.proofs.Laws.{offers-split, sent-most}
use Rattle.rules.proofs.Sums.{sends-split}
use Rattle.layout.specs.Sound.{most_slots}
use Rattle.run.specs.Brought.{Within}
use Rattle.run.specs.ByRules.{tally_by}
use Rattle.run.specs.declared.tally.Tally.{Tally}
use Rattle.kept.specs.Calls.{Calls}
use Rattle.kept.specs.Lent.{TallyRoom, FromZero, AddsUp}
use Rattle.kept.specs.Runs.{first_past, made, done, most}

-- sixteen offers of a byte
abbrev most_offered : ℕ
most_offered = 4080

-- one slot's sums
module _ (sheet : Sheet) (p : Past) (offers : List ℕ) where
  abbrev o : ℕ → ℕ
  o i = get_or offers i 0

  split : total o (session_count sheet)
      ≡ total (λ i. takes sheet p i (o i)) (session_count sheet) + total (λ i. over sheet p i (o i)) (session_count sheet) + total (λ i. no_room sheet p i (o i)) (session_count sheet)
  split =
      let m = session_count sheet in
      omega (
        arith,
        total_cong o (λ i. takes sheet p i (o i) + over sheet p i (o i) + no_room sheet p i (o i)) m (λ i h. offers-split sheet p i (o i)),
        total-add (λ i. takes sheet p i (o i) + over sheet p i (o i)) (λ i. no_room sheet p i (o i)) m,
        total-add (λ i. takes sheet p i (o i)) (λ i. over sheet p i (o i)) m,
      )

  few-offered : WellMade sheet → AllBytes offers → total o (session_count sheet) ≤ most_offered
  few-offered made bytes = omega (arith, made.few, total-most o (session_count sheet) 255 (λ i h. omega (arith, bytes i)))

-- after u slots
record Adds (sheet : Sheet) (told : ℕ → List ℕ) (u : ℕ) (t : Tally) : Type 0 where
  adds-up : AddsUp t
  waits : t.waiting ≡ length (past sheet told u).waiting
  few : t.offered ≤ most_offered * u

module _ (sheet : Sheet) (made : WellMade sheet) (told : ℕ → List ℕ) where
  -- one slot more
  next : (u : ℕ) (t : Tally) → AllBytes (told u) → Adds sheet told u t → Adds sheet told (suc u) (tally_by sheet (past sheet told u) (told u) t)
  unfolding past one_slot
  next u t bytes a =
      record {
        adds-up = record {
          offers = omega (arith, a.adds-up.offers, split sheet (past sheet told u) (told u));
          packets = omega (arith, a.adds-up.packets, a.waits, sends-split sheet told u);
        };
        waits = refl;
        few = omega (arith, a.few, few-offered sheet (past sheet told u) (told u) made bytes);
      }

  -- no total is above what was offered, and a slot adds little to it
  room : (u : ℕ) (t : Tally) → u ≤ most_slots → Adds sheet told u t → (offers : List ℕ) → AllBytes offers → Within (tally_by sheet (past sheet told u) offers t)
  room u t h a offers bytes =
      let e = a.adds-up.offers in
      let g = a.adds-up.packets in
      let f = a.few in
      let s = split sheet (past sheet told u) offers in
      let l = few-offered sheet (past sheet told u) offers made bytes in
      record {
        offered = omega arith;
        taken_in = omega arith;
        over = omega arith;
        no_room = omega arith;
        sent = omega (arith, sent-most sheet (past sheet told u) offers, made.capacity);
      }

-- A TALLY FROM ZERO, whatever was offered
module _ (bytes : List ℕ) (n : ℕ) (c : Calls bytes n) (from_zero : FromZero bytes n c) where
  adds : (u : ℕ) → u ≤ n → Adds (sheet_of bytes) c.offers u (c.tally u)
  unfolding past
  adds zero h = rw from_zero.begins (record { adds-up = record { offers = refl; packets = refl }; waits = refl; few = omega arith })
  adds (suc u) h =
      let is : c.tally (suc u) ≡ tally_by (sheet_of bytes) (past (sheet_of bytes) c.offers u) (c.offers u) (c.tally u) =
      from_zero.goes_on u h ∙ (done bytes n c u h).tally-is ∙ ap (λ p. tally_by (sheet_of bytes) p (c.offers u) (c.tally u)) (first_past (sheet_of bytes) c.offers u) in
      rw is (next (sheet_of bytes) (made bytes n c) c.offers u (c.tally u) (c.offers_are u h) (adds u (omega arith)))

  -- ADDS UP, after each slot
  pub adds-up : (u : ℕ) → u ≤ n → AddsUp (c.tally u)
  adds-up u h = (adds u h).adds-up

  -- AND HAS ROOM for one slot more, with any offers
  pub has_room : (offers : List ℕ) → AllBytes offers → TallyRoom bytes n c offers (c.tally n)
  has_room = room (sheet_of bytes) (made bytes n c) c.offers n (c.tally n) (most bytes n c) (adds n (omega arith))
