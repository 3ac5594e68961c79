-- The laws of a part of a list: its length, its numbers, and when two lists have one and the same part. Assumes nothing.
use Rattle.std.specs.Prelude.{◌≡◌, List, ℕ, ◌+◌, ◌-◌, ◌≤◌, ◌<◌, length, get_or, take, drop}
use Rattle.std.proofs.Common.{sym, ◌∙◌, arith, length-take, length-drop, get_or-take, get_or-drop, ext_get_or}
use Rattle.layout.specs.Layout.{run_numbers, block_numbers, block_at, part, block}

pub part_length : (l : List ℕ) (a w : ℕ) → a + w ≤ length l → length (part a w l) ≡ w
part_length l a w h = simp (length-take, length-drop) (omega arith)

pub part_at : (l : List ℕ) (a w i : ℕ) → i < w → get_or (part a w l) i 0 ≡ get_or l (a + i) 0
part_at l a w i h = rw (get_or-take, get_or-drop)

pub part_same : (l k : List ℕ) (a w : ℕ) → length k ≡ length l → a + w ≤ length l
    → ((i : ℕ) → i < w → get_or k (a + i) 0 ≡ get_or l (a + i) 0)
    → part a w k ≡ part a w l
part_same l k a w e h f =
    let lk = part_length k a w (omega arith) in
    ext_get_or 0 (part a w k) (part a w l) (omega (arith, lk, part_length l a w h))
    (λ i b. let q : i < w = omega arith in part_at k a w i q ∙ f i q ∙ sym (part_at l a w i q))

-- the part from a to a + w, as a slice of it is lent
pub part_lent : (l : List ℕ) (a w : ℕ) → take (a + w - a) (drop a l) ≡ part a w l
part_lent l a w =
    let e : a + w - a ≡ w = omega arith in
    rw e

-- a block of the run: its length, and its numbers in the run
pub block-length : (run : List ℕ) (i : ℕ) → run_numbers ≤ length run → i < 16 → length (block run i) ≡ block_numbers
block-length run i h b = part_length run (block_at i) block_numbers (omega arith)

pub block-at : (run : List ℕ) (i k : ℕ) → k < block_numbers → get_or (block run i) k 0 ≡ get_or run (block_at i + k) 0
block-at run i k h = part_at run (block_at i) block_numbers k h
