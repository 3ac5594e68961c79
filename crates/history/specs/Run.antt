-- How a run reads: its head, a block for each session, zeros past the last block, and after its 12,288 numbers whatever stands there. A slice that reads so is the run. Assumes nothing.
use Rattle.std.specs.Prelude.{◌≡◌, ◌⊎◌, length, get_or, replicate}
use Rattle.std.proofs.Math.Path.{refl, ap}
use Rattle.std.proofs.Common.{sym, ◌∙◌, inl, inr, length-append, ext_get_or}
use mathlib.Core.List.{List, ◌++◌}
use Prim.Native.Nat.{ℕ, zero, suc, ◌+◌, ◌-◌, ◌/◌, ◌≤◌, ◌<◌}
use native.Mathlib.Omega.{arith}
use Rattle.std.proofs.lemmas.List.{length-replicate}
use Rattle.std.proofs.Math.ListN.{get_or-append, get_or-eq_default}
use Rattle.curve.proofs.OrderLaws.{le_or_lt}
use Rattle.sheet.specs.Limits.{most_sessions}
use Rattle.sheet.specs.Sheet.{Sheet, session, session_count}
use Rattle.layout.specs.Layout.{run_numbers, head_numbers, block_numbers, block_at, part, block}
use Rattle.layout.specs.Part.{block-at}
use Rattle.layout.specs.Over.{over, length_over, over_out, over_inside, over-part}
use Rattle.layout.specs.Splice.{zeros-at, over-append, over-apart}
use Rattle.history.specs.Image.{Moving, head_of, block_of, blocks_over, run_of}
use Rattle.history.specs.Block.{length-block}

-- the blocks of the first k sessions, written over a list
module _ (sheet : Sheet) (m : ℕ → Moving) where
  abbrev new : ℕ → List ℕ
  new i = block_of (session sheet i) (m i)

  new-length : (i : ℕ) → length (new i) ≡ block_numbers
  new-length i = length-block (session sheet i) (m i)

  pub length-blocks : (l : List ℕ) (k : ℕ) → length (blocks_over l sheet m k) ≡ length l
  unfolding blocks_over
  length-blocks l zero = refl
  length-blocks l (suc k) = length_over (blocks_over l sheet m k) (block_at k) (new k) ∙ length-blocks l k

  -- past the blocks that are written, and before the first, nothing changed
  pub blocks_out : (l : List ℕ) (k x : ℕ) → (x < head_numbers) ⊎ (block_at k ≤ x) → get_or (blocks_over l sheet m k) x 0 ≡ get_or l x 0
  unfolding blocks_over
  blocks_out l zero x h = refl
  blocks_out l (suc k) x (inl h) = over_out (blocks_over l sheet m k) (block_at k) (new k) x (inl (omega arith)) ∙ blocks_out l k x (inl h)
  blocks_out l (suc k) x (inr h) = over_out (blocks_over l sheet m k) (block_at k) (new k) x (inr (omega (arith, new-length k))) ∙ blocks_out l k x (inr (omega arith))

  -- each block stands in its place
  pub blocks-each : (l : List ℕ) (k i : ℕ) → block_at k ≤ length l → i < k → block (blocks_over l sheet m k) i ≡ new i
  unfolding blocks_over
  blocks-each l zero i f h = absurd (omega arith)
  blocks-each l (suc k) i f h = go (blocks-each l k i (omega arith)) (le_or_lt k i)
    where
      go : (i < k → block (blocks_over l sheet m k) i ≡ new i) → (k ≤ i) ⊎ (i < k) → block (over (blocks_over l sheet m k) (block_at k) (new k)) i ≡ new i
      go ih (inl a) =
          let e : i ≡ k = omega arith in
          let n = length-blocks l k in
          let w = new-length k in
          rw e
          (ap (λ v. part (block_at k) v (over (blocks_over l sheet m k) (block_at k) (new k))) (sym w)
          ∙ over-part (blocks_over l sheet m k) (block_at k) (new k) (omega arith))
      go ih (inr a) =
          let n = length-blocks l k in
          over-apart (blocks_over l sheet m k) (block_at k) (new k) (block_at i) block_numbers (omega arith) (inl (omega arith)) ∙ ih a

  -- what stands past the run stays past it
  pub blocks-append : (l r : List ℕ) (k : ℕ) → block_at k ≤ length l → blocks_over (l ++ r) sheet m k ≡ blocks_over l sheet m k ++ r
  unfolding blocks_over
  blocks-append l r zero h = refl
  blocks-append l r (suc k) h =
      ap (λ z. over z (block_at k) (new k)) (blocks-append l r k (omega arith))
      ∙ over-append (blocks_over l sheet m k) r (block_at k) (new k) (omega (arith, new-length k, length-blocks l k))

pub length_run : (sheet : Sheet) (done : ℕ) (m : ℕ → Moving) → length (run_of sheet done m) ≡ run_numbers
unfolding run_of
length_run sheet done m =
    length-blocks sheet m (over (replicate run_numbers 0) 0 (head_of sheet done)) (session_count sheet)
    ∙ length_over (replicate run_numbers 0) 0 (head_of sheet done)
    ∙ length-replicate run_numbers zero

-- zeros, and what stands past the run
abbrev pub blank : List ℕ → List ℕ
blank rest = replicate run_numbers 0 ++ rest

pub length-blank : (rest : List ℕ) → length (blank rest) ≡ run_numbers + length rest
length-blank rest = omega (arith, length-append (replicate run_numbers zero) rest, length-replicate run_numbers zero)

pub record RunReads (sheet : Sheet) (done : ℕ) (m : ℕ → Moving) (rest run : List ℕ) : Type 0 where
  pub size : length run ≡ run_numbers + length rest
  pub head : (x : ℕ) → x < head_numbers → get_or run x 0 ≡ get_or (head_of sheet done) x 0
  pub each : (i : ℕ) → i < session_count sheet → block run i ≡ block_of (session sheet i) (m i)
  pub past : (x : ℕ) → block_at (session_count sheet) ≤ x → get_or run x 0 ≡ get_or (blank rest) x 0

module _ (sheet : Sheet) (done : ℕ) (m : ℕ → Moving) (rest : List ℕ) where
  -- ONE RUN: two slices that read so are one
  pub runs-one : (run other : List ℕ) → RunReads sheet done m rest run → RunReads sheet done m rest other → run ≡ other
  runs-one run other x y = ext_get_or 0 run other (x.size ∙ sym y.size) (λ k h. go k (le_or_lt head_numbers k) (le_or_lt (block_at (session_count sheet)) k))
    where
      inside : (k i : ℕ) → i < session_count sheet → block_at i ≤ k → k < block_at i + block_numbers → get_or run k 0 ≡ get_or other k 0
      inside k i h lo hi =
          let j = k - block_at i in
          let e : block_at i + j ≡ k = omega arith in
          rw e at
          (sym (block-at run i j (omega arith)) ∙ ap (λ (b : List ℕ). get_or b j 0) (x.each i h ∙ sym (y.each i h)) ∙ block-at other i j (omega arith))

      go : (k : ℕ) → (head_numbers ≤ k) ⊎ (k < head_numbers) → (block_at (session_count sheet) ≤ k) ⊎ (k < block_at (session_count sheet)) → get_or run k 0 ≡ get_or other k 0
      go k (inr p) q = x.head k p ∙ sym (y.head k p)
      go k (inl p) (inl q) = x.past k q ∙ sym (y.past k q)
      go k (inl p) (inr q) =
          let i = (k - head_numbers) / block_numbers in
          inside k i (omega arith) (omega arith) (omega arith)

  -- THE RUN READS SO
  pub run-reads : session_count sheet ≤ most_sessions → RunReads sheet done m rest (run_of sheet done m ++ rest)
  unfolding run_of
  run-reads few = rw whole (record { size = size; head = head; each = each; past = past })
    where
      headed : List ℕ
      headed = over (blank rest) 0 (head_of sheet done)

      n : length (replicate run_numbers zero) ≡ run_numbers
      n = length-replicate run_numbers zero

      size-headed : length headed ≡ run_numbers + length rest
      size-headed = length_over (blank rest) 0 (head_of sheet done) ∙ length-blank rest

      count : ℕ
      count = session_count sheet

      whole : blocks_over (over (replicate run_numbers 0) 0 (head_of sheet done)) sheet m count ++ rest ≡ blocks_over headed sheet m count
      whole =
          sym (blocks-append sheet m (over (replicate run_numbers 0) 0 (head_of sheet done)) rest count (omega (arith, length_over (replicate run_numbers 0) 0 (head_of sheet done), n)))
          ∙ ap (λ (l : List ℕ). blocks_over l sheet m count) (sym (over-append (replicate run_numbers 0) rest 0 (head_of sheet done) (omega (arith, n))))

      size : length (blocks_over headed sheet m count) ≡ run_numbers + length rest
      size = length-blocks sheet m headed count ∙ size-headed

      head : (x : ℕ) → x < head_numbers → get_or (blocks_over headed sheet m count) x 0 ≡ get_or (head_of sheet done) x 0
      head x h = blocks_out sheet m headed count x (inl h) ∙ go (le_or_lt 5 x)
        where
          go : (5 ≤ x) ⊎ (x < 5) → get_or headed x 0 ≡ get_or (head_of sheet done) x 0
          go (inl p) =
              over_out (blank rest) 0 (head_of sheet done) x (inr (omega arith))
              ∙ get_or-append (replicate run_numbers 0) rest 0 x (omega (arith, n))
              ∙ zeros-at run_numbers x
              ∙ sym (get_or-eq_default (head_of sheet done) 0 {n = x} (omega arith))
          go (inr p) =
              let e : 0 + x ≡ x = omega arith in
              rw e at (over_inside (blank rest) 0 (head_of sheet done) (omega (arith, length-blank rest)) x (omega arith))

      each : (i : ℕ) → i < count → block (blocks_over headed sheet m count) i ≡ block_of (session sheet i) (m i)
      each i h = blocks-each sheet m headed count i (omega (arith, size-headed)) h

      past : (x : ℕ) → block_at count ≤ x → get_or (blocks_over headed sheet m count) x 0 ≡ get_or (blank rest) x 0
      past x h = blocks_out sheet m headed count x (inr h) ∙ over_out (blank rest) 0 (head_of sheet done) x (inr (omega arith))

  pub reads-run : (run : List ℕ) → session_count sheet ≤ most_sessions → RunReads sheet done m rest run → run ≡ run_of sheet done m ++ rest
  reads-run run few r = runs-one run (run_of sheet done m ++ rest) r (run-reads few)
