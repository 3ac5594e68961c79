-- Laws of specs/Opens.antt. The blocks that opening writes one after the other: where they lie, that each finds zeros in its place, and what the run is at the end. Assumes nothing.
use Rattle.std.specs.Prelude.{◌≡◌, List, ◌++◌, ℕ, zero, ◌+◌, ◌-◌, ◌≤◌, ◌<◌, take, drop, replicate}
use Rattle.std.proofs.Common.{sym, ◌∙◌, inr, add-one, length-append, ext_get_or}
use Rattle.std.proofs.Math.Path.{ap}
use native.Mathlib.Omega.{arith}
use Rattle.std.proofs.Math.ListN.{length, get_or-append}
use Rattle.std.proofs.lemmas.List.{length-replicate}
use Rattle.sheet.specs.Sheet.{session}
use Rattle.sheet.specs.Bytes.{sheet_of}
use Rattle.sheet.specs.Ready.{Ready}
use Rattle.sheet.proofs.ReadyLaws.{sessions_are, few-sessions, made_at}
use Rattle.layout.specs.Layout.{run_numbers, block_numbers, block_at, part}
use Rattle.layout.specs.Part.{part_length, part_at}
use Rattle.layout.specs.Over.{over, length_over, over_out}
use Rattle.history.specs.Image.{head_of, ShortTables, block_of, blocks_over, run_of, fresh, opened_run}
use Rattle.history.specs.Block.{length-block}
use Rattle.history.specs.Run.{length-blocks, blocks_out, blocks-append}
use Rattle.layout.specs.Splice.{zeros-at, over_splice, over-append}
use Rattle.opening.specs.Opens.{moving}

module _ (bytes starts : List ℕ) (count c P : ℕ) (r : Ready bytes starts count c P) (past : List ℕ) where
  -- the run with its head alone
  abbrev pub headed : List ℕ
  headed = over (replicate run_numbers 0 ++ past) 0 (head_of (sheet_of bytes) 0)

  zeros-length : length (replicate run_numbers zero) ≡ run_numbers
  zeros-length = length-replicate run_numbers zero

  pub headed-length : length headed ≡ run_numbers + length past
  headed-length = length_over (replicate run_numbers 0 ++ past) 0 (head_of (sheet_of bytes) 0) ∙ omega (arith, length-append (replicate run_numbers 0) past, zeros-length)

  module _ (i : ℕ) (h : i < count) where
    -- session i finds zeros
    pub finds_zeros : part (block_at i) block_numbers (blocks_over headed (sheet_of bytes) (moving (sheet_of bytes)) i) ≡ replicate block_numbers 0
    finds_zeros =
        let l = blocks_over headed (sheet_of bytes) (moving (sheet_of bytes)) i in
        let n : block_at i + block_numbers ≤ length l = omega (arith, length-blocks (sheet_of bytes) (moving (sheet_of bytes)) headed i, headed-length, few-sessions bytes starts count c P r) in
        let k = part_length l (block_at i) block_numbers n in
        ext_get_or 0 (part (block_at i) block_numbers l) (replicate block_numbers 0) (k ∙ sym (length-replicate block_numbers zero))
        (λ j b.
        let q : j < block_numbers = omega arith in
        part_at l (block_at i) block_numbers j q ∙ blocks_out (sheet_of bytes) (moving (sheet_of bytes)) headed i (block_at i + j) (inr (omega arith))
        ∙ over_out (replicate run_numbers 0 ++ past) 0 (head_of (sheet_of bytes) 0) (block_at i + j) (inr (omega arith))
        ∙ get_or-append (replicate run_numbers 0) past 0 (block_at i + j) (omega (arith, zeros-length, few-sessions bytes starts count c P r))
        ∙ zeros-at run_numbers (block_at i + j)
        ∙ sym (zeros-at block_numbers j))

    pub short-tables : ShortTables (session (sheet_of bytes) i)
    short-tables =
        let made = made_at bytes starts count c P r i h in
        record { service = made.service.short; envelope = made.envelope.short }

    -- its block given back is the next step
    pub next-block : (l y : List ℕ) → l ≡ blocks_over headed (sheet_of bytes) (moving (sheet_of bytes)) i
        → y ≡ block_of (session (sheet_of bytes) i) (fresh (session (sheet_of bytes) i))
        → take (block_at i) l ++ (y ++ drop (block_at i + block_numbers - block_at i) (drop (block_at i) l)) ≡ blocks_over headed (sheet_of bytes) (moving (sheet_of bytes)) (i + 1)
    unfolding blocks_over
    next-block l y e g =
        let sheet = sheet_of bytes in
        let w : block_at i + block_numbers - block_at i ≡ block_numbers = omega arith in
        let n : length y ≡ block_numbers = ap length g ∙ length-block (session sheet i) (moving sheet i) in
        let m : block_at i + block_numbers ≤ length l = omega (arith, ap length e, length-blocks sheet (moving sheet) headed i, headed-length, few-sessions bytes starts count c P r) in
        rw (add-one i, w) (over_splice l (block_at i) block_numbers y n m ∙ ap (λ z. over z (block_at i) y) e ∙ ap (over (blocks_over headed sheet (moving sheet) i) (block_at i)) g)

  -- after the last session
  pub all_blocks : blocks_over headed (sheet_of bytes) (moving (sheet_of bytes)) count ≡ opened_run (sheet_of bytes) ++ past
  unfolding opened_run run_of
  all_blocks =
      let sheet = sheet_of bytes in
      let e = sessions_are bytes starts count c P r in
      ap (λ l. blocks_over l sheet (moving sheet) count) (over-append (replicate run_numbers 0) past 0 (head_of sheet 0) (omega (arith, zeros-length)))
      ∙ blocks-append sheet (moving sheet) (over (replicate run_numbers 0) 0 (head_of sheet 0)) past count
      (omega (arith, length_over (replicate run_numbers 0) 0 (head_of sheet 0), zeros-length, few-sessions bytes starts count c P r))
      ∙ ap (λ k. blocks_over (over (replicate run_numbers 0) 0 (head_of sheet 0)) sheet (moving sheet) k ++ past) e
