-- The head is written over zeros, and each block after it, as `blocks_over` has them. Assumes nothing.
use Rattle.std.proofs.Common.{◌≡◌, refl, sym, ap, ◌∙◌, List, ◌++◌, ℕ, ◌+◌, ◌<◌, arith, length, set, take, drop, replicate, length-take}
use Rattle.sheet.specs.Bytes.{sheet_of}
use Rattle.sheet.proofs.ReadyLaws.{period-is, capacity-is, sessions_are}
use Rattle.sheet.proofs.ToldLaws.{session_is}
use Rattle.layout.specs.Layout.{run_numbers, block_numbers, mark, block_at, part}
use Rattle.layout.specs.Part.{part_lent}
use Rattle.layout.specs.Over.{over, puts}
use Rattle.history.specs.Image.{block_of, blocks_over, fresh}
use Rattle.opening.specs.Opens.{moving}
use Rattle.opening.proofs.OpensLaws.{headed, finds_zeros, short-tables, next-block, all_blocks}
use Rattle.opening.proofs.writing.write_run.Goals as goal
use Rattle.opening.proofs.writing.write_run.Goals.{After-period, At-loop-i, Start}

-- what stands past the run
abbrev past : Start → List ℕ
past s = drop run_numbers s.args.run.now

-- the five stores of the head
abbrev stored : After-period → List ℕ
stored c =
    set (set (set (set (set (c.fill.new.self ++ drop run_numbers c.args.run.now) 0 mark) 1 c.capacity.result.0) 2 c.period.result.0) 3 c.count-count.result) 4 0

-- the run's numbers are zeros
zeros : (c : After-period) → c.fill.new.self ≡ replicate run_numbers 0
zeros c =
    let e : length (take 12288 c.args.run.now) ≡ run_numbers = omega (arith, length-take 12288 c.args.run.now, c.requires) in
    c.fill.ensures.after (λ y e. e) ∙ ap (λ n. replicate n 0) e

-- the head over zeros
head-is : (c : After-period) → stored c ≡ headed _ _ _ _ _ c.args.sheet.now.ready (past (goal.at.After-period c).Start)
unfolding over puts
head-is c =
    let r = c.args.sheet.now.ready in
    rw (zeros c, c.capacity.ensures.is, c.period.ensures.is, c.count-count.ensures.is, capacity-is _ _ _ _ _ r, period-is _ _ _ _ _ r, sessions_are _ _ _ _ _ r)

-- the run before session i
held : (c : At-loop-i) → c.loop-i.run
    ≡ blocks_over (headed _ _ _ _ _ c.args.sheet.now.ready (past (goal.at.At-loop-i c).Start)) (sheet_of c.args.sheet.now.bytes.now) (moving (sheet_of c.args.sheet.now.bytes.now)) c.loop-i.i
held c =
    let sheet = sheet_of c.args.sheet.now.bytes.now in
    let e : c.loop-i.run ≡ blocks_over (stored (goal.at.At-loop-i c).After-period) sheet (moving sheet) c.loop-i.i = c.loop-i.invariant in
    e ∙ ap (λ l. blocks_over l sheet (moving sheet) c.loop-i.i) (head-is (goal.at.At-loop-i c).After-period)

pub loop-i-init : goal.loop-i-init
unfolding blocks_over
loop-i-init c = refl

pub write_block-requires : goal.write_block-requires
write_block-requires c =
    let below : c.loop-i.i < c.args.sheet.now.reading.count = omega (arith, c.count-count.ensures.is) in
    let r = c.args.sheet.now.ready in
    let p = past (goal.at.write_block-requires c).Start in (
      rw c.block_range.ensures
          (part_lent c.loop-i.run (block_at c.loop-i.i) block_numbers
          ∙ ap (part (block_at c.loop-i.i) block_numbers) (held (goal.at.write_block-requires c).At-loop-i)
          ∙ finds_zeros _ _ _ _ _ r p c.loop-i.i below),
      rw (session_is _ _ c.session.ensures) (short-tables _ _ _ _ _ r p c.loop-i.i below),
    )

pub loop-i-preserved : goal.loop-i-preserved
loop-i-preserved c =
    let sheet = sheet_of c.args.sheet.now.bytes.now in
    let below : c.loop-i.i < c.args.sheet.now.reading.count = omega (arith, c.count-count.ensures.is) in
    let written = c.write_block.ensures ∙ ap (λ S. block_of S (fresh S)) (session_is _ _ c.session.ensures) in
    rw c.block_range.ensures
    (next-block _ _ _ _ _ c.args.sheet.now.ready (past (goal.at.loop-i-preserved c).Start) c.loop-i.i below c.loop-i.run c.write_block.new.block (held (goal.at.loop-i-preserved c).At-loop-i) written
    ∙ sym (ap (λ l. blocks_over l sheet (moving sheet) (c.loop-i.i + 1)) (head-is (goal.at.loop-i-preserved c).After-period)))

pub returns : goal.returns
returns c =
    let sheet = sheet_of c.args.sheet.now.bytes.now in
    let p = past (goal.at.returns c).Start in
    let e : c.loop-i.i ≡ c.args.sheet.now.reading.count = omega (arith, c.count-count.ensures.is) in
    held (goal.at.returns c).At-loop-i ∙ ap (blocks_over (headed _ _ _ _ _ c.args.sheet.now.ready p) sheet (moving sheet)) e ∙ all_blocks _ _ _ _ _ c.args.sheet.now.ready p
