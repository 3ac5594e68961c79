-- What stands in the block stands in the run. Assumes nothing.
use Rattle.std.proofs.Common.{◌+◌, ◌%◌, ◌<◌, ap, ◌∙◌, get_or, arith}
use Rattle.layout.specs.Layout.{block_at, block, sent_at, deadlines_at, ring, block_numbers}
use Rattle.layout.specs.Part.{block-at}
use Rattle.send.proofs.head_due.Goals as goal

pub returns : goal.returns
returns c =
    let run = c.args.run.now in
    let i = c.args.session in
    let h : deadlines_at + get_or (block run i) sent_at 0 % ring < block_numbers = omega arith in
    let sent-in : sent_at < block_numbers = omega arith in
    rw c.block-block.ensures.value (block-at run i (deadlines_at + get_or (block run i) sent_at 0 % ring) h
    ∙ ap (λ x. get_or run (block_at i + (deadlines_at + x % ring)) 0) (block-at run i sent_at sent-in))
