-- The steps of the intake one after the other: each finds in the block what the definition reads there. Assumes nothing.
use Rattle.std.proofs.Common.{◌≡◌, ◌+◌, ◌≤◌, ℕ, List, get_or, ap, ◌∙◌, arith}
use Rattle.std.proofs.Math.ListN.{set}
use Rattle.layout.specs.Layout.{taken_at}
use Rattle.intake.specs.Share.{share_of, free_of}
use Rattle.intake.specs.Intake.{counted, took_in, taken-fits, counted-by, service_advances, envelope_advances}
use Rattle.intake.specs.declared.Share.{Share}
use Rattle.intake.proofs.Split.{service-own, service-ahead, envelope-own, envelope-ahead, whole}
use Rattle.intake.proofs.intake.Goals as goal
use Rattle.intake.proofs.intake.Goals.{After-shares-share, After-append}

takes : (c : After-shares-share) → c.shares-share.result.taken ≡ (share_of c.args.block.now c.args.offered).taken
takes c = ap (λ (s : Share). s.taken) c.shares-share.ensures

fits : (c : After-shares-share) → c.shares-share.result.taken ≤ free_of c.args.block.now
fits c = omega (arith, takes c, taken-fits c.args.block.now c.args.offered)

-- the block when it is split
abbrev parted : After-append → List ℕ
parted c = set c.append.new.block taken_at (get_or c.args.block.now taken_at 0 + c.shares-share.result.taken)

count : (c : After-append) → parted c ≡ counted c.args.block.now c.args.period c.args.done c.shares-share.result.taken
count c = counted-by c.args.block.now c.args.period c.args.done c.shares-share.result.taken c.append.new.block c.append.ensures

pub advance-requires : goal.advance-requires
advance-requires c =
    let a = c.args in
    let w = goal.at.advance-requires c in
    let k = c.shares-share.result.taken in
    let cut = c.split_at_mut-own in
    rw (
      service-own a.block.now a.period a.done k c.requires.0 cut.result.0.now cut.result.1.now (parted w.After-append) cut.ensures.front cut.ensures.back (count w.After-append),
      service-ahead a.block.now a.period a.done k c.requires.0 cut.result.0.now cut.result.1.now (parted w.After-append) cut.ensures.front cut.ensures.back (count w.After-append),
    ) (service_advances a.block.now a.period a.done k c.requires.0 c.requires.1 (fits w.After-shares-share))

pub advance-requires-2 : goal.advance-requires-2
advance-requires-2 c =
    let a = c.args in
    let w = goal.at.advance-requires-2 c in
    let k = c.shares-share.result.taken in
    let cut = c.split_at_mut-own in
    let again = c.split_at_mut-ahead in
    rw (
      envelope-own a.block.now a.period a.done k c.requires.0 cut.result.0.now cut.result.1.now (parted w.After-append) cut.ensures.front cut.ensures.back (count w.After-append) c.advance.new.ahead c.advance.ensures,
      envelope-ahead a.block.now a.period a.done k c.requires.0 cut.result.0.now cut.result.1.now (parted w.After-append) cut.ensures.front cut.ensures.back (count w.After-append) c.advance.new.ahead c.advance.ensures
          again.result.0.now again.result.1.now again.ensures.front again.ensures.back,
    ) (envelope_advances a.block.now a.period a.done k c.requires.0 c.requires.1 (fits w.After-shares-share))

pub returns : goal.returns
returns c =
    let a = c.args in
    let w = goal.at.returns c in
    let k = c.shares-share.result.taken in
    let cut = c.split_at_mut-own in
    let again = c.split_at_mut-ahead in (
      whole a.block.now a.period a.done k c.requires.0 cut.result.0.now cut.result.1.now (parted w.After-append) cut.ensures.front cut.ensures.back (count w.After-append) c.advance.new.ahead c.advance.ensures
          again.result.0.now again.result.1.now again.ensures.front again.ensures.back c.advance-2.new.ahead c.advance-2.ensures
          ∙ ap (took_in a.block.now a.period a.done) (takes w.After-shares-share),
      c.shares-share.ensures,
    )
