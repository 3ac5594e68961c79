-- A part that is copied over is written over its place. Assumes nothing.
use Rattle.std.proofs.Common.{◌≡◌, ◌+◌, ◌-◌, arith}
use Rattle.layout.specs.Splice.{over_splice}
use Rattle.clib.proofs.numbers.put.Goals as goal

pub returns : goal.returns
returns g c =
    let e : c.args.at + g.row.N - c.args.at ≡ g.row.N = omega arith in
    rw (e, c.copy_from_slice.ensures.after) (over_splice c.args.slice.now c.args.at g.row.N c.args.numbers.now c.told-numbers c.requires)
