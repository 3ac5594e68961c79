-- What a read brings comes after what was there before. Assumes nothing.
use Rattle.std.proofs.Common.{◌≤◌, length, arith, rules, length-drop}
use Rattle.std.proofs.lemmas.List.{take_rest}
use Rattle.console.proofs.Known.{takes_more}
use Rattle.console.proofs.input.read_full.Goals as goal

pub loop-done-preserved : goal.loop-done-preserved
loop-done-preserved g c =
    let i = c.loop-done.invariant in
    let got = c.in_ok-n.ensures in
    let few = rw (take_rest c.loop-done.into c.loop-done.done, length-drop c.loop-done.done c.loop-done.into) at got.within.1 in
    let high : c.loop-done.done ≤ length c.loop-done.into = omega (arith, i.1, i.2) in (
      omega (arith, i.0),
      omega (arith, few, i.2, high),
      search rules,
      takes_more (g.R.Read.remaining c.args.input.now) (g.R.Read.remaining c.loop-done.input) (g.R.Read.remaining c.read_some.new.input) c.args.from c.loop-done.done c.in_ok-n.n c.args.into.now c.loop-done.into c.read_some.new.into _ i.3 got.bytes.0 i.0 high (omega (arith, got.within.1, c.read_some.auto.into)),
    )
