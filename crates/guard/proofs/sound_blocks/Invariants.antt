-- Block after block, each is sound so far. Assumes nothing.
use Rattle.std.specs.Prelude.{ℕ, ◌<◌}
use Rattle.layout.specs.Layout.{block}
use Rattle.layout.specs.Sound.{Sound}
use Rattle.guard.proofs.sound_blocks.Given as goal

abbrev pub invariant-loop-session : goal.invariant-loop-session
invariant-loop-session l = (k : ℕ) → k < l.session → Sound (block l.run k) l.period l.done
