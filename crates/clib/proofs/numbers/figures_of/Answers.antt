-- The first i figures have given their numbers. Assumes nothing.
use Rattle.std.proofs.Common.{◌∙◌, sym, arith, ext_get_or}
use Rattle.std.proofs.Math.ListN.{length-map, get_or-map}
use Rattle.curve.specs.declared.Slots.{Slots}
use Rattle.clib.specs.Numbers.{figure_numbers}
use Rattle.clib.proofs.numbers.figures_of.Goals as goal

pub returns : goal.returns
returns c =
    ext_get_or 0 c.loop-i.numbers (figure_numbers c.args.figures) (omega (arith, length-map c.args.figures (λ (f : Slots). f.0)))
    (λ i h. c.loop-i.invariant.1 i (omega arith) ∙ sym (get_or-map (λ (f : Slots). f.0) c.args.figures i (record { 0 = 0 })))
