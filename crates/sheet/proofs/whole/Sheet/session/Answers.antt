-- A session's bytes start where the reader says. Assumes nothing.
use Rattle.std.proofs.Common.{arith}
use Rattle.sheet.proofs.ReadyLaws.{below-most, start-inside, rest-fits, session-there}
use Rattle.sheet.proofs.whole.Sheet.session.Goals as goal

pub offset_bounds-self-i : goal.offset_bounds-self-i
offset_bounds-self-i c = omega (arith, below-most _ _ _ _ _ c.args.self.now.ready _ c.requires)

pub bounds-self-i : goal.bounds-self-i
bounds-self-i c = below-most _ _ _ _ _ c.args.self.now.ready _ c.requires

pub slice_bounds-fields-count : goal.slice_bounds-fields-count
slice_bounds-fields-count c = start-inside _ _ _ _ _ c.args.self.now.ready _ c.requires

pub slice_bounds-fields-start : goal.slice_bounds-fields-start
slice_bounds-fields-start c = start-inside _ _ _ _ _ c.args.self.now.ready _ c.requires

pub fields-requires : goal.fields-requires
fields-requires c = rest-fits _ _ _ _ _ c.args.self.now.ready _ c.requires

pub returns : goal.returns
returns c = rw (← session-there _ _ _ _ _ c.args.self.now.ready _ c.requires) c.fields.ensures.is
