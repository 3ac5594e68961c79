-- The plain numbers make the four tables lie inside the block; together they are a sound block. Assumes nothing.
use Rattle.std.proofs.Common.{refl, ◌∙◌, List, ℕ, Bool, get_or}
use Rattle.sheet.specs.Limits.{largest_value}
use Rattle.layout.specs.Layout.{service_length_at, envelope_length_at, service_at, envelope_at, service_ahead_at, envelope_ahead_at, service, envelope, service_ahead, envelope_ahead}
use Rattle.layout.specs.Sound.{most_ahead, Below, Numbers, Sound}
use Rattle.layout.specs.Part.{part_lent}
use Rattle.guard.specs.Tells.{Tells, tells_map, tells_then, tells_else}
use Rattle.guard.specs.Test.{Climbing}
use Rattle.guard.proofs.sound.Goals as goal
use Rattle.guard.proofs.sound.Goals.{Start, Else-not-numbers, then-small, else-small, then-small-2, else-small-2}

-- the four tables
abbrev Small : List ℕ → Type 0
Small b = Below largest_value (service b) × Below largest_value (envelope b)

abbrev Ahead : List ℕ → ℕ → Type 0
Ahead b P = Climbing (service_ahead b).table P (service_ahead b).rate most_ahead

abbrev Tables : List ℕ → ℕ → Type 0
Tables b P = (Small b × Ahead b P) × Climbing (envelope_ahead b).table P (envelope_ahead b).rate most_ahead

-- with the plain numbers, a test of the tables is one of the block
whole : (s : Start) → Numbers s.args.block.now s.args.period s.args.done → (r : Bool)
    → Tells r (Tables s.args.block.now s.args.period) → Tells r (Sound s.args.block.now s.args.period s.args.done)
whole s n r t =
    let q = s.requires in
    tells_map r {A = Tables s.args.block.now s.args.period} (λ x. record {
      size = q.0;
      period = q.1;
      few = q.2;
      numbers = n;
      service-small = x.0.0.0;
      envelope-small = x.0.0.1;
      service-ahead = x.0.1.0;
      service-ahead-small = x.0.1.1;
      envelope-ahead = x.1.0;
      envelope-ahead-small = x.1.1;
    }) (λ x. (((x.service-small, x.envelope-small), (x.service-ahead, x.service-ahead-small)), (x.envelope-ahead, x.envelope-ahead-small))) t

pub returns-then-climbs : goal.returns-then-climbs
returns-then-climbs c =
    let b = c.args.block.now in
    let P = c.args.period in
    let ns = get_or b service_length_at 0 in
    let ne = get_or b envelope_length_at 0 in
    let service = rw (part_lent b service_at ns) at c.small.ensures in
    let small : Tells c.if-small.value (Small b) =
    elim c.if-small.branch [
      | then-small w ↦ tells_then _ _ w.value-is (service.0 w.if-small.true) (rw (part_lent b envelope_at ne) at w.small-then-small.ensures)
      | else-small w ↦ tells_else _ (w.value-is ∙ w.if-small.false) (service.1 w.if-small.false)
    ] in
    let both : Tells c.if-small-2.value (Small b × Ahead b P) =
    elim c.if-small-2.branch [
      | then-small-2 w ↦ tells_then _ _ w.value-is (small.0 w.if-small-2.true) (rw (part_lent b service_ahead_at ns) at w.climbs.ensures)
      | else-small-2 w ↦ tells_else _ (w.value-is ∙ w.if-small-2.false) (small.1 w.if-small-2.false)
    ] in
    let n = (goal.at.returns-then-climbs c).Else-not-numbers in
    whole (goal.at.returns-then-climbs c).Start (n.numbers.ensures.0 n.if-not-numbers.false) c.climbs-then-climbs.result
    (tells_then _ _ refl (both.0 c.if-climbs.true) (rw (part_lent b envelope_ahead_at ne) at c.climbs-then-climbs.ensures))

pub returns-else-climbs : goal.returns-else-climbs
returns-else-climbs c =
    let b = c.args.block.now in
    let P = c.args.period in
    let ns = get_or b service_length_at 0 in
    let ne = get_or b envelope_length_at 0 in
    let service = rw (part_lent b service_at ns) at c.small.ensures in
    let small : Tells c.if-small.value (Small b) =
    elim c.if-small.branch [
      | then-small w ↦ tells_then _ _ w.value-is (service.0 w.if-small.true) (rw (part_lent b envelope_at ne) at w.small-then-small.ensures)
      | else-small w ↦ tells_else _ (w.value-is ∙ w.if-small.false) (service.1 w.if-small.false)
    ] in
    let both : Tells c.if-small-2.value (Small b × Ahead b P) =
    elim c.if-small-2.branch [
      | then-small-2 w ↦ tells_then _ _ w.value-is (small.0 w.if-small-2.true) (rw (part_lent b service_ahead_at ns) at w.climbs.ensures)
      | else-small-2 w ↦ tells_else _ (w.value-is ∙ w.if-small-2.false) (small.1 w.if-small-2.false)
    ] in
    let n = (goal.at.returns-else-climbs c).Else-not-numbers in
    whole (goal.at.returns-else-climbs c).Start (n.numbers.ensures.0 n.if-not-numbers.false) c.if-small-2.value
    (tells_else _ c.if-climbs.false (both.1 c.if-climbs.false))
