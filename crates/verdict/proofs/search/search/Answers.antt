-- The search: at each slot count the load of the sessions, each the least share of those tried; then the walk's step as `Walking` has it, or a way out. Assumes nothing.
use Rattle.std.proofs.Common.{◌≡◌, List, ℕ, ◌+◌, ◌-◌, ◌*◌, ◌%◌, ◌≤◌, ◌<◌, min, get_or, sym, ap, ◌∙◌, arith}
use Rattle.std.proofs.Math.Nat.{mul-le-mul}
use Rattle.sheet.specs.Ready.{Ready}
use Rattle.sheet.proofs.ReadyLaws.{some-period, few-slots, few-sessions, few-packets, rest-made}
use Rattle.verdict.specs.Passes.{Fails}
use Rattle.verdict.specs.Walk.{Lead, Row, Kept}
use Rattle.verdict.proofs.WalkLaws.{lead-new, lead-keep, row-none, row_more, kept_more}
use Rattle.verdict.specs.Verdict.{can_send}
use Rattle.verdict.specs.Link.{walk_end}
use Rattle.verdict.proofs.LinkLaws.{even}
use Rattle.verdict.specs.Held.{Held}
use Rattle.verdict.proofs.HeldLaws.{seen_next, held_new, held_old, one-small, two-small, try_is}
use Rattle.verdict.specs.Steps.{part_load, Found}
use Rattle.verdict.proofs.StepsLaws.{shares_more, shares_least, part_none, part-more, part_small, may_stop, may_end, says-passed, says-failed, lead_as, found_none, found_some}
use Rattle.verdict.proofs.search.search.Goals as goal
use Rattle.verdict.proofs.search.search.Goals.{After-capacity-each, After-least_of-load, Left-slots, Joined-end-t, then-end-t, else-end-t, then-spare-slack, else-spare-slack}
use Rattle.verdict.proofs.search.search.Goals.{then-t-gt-BOTH_TABLES+then-load-limit+else-steady-p, then-t-gt-BOTH_TABLES+else-load-limit, else-t-gt-BOTH_TABLES}
use Rattle.verdict.proofs.search.search.Goals.{else-slots-test, then-slots-test+else-sessions-test+then-most-load, then-slots-test+else-sessions-test+else-most-load+then-t-gt-BOTH_TABLES+then-load-limit+then-steady-p}

-- the sheet's numbers are small
bounds : (bytes starts : List ℕ) (count c P : ℕ) → Ready bytes starts count c P → (1 ≤ P) × (P ≤ 16) × (count ≤ 16) × (c ≤ 64)
bounds bytes starts count c P r =
    (some-period _ _ _ _ _ r, few-slots _ _ _ _ _ r, few-sessions _ _ _ _ _ r, few-packets _ _ _ _ _ r)

-- and so are c·t and c·P
small : (a b : ℕ) → a ≤ 64 → b ≤ 131217 → a * b ≤ 64 * 131217
small a b h k = mul-le-mul h k

-- past the last session the sum is the load
sum_is : (bytes : List ℕ) (P count t i load : ℕ) → i ≤ count → count ≤ i → load ≡ part_load bytes P i t → part_load bytes P count t ≡ load
sum_is bytes P count t i load h k e =
    let all : i ≡ count = omega arith in
    sym (rw all at e)

-- the load a period back is kept
past_is : (L : ℕ → ℕ) (P t : ℕ) (loads : List ℕ) → Kept L t loads → 1 ≤ P → P ≤ 16 → 128 < t → get_or loads ((t - P) % 16) 0 ≡ L (t - P)
past_is L P t loads kept p few h = kept.loads (t - P) (omega arith) (omega arith) (omega arith)

-- and if this one is no more than a period's packets above it, the row grows
row_next : (L : ℕ → ℕ) (R P t load steady : ℕ) (loads : List ℕ) → Row L R P 128 t steady → Kept L t loads → L t ≡ load → 1 ≤ P → P ≤ 16 → 128 < t
    → load ≤ get_or loads ((t - P) % 16) 0 + R
    → Row L R P 128 (t + 1) (steady + 1)
row_next L R P t load steady loads row kept sum p few h k =
    let past = past_is L P t loads kept p few h in
    row_more L R P 128 t steady h (omega arith) row (omega (arith, sum, past))

-- the load, and what is to spare
spare_is : (c t load l : ℕ) → l ≡ load → load ≤ c * t → l + (c * t - load) ≡ c * t
spare_is c t load l e h = omega arith

-- the sheet is ready, by the numbers that the program took from it
ready : (c : After-capacity-each) → Ready c.args.sheet.now.bytes.now c.args.sheet.now.reading.starts c.count-count.result c.capacity-each.result.0 c.period-p.result.0
ready c = rw (c.count-count.ensures.is, c.capacity-each.ensures.is, c.period-p.ensures.is) c.args.sheet.now.ready

-- at a slot count: the last values are in the window
held : (c : Joined-end-t) → Held c.args.sheet.now.bytes.now c.period-p.result.0 (256 * c.count-count.result) c.if-end-t.end c.slots.t c.if-end-t.recent
held c =
    elim c.if-end-t.branch [
      | then-end-t w ↦ held_new _ _ _ _ w.end-is w.recent-is (omega (arith, c.min-top.ensures)) (rw (c.period-p.ensures.is, c.count-count.ensures.is) w.window-then-end-t.ensures)
      | else-end-t w ↦ held_old _ _ _ _ w.end-is w.recent-is (omega arith) c.slots.invariant.1
    ]

pub sessions-init : goal.sessions-init
sessions-init c = (sym (part_none _ _ _), c.slots.invariant.1.long)

pub overflow_add-one-in-positions : goal.overflow_add-one-in-positions
overflow_add-one-in-positions c =
    let r = ready (goal.at.overflow_add-one-in-positions c).After-capacity-each in
    let h = held (goal.at.overflow_add-one-in-positions c).Joined-end-t in
    let k : c.positions.x ≤ min c.slots.t 64 = omega (arith, c.min-top.ensures) in
    omega (arith, one-small _ _ _ _ _ r _ _ _ _ _ _ c.slots.invariant.1.first h c.sessions-test.true k)

pub overflow_add-two-in-positions : goal.overflow_add-two-in-positions
overflow_add-two-in-positions c =
    let r = ready (goal.at.overflow_add-two-in-positions c).After-capacity-each in
    let h = held (goal.at.overflow_add-two-in-positions c).Joined-end-t in
    let k : c.positions.x ≤ min c.slots.t 64 = omega (arith, c.min-top.ensures) in
    omega (arith, two-small _ _ _ _ _ r _ _ _ _ _ _ c.slots.invariant.1.first h c.sessions-test.true k)

pub positions-preserved : goal.positions-preserved
positions-preserved c =
    let r = ready (goal.at.positions-preserved c).After-capacity-each in
    let h = held (goal.at.positions-preserved c).Joined-end-t in
    let k : c.positions.x ≤ min c.slots.t 64 = omega (arith, c.min-top.ensures) in
    shares_more _ _ _ c.positions.tries c.positions.x _ (omega (arith, c.min-top.ensures)) c.positions.invariant
    (c.min.ensures ∙ try_is _ _ _ _ _ r _ _ _ _ _ _ c.slots.invariant.1.first h c.sessions-test.true k)

-- a session's share is the least of those tried
load_next : (c : goal.After-least_of-load)
    → part_load c.args.sheet.now.bytes.now c.period-p.result.0 (c.sessions.i + 1) c.slots.t ≡ part_load c.args.sheet.now.bytes.now c.period-p.result.0 c.sessions.i c.slots.t + c.least_of-load.result
load_next c =
    let r = ready (goal.at.After-least_of-load c).After-capacity-each in
    let all = shares_least _ _ _ c.positions.tries c.positions.x c.positions.invariant (omega (arith, c.min-top.ensures)) (rest-made _ _ _ _ _ r c.sessions.i c.sessions-test.true) in
    let e : c.min-top.result + 1 ≡ c.positions.x = omega arith in
    part-more _ _ _ _ _ r c.sessions.i c.sessions-test.true c.slots.t c.least_of-load.result (c.least_of-load.ensures ∙ rw e all)

pub overflow_add-load : goal.overflow_add-load
overflow_add-load c =
    let most = part_small _ _ _ _ _ (ready (goal.at.overflow_add-load c).After-capacity-each) (c.sessions.i + 1) c.slots.t (omega arith) (omega arith) in
    omega (arith, load_next c, most)

pub sessions-preserved : goal.sessions-preserved
sessions-preserved c = (ap (λ v. v + c.least_of-load.result) c.sessions.invariant.0 ∙ sym (load_next c), c.positions.invariant.places)

pub slots-preserved : goal.slots-preserved
slots-preserved c =
    let bytes = c.args.sheet.now.bytes.now in
    let P = c.period-p.result.0 in
    let L = part_load bytes P c.count-count.result in
    let C = can_send c.capacity-each.result.0 in
    let t = c.slots.t in
    let few = bounds _ _ _ _ _ (ready (goal.at.slots-preserved c).After-capacity-each) in
    let w = c.slots.invariant.0 in
    let sum = sum_is bytes P c.count-count.result t c.sessions.i c.sessions.load (omega arith) c.sessions-test.false c.sessions.invariant.0 in
    let R = c.capacity-each.result.0 * P in
    let spare = spare_is c.capacity-each.result.0 t c.sessions.load (L t) sum c.if-most-load.false in
    let lead : Lead L C (t + 1) c.if-spare-slack.slack c.if-spare-slack.first =
    elim c.if-spare-slack.branch [
      | then-spare-slack a ↦ lead_as L C a.slack-is a.first-is (lead-new L C t _ _ _ w.from w.lead spare a.if-spare-slack.true)
      | else-spare-slack a ↦ lead_as L C a.slack-is a.first-is (lead-keep L C t _ _ _ w.from w.lead spare a.if-spare-slack.false)
    ]
    in
    let none = row-none L R P 128 (t + 1) in
    let row : (c.if-t-gt-BOTH_TABLES.steady < P) × Row L R P 128 (t + 1) c.if-t-gt-BOTH_TABLES.steady =
    elim c.if-t-gt-BOTH_TABLES.branch [
      | then-t-gt-BOTH_TABLES+then-load-limit+else-steady-p a ↦
          (omega (arith, w.short, a.if-steady-p.false, a.steady-is), rw a.steady-is (row_next L R P t c.sessions.load c.slots.steady c.slots.loads w.row w.kept sum few.0 few.1 a.if-t-gt-BOTH_TABLES.true a.if-load-limit.true))
      | then-t-gt-BOTH_TABLES+else-load-limit a ↦ (omega (arith, few.0), rw a.steady-is none)
      | else-t-gt-BOTH_TABLES a ↦
          let e : c.if-t-gt-BOTH_TABLES.steady ≡ 0 = omega (arith, w.row.late) in
          (omega (arith, e, few.0), rw e none)
    ]
    in (
      record {
        from = omega arith;
        to = omega arith;
        short = row.0;
        lead = lead;
        row = row.1;
        kept = rw (← sum) (kept_more L t c.slots.loads w.kept);
      },
      seen_next _ _ _ _ _ _ _ _ c.slots.invariant.1.first (held (goal.at.slots-preserved c).Joined-end-t) c.sessions.invariant.1,
      c.slots.invariant.2,
    )

-- where the ways out meet: no failing slot count and a slack, or the first that fails
found : (c : Left-slots)
    → Found (part_load c.args.sheet.now.bytes.now c.period-p.result.0 c.count-count.result) (can_send c.capacity-each.result.0) c.slots-test.failing c.slots-test.slack c.slots-test.first
found c =
    let bytes = c.args.sheet.now.bytes.now in
    let P = c.period-p.result.0 in
    let L = part_load bytes P c.count-count.result in
    let C = can_send c.capacity-each.result.0 in
    let t = c.slots.t in
    let r = ready (goal.at.Left-slots c).After-capacity-each in
    let few = bounds _ _ _ _ _ r in
    let v = c.slots.invariant.0 in
    let link = even c.capacity-each.result.0 P few.3 few.1 in
    elim c.slots-test.branch [
      | else-slots-test w ↦
          let e : t ≡ walk_end + 1 = omega (arith, v.to, w.slots-test.false) in
          found_none L C (w.failing-is ∙ c.slots.invariant.2) w.slack-is w.first-is (may_end _ _ _ _ _ r _ _ link c.slots.slack c.slots.first (rw e at v.lead))
      | then-slots-test+else-sessions-test+then-most-load w ↦
          let sum = sum_is bytes P c.count-count.result t w.sessions.i w.sessions.load (omega arith) w.sessions-test.false w.sessions.invariant.0 in
          let fails : Fails L C t = record { from = v.from; over = omega (arith, sum, w.if-most-load.true); first = λ u h k. omega (arith, v.lead.least u h k) } in
          found_some L C w.failing-is fails
      | then-slots-test+else-sessions-test+else-most-load+then-t-gt-BOTH_TABLES+then-load-limit+then-steady-p w ↦
          let sum = sum_is bytes P c.count-count.result t w.sessions.i w.sessions.load (omega arith) w.sessions-test.false w.sessions.invariant.0 in
          let spare = spare_is c.capacity-each.result.0 t w.sessions.load (L t) sum w.if-most-load.false in
          let lead : Lead L C (t + 1) w.if-spare-slack.slack w.if-spare-slack.first =
          elim w.if-spare-slack.branch [
            | then-spare-slack a ↦ lead_as L C a.slack-is a.first-is (lead-new L C t _ _ _ v.from v.lead spare a.if-spare-slack.true)
            | else-spare-slack a ↦ lead_as L C a.slack-is a.first-is (lead-keep L C t _ _ _ v.from v.lead spare a.if-spare-slack.false)
          ]
          in
          let row = row_next L (c.capacity-each.result.0 * P) P t w.sessions.load c.slots.steady c.slots.loads v.row v.kept sum few.0 few.1 w.if-t-gt-BOTH_TABLES.true w.if-load-limit.true in
          found_none L C (w.failing-is ∙ c.slots.invariant.2) w.slack-is w.first-is (may_stop _ _ _ _ _ r _ _ link w.if-spare-slack.slack w.if-spare-slack.first t lead (rw w.if-steady-p.true at row))
    ]

pub returns-in-None : goal.returns-in-None
returns-in-None c =
    says-passed _ _ _ _ _ (ready (goal.at.returns-in-None c).After-capacity-each) _ _ ((found (goal.at.returns-in-None c).Left-slots).none c.in-None.is)

pub returns-in-Some : goal.returns-in-Some
returns-in-Some c =
    says-failed _ _ _ _ _ (ready (goal.at.returns-in-Some c).After-capacity-each) _ ((found (goal.at.returns-in-Some c).Left-slots).some _ c.in-Some.is)
