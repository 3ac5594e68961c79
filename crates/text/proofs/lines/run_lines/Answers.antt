-- Each line is passed over, written or run, and comes before the rest; where one has failed there is nothing to show. Assumes nothing.
use Rattle.std.proofs.Common.{◌≡◌, ◌==◌, [], Ok, refl, sym, subst, rules, of_calls, get_or}
use Rattle.std.proofs.lemmas.List.{drop_all}
use Rattle.std.specs.List.{FoldsTo, slice_split}
use Rattle.text.proofs.Cuts.{parts_more}
use Rattle.text.proofs.Runs.{on_map, on_ran, both_on, passes_empty, writes_comment, runs_other}
use Rattle.text.proofs.lines.run_lines.Invariants.{turn}
use Rattle.text.proofs.lines.run_lines.Goals as goal

pub loop-rest-preserved-in-empty : goal.loop-rest-preserved-in-empty
loop-rest-preserved-in-empty g c =
    let line = c.cut_line.result.0.now in
    let f = c.loop-rest.run in
    let w = c.loop-rest.to in
    let ran : turn g (f, w) line (f, w) = passes_empty g.W.Write.contents (λ h x y z k. goal.F-step g h x y (Ok tt) z k) f f w w line c.in-empty.len_below in
    (c.loop-rest.invariant.0, on_map c.loop-rest.done c.loop-rest.invariant.1 (λ before last more. before last (parts_more (turn g) (λ s t e. e) (λ b. b == 10) c.loop-rest.rest.now line c.cut_line.result.1.now c.cut_line.ensures.0 c.cut_line.ensures.1 (f, w) (f, w) last ran more)))

pub loop-rest-preserved-in-35 : goal.loop-rest-preserved-in-35
loop-rest-preserved-in-35 g c =
    let line = c.cut_line.result.0.now in
    let f = c.loop-rest.run in
    let w = c.loop-rest.to in
    let v = c.write_comment.new.to in
    let mark : get_or line 0 0 ≡ 35 = search rules in (
      c.loop-rest.invariant.0,
      rw c.and-done.ensures (both_on c.loop-rest.done c.write_comment.result c.loop-rest.invariant.1 c.write_comment.ensures (λ before wrote last more.
          let ran : turn g (f, w) line (f, v) = writes_comment g.W.Write.contents (λ h x y z k. goal.F-step g h x y (Ok tt) z k) f f w v line c.in-35.len_at_least mark wrote in
          before last (parts_more (turn g) (λ s t e. e) (λ b. b == 10) c.loop-rest.rest.now line c.cut_line.result.1.now c.cut_line.ensures.0 c.cut_line.ensures.1 (f, w) (f, v) last ran more))),
    )

pub loop-rest-preserved : goal.loop-rest-preserved
loop-rest-preserved g c =
    let line = c.cut_line.result.0.now in
    let f = c.loop-rest.run in
    let w = c.loop-rest.to in
    let h = c.run.new.self in
    let v = c.run.new.arg2 in
    let mark : get_or line 0 0 ≡ 35 → ⊥ = search rules in (
      search of_calls,
      rw c.and-done-in_default.ensures (both_on c.loop-rest.done c.run.result c.loop-rest.invariant.1 (on_ran (goal.F-step g) c.run.result c.run.ensures) (λ before stepped last more.
          let ran : turn g (f, w) line (h, v) = runs_other g.W.Write.contents (λ e x y z k. goal.F-step g e x y (Ok tt) z k) f h w v line c.in_default.len_at_least mark stepped in
          before last (parts_more (turn g) (λ s t e. e) (λ b. b == 10) c.loop-rest.rest.now line c.cut_line.result.1.now c.cut_line.ensures.0 c.cut_line.ensures.1 (f, w) (h, v) last ran more))),
    )

pub returns : goal.returns
returns g c =
    let end : g.row.F.Denot × g.row.W.Denot = (c.loop-rest.run, c.loop-rest.to) in
    let none : c.loop-rest.rest.now ≡ [] = drop_all 0 c.loop-rest.rest.now (search rules) in
    let ran : FoldsTo (turn g) end (slice_split (λ b. b == 10) c.loop-rest.rest.now) end = subst (λ l. FoldsTo (turn g) end (slice_split (λ b. b == 10) l) end) (sym none) (end, refl, refl) in
    on_map c.loop-rest.done c.loop-rest.invariant.1 (λ before. (c.loop-rest.run, before end ran))
