-- Laws of specs/Steps.antt. What the search keeps at each of its three loops, and each step of it as a lemma over plain numbers: the shares tried, the load of the sessions so far, and the walk over slot counts. Assumes nothing.
use Rattle.std.specs.Prelude.{◌≡◌, Option, Some, None, List, ◌⊎◌, ℕ, ◌+◌, ◌-◌, ◌*◌, ◌≤◌, ◌<◌, min, length, get_or, set, take}
use Rattle.std.proofs.Common.{sym, ◌∙◌, inl, inr, add-one, length-set, length-take, get_or-set_same, get_or-set_other, get_or-take}
use Rattle.std.proofs.Math.Path.{ap}
use Rattle.std.proofs.Math.Nat.{mul-le-mul}
use native.Mathlib.Omega.{arith}
use Rattle.curve.proofs.OrderLaws.{le_or_lt}
use Rattle.curve.specs.Least.{least}
use Rattle.curve.proofs.LeastLaws.{least_cong}
use Rattle.curve.specs.Curve.{at}
use Rattle.curve.specs.Conv.{conv}
use Rattle.sheet.specs.Sheet.{session, WellMadeSession}
use Rattle.sheet.specs.Bytes.{session_of, sheet_of}
use Rattle.verdict.specs.Load.{load, Tables}
use Rattle.verdict.proofs.LoadLaws.{load-none, load-more, load-most}
use Rattle.verdict.specs.Passes.{Passes, Fails}
use Rattle.verdict.specs.Walk.{Lead, Row}
use Rattle.verdict.proofs.WalkLaws.{lead-none, row-none, kept-none}
use Rattle.verdict.specs.Verdict.{can_send, Says, passed, failed}
use Rattle.verdict.specs.Link.{Link, walk_end}
use Rattle.verdict.proofs.AnswerLaws.{stops, stops-there}
use Rattle.curve.specs.declared.Slots.{Slots}
use Rattle.sheet.specs.Ready.{Ready, on_from}
use Rattle.sheet.proofs.ReadyLaws.{period-is, capacity-is, sessions_are, some-period, few-slots, few-sessions, made_at, session-there}
use Rattle.verdict.proofs.ReadyLaws.{made-tables}
use Rattle.verdict.specs.Share.{better}
use Rattle.verdict.proofs.ShareLaws.{share_is}
use Rattle.verdict.specs.Steps.{Shares, part_load, Walking, Found}

module _ (P : ℕ) (rest : List ℕ) (t : ℕ) where
  pub shares_none : (tries : List ℕ) → length tries ≡ 65 → Shares P rest t tries 0
  shares_none tries e = record { places = e; each = λ j h. absurd (omega arith) }

  pub shares_more : (tries : List ℕ) (x v : ℕ) → x < 65 → Shares P rest t tries x
      → v ≡ better P (session_of rest).envelope (session_of rest).service t x
      → Shares P rest t (set tries x v) (x + 1)
  shares_more tries x v h g e = record { places = length-set tries x v ∙ g.places; each = λ j b. go j b (le_or_lt x j) }
    where
      go : (j : ℕ) → j < x + 1 → (x ≤ j) ⊎ (j < x) → get_or (set tries x v) j 0 ≡ better P (session_of rest).envelope (session_of rest).service t j
      go j b (inr k) = get_or-set_other tries x j v 0 (λ q. omega arith) ∙ g.each j k
      go j b (inl k) =
          let q : j ≡ x = omega arith in
          rw q (get_or-set_same tries x v 0 (omega (arith, g.places)) ∙ e)

  -- the least of all of them is (b*S)(t)
  pub shares_least : (tries : List ℕ) (x : ℕ) → Shares P rest t tries x → x ≡ min t 64 + 1 → WellMadeSession P (session_of rest)
      → least (λ i. get_or (take x tries) i 0) (length (take x tries) - 1) ≡ conv (at P (session_of rest).envelope) (at P (session_of rest).service) t
  shares_least tries x g e made =
      let n : length (take x tries) - 1 ≡ min t 64 = omega (arith, length-take x tries, g.places) in
      let b = made.envelope in
      let S = made.service in
      rw n
      (least_cong _ (better P (session_of rest).envelope (session_of rest).service t) (min t 64) (λ j h. get_or-take x tries j 0 (omega arith) ∙ g.each j (omega arith))
      ∙ share_is P (session_of rest).envelope (session_of rest).service t b.curve.period b.curve.long S.curve.long b.short S.short)

pub part_none : (bytes : List ℕ) (P t : ℕ) → part_load bytes P 0 t ≡ 0
unfolding part_load
part_none bytes P t = load-none P (λ i. (session (sheet_of bytes) i).envelope) (λ i. (session (sheet_of bytes) i).service) t

-- a sheet that reads
module _ (bytes starts : List ℕ) (count c P : ℕ) (r : Ready bytes starts count c P) where
  -- one more session
  pub part-more : (i : ℕ) → i < count → (t v : ℕ)
      → v ≡ conv (at P (session_of (on_from bytes (get_or starts i 0))).envelope) (at P (session_of (on_from bytes (get_or starts i 0))).service) t
      → part_load bytes P (i + 1) t ≡ part_load bytes P i t + v
  unfolding part_load
  part-more i h t v e =
      let d = e ∙ ap (λ w. conv (at P w.envelope) (at P w.service) t) (session-there bytes starts count c P r i h) in
      rw (add-one i) (load-more P _ _ i t ∙ ap (λ w. load P (λ i. (session (sheet_of bytes) i).envelope) (λ i. (session (sheet_of bytes) i).service) i t + w) (sym d))

  -- loads are small
  pub part_small : (i t : ℕ) → i ≤ count → t ≤ walk_end → part_load bytes P i t ≤ 537468736
  unfolding part_load
  part_small i t h k =
      let few : i ≤ 16 = omega (arith, (few-sessions bytes starts count c P r)) in
      let each : 500 + 256 * t ≤ 500 + 256 * 131216 = omega arith in
      let most =
      load-most P (λ i. (session (sheet_of bytes) i).envelope) (λ i. (session (sheet_of bytes) i).service) i (some-period bytes starts count c P r)
      (λ j b. (made_at bytes starts count c P r j (omega arith)).service.curve.long)
      (λ j n b l. (made_at bytes starts count c P r j (omega arith)).service.values n l)
      (λ j b. (made_at bytes starts count c P r j (omega arith)).service.rate)
      t
      in
      omega (arith, most, mul-le-mul {n₁ = i} {n₂ = 16} few each)

  tables : Tables P (λ i. (session (sheet_of bytes) i).envelope) (λ i. (session (sheet_of bytes) i).service) count
  tables = rw (period-is bytes starts count c P r, sessions_are bytes starts count c P r) (made-tables (sheet_of bytes) r.made)

  -- the walk may stop after P steady slot counts, or at its end
  module _ (C : ℕ → ℕ) (R : ℕ) (link : Link C R P walk_end) (slack w : ℕ) where
    pub may_stop : (T : ℕ) → Lead (part_load bytes P count) C (T + 1) slack w → Row (part_load bytes P count) R P 128 (T + 1) P → Passes (part_load bytes P count) C slack w
    unfolding part_load
    may_stop T l q = stops C R P walk_end link _ _ count (some-period bytes starts count c P r) (few-slots bytes starts count c P r) tables T slack w l q

    pub may_end : Lead (part_load bytes P count) C (walk_end + 1) slack w → Passes (part_load bytes P count) C slack w
    unfolding part_load
    may_end l = stops-there C R P walk_end link _ _ count (some-period bytes starts count c P r) (few-slots bytes starts count c P r) tables slack w l

  -- and what it found is what the verdict says
  pub says-passed : (slack w : ℕ) → Passes (part_load bytes P count) (can_send c) slack w → Says bytes (passed slack w)
  unfolding part_load
  says-passed slack w h = (r.reads, same _ _ _ (period-is bytes starts count c P r) (sessions_are bytes starts count c P r) (capacity-is bytes starts count c P r) h)
    where
      same : (Q k d : ℕ) → P ≡ Q → count ≡ k → c ≡ d → Passes (part_load bytes P count) (can_send c) slack w → Passes (part_load bytes Q k) (can_send d) slack w
      same Q k d e f g h = rw (← e, ← f, ← g) h

  pub says-failed : (w : ℕ) → Fails (part_load bytes P count) (can_send c) w → Says bytes (failed w)
  unfolding part_load
  says-failed w h = (r.reads, same _ _ _ (period-is bytes starts count c P r) (sessions_are bytes starts count c P r) (capacity-is bytes starts count c P r) h)
    where
      same : (Q k d : ℕ) → P ≡ Q → count ≡ k → c ≡ d → Fails (part_load bytes P count) (can_send c) w → Fails (part_load bytes Q k) (can_send d) w
      same Q k d e f g h = rw (← e, ← f, ← g) h

module _ (L C : ℕ → ℕ) where
  pub walking_none : (R P slack : ℕ) (loads : List ℕ) → 1 ≤ P → C 1 < slack → length loads ≡ 16 → Walking L C R P 1 loads slack 0 0
  walking_none R P slack loads p h e =
      record {
        from = omega arith;
        to = omega arith;
        short = p;
        lead = lead-none L C slack h;
        row = row-none L R P 128 1;
        kept = kept-none L loads e;
      }

  -- the same lead by other names
  pub lead_as : {t m w n v : ℕ} → n ≡ m → v ≡ w → Lead L C t m w → Lead L C t n v
  lead_as e f g = rw (e, f) g

module _ (L C : ℕ → ℕ) where
  pub found_none : {failing : Option Slots} {m w n v : ℕ} → failing ≡ None → n ≡ m → v ≡ w → Passes L C m w → Found L C failing n v
  found_none e f g h = record { none = λ z. rw (f, g) h; some = λ t z. apart t (sym e ∙ z) }
    where
      apart : {A : Type 0} (t : Slots) → ◌≡◌ {A = Option Slots} None (Some t) → A
      apart t q =
          let z : ◌≡◌ {A = ℕ} 0 1 = cc in
          absurd (omega arith)

  pub found_some : {failing : Option Slots} {u : Slots} {m w : ℕ} → failing ≡ Some u → Fails L C u.0 → Found L C failing m w
  found_some {u = u} e h = record { none = λ z. apart (sym z ∙ e); some = λ t z. same t (sym e ∙ z) }
    where
      apart : {A : Type 0} → ◌≡◌ {A = Option Slots} None (Some u) → A
      apart q =
          let z : ◌≡◌ {A = ℕ} 0 1 = cc in
          absurd (omega arith)

      same : (t : Slots) → Some u ≡ Some t → Fails L C t.0
      same t q =
          let k : u ≡ t = cc in
          rw k at h
