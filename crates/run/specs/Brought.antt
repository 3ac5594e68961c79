-- The tally that a slot leaves: five totals are added to, the packets waiting are set, and it is too much where a total would pass 4,294,967,295 (refusal 18). Assumes nothing.
use Rattle.std.specs.Prelude.{◌≡◌, refl, Bool, ◌||◌, ◌⊎◌, ℕ, ◌+◌, ◌-◌, ◌≤◌, ◌<◌, min, ltb, Option, Some, None}
use Rattle.std.proofs.Common.{sym, ◌∙◌, true≢false, inl, inr, arith, ltb-false, le-ltb}
use Rattle.std.proofs.Math.Path.{ap}
use Rattle.std.proofs.Math.Bool.{true, false}
use Rattle.sheet.proofs.RefusalLaws.{or_false, or_neither}
use Rattle.run.specs.Summed.{Small}
use Rattle.run.specs.declared.tally.Tally.{Tally}
use Rattle.run.specs.declared.tally.Sums.{Sums}

abbrev pub most_total : ℕ
most_total = 4294967295

-- of all waiting packets, the new ones included, up to c are sent
abbrev pub sent_in : Sums → ℕ → ℕ
sent_in s c = min c (s.waiting + s.taken_in)

-- the totals, however large, with so many sent
abbrev pub after : Tally → Sums → ℕ → Tally
after t s sent =
    record {
      offered = t.offered + s.offered;
      taken_in = t.taken_in + s.taken_in;
      over = t.over + s.over;
      no_room = t.no_room + s.no_room;
      sent = t.sent + sent;
      waiting = s.waiting + s.taken_in - sent;
    }

abbrev pub totals_of : Tally → Sums → ℕ → Tally
totals_of t s c = after t s (sent_in s c)

-- one of the five that are added to passes the most
unfoldable pub too_much : Tally → Bool
too_much t =
    ltb most_total t.offered || (ltb most_total t.taken_in || (ltb most_total t.over || (ltb most_total t.no_room || ltb most_total t.sent)))

unfoldable pub brought_up : Tally → Sums → ℕ → Option Tally
brought_up t s c = elim (too_much (totals_of t s c)) [ true ↦ None | false ↦ Some (totals_of t s c) ]

-- none of them does
pub record Within (t : Tally) : Type 0 where
  pub offered : t.offered ≤ most_total
  pub taken_in : t.taken_in ≤ most_total
  pub over : t.over ≤ most_total
  pub no_room : t.no_room ≤ most_total
  pub sent : t.sent ≤ most_total

pub within-test : (t : Tally) → Within t → too_much t ≡ false
unfolding too_much
within-test t w =
    or_neither _ _ (le-ltb most_total t.offered w.offered)
    (or_neither _ _ (le-ltb most_total t.taken_in w.taken_in)
    (or_neither _ _ (le-ltb most_total t.over w.over)
    (or_neither _ _ (le-ltb most_total t.no_room w.no_room) (le-ltb most_total t.sent w.sent))))

pub test-within : (t : Tally) → too_much t ≡ false → Within t
unfolding too_much
test-within t e =
    let a = or_false _ _ e in
    let b = or_false _ _ a.1 in
    let c = or_false _ _ b.1 in
    let d = or_false _ _ c.1 in
    record {
      offered = ltb-false most_total t.offered a.0;
      taken_in = ltb-false most_total t.taken_in b.0;
      over = ltb-false most_total t.over c.0;
      no_room = ltb-false most_total t.no_room d.0;
      sent = ltb-false most_total t.sent d.1;
    }

-- one or the other
pub within_or_not : (t : Tally) → Within t ⊎ (Within t → ⊥)
within_or_not t = go (too_much t) refl
  where
    go : (b : Bool) → too_much t ≡ b → Within t ⊎ (Within t → ⊥)
    go false e = inl (test-within t e)
    go true e = inr (λ w. true≢false (sym e ∙ within-test t w))

pub passes-test : (t : Tally) → (Within t → ⊥) → too_much t ≡ true
passes-test t n = go (too_much t) refl
  where
    go : (b : Bool) → too_much t ≡ b → too_much t ≡ true
    go true e = e
    go false e = absurd (n (test-within t e))

module _ (t : Tally) (s : Sums) (c : ℕ) where
  -- the two answers, and exactly when each is given
  pub brought_fits : Within (totals_of t s c) → brought_up t s c ≡ Some (totals_of t s c)
  unfolding brought_up
  brought_fits w = ap (λ (b : Bool). elim b [ true ↦ None | false ↦ Some (totals_of t s c) ]) (within-test (totals_of t s c) w)

  pub brought_much : (Within (totals_of t s c) → ⊥) → brought_up t s c ≡ None
  unfolding brought_up
  brought_much n = ap (λ (b : Bool). elim b [ true ↦ None | false ↦ Some (totals_of t s c) ]) (passes-test (totals_of t s c) n)

  pub brought_which : (Within (totals_of t s c) × (brought_up t s c ≡ Some (totals_of t s c))) ⊎ ((Within (totals_of t s c) → ⊥) × (brought_up t s c ≡ None))
  brought_which = go (within_or_not (totals_of t s c))
    where
      go : Within (totals_of t s c) ⊎ (Within (totals_of t s c) → ⊥)
          → (Within (totals_of t s c) × (brought_up t s c ≡ Some (totals_of t s c))) ⊎ ((Within (totals_of t s c) → ⊥) × (brought_up t s c ≡ None))
      go (inl w) = inl (w, brought_fits w)
      go (inr n) = inr (n, brought_much n)

  -- the code's answer: so many are sent, and no sum passes the most
  pub brought_by : (sent : ℕ) → sent ≡ sent_in s c
      → t.offered + s.offered ≤ most_total → t.taken_in + s.taken_in ≤ most_total → t.over + s.over ≤ most_total → t.no_room + s.no_room ≤ most_total → t.sent + sent ≤ most_total
      → Some (after t s sent) ≡ brought_up t s c
  brought_by sent e offered taken over no_room fits =
      ap (λ (x : ℕ). Some (after t s x)) e
      ∙ sym (brought_fits (record { offered = offered; taken_in = taken; over = over; no_room = no_room; sent = omega arith }))

-- a sum that would pass the most: its test makes no sum
pub passes : (a b : ℕ) → most_total - a < b → a + b ≤ most_total → ⊥
passes a b h g = omega arith

-- sums over sixteen sessions are far below it
pub small-waiting : (s : Sums) → Small s → s.waiting + s.taken_in ≤ most_total
small-waiting s h = omega (arith, h.parts, h.offered, h.waiting)
