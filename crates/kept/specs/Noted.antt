-- The packets that the slots noted: each was taken in, none is noted twice, and a session's go in the order of their numbers. Assumes nothing.
use Rattle.std.specs.Prelude.{◌≡◌, ◌⊎◌, List, ℕ, suc, ◌+◌, ◌≤◌, ◌<◌, eqb}
use Rattle.std.proofs.Common.{sym, subst, ◌∙◌, inl, inr, arith, eq-eqb}
use Rattle.std.proofs.Math.Path.{ap}
use Rattle.curve.proofs.OrderLaws.{le_or_lt}
use Rattle.curve.proofs.TotalLaws.{total-suc, total_mono}
use Rattle.sheet.specs.Bytes.{sheet_of}
use Rattle.rules.specs.Count.{ind}
use Rattle.rules.specs.Model.{Packet}
use Rattle.rules.proofs.Numbered.{sends-arrived}
use Rattle.kept.specs.Calls.{Calls, note_session, note_packet, noted_first, sent_in}
use Rattle.kept.specs.Numbers.{AtPlace, packet-at, member}
use Rattle.kept.specs.Promise.{went, WasTaken, Earlier}
use Rattle.kept.specs.Wrote.{sent_at, count-is, took-is, note_is, number_is}

module _ (bytes : List ℕ) (n : ℕ) (c : Calls bytes n) where
  -- EACH WAS TAKEN IN
  pub was_taken : (v j : ℕ) → v < n → j < c.sent_count v → WasTaken bytes n c v j
  was_taken v j h l = go (packet-at (sent_at bytes n c v) j (omega (arith, count-is bytes n c v h)))
    where
      go : (x : Packet) × AtPlace (sent_at bytes n c v) j x → WasTaken bytes n c v j
      go (x, a) =
          let w = sends-arrived (sheet_of bytes) c.offers v x (member (sent_at bytes n c v) j x a) in
          let m = w.new in
          record {
            i = m.i;
            session-is = m.session;
            u = w.u;
            slot_is = omega (arith, w.slot);
            q = m.q;
            some = m.some;
            most = omega (arith, m.most, took-is bytes n c w.u (omega (arith, w.slot)) m.i m.session);
            noted = note_is bytes n c v j m.i w.u m.q h (omega (arith, w.slot)) m.session m.some m.most (subst (AtPlace (sent_at bytes n c v) j) m.is a);
          }

  -- a note counts for its session
  one_more : (i v j : ℕ) → note_session bytes n c v j ≡ suc i → noted_first bytes n c i v (suc j) ≡ suc (noted_first bytes n c i v j)
  unfolding ind
  one_more i v j o = omega (arith, total-suc (λ m. ind (eqb (note_session bytes n c v m) (suc i))) j, ap ind (eq-eqb (note_session bytes n c v j) (suc i) o))

  before : (i v j w k : ℕ) → note_session bytes n c v j ≡ suc i → j < c.sent_count v → Earlier v j w k
      → went bytes n c i v + noted_first bytes n c i v j < went bytes n c i w + noted_first bytes n c i w k
  before i v j w k o l (inl e) =
      omega (
        arith,
        one_more i v j o,
        total_mono (λ m. ind (eqb (note_session bytes n c v m) (suc i))) (suc j) (c.sent_count v) l,
        total-suc (sent_in bytes n c i) v,
        total_mono (sent_in bytes n c i) (suc v) w e,
      )
  before i v j w k o l (inr (e, f)) =
      rw (← e)
      (omega (
        arith,
        one_more i v j o,
        total_mono (λ m. ind (eqb (note_session bytes n c v m) (suc i))) (suc j) k f,
      ))

  -- IN ORDER: of two notes of a session the earlier has the lower packet
  pub in_order : (v j w k : ℕ) → v < n → w < n → j < c.sent_count v → k < c.sent_count w → note_session bytes n c v j ≡ note_session bytes n c w k → Earlier v j w k
      → note_packet bytes n c v j < note_packet bytes n c w k
  in_order v j w k h g l m same e =
      let t = was_taken v j h l in
      let o = t.noted.session-is in
      omega (
        arith,
        number_is bytes n c v j t.i h t.session-is l o,
        number_is bytes n c w k t.i g t.session-is m (sym same ∙ o),
        before t.i v j w k o l e,
      )

  -- ONCE: so two notes of a packet are one
  pub once : (v j w k : ℕ) → v < n → w < n → j < c.sent_count v → k < c.sent_count w → note_session bytes n c v j ≡ note_session bytes n c w k → note_packet bytes n c v j ≡ note_packet bytes n c w k
      → (v ≡ w) × (j ≡ k)
  once v j w k h g l m same number = slots (le_or_lt v w) (le_or_lt w v)
    where
      not_before : Earlier v j w k → ⊥
      not_before e = omega (arith, in_order v j w k h g l m same e)

      not_after : Earlier w k v j → ⊥
      not_after e = omega (arith, in_order w k v j g h m l (sym same) e)

      places : v ≡ w → (j ≤ k) ⊎ (k < j) → (k ≤ j) ⊎ (j < k) → (v ≡ w) × (j ≡ k)
      places e (inr a) b = absurd (not_after (inr (sym e, a)))
      places e (inl a) (inr b) = absurd (not_before (inr (e, b)))
      places e (inl a) (inl b) = (e, omega arith)

      slots : (v ≤ w) ⊎ (w < v) → (w ≤ v) ⊎ (v < w) → (v ≡ w) × (j ≡ k)
      slots (inr a) b = absurd (not_after (inl a))
      slots (inl a) (inr b) = absurd (not_before (inl b))
      slots (inl a) (inl b) = places (omega arith) (le_or_lt j k) (le_or_lt k j)
