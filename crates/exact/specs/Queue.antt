-- When a list of packets is what waits in a run: then the packet that comes first of the list is the one that the run chooses, and what it leaves is what waits after
-- it went. Assumes nothing.
use Rattle.std.specs.Prelude.{◌≡◌, refl, ◌⊎◌, true, ℕ, suc, ◌+◌, ◌-◌, ◌%◌, ◌≤◌, ◌<◌, min, T, length, get_or}
use Rattle.std.proofs.Common.{sym, ap, ◌∙◌, inl, inr, arith}
use mathlib.Core.List.{List, [], ◌∷◌, Memᴰ}
use Rattle.std.proofs.Math.Decide.{ℕ_discrete}
use Rattle.curve.proofs.OrderLaws.{le_or_lt}
use Rattle.curve.specs.Delay.{come}
use Rattle.sheet.specs.Limits.{most_sessions}
use Rattle.layout.specs.Layout.{run_numbers, block_at, deadlines_at, ring}
use Rattle.rules.specs.Count.{ind, count}
use Rattle.rules.proofs.CountLaws.{count-some, count_witness}
use Rattle.rules.specs.Pick.{extract}
use Rattle.rules.proofs.PickLaws.{extract-count, extract-member, extract-first}
use Rattle.rules.specs.Deadline.{due_as}
use Rattle.rules.specs.Model.{Packet, first}
use Rattle.rules.proofs.Order.{first_order, first-due, first_strict, in_turn}
use Rattle.rules.specs.Turn.{up_to_number}
use Rattle.rules.proofs.TurnLaws.{own-up_to, none-up_to, up_to-is}
use Rattle.send.specs.Choice.{taken_of, sent_of, Waits, head_due, chosen, Chosen, chosen_only}
use Rattle.send.specs.Send.{raised}
use Rattle.send.specs.Sent.{raised-other, raised-here, raised-there, raised-taken}

-- a packet that waits, as the run's numbers have it
pub record Queued (run : List ℕ) (sessions : ℕ) (x : Packet) : Type 0 where
  pub i : ℕ
  pub session : i < sessions
  pub owner : x.owner ≡ suc i
  pub due : x.due ≡ due_as (get_or run (block_at i + (deadlines_at + (x.number - 1) % ring)) 0)

-- l is what waits in the run: of each session the numbers after those sent, up to those taken in, each once, with deadlines that never fall
pub record Queue (run : List ℕ) (sessions : ℕ) (l : List Packet) : Type 0 where
  pub each : (x : Packet) → Memᴰ x l → Queued run sessions x
  pub numbers : (i n : ℕ) → i < sessions → count (up_to_number i n) l + min (sent_of run i) n ≡ min (taken_of run i) n
  pub rise : (x y : Packet) → Memᴰ x l → Memᴰ y l → x.owner ≡ y.owner → x.number ≤ y.number → (t : ℕ) → T (come y.due t) → T (come x.due t)

-- x is the first waiting packet of session i
pub record Head (run : List ℕ) (i : ℕ) (x : Packet) : Type 0 where
  pub owner : x.owner ≡ suc i
  pub number : x.number ≡ sent_of run i + 1
  pub due : x.due ≡ due_as (head_due run i)

module _ (run : List ℕ) (sessions : ℕ) (l : List Packet) (q : Queue run sessions l) where
  -- a packet that waits has a number after those sent and up to those taken in
  pub between : (x : Packet) → Memᴰ x l → (i : ℕ) → i < sessions → x.owner ≡ suc i → (sent_of run i < x.number) × (sent_of run i < taken_of run i)
  between x m i h o =
      let some = count-some (up_to_number i x.number) x l m (own-up_to i x x.number o (omega arith)) in
      (omega (arith, some, q.numbers i x.number h), omega (arith, some, q.numbers i x.number h))

  -- one with the number after those sent is its session's first
  is-head : (x : Packet) → Memᴰ x l → (i : ℕ) → x.owner ≡ suc i → x.number ≡ sent_of run i + 1 → Head run i x
  is-head x m i o n =
      let w = q.each x m in
      let same : w.i ≡ i = omega (arith, w.owner) in
      let back : x.number - 1 ≡ sent_of run i = omega arith in
      record {
        owner = o;
        number = n;
        due = w.due ∙ ap (λ j. due_as (get_or run (block_at j + (deadlines_at + (x.number - 1) % ring)) 0)) same ∙ ap (λ k. due_as (get_or run (block_at i + (deadlines_at + k % ring)) 0)) back;
      }

  -- where packets of a session wait, its first is among them
  pub head : (i : ℕ) → i < sessions → Waits run i → (x : Packet) × Memᴰ x l × Head run i x
  head i h w = go (count_witness (up_to_number i (sent_of run i + 1)) l (omega (arith, q.numbers i (sent_of run i + 1) h)))
    where
      go : (x : Packet) × Memᴰ x l × (up_to_number i (sent_of run i + 1) x ≡ true) → (x : Packet) × Memᴰ x l × Head run i x
      go (x, m, e) =
          let p = up_to-is i x (sent_of run i + 1) e in
          (x, m, is-head x m i p.0 (omega (arith, p.1, (between x m i h p.0).0)))

-- NOTHING WAITS: where l is empty, no session is chosen
pub none-chosen : (run : List ℕ) (sessions : ℕ) → Queue run sessions [] → chosen run sessions ≡ sessions
unfolding count
none-chosen run sessions q =
    sym
    (chosen_only run sessions sessions
    (record {
      within = omega arith;
      nothing = λ e i h. omega (arith, q.numbers i (taken_of run i) h);
      among = λ n. absurd (n refl);
      waits = λ n. absurd (n refl);
      least = λ n. absurd (n refl);
      first = λ n. absurd (n refl);
    }))

-- THE CHOICE: a packet that comes before all that wait is the first of the session that is chosen
module _ (run : List ℕ) (sessions : ℕ) (l : List Packet) (q : Queue run sessions l) (x : Packet) (m : Memᴰ x l) (before : (z : Packet) → Memᴰ z l → first x z ≡ true) where
  own : Queued run sessions x
  own = q.each x m

  waiting : (sent_of run own.i < x.number) × (sent_of run own.i < taken_of run own.i)
  waiting = between run sessions l q x m own.i own.session own.owner

  leads : Head run own.i x
  leads = go (head run sessions l q own.i own.session waiting.1)
    where
      go : (h : Packet) × Memᴰ h l × Head run own.i h → Head run own.i x
      go (h, n, k) =
          let same : h.owner ≡ x.owner = k.owner ∙ sym own.owner in
          let low : h.number ≤ x.number = omega (arith, waiting.0, k.number) in
          is-head run sessions l q x m own.i own.owner
          (omega (arith, waiting.0, k.number, in_turn x h (q.rise h x n m same low) (sym same) (before h n)))

  choice : Chosen run sessions own.i
  choice =
      let s = own.session in
      record {
        within = omega (arith, s);
        nothing = λ e. absurd (omega (arith, s));
        among = λ n. s;
        waits = λ n. waiting.1;
        least = λ n i h w. no_later i (head run sessions l q i h w);
        first = λ n i h w. earlier i h (head run sessions l q i (omega (arith, s)) w);
      }
    where
      no_later : (i : ℕ) → (h : Packet) × Memᴰ h l × Head run i h → head_due run own.i ≤ head_due run i
      no_later i (h, n, k) = first-due x h (head_due run own.i) (head_due run i) leads.due k.due (before h n)

      earlier : (i : ℕ) → i < own.i → (h : Packet) × Memᴰ h l × Head run i h → head_due run own.i < head_due run i
      earlier i b (h, n, k) =
          first_strict x h (head_due run own.i) (head_due run i) leads.due k.due (before h n) (omega (arith, k.owner, own.owner))

  pub chosen-head : (chosen run sessions < sessions) × Head run (chosen run sessions) x
  chosen-head = rw (← (chosen_only run sessions own.i choice)) (own.session, leads)

-- where l is not empty, the one that comes first of it goes, and the others are what waits after it
module _ (run : List ℕ) (sessions : ℕ) (y : Packet) (ys : List Packet) (q : Queue run sessions (y ∷ ys)) where
  pub goes : (chosen run sessions < sessions) × Head run (chosen run sessions) (extract first y ys).0
  goes =
      let x = (extract first y ys).0 in
      chosen-head run sessions (y ∷ ys) q x (extract-member first y ys x (inl refl)) (extract-first first first_order y ys)

  module _ (size : run_numbers ≤ length run) (few : sessions ≤ most_sessions) where
    raised-queued : (r : ℕ) (x : Packet) → Queued run sessions x → Queued (raised run r) sessions x
    raised-queued r x w = record {
      i = w.i;
      session = w.session;
      owner = w.owner;
      due = w.due ∙ sym (ap due_as (raised-other run r (block_at w.i + (deadlines_at + (x.number - 1) % ring)) (omega arith)));
    }

    raised-numbers : (r : ℕ) → r < sessions → Head run r (extract first y ys).0 → (i n : ℕ) → i < sessions
        → count (up_to_number i n) (extract first y ys).1 + min (sent_of (raised run r) i) n ≡ min (taken_of (raised run r) i) n
    unfolding count ind
    raised-numbers r b k i n h = go (ℕ_discrete i r)
      where
        x : Packet
        x = (extract first y ys).0

        counts : ind (up_to_number i n x) + count (up_to_number i n) (extract first y ys).1 + min (sent_of run i) n ≡ min (taken_of (raised run r) i) n
        counts = omega (arith, extract-count first (up_to_number i n) y ys, q.numbers i n h, raised-taken run r i)

        own-one : (x.number ≤ n) ⊎ (n < x.number) → x.owner ≡ suc i → x.number ≡ sent_of run i + 1 → ind (up_to_number i n x) + min (sent_of run i) n ≡ min (sent_of run i + 1) n
        own-one (inl l) o e = omega (arith, ap ind (own-up_to i x n o l))
        own-one (inr l) o e = omega (arith, ap ind (none-up_to i x n (λ f. l)))

        go : Dec (i ≡ r) → count (up_to_number i n) (extract first y ys).1 + min (sent_of (raised run r) i) n ≡ min (taken_of (raised run r) i) n
        go (yes e) =
            let up : sent_of (raised run r) i ≡ sent_of run i + 1 = rw e (raised-here run r (omega arith)) in
            let number : x.number ≡ sent_of run i + 1 = rw e k.number in
            omega (arith, counts, own-one (le_or_lt x.number n) (k.owner ∙ ap suc (sym e)) number)
        go (no d) =
            omega (arith, counts, raised-there run r i d, ap ind (none-up_to i x n (λ o. absurd (d (omega (arith, k.owner))))))

    there : (z : Packet) → Memᴰ z (extract first y ys).1 → Memᴰ z (y ∷ ys)
    there z m = extract-member first y ys z (inr m)

    pub left : Queue (raised run (chosen run sessions)) sessions (extract first y ys).1
    left = record {
      each = λ z m. raised-queued (chosen run sessions) z (q.each z (there z m));
      numbers = raised-numbers (chosen run sessions) goes.0 goes.1;
      rise = λ z w m n. q.rise z w (there z m) (there w n);
    }
