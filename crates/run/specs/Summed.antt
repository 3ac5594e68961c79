-- A slot's sums over the sessions of a run, read from the blocks as they are before the slot. Assumes nothing.
use Rattle.std.specs.Prelude.{◌≡◌, refl, List, ℕ, ◌+◌, ◌-◌, ◌*◌, ◌≤◌, ◌<◌, min, length, get_or, take, drop}
use Rattle.std.proofs.Common.{sym, ap, ap₂, ◌∙◌, add-one, arith}
use Rattle.curve.specs.Total.{total}
use Rattle.curve.proofs.TotalLaws.{total-zero, total-suc}
use Rattle.sheet.specs.Limits.{most_sessions, largest_room}
use Rattle.layout.specs.Layout.{run_numbers, block_numbers, room_at, taken_at, sent_at, envelope_ahead_at, block_at, block}
use Rattle.layout.specs.Sound.{Sound}
use Rattle.layout.specs.Part.{part_at, part_lent}
use Rattle.intake.specs.Share.{share_of, headroom_of, free_of}
use Rattle.intake.specs.Intakes.{AllSound, share_at}
use Rattle.intake.specs.declared.Share.{Share}
use Rattle.run.specs.declared.tally.Sums.{Sums}

-- packets of a session that wait
abbrev pub waiting_of : List ℕ → ℕ
waiting_of b = get_or b taken_at 0 - get_or b sent_at 0

-- what the sums ask of a block, with no regard to the period and the slots done
pub record Sharing (b : List ℕ) : Type 0 where
  pub headed : get_or b taken_at 0 ≤ get_or b envelope_ahead_at 0
  pub in_order : get_or b sent_at 0 ≤ get_or b taken_at 0
  pub waiting : get_or b taken_at 0 ≤ get_or b sent_at 0 + get_or b room_at 0
  pub room : get_or b room_at 0 ≤ largest_room

pub record AllSharing (run : List ℕ) (count : ℕ) : Type 0 where
  pub few : count ≤ most_sessions
  pub size : run_numbers ≤ length run
  pub each : (i : ℕ) → i < count → Sharing (block run i)

pub sound_sharing : (b : List ℕ) (P done : ℕ) → Sound b P done → Sharing b
sound_sharing b P done ok = record { headed = ok.numbers.headed; in_order = ok.numbers.in_order; waiting = ok.numbers.waiting; room = ok.numbers.room }

pub all_sharing : (run : List ℕ) (count P done : ℕ) → AllSound run count P done → AllSharing run count
all_sharing run count P done ok = record { few = ok.few; size = ok.size; each = λ i h. sound_sharing (block run i) P done (ok.sound i h) }

-- offered, taken in, over, no room, and waiting before the slot
abbrev pub sums_of : List ℕ → List ℕ → ℕ → Sums
sums_of run offers n =
    record {
      offered = total (λ i. get_or offers i 0) n;
      taken_in = total (λ i. (share_at run offers i).taken) n;
      over = total (λ i. (share_at run offers i).over) n;
      no_room = total (λ i. (share_at run offers i).no_room) n;
      waiting = total (λ i. waiting_of (block run i)) n;
    }

-- an offer is a byte, and a room holds this many: sixteen sessions come to no more
abbrev pub largest_offer : ℕ
largest_offer = 255

abbrev pub most_sum : ℕ
most_sum = 4096

pub record Small (s : Sums) : Type 0 where
  pub parts : s.offered ≡ s.taken_in + s.over + s.no_room
  pub offered : s.offered ≤ most_sum
  pub waiting : s.waiting ≤ most_sum

-- the sums of the first n sessions, and how far they reach
pub record Summed (run offers : List ℕ) (n offered taken over no_room waiting : ℕ) : Type 0 where
  pub offers_are : offered ≡ total (λ i. get_or offers i 0) n
  pub taken_are : taken ≡ total (λ i. (share_at run offers i).taken) n
  pub over_are : over ≡ total (λ i. (share_at run offers i).over) n
  pub no_room_are : no_room ≡ total (λ i. (share_at run offers i).no_room) n
  pub waiting_are : waiting ≡ total (λ i. waiting_of (block run i)) n
  pub parts : offered ≡ taken + over + no_room
  pub few : offered ≤ largest_offer * n
  pub waits : waiting ≤ largest_room * n

total-more : (f : ℕ → ℕ) (n a b : ℕ) → a ≡ total f n → b ≡ f n → a + b ≡ total f (n + 1)
total-more f n a b e g = ap₂ ◌+◌ e g ∙ sym (total-suc f n) ∙ ap (total f) (sym (add-one n))

-- the shares of an offer make it up
pub share_parts : (b : List ℕ) (offered : ℕ) → offered ≡ (share_of b offered).taken + (share_of b offered).over + (share_of b offered).no_room
share_parts b offered = parts offered (headroom_of b) (free_of b)
  where
    parts : (o h f : ℕ) → o ≡ min (min o h) f + (o - min o h) + (min o h - min (min o h) f)
    parts o h f = omega arith

pub share_parts_of : (b : List ℕ) (offered : ℕ) (s : Share) → s ≡ share_of b offered → offered ≡ s.taken + s.over + s.no_room
share_parts_of b offered s e = share_parts b offered ∙ ap (λ (t : Share). t.taken + t.over + t.no_room) (sym e)

pub share_small : (b : List ℕ) (offered : ℕ) (s : Share) → s ≡ share_of b offered → offered ≤ largest_offer → (s.taken ≤ largest_offer) × (s.over ≤ largest_offer) × (s.no_room ≤ largest_offer)
share_small b offered s e h = small (share_parts_of b offered s e)
  where
    small : offered ≡ s.taken + s.over + s.no_room → (s.taken ≤ largest_offer) × (s.over ≤ largest_offer) × (s.no_room ≤ largest_offer)
    small p = (omega arith, omega arith, omega arith)

pub waiting-small : (b : List ℕ) → Sharing b → waiting_of b ≤ largest_room
waiting-small b s = omega (arith, s.waiting, s.room)

module _ (run offers : List ℕ) where
  pub summed_none : Summed run offers 0 0 0 0 0 0
  summed_none =
      record {
        offers_are = sym (total-zero _);
        taken_are = sym (total-zero _);
        over_are = sym (total-zero _);
        no_room_are = sym (total-zero _);
        waiting_are = sym (total-zero _);
        parts = refl;
        few = omega arith;
        waits = omega arith;
      }

  -- one more session
  pub summed_more : (n a b c d e v w : ℕ) (s : Share) → Summed run offers n a b c d e → v ≡ get_or offers n 0 → v ≤ largest_offer → s ≡ share_of (block run n) v → w ≡ waiting_of (block run n) → w ≤ largest_room
      → Summed run offers (n + 1) (a + v) (b + s.taken) (c + s.over) (d + s.no_room) (e + w)
  summed_more n a b c d e v w s old offer byte share wait room =
      let f = share ∙ ap (share_of (block run n)) offer in
      record {
        offers_are = total-more (λ i. get_or offers i 0) n a v old.offers_are offer;
        taken_are = total-more (λ i. (share_at run offers i).taken) n b s.taken old.taken_are (ap (λ (t : Share). t.taken) f);
        over_are = total-more (λ i. (share_at run offers i).over) n c s.over old.over_are (ap (λ (t : Share). t.over) f);
        no_room_are = total-more (λ i. (share_at run offers i).no_room) n d s.no_room old.no_room_are (ap (λ (t : Share). t.no_room) f);
        waiting_are = total-more (λ i. waiting_of (block run i)) n e w old.waiting_are wait;
        parts = made_up a b c d v s.taken s.over s.no_room old.parts (share_parts_of (block run n) v s share);
        few = up largest_offer n a v old.few byte;
        waits = up largest_room n e w old.waits room;
      }
    where
      made_up : (a b c d v x y z : ℕ) → a ≡ b + c + d → v ≡ x + y + z → a + v ≡ (b + x) + (c + y) + (d + z)
      made_up a b c d v x y z p q = omega arith

      up : (m n a v : ℕ) → a ≤ m * n → v ≤ m → a + v ≤ m * (n + 1)
      up m n a v p q =
          let g : m * (n + 1) ≡ m * n + m = omega arith in
          omega arith

  -- in all
  pub summed_all : (n a b c d e : ℕ) → Summed run offers n a b c d e
      → ◌≡◌ {A = Sums} (record { offered = a; taken_in = b; over = c; no_room = d; waiting = e }) (sums_of run offers n)
  summed_all n a b c d e s = rw (s.offers_are, s.taken_are, s.over_are, s.no_room_are, s.waiting_are)

  -- no sum wraps
  pub summed_few : (n a b c d e : ℕ) → n ≤ most_sessions → Summed run offers n a b c d e → (a ≤ most_sum) × (b ≤ most_sum) × (c ≤ most_sum) × (d ≤ most_sum) × (e ≤ most_sum)
  summed_few n a b c d e h s =
      let p = s.parts in
      let q = s.few in
      let r = s.waits in
      (omega arith, omega arith, omega arith, omega arith, omega arith)

  pub summed_small : (n a b c d e : ℕ) → n ≤ most_sessions → Summed run offers n a b c d e
      → Small (record { offered = a; taken_in = b; over = c; no_room = d; waiting = e })
  summed_small n a b c d e h s =
      let f = summed_few n a b c d e h s in
      record { parts = s.parts; offered = f.0; waiting = f.4 }

  -- the block that is lent
  pub block_shared : (i : ℕ) → take (block_at i + block_numbers - block_at i) (drop (block_at i) run) ≡ block run i
  block_shared i = part_lent run (block_at i) block_numbers

  pub waiting-read : (i : ℕ) → get_or run (block_at i + taken_at) 0 - get_or run (block_at i + sent_at) 0 ≡ waiting_of (block run i)
  waiting-read i = ap₂ ◌-◌ (sym (part_at run (block_at i) block_numbers taken_at (omega arith))) (sym (part_at run (block_at i) block_numbers sent_at (omega arith)))

  pub waiting_ordered : (i : ℕ) → Sharing (block run i) → get_or run (block_at i + sent_at) 0 ≤ get_or run (block_at i + taken_at) 0
  waiting_ordered i s =
      omega (arith, s.in_order, part_at run (block_at i) block_numbers taken_at (omega arith), part_at run (block_at i) block_numbers sent_at (omega arith))
