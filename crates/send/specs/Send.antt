-- The sending of up to c packets as lists of numbers: the run after it, the notes of the packets sent, and how many went. One packet a step, so there is one result. Assumes nothing.
use Rattle.std.specs.Prelude.{◌≡◌, ◌≢◌, Bool, true, false, List, ℕ, zero, suc, ◌+◌, ◌-◌, ◌*◌, ◌≤◌, eqb, length, set}
use Rattle.std.proofs.Math.Path.{refl}
use Rattle.std.proofs.Common.{sym, ap, ◌∙◌, arith, eq-eqb, ne_eqb, length-set}
use Rattle.layout.specs.Layout.{block_at, sent_at}
use Rattle.send.specs.Choice.{sent_of, head_due, chosen}

-- three numbers note a packet: its session from 1, its own number, its deadline
abbrev pub note_numbers : ℕ
note_numbers = 3

abbrev pub session_at : ℕ
session_at = 0

abbrev pub packet_at : ℕ
packet_at = 1

abbrev pub deadline_at : ℕ
deadline_at = 2

-- the k-th note, counted from 0
unfoldable pub note : List ℕ → ℕ → ℕ → ℕ → ℕ → List ℕ
note notes k session packet deadline =
    set (set (set notes (note_numbers * k + session_at) session) (note_numbers * k + packet_at) packet) (note_numbers * k + deadline_at) deadline

-- the first waiting packet of session r goes
unfoldable pub raised : List ℕ → ℕ → List ℕ
raised run r = set run (block_at r + sent_at) (sent_of run r + 1)

unfoldable pub noted : List ℕ → List ℕ → ℕ → ℕ → List ℕ
noted run notes k r = note notes k (r + 1) (sent_of run r + 1) (head_due run r)

pub noted-is : (run notes : List ℕ) (k r session packet deadline : ℕ) → session ≡ r + 1 → packet ≡ sent_of run r + 1 → deadline ≡ head_due run r
    → note notes k session packet deadline ≡ noted run notes k r
unfolding noted
noted-is run notes k r session packet deadline e f g = rw (e, f, g)

pub length-note : (notes : List ℕ) (k session packet deadline : ℕ) → length (note notes k session packet deadline) ≡ length notes
unfolding note
length-note notes k session packet deadline = simp length-set

pub length-raised : (run : List ℕ) (r : ℕ) → length (raised run r) ≡ length run
unfolding raised
length-raised run r = simp length-set

-- a step: nothing, where nothing waits
abbrev pub unless : {A : Type 0} → Bool → A → A → A
unless true stay go = stay
unless false stay go = go

unfoldable pub step_run : List ℕ → ℕ → List ℕ
step_run run count = unless (eqb (chosen run count) count) run (raised run (chosen run count))

unfoldable pub step_notes : List ℕ → List ℕ → ℕ → ℕ → List ℕ
step_notes run notes count k = unless (eqb (chosen run count) count) notes (noted run notes k (chosen run count))

unfoldable pub step_count : List ℕ → ℕ → ℕ → ℕ
step_count run count k = unless (eqb (chosen run count) count) k (k + 1)

-- SENDING: the run, the notes and the number of packets sent, after up to c packets
unfoldable pub send_run : List ℕ → ℕ → ℕ → List ℕ
send_run run count zero = run
send_run run count (suc k) = step_run (send_run run count k) count

unfoldable pub send_notes : List ℕ → List ℕ → ℕ → ℕ → List ℕ
send_notes run notes count zero = notes
send_notes run notes count (suc k) = step_notes (send_run run count k) (send_notes run notes count k) count k

unfoldable pub send_count : List ℕ → ℕ → ℕ → ℕ
send_count run count zero = 0
send_count run count (suc k) = step_count (send_run run count k) count (send_count run count k)

-- the steps, by whether something waits
module _ (run : List ℕ) (count : ℕ) where
  module _ (e : chosen run count ≡ count) where
    pub step_run-stay : step_run run count ≡ run
    unfolding step_run
    step_run-stay = rw (eq-eqb (chosen run count) count e)

    pub step_notes-stay : (notes : List ℕ) (k : ℕ) → step_notes run notes count k ≡ notes
    unfolding step_notes
    step_notes-stay notes k = rw (eq-eqb (chosen run count) count e)

    pub step_count-stay : (k : ℕ) → step_count run count k ≡ k
    unfolding step_count
    step_count-stay k = rw (eq-eqb (chosen run count) count e)

  module _ (n : chosen run count ≢ count) where
    pub step_run-go : step_run run count ≡ raised run (chosen run count)
    unfolding step_run
    step_run-go = rw (ne_eqb (chosen run count) count n)

    pub step_notes-go : (notes : List ℕ) (k : ℕ) → step_notes run notes count k ≡ noted run notes k (chosen run count)
    unfolding step_notes
    step_notes-go notes k = rw (ne_eqb (chosen run count) count n)

    pub step_count-go : (k : ℕ) → step_count run count k ≡ k + 1
    unfolding step_count
    step_count-go k = rw (ne_eqb (chosen run count) count n)

module _ (run : List ℕ) (count : ℕ) where
  pub send_run-zero : send_run run count 0 ≡ run
  unfolding send_run
  send_run-zero = refl

  pub send_run-suc : (k : ℕ) → send_run run count (suc k) ≡ step_run (send_run run count k) count
  unfolding send_run
  send_run-suc k = refl

  pub send_count-zero : send_count run count 0 ≡ 0
  unfolding send_count
  send_count-zero = refl

  pub send_count-suc : (k : ℕ) → send_count run count (suc k) ≡ step_count (send_run run count k) count (send_count run count k)
  unfolding send_count
  send_count-suc k = refl

  pub send_notes-zero : (notes : List ℕ) → send_notes run notes count 0 ≡ notes
  unfolding send_notes
  send_notes-zero notes = refl

  pub send_notes-suc : (notes : List ℕ) (k : ℕ) → send_notes run notes count (suc k) ≡ step_notes (send_run run count k) (send_notes run notes count k) count k
  unfolding send_notes
  send_notes-suc notes k = refl

  -- where nothing waits any more, no further step does anything
  module _ (k : ℕ) (e : chosen (send_run run count k) count ≡ count) where
    pub send_run-done : (d c : ℕ) → c ≡ d + k → send_run run count c ≡ send_run run count k
    send_run-done zero c f = ap (send_run run count) (omega arith)
    send_run-done (suc d) c f =
        let g : c ≡ suc (d + k) = omega arith in
        ap (send_run run count) g ∙ send_run-suc (d + k) ∙ ap (λ (l : List ℕ). step_run l count) (send_run-done d (d + k) refl) ∙ step_run-stay (send_run run count k) count e

    still : (d : ℕ) → chosen (send_run run count (d + k)) count ≡ count
    still d = ap (λ (l : List ℕ). chosen l count) (send_run-done d (d + k) refl) ∙ e

    pub send_count-done : (d c : ℕ) → c ≡ d + k → send_count run count c ≡ send_count run count k
    send_count-done zero c f = ap (send_count run count) (omega arith)
    send_count-done (suc d) c f =
        let g : c ≡ suc (d + k) = omega arith in
        ap (send_count run count) g ∙ send_count-suc (d + k) ∙ step_count-stay (send_run run count (d + k)) count (still d) (send_count run count (d + k)) ∙ send_count-done d (d + k) refl

    pub send_notes-done : (notes : List ℕ) (d c : ℕ) → c ≡ d + k → send_notes run notes count c ≡ send_notes run notes count k
    send_notes-done notes zero c f = ap (send_notes run notes count) (omega arith)
    send_notes-done notes (suc d) c f =
        let g : c ≡ suc (d + k) = omega arith in
        ap (send_notes run notes count) g ∙ send_notes-suc notes (d + k) ∙ step_notes-stay (send_run run count (d + k)) count (still d) (send_notes run notes count (d + k)) (d + k)
        ∙ send_notes-done notes d (d + k) refl

-- what the program keeps while it sends: k packets went
pub record Sending (run notes : List ℕ) (count k : ℕ) (run' notes' : List ℕ) : Type 0 where
  pub run_is : run' ≡ send_run run count k
  pub notes_are : notes' ≡ send_notes run notes count k
  pub went : send_count run count k ≡ k

pub record SentAll (run notes : List ℕ) (count c : ℕ) (run' notes' : List ℕ) (k : ℕ) : Type 0 where
  pub run_is : run' ≡ send_run run count c
  pub notes_are : notes' ≡ send_notes run notes count c
  pub went : k ≡ send_count run count c

module _ (run notes : List ℕ) (count : ℕ) where
  pub sending_start : Sending run notes count 0 run notes
  sending_start = record { run_is = sym (send_run-zero run count); notes_are = sym (send_notes-zero run count notes); went = send_count-zero run count }

  module _ (k : ℕ) (run' notes' : List ℕ) (s : Sending run notes count k run' notes') where
    -- one more goes
    pub sending_more : (r : ℕ) (l m : List ℕ) → r ≡ chosen run' count → r ≢ count → l ≡ raised run' r → m ≡ noted run' notes' k r → Sending run notes count (k + 1) l m
    sending_more r l m e n f g =
        let now = send_run run count k in
        let q : r ≡ chosen now count = e ∙ ap (λ (x : List ℕ). chosen x count) s.run_is in
        let go : chosen now count ≢ count = λ z. n (q ∙ z) in
        let up : suc k ≡ k + 1 = omega arith in
        record {
          run_is = f ∙ rw (s.run_is, q) refl ∙ sym (step_run-go now count go) ∙ sym (send_run-suc run count k) ∙ ap (send_run run count) up;
          notes_are = g ∙ rw (s.run_is, s.notes_are, q) refl ∙ sym (step_notes-go now count go (send_notes run notes count k) k) ∙ sym (send_notes-suc run count notes k) ∙ ap (send_notes run notes count) up;
          went = ap (send_count run count) (sym up) ∙ send_count-suc run count k ∙ step_count-go now count go (send_count run count k) ∙ ap (λ (x : ℕ). x + 1) s.went;
        }

    -- nothing waits any more
    pub sending_over : (c r : ℕ) → k ≤ c → r ≡ chosen run' count → r ≡ count → SentAll run notes count c run' notes' k
    sending_over c r h e z =
        let now = send_run run count k in
        let stop : chosen now count ≡ count = sym (ap (λ (x : List ℕ). chosen x count) s.run_is) ∙ sym e ∙ z in
        record {
          run_is = s.run_is ∙ sym (send_run-done run count k stop (c - k) c (omega arith));
          notes_are = s.notes_are ∙ sym (send_notes-done run count k stop notes (c - k) c (omega arith));
          went = sym s.went ∙ sym (send_count-done run count k stop (c - k) c (omega arith));
        }

    -- c went
    pub sending_all : (c : ℕ) → k ≡ c → SentAll run notes count c run' notes' k
    sending_all c e = record {
      run_is = s.run_is ∙ ap (send_run run count) e;
      notes_are = s.notes_are ∙ ap (send_notes run notes count) e;
      went = sym s.went ∙ ap (send_count run count) e;
    }
