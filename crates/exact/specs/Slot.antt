-- ONE SLOT IS EXACT: from the run after t slots, the machine's slot makes the run after t + 1, and tells the outcomes and the packets of the rules. Assumes nothing.
use Rattle.std.specs.Prelude.{◌≡◌, ◌⊎◌, ◌≢◌, length, set}
use Rattle.std.proofs.Math.Path.{refl, sym, ap, ap₂}
use Rattle.std.proofs.Common.{subst, ◌∙◌, inl, inr, get_or-set_same}
use mathlib.Core.List.{List, ◌++◌}
use Prim.Native.Nat.{ℕ, zero, suc, ◌+◌, ◌-◌, ◌*◌, ◌%◌, ◌≤◌, ◌<◌}
use native.Mathlib.Omega.{arith}
use Rattle.std.proofs.Math.Decide.{ℕ_discrete}
use Rattle.std.proofs.Math.ListN.{get_or, drop, length-set}
use Rattle.std.proofs.Math.Seq.{get_or-set_other}
use Rattle.curve.specs.Total.{total}
use Rattle.curve.proofs.TotalLaws.{total-suc, total_mono}
use Rattle.curve.specs.Delay.{Due, slot, slots_of, delay}
use Rattle.curve.proofs.DelayLaws.{delay-slot}
use Rattle.sheet.specs.Limits.{most_sessions}
use Rattle.sheet.specs.Sheet.{Session, Sheet, WellMade, WellMadeSession, session, session_count}
use Rattle.rules.specs.Count.{count_all}
use Rattle.rules.specs.Deadline.{shift, deadline, due_as}
use Rattle.rules.specs.Model.{delay_of, of_session, waiting_of, packet, joined, past, sends}
use Rattle.rules.specs.Curves.{Curves}
use Rattle.rules.proofs.CurvesLaws.{made-curves}
use Rattle.rules.proofs.Facts.{got, slots, got-eq, new_packet}
use Rattle.rules.proofs.Intake.{taken-split, in_room}
use Rattle.rules.specs.Tables.{kept_curve}
use Rattle.rules.proofs.TablesLaws.{kept-curve, deadline-table}
use Rattle.layout.specs.Layout.{run_numbers, head_numbers, block_numbers, done_at, taken_at, sent_at, deadlines_at, ring, block_at, block}
use Rattle.layout.specs.Part.{part_same, block-at}
use Rattle.layout.specs.Sound.{Sound}
use Rattle.intake.specs.Share.{share_of}
use Rattle.intake.specs.Intake.{intake_of}
use Rattle.intake.specs.Intakes.{outcome_numbers, share_at, intakes_of, told as toldOf, outcomes_of, length_intakes, intakes_each, intakes_out}
use Rattle.intake.specs.declared.Share.{Share}
use Rattle.send.specs.Choice.{sent_of, taken_of}
use Rattle.send.specs.Send.{note_numbers, send_run, send_notes, send_count}
use Rattle.send.specs.Sent.{length-send_run, send_run-other}
use Rattle.send.specs.SentBlock.{send_run-block}
use Rattle.history.specs.Image.{head_of, block_of, run_of}
use Rattle.history.specs.Block.{Reads, block_reads, block-sent}
use Rattle.history.specs.Run.{RunReads, run-reads, reads-run}
use Rattle.history.specs.After.{ahead_table, due_of, moving_at, moving_of, run_with}
use Rattle.history.specs.Tables.{table-holds, ring-at, fitting, last-is, due-is}
use Rattle.exact.specs.Share.{share_by, moving-got, share_is}
use Rattle.exact.specs.Intake.{intake_block}
use Rattle.exact.specs.Written.{outcome_of, outcomes_by, notes_of, length-outcomes, three-more}
use Rattle.exact.specs.Waiting.{slot-count, slot-sent, slot-notes}

-- a packet's deadline is a slot: its session's service has a rate
pub due-slot : (P : ℕ) (s : Session) → WellMadeSession P s → (a : ℕ → ℕ) (N u : ℕ) → 1 ≤ a u
    → deadline (delay P s.service) a N (suc u) ≡ slot (slots_of (deadline (delay P s.service) a N (suc u)))
unfolding slots_of shift
due-slot P s made a N u some =
    let S = s.service in
    let l = ahead_table P S (total a) u in
    let good = made.service.curve in
    let holds = table-holds P S (total a) u in
    let is : deadline (delay P S) a N (suc u) ≡ slot (u + slots_of (delay P (kept_curve S l) N)) =
    deadline-table P S good a N u some l holds ∙ ap (shift u) (delay-slot P (kept_curve S l) (kept-curve P S good (total a) u l holds) made.promises N) in
    is ∙ sym (ap (λ d. slot (slots_of d)) is)

-- the run after t slots reads as it should
pub run_with_reads : (sheet : Sheet) → WellMade sheet → (told : ℕ → List ℕ) (t : ℕ) (rest run : List ℕ) → run ≡ run_with sheet (past sheet told t) ++ rest
    → RunReads sheet t (moving_of sheet (past sheet told t)) rest run
unfolding run_with
run_with_reads sheet made told t rest run is =
    subst (RunReads sheet t (moving_of sheet (past sheet told t)) rest)
    (ap (λ n. run_of sheet n (moving_of sheet (past sheet told t)) ++ rest) (sym (slots sheet told t)) ∙ sym is)
    (run-reads sheet t (moving_of sheet (past sheet told t)) rest made.few)

module _ (sheet : Sheet) (made : WellMade sheet) (told : ℕ → List ℕ) (t : ℕ) (rest run : List ℕ)
    (is : run ≡ run_with sheet (past sheet told t) ++ rest)
    (sound : (i : ℕ) → i < session_count sheet → Sound (block run i) sheet.period t) where
  few : session_count sheet ≤ most_sessions
  few = made.few

  -- of session i: the packets that it got, and those sent up to slot t
  abbrev gets : ℕ → ℕ → ℕ
  gets i = got sheet told i

  abbrev went : ℕ → ℕ
  went i = count_all (of_session i) (past sheet told t).sent

  reads : RunReads sheet t (moving_of sheet (past sheet told t)) rest run
  reads = run_with_reads sheet made told t rest run is

  size : run_numbers ≤ length run
  size = omega (arith, reads.size)

  -- the block of a session, by the packets that it got
  pub block-is : (i : ℕ) → i < session_count sheet → block run i ≡ block_of (session sheet i) (moving_at sheet.period (session sheet i) (gets i) (went i) t)
  block-is i h = reads.each i h ∙ ap (block_of (session sheet i)) (moving-got sheet told made i t h)

  pub shares_are : (i : ℕ) → i < session_count sheet → share_at run (told t) i ≡ share_by sheet (past sheet told t) i (get_or (told t) i 0)
  shares_are i h = ap (λ (b : List ℕ). share_of b (get_or (told t) i 0)) (block-is i h) ∙ share_is sheet told made i t h (get_or (told t) i 0)

  -- what waits of a session
  pub waits_are : (i : ℕ) → i < session_count sheet → get_or (block run i) taken_at 0 - get_or (block run i) sent_at 0 ≡ waiting_of (past sheet told t) i
  waits_are i h =
      let s = session sheet i in
      let m = moving_at sheet.period s (gets i) (went i) t in
      let r = block_reads s m (fitting sheet.period s (made.each i h) (gets i) (went i) t) in
      rw (block-is i h) (omega (arith, r.fields taken_at (omega arith), r.fields sent_at (omega arith), taken-split sheet told i t h))

  -- INTAKE of all sessions
  unfoldable pub taken : List ℕ
  taken = intakes_of run (told t) sheet.period t (session_count sheet)

  length_taken : length taken ≡ length run
  unfolding taken
  length_taken = length_intakes run (told t) sheet.period t (session_count sheet)

  taken-size : run_numbers ≤ length taken
  taken-size = omega (arith, length_taken, size)

  taken-block : (i : ℕ) → i < session_count sheet → block taken i ≡ block_of (session sheet i) (moving_at sheet.period (session sheet i) (gets i) (went i) (suc t))
  unfolding taken got
  taken-block i h =
      let P = sheet.period in
      let o = get_or (told t) i 0 in
      let b = block_of (session sheet i) (moving_at P (session sheet i) (gets i) (went i) t) in
      intakes_each run (told t) P t size (session_count sheet) few i h
      ∙ ap (λ (z : List ℕ). intake_of z P t o) (block-is i h)
      ∙ intake_block P (session sheet i) (made.each i h) (gets i) (went i) t (subst (λ (z : List ℕ). Sound z P t) (block-is i h) (sound i h)) (share_of b o).taken
      (ap (λ (x : Share). x.taken) (share_is sheet told made i t h o))

  taken-reads : (i : ℕ) → i < session_count sheet
      → Reads (session sheet i) (moving_at sheet.period (session sheet i) (gets i) (went i) (suc t)) (block_of (session sheet i) (moving_at sheet.period (session sheet i) (gets i) (went i) (suc t)))
  taken-reads i h = block_reads (session sheet i) _ (fitting sheet.period (session sheet i) (made.each i h) (gets i) (went i) (suc t))

  -- a number of a session's block after the intake
  taken_there : (i x : ℕ) → i < session_count sheet → x < block_numbers
      → get_or taken (block_at i + x) 0 ≡ get_or (block_of (session sheet i) (moving_at sheet.period (session sheet i) (gets i) (went i) (suc t))) x 0
  taken_there i x h l = sym (block-at taken i x l) ∙ ap (λ (b : List ℕ). get_or b x 0) (taken-block i h)

  taken-sent : (i : ℕ) → i < session_count sheet → sent_of taken i ≡ went i
  taken-sent i h = taken_there i sent_at h (omega arith) ∙ (taken-reads i h).fields sent_at (omega arith)

  taken-taken : (i : ℕ) → i < session_count sheet → taken_of taken i ≡ total (gets i) (suc t)
  taken-taken i h = taken_there i taken_at h (omega arith) ∙ (taken-reads i h).fields taken_at (omega arith)

  -- no more wait than the ring has places
  fits-ring : (i : ℕ) → i < session_count sheet → total (gets i) (suc t) ≤ went i + ring
  fits-ring i h =
      omega (arith, total-suc (gets i) t, taken-split sheet told i t h, in_room sheet told i t h, got-eq sheet told t i h, (made.each i h).room)

  -- THE DEADLINE of each waiting packet stands in its place
  taken-due : (i u q : ℕ) → i < session_count sheet → u ≤ t → 1 ≤ q → q ≤ gets i u → went i < total (gets i) u + q
      → (new_packet sheet told i u q).due ≡ due_as (get_or taken (block_at i + (deadlines_at + (total (gets i) u + q - 1) % ring)) 0)
  unfolding new_packet packet delay_of
  taken-due i u q h l one most after =
      let P = sheet.period in
      let s = session sheet i in
      let D : ℕ → Due = delay P s.service in
      let N = total (gets i) u + q in
      let j = (N - 1) % ring in
      let up = total_mono (gets i) (suc u) (suc t) (omega arith) in
      let number : get_or taken (block_at i + (deadlines_at + j)) 0 ≡ slots_of (deadline D (gets i) N (suc u)) =
      taken_there i (deadlines_at + j) h (omega arith)
      ∙ (taken-reads i h).deadlines j (omega arith)
      ∙ ring-at D (gets i) (suc t) j (omega arith)
      ∙ ap (λ x. due_of D (gets i) x (suc t)) (last-is (total (gets i) (suc t)) N (omega arith) (omega (arith, total-suc (gets i) u)) (omega (arith, fits-ring i h)))
      ∙ due-is D (gets i) N u (suc t) (omega arith) (omega (arith, total-suc (gets i) u)) (omega arith) in
      due-slot P s (made.each i h) (gets i) N u (omega arith) ∙ ap slot (sym number)

  curves : Curves sheet
  curves = made-curves sheet made

  -- SENDING
  abbrev sent_run : List ℕ
  sent_run = send_run taken (session_count sheet) sheet.capacity

  pub count-is : send_count taken (session_count sheet) sheet.capacity ≡ length (sends sheet (past sheet told t) (told t)).0
  count-is = slot-count sheet told curves t taken taken-sent taken-taken taken-due taken-size few

  pub notes_are : (notes : List ℕ) → note_numbers * sheet.capacity ≤ length notes
      → send_notes taken notes (session_count sheet) sheet.capacity
      ≡ notes_of (sends sheet (past sheet told t) (told t)).0 ++ drop (note_numbers * length (sends sheet (past sheet told t) (told t)).0) notes
  notes_are = slot-notes sheet told curves t taken taken-sent taken-taken taken-due taken-size few

  pub sent-block : (i : ℕ) → i < session_count sheet → block sent_run i ≡ block_of (session sheet i) (moving_of sheet (past sheet told (suc t)) i)
  sent-block i h =
      let P = sheet.period in
      let s = session sheet i in
      let now = sent_of sent_run i in
      send_run-block taken (session_count sheet) taken-size few i h sheet.capacity
      ∙ ap (λ (b : List ℕ). set b sent_at now) (taken-block i h)
      ∙ block-sent s (moving_at P s (gets i) (went i) (suc t)) (fitting P s (made.each i h) (gets i) (went i) (suc t)) now
      ∙ ap (λ k. block_of s (moving_at P s (gets i) k (suc t))) (slot-sent sheet told curves t taken taken-sent taken-taken taken-due taken-size few i h)
      ∙ ap (block_of s) (sym (moving-got sheet told made i (suc t) h))

  -- THE RUN after the slot
  abbrev last_run : List ℕ
  last_run = set sent_run done_at (suc t)

  length_last : length last_run ≡ length run
  length_last = length-set sent_run done_at (suc t) ∙ length-send_run taken (session_count sheet) sheet.capacity ∙ length_taken

  -- what is no session's
  outside : (x : ℕ) → x ≢ done_at → (x < head_numbers) ⊎ (block_at (session_count sheet) ≤ x) → get_or last_run x 0 ≡ get_or run x 0
  unfolding taken
  outside x n d =
      get_or-set_other sent_run done_at x (suc t) 0 n
      ∙ send_run-other taken (session_count sheet) x (λ i h e. apart i h e d) sheet.capacity
      ∙ intakes_out run (told t) sheet.period t size (session_count sheet) few x d
    where
      apart : (i : ℕ) → i < session_count sheet → x ≡ block_at i + sent_at → (x < head_numbers) ⊎ (block_at (session_count sheet) ≤ x) → ⊥
      apart i h e (inl a) = omega arith
      apart i h e (inr a) = omega arith

  pub run_is : last_run ≡ run_with sheet (past sheet told (suc t)) ++ rest
  unfolding run_with
  run_is =
      reads-run sheet (suc t) (moving_of sheet (past sheet told (suc t))) rest last_run few
      (record {
        size = length_last ∙ reads.size;
        head = λ x h. head x h (ℕ_discrete x done_at);
        each = λ i h.
            part_same sent_run last_run (block_at i) block_numbers (length-set sent_run done_at (suc t)) (omega (arith, length-set sent_run done_at (suc t), length_last, size))
            (λ x l. get_or-set_other sent_run done_at (block_at i + x) (suc t) 0 (omega arith))
            ∙ sent-block i h;
        past = λ x h. outside x (omega arith) (inr h) ∙ reads.past x h;
      })
      ∙ ap (λ n. run_of sheet n (moving_of sheet (past sheet told (suc t))) ++ rest) (sym (slots sheet told (suc t)))
    where
      head : (x : ℕ) → x < head_numbers → Dec (x ≡ done_at) → get_or last_run x 0 ≡ get_or (head_of sheet (suc t)) x 0
      head x h (yes e) = rw e (get_or-set_same sent_run done_at (suc t) 0 (omega (arith, length-set sent_run done_at (suc t), length_last, size)))
      head x h (no n) = outside x n (inl h) ∙ reads.head x h ∙ sym (get_or-set_other (head_of sheet t) done_at x (suc t) 0 n)

  -- OUTCOMES
  outcomes-to : (outcomes : List ℕ) (n : ℕ) → n ≤ session_count sheet → outcome_numbers * n ≤ length outcomes
      → outcomes_of run (told t) outcomes n ≡ joined (outcome_of sheet (past sheet told t) (told t)) n ++ drop (outcome_numbers * n) outcomes
  unfolding outcomes_of joined
  outcomes-to outcomes zero l h = refl
  outcomes-to outcomes (suc n) l h =
      let p = joined (outcome_of sheet (past sheet told t) (told t)) n in
      let at = outcome_numbers * n in
      let more : at + 3 ≡ outcome_numbers * suc n = omega arith in
      ap₂ (λ (z : List ℕ) (x : Share). toldOf z n x) (outcomes-to outcomes n (omega arith) (omega arith)) (shares_are n l)
      ∙ three-more p outcomes at _ _ _ (length-outcomes sheet (past sheet told t) (told t) n) (omega arith)
      ∙ ap (λ k. (p ++ outcome_of sheet (past sheet told t) (told t) n) ++ drop k outcomes) more

  pub outcomes_are : (outcomes : List ℕ) → outcome_numbers * session_count sheet ≤ length outcomes
      → outcomes_of run (told t) outcomes (session_count sheet) ≡ outcomes_by sheet (past sheet told t) (told t) ++ drop (outcome_numbers * session_count sheet) outcomes
  unfolding outcomes_by
  outcomes_are outcomes h = outcomes-to outcomes (session_count sheet) (omega arith) h
