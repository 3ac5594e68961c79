-- Laws of the print-out: how its lines go on, and which text ends it; and what a sheet that reads has in its head. Assumes nothing.
use Rattle.std.specs.Prelude.{◌≡◌, refl, List, [], ◌++◌, ℕ, zero, suc, ◌+◌, ◌*◌, ◌≤◌, length, get_or}
use Rattle.std.proofs.Common.{ap, add-one, arith}
use Rattle.sheet.specs.Refusal.{none}
use Rattle.sheet.specs.Reading.{reading}
use Rattle.sheet.specs.Clears.{HeadReads}
use Rattle.sheet.proofs.ClearsLaws.{clear-head}
use Rattle.sheet.proofs.StartsLaws.{clear-parts}
use Rattle.opening.specs.Open.{Answer, opened, refused}
use Rattle.layout.specs.Layout.{done_at}
use Rattle.run.specs.Slot.{told}
use Rattle.run.specs.Exact.{Promises}
use Rattle.run.specs.declared.tally.Tally.{Tally}
use Rattle.console.specs.Put.{Put}
use Rattle.slotrun.specs.Text.{packet_line, packet_lines, cut_line, total_line, end_text, slot_text, refusal_of}
use Rattle.slotrun.specs.Shows.{slot_bytes, Shows, FirstIs, Begins}
use Rattle.std.specs.declared.result.Result.{Result}
use Rattle.std.specs.declared.result.Result.TheVariants.{Ok, Err}
use Rattle.console.specs.Text.{line_bytes}
use Rattle.refusal.specs.declared.Refusal.{Refusal}
use Rattle.slotrun.specs.declared.slots.Over.{Over}

pub no_lines : (slot : ℕ) (notes : List ℕ) → packet_lines slot notes 0 ≡ []
unfolding packet_lines
no_lines slot notes = refl

pub lines_more : (slot : ℕ) (notes : List ℕ) (i : ℕ) → packet_lines slot notes (i + 1) ≡ packet_lines slot notes i ++ packet_line slot (get_or notes (3 * i) 0) (get_or notes (3 * i + 1) 0) (get_or notes (3 * i + 2) 0)
unfolding packet_lines
lines_more slot notes i = ap (packet_lines slot notes) (add-one i)

-- without an unfinished slot the total ends the print-out, with one `cut` stands before it
pub end_whole : (tally : Tally) → end_text 0 tally ≡ total_line tally
unfolding end_text
end_whole tally = refl

pub end_cut : (held : ℕ) (tally : Tally) → 1 ≤ held → end_text held tally ≡ cut_line ++ total_line tally
unfolding end_text
end_cut zero tally h = absurd (omega arith)
end_cut (suc held) tally h = refl

-- the head of a sheet that reads
pub head-reads : (bytes : List ℕ) → reading bytes ≡ none → HeadReads bytes
head-reads bytes e = clear-head bytes (clear-parts bytes e).0

-- a refusal is no opening
number_of : Answer → ℕ
number_of opened = 0
number_of (refused number place) = suc number

pub not_opened : (number place : ℕ) → refused number place ≡ opened → ⊥
unfolding number_of
not_opened number place e =
    let z = ap number_of e in
    omega arith

-- a slot that was done or refused, with its text
pub shows : {run offers outcomes notes run' outcomes' notes' page page' : List ℕ} {before after : Tally} {ended : Result Unit Over} (answer : Result ℕ Refusal) → Promises run offers outcomes notes before run' outcomes' notes' after (told answer)
    → 48 ≤ length outcomes → 192 ≤ length notes → Put page (slot_text (get_or run' done_at 0) notes' (told answer)) page' → ended ≡ refusal_of answer → length page' ≤ length page + slot_bytes
    → Shows run offers before page run' after page' ended
shows answer does o n puts ends fits = record { outcomes = _; outcomes' = _; notes = _; notes' = _; answer = answer; outcomes-fit = o; notes-fit = n; does = does; puts = puts; ends = ends; fits = fits }

-- a run that is opened has between 1 and 16 sessions; its first line is short, and so is that of a refusal
pub running : {bytes run page run' page' : List ℕ} {count : ℕ} → Begins bytes run page run' page' (Ok count) → (1 ≤ count) × (count ≤ 16) × (length page' ≤ length page + line_bytes)
running {bytes} {run} {page} {run'} {page'} {count} b = go b.answer b.first
  where
    go : (a : Answer) → FirstIs a bytes page page' (Ok count) → (1 ≤ count) × (count ≤ 16) × (length page' ≤ length page + line_bytes)
    go opened f =
        let h = head-reads bytes f.says.0 in
        (omega (arith, h.some-session, f.count-is), omega (arith, h.few, f.count-is), f.fits)
    go (refused number place) f = absurd f

pub told-short : {bytes run page run' page' : List ℕ} {refusal : Refusal} → Begins bytes run page run' page' (Err refusal) → length page' ≤ length page + line_bytes
told-short {bytes} {run} {page} {run'} {page'} {refusal} b = go b.answer b.first
  where
    go : (a : Answer) → FirstIs a bytes page page' (Err refusal) → length page' ≤ length page + line_bytes
    go opened f = absurd f
    go (refused number place) f = f.fits
