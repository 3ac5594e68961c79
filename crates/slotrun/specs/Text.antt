-- The print-out as lists of bytes: each line that 01 shows, and which of them belong to an answer. Definitions alone.
use Rattle.std.specs.Prelude.{List, [], ◌∷◌, ◌++◌, ℕ, zero, suc, ◌+◌, ◌*◌, get_or}
use Rattle.console.specs.Text.{decimal, next, refused_line}
use Rattle.curve.specs.declared.Slots.{Slots}
use Rattle.run.specs.Slot.{Reply, sent, refused}
use Rattle.run.specs.declared.tally.Tally.{Tally}
use Rattle.std.specs.declared.result.Result.{Result}
use Rattle.std.specs.declared.result.Result.TheVariants.{Ok, Err}
use Rattle.refusal.specs.declared.Refusal.{Refusal}
use Rattle.slotrun.specs.declared.slots.Over.{Over}
use Rattle.slotrun.specs.declared.slots.Over.TheVariants.{Refused}

-- the first `count` of some figures
unfoldable pub nexts : List Slots → ℕ → List ℕ
nexts figures zero = []
nexts figures (suc count) = nexts figures count ++ next (get_or figures count (record { 0 = 0 })).0

-- passed SLACK T FIGURES
unfoldable pub passed_line : ℕ → ℕ → List Slots → ℕ → List ℕ
passed_line slack t figures count = (112 ∷ 97 ∷ 115 ∷ 115 ∷ 101 ∷ 100 ∷ []) ++ (next slack ++ (next t ++ (nexts figures count ++ (10 ∷ []))))

-- SLOT SESSION PACKET DEADLINE
unfoldable pub packet_line : ℕ → ℕ → ℕ → ℕ → List ℕ
packet_line slot session packet deadline = decimal slot ++ (next session ++ (next packet ++ (next deadline ++ (10 ∷ []))))

-- a line for each of the first packets sent in a slot, of which three numbers each are told
unfoldable pub packet_lines : ℕ → List ℕ → ℕ → List ℕ
packet_lines slot notes zero = []
packet_lines slot notes (suc k) = packet_lines slot notes k ++ packet_line slot (get_or notes (3 * k) 0) (get_or notes (3 * k + 1) 0) (get_or notes (3 * k + 2) 0)

-- cut
abbrev pub cut_line : List ℕ
cut_line = 99 ∷ 117 ∷ 116 ∷ 10 ∷ []

-- total OFFERED TAKEN-IN OVER NO-ROOM SENT WAITING
unfoldable pub total_line : Tally → List ℕ
total_line tally =
    (116 ∷ 111 ∷ 116 ∷ 97 ∷ 108 ∷ []) ++ (next tally.offered ++ (next tally.taken_in ++ (next tally.over ++ (next tally.no_room ++ (next tally.sent ++ (next tally.waiting ++ (10 ∷ [])))))))

-- WHAT A SLOT PRINTS: its packets, or its refusal
unfoldable pub slot_text : ℕ → List ℕ → Reply → List ℕ
slot_text slot notes (sent k) = packet_lines slot notes k
slot_text slot notes (refused number place) = refused_line number place

-- a slot that is done lets the run go on; a refusal ends it
unfoldable pub refusal_of : Result ℕ Refusal → Result Unit Over
refusal_of (Ok k) = Ok tt
refusal_of (Err refusal) = Err (Refused refusal)

-- WHAT ENDS THE PRINT-OUT, where so many bytes of an unfinished slot are left: cut if there are some, and the total
unfoldable pub end_text : ℕ → Tally → List ℕ
end_text zero tally = total_line tally
end_text (suc held) tally = cut_line ++ total_line tally

-- a tally begins at zero with its run
abbrev pub from_zero : Tally
from_zero = record { offered = 0; taken_in = 0; over = 0; no_room = 0; sent = 0; waiting = 0 }
