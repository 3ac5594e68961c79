-- Each row of the table is what computing gives from its bytes and its offers. Assumes nothing.
use Rattle.std.specs.Prelude.{◌≡◌, refl, [], map, ℕ, ◌%◌}
use Rattle.words.specs.Words.{words}
use Rattle.curve.specs.Least.{least}
use Rattle.curve.specs.Total.{total}
use Rattle.curve.specs.Curve.{entry, value, at}
use Rattle.curve.specs.Conv.{conv}
use Rattle.curve.specs.Delay.{slots_of, find, delay}
use Rattle.sheet.specs.Refusal as refusal
use Rattle.sheet.specs.Refusal.{outside}
use Rattle.sheet.specs.Sheet.{session}
use Rattle.sheet.specs.Bytes.{session_of, sessions_of, sheet_of}
use Rattle.sheet.specs.Reading.{head_lines, value_lines, table_lines, field_lines, tables_lines, session_lines, body_lines, lines, reading}
use Rattle.verdict.specs.Load.{load}
use Rattle.verdict.specs.Figure.{slots, lag, largest, figure}
use Rattle.verdict.specs.Verdict.{figure_of, figure_in}
use Rattle.rules.specs.Steps.{steps}
use Rattle.rules.specs.Count.{ind, count}
use Rattle.rules.specs.Pick.{keep, extract, send}
use Rattle.rules.specs.Deadline.{later, shift, if_any, deadline}
use Rattle.rules.specs.Model.{envelope_of, delay_of, took, of_session, waiting_of, headroom, headroom_of, over, takes, no_room}
use Rattle.rules.specs.Model.{listed, up_to, joined, taken_in, packet, arrivals, then_by, compare_due, tie, first, sends, one_slot, after}
use Rattle.exact.specs.Written.{outcomes_by, notes_of}
use Rattle.examples.specs.Walked.{walk}
use Rattle.examples.specs.Computed.{reach, case_of, case_in, verdict_in, numbers_in, figures_in}
use Rattle.examples.specs.Run.{slot_by, run_by}
use Rattle.examples.specs.Table.{Row, table}

-- a number cut down to a byte
abbrev pub as_byte : ℕ → ℕ
as_byte b = b % 256

-- a row as computing gives it
unfoldable pub computed : Row → Row
computed row = record {
  sheet = sheet_of row.bytes;
  bytes = map as_byte row.bytes;
  verdict = verdict_in row.bytes;
  figures = figures_in row.bytes;
  offers = row.offers;
  slots = run_by (sheet_of row.bytes) [] row.offers;
}

-- THE TABLE COMPUTES
pub table_computes : map computed table ≡ table
unfolding words least total entry value at conv slots_of find delay outside refusal.first session_of sessions_of sheet_of head_lines value_lines table_lines
    field_lines tables_lines session_lines body_lines lines reading session load slots lag largest figure figure_of figure_in steps ind count keep extract send later shift
    if_any deadline envelope_of delay_of took of_session waiting_of headroom headroom_of over takes no_room listed up_to joined taken_in packet arrivals then_by
    compare_due tie first sends one_slot after outcomes_by notes_of walk reach case_of case_in verdict_in numbers_in figures_in slot_by run_by computed
table_computes = refl
