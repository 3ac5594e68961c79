-- Laws of specs/Clears.antt. What it says of the numbers that no line of a group applies, for the head, a session's fields and a table, each both ways. So what reads and what is written meet in facts and not in tests. Assumes nothing.
use Rattle.std.specs.Prelude.{◌≡◌, refl, not, ℕ, zero, suc, ◌+◌, ◌-◌, ◌≤◌, ◌<◌, ltb, eqb}
use mathlib.Core.List.{List, [], ◌∷◌}
use Rattle.std.proofs.Common.{arith}
use borrow.Author.Tests.{ltb-false, le-ltb, eqb-true, eq-eqb, not-false}
use Rattle.std.proofs.Math.ListN.{length, get_or}
use Rattle.curve.specs.Curve.{Curve, entry, at}
use Rattle.curve.proofs.CurveLaws.{at_entry}
use Rattle.sheet.specs.Limits.{version, most_capacity, longest_period, most_sessions, longest_table, largest_value, largest_rate, head_bytes, fixed_bytes, length_bytes, most_following}
use Rattle.sheet.specs.Refusal.{Clear}
use Rattle.sheet.proofs.RefusalLaws.{clear-nil, clear_next, next-clear, clear-append, append-clear, within, not_outside, or_false}
use Rattle.sheet.specs.Sheet.{WellMadeCurve}
use Rattle.sheet.specs.Bytes.{following, version_of, capacity_of, period_of, count_of, service_length, envelope_length, service_rate, envelope_rate, record_bytes}
use Rattle.sheet.specs.Reading.{head_lines, value_lines, table_lines, field_lines}
use Rattle.sheet.specs.Clears.{HeadReads, FieldsRead, ValuesRead}

pub clear-head : (bytes : List ℕ) → Clear (head_lines bytes) → HeadReads bytes
unfolding head_lines
clear-head bytes e =
    let l1 = clear_next _ _ _ _ e in
    let l2 = clear_next _ _ _ _ l1.1 in
    let l3 = clear_next _ _ _ _ l2.1 in
    let l4 = clear_next _ _ _ _ l3.1 in
    let l5 = clear_next _ _ _ _ l4.1 in
    let l6 = clear_next _ _ _ _ l5.1 in
    let two = or_false (ltb most_following (following bytes)) (not (eqb (following bytes) (length bytes - length_bytes))) l2.0 in
    let c = not_outside 1 most_capacity (capacity_of bytes) l4.0 in
    let p = not_outside 1 longest_period (period_of bytes) l5.0 in
    let m = not_outside 1 most_sessions (count_of bytes) l6.0 in
    record {
      long = ltb-false (length bytes) head_bytes l1.0;
      little = ltb-false most_following (following bytes) two.0;
      all = eqb-true (following bytes) (length bytes - length_bytes) (not-false _ two.1);
      one = eqb-true (version_of bytes) version (not-false _ l3.0);
      some-capacity = c.0;
      capacity = c.1;
      some-period = p.0;
      period = p.1;
      some-session = m.0;
      few = m.1;
    }

pub head_clear : (bytes : List ℕ) → HeadReads bytes → Clear (head_lines bytes)
unfolding head_lines
head_clear bytes h =
    next-clear 1 _ 0 _ (le-ltb (length bytes) head_bytes h.long)
    (next-clear 2 _ 0 _ (rw (le-ltb most_following (following bytes) h.little, eq-eqb (following bytes) (length bytes - length_bytes) h.all))
    (next-clear 3 _ 4 _ (rw (eq-eqb (version_of bytes) version h.one))
    (next-clear 4 _ 5 _ (within 1 most_capacity (capacity_of bytes) h.some-capacity h.capacity)
    (next-clear 5 _ 6 _ (within 1 longest_period (period_of bytes) h.some-period h.period)
    (next-clear 6 _ 7 _ (within 1 most_sessions (count_of bytes) h.some-session h.few) clear-nil)))))

module _ (P : ℕ) (rest : List ℕ) (place : ℕ) where
  pub clear-fields : Clear (field_lines P rest place) → FieldsRead P rest
  unfolding field_lines
  clear-fields e =
      let l1 = clear_next _ _ _ _ e in
      let l2 = clear_next _ _ _ _ l1.1 in
      let l3 = clear_next _ _ _ _ l2.1 in
      let l4 = clear_next _ _ _ _ l3.1 in
      let l5 = clear_next _ _ _ _ l4.1 in
      let l6 = clear_next _ _ _ _ l5.1 in
      let n = not_outside P longest_table (service_length rest) l2.0 in
      let k = not_outside P longest_table (envelope_length rest) l3.0 in
      let r = not_outside 1 largest_rate (service_rate rest) l4.0 in
      let q = not_outside 0 largest_rate (envelope_rate rest) l5.0 in
      record {
        service-long = n.0;
        service-short = n.1;
        envelope-long = k.0;
        envelope-short = k.1;
        promises = r.0;
        service-rate = r.1;
        envelope-rate = q.1;
        all = ltb-false (length rest) (record_bytes rest) l6.0;
      }

  pub fields-clear : FieldsRead P rest → Clear (field_lines P rest place)
  unfolding field_lines
  fields-clear h =
      let all : record_bytes rest ≤ length rest = h.all in
      next-clear 7 _ place _ (le-ltb (length rest) fixed_bytes (omega arith))
      (next-clear 8 _ place _ (within P longest_table (service_length rest) h.service-long h.service-short)
      (next-clear 8 _ (place + 1) _ (within P longest_table (envelope_length rest) h.envelope-long h.envelope-short)
      (next-clear 9 _ (place + 3) _ (within 1 largest_rate (service_rate rest) h.promises h.service-rate)
      (next-clear 9 _ (place + 5) _ (within 0 largest_rate (envelope_rate rest) (omega arith) h.envelope-rate)
      (next-clear 7 _ place _ (le-ltb (length rest) (record_bytes rest) all) clear-nil)))))

pub clear-values : (vs : List ℕ) (before place : ℕ) → Clear (value_lines vs before place) → ValuesRead vs before
unfolding value_lines
clear-values [] before place e = record { small = λ i h. absurd (omega arith); rises = λ i h. absurd (omega arith) }
clear-values (v ∷ vs) before place e =
    let l = clear_next _ _ _ _ e in
    let here = or_false (ltb largest_value v) (ltb v before) l.0 in
    go (ltb-false largest_value v here.0) (ltb-false v before here.1) (clear-values vs v (place + 2) l.1)
  where
    go : v ≤ largest_value → before ≤ v → ValuesRead vs v → ValuesRead (v ∷ vs) before
    go s b ih = record { small = small; rises = rises }
      where
        small : (i : ℕ) → i < suc (length vs) → get_or (v ∷ vs) i 0 ≤ largest_value
        small zero h = s
        small (suc i) h = ih.small i (omega arith)

        rises : (i : ℕ) → i < suc (length vs) → get_or (before ∷ v ∷ vs) i 0 ≤ get_or (v ∷ vs) i 0
        rises zero h = b
        rises (suc i) h = ih.rises i (omega arith)

pub values-clear : (vs : List ℕ) (before place : ℕ) → ValuesRead vs before → Clear (value_lines vs before place)
unfolding value_lines
values-clear [] before place r = clear-nil
values-clear (v ∷ vs) before place r =
    next-clear 10 _ place _ (rw (le-ltb largest_value v (r.small 0 (omega arith)), le-ltb v before (r.rises 0 (omega arith))))
    (values-clear vs v (place + 2) (record { small = λ i h. r.small (suc i) (omega arith); rises = λ i h. r.rises (suc i) (omega arith) }))

-- F(x) up to n, with 0 before the table
entry-cons : (table : List ℕ) (x : ℕ) → entry table x ≡ get_or (0 ∷ table) x 0
unfolding entry
entry-cons table zero = refl
entry-cons table (suc x) = refl

module _ (P : ℕ) (F : Curve) (place ratePlace : ℕ) where
  -- a table within the limits whose lines do not apply makes a curve
  pub clear-curve : 1 ≤ P → P ≤ length F.table → length F.table ≤ longest_table → F.rate ≤ largest_rate → Clear (table_lines P F place ratePlace)
      → WellMadeCurve P F
  unfolding table_lines
  clear-curve p long short rate e =
      let n = length F.table in
      let parts = clear-append (value_lines F.table 0 place) _ e in
      let vs = clear-values F.table 0 place parts.0 in
      let join = ltb-false (at P F (n + 1 - P) + F.rate) (at P F n) (clear_next _ _ _ _ parts.1).0 in
      record {
        curve = record {
          period = p;
          long = long;
          steps = λ x h. rw (entry-cons F.table x, entry-cons F.table (suc x)) (vs.rises x h);
          join = rw (at_entry P F n (omega arith), at_entry P F (n + 1 - P) (omega arith)) at join;
        };
        short = short;
        values = λ i h. vs.small i h;
        rate = rate;
      }

  -- and no line applies to a curve within the limits
  pub curve-clear : WellMadeCurve P F → Clear (table_lines P F place ratePlace)
  unfolding table_lines
  curve-clear w =
      let n = length F.table in
      let p : 1 ≤ P = w.curve.period in
      let steps : (x : ℕ) → x < n → get_or (0 ∷ F.table) x 0 ≤ get_or F.table x 0 = λ x h. rw (entry-cons F.table x, entry-cons F.table (suc x)) at (w.curve.steps x h) in
      let join : at P F n ≤ at P F (n + 1 - P) + F.rate = rw (at_entry P F n (omega arith), at_entry P F (n + 1 - P) (omega arith)) w.curve.join in
      append-clear (value_lines F.table 0 place) _
      (values-clear F.table 0 place (record { small = w.values; rises = steps }))
      (next-clear 10 _ ratePlace [] (le-ltb (at P F (n + 1 - P) + F.rate) (at P F n) join) clear-nil)
