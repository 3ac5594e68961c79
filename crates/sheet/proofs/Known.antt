-- Every refusal of the reading has a cause: its number is one that a cause has. Assumes nothing.
use Rattle.std.specs.Prelude.{◌≡◌, refl, true, false, List, [], ◌∷◌, ◌++◌, ℕ, zero, suc, ◌+◌, drop}
use Rattle.curve.specs.Curve.{Curve}
use Rattle.refusal.specs.Numbers.{number_of, cause_of}
use Rattle.sheet.specs.Limits.{head_bytes}
use Rattle.sheet.specs.Refusal.{refused, Line, line, first}
use Rattle.sheet.specs.Bytes.{period_of, count_of, record_bytes}
use Rattle.sheet.specs.Reading.{head_lines, value_lines, table_lines, field_lines, tables_lines, session_lines, body_lines, lines, reading}

-- a number that a cause has
abbrev pub Has : ℕ → Type 0
Has n = number_of (cause_of n) ≡ n

-- so has each line's
abbrev Known : List Line → Type 0
Known [] = Unit {0}
Known (line n applies place ∷ ls) = Has n × Known ls

known-append : (xs ys : List Line) → Known xs → Known ys → Known (xs ++ ys)
known-append [] ys a b = b
known-append (line n applies place ∷ xs) ys a b = (a.0, known-append xs ys a.1 b)

-- what is found first is one of them
first-known : (ls : List Line) → Known ls → (n p : ℕ) → first ls ≡ refused n p → Has n
unfolding first
first-known [] k n p e = absurd (cc)
first-known (line m true q ∷ ls) k n p e =
    let f : m ≡ n = cc in
    rw f at k.0
first-known (line m false q ∷ ls) k n p e = first-known ls k.1 n p e

values-known : (vs : List ℕ) (before place : ℕ) → Known (value_lines vs before place)
unfolding value_lines
values-known [] before place = tt
values-known (v ∷ vs) before place = (refl, values-known vs v (place + 2))

table-known : (P : ℕ) (F : Curve) (place ratePlace : ℕ) → Known (table_lines P F place ratePlace)
unfolding table_lines
table-known P F place ratePlace = known-append (value_lines F.table 0 place) _ (values-known F.table 0 place) (refl, tt)

fields-known : (P : ℕ) (rest : List ℕ) (place : ℕ) → Known (field_lines P rest place)
unfolding field_lines
fields-known P rest place = (refl, (refl, (refl, (refl, (refl, (refl, tt))))))

session-known : (P : ℕ) (rest : List ℕ) (place : ℕ) → Known (session_lines P rest place)
unfolding session_lines tables_lines
session-known P rest place =
    known-append (field_lines P rest place) _ (fields-known P rest place) (known-append (table_lines P _ _ _) _ (table-known P _ _ _) (table-known P _ _ _))

body-known : (P : ℕ) (rest : List ℕ) (place m : ℕ) → Known (body_lines P rest place m)
unfolding body_lines
body-known P rest place zero = (refl, tt)
body-known P rest place (suc m) =
    known-append (session_lines P rest place) _ (session-known P rest place) (body-known P (drop (record_bytes rest) rest) (place + record_bytes rest) m)

head-known : (bytes : List ℕ) → Known (head_lines bytes)
unfolding head_lines
head-known bytes = (refl, (refl, (refl, (refl, (refl, (refl, tt))))))

-- EVERY REFUSAL HAS A CAUSE
pub reading-known : (bytes : List ℕ) (n p : ℕ) → reading bytes ≡ refused n p → Has n
unfolding reading lines
reading-known bytes n p e =
    first-known (lines bytes) (known-append (head_lines bytes) _ (head-known bytes) (body-known (period_of bytes) (drop head_bytes bytes) head_bytes (count_of bytes))) n p e
