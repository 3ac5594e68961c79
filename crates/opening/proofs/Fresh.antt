-- What a session's block is before slot 1, and how the parts of its bytes give the block's numbers. Assumes nothing.
use Rattle.std.specs.Prelude.{◌≡◌, List, [], ◌∷◌, ℕ, zero, ◌+◌, ◌≤◌, ◌<◌, length, get_or, replicate}
use Rattle.std.proofs.Common.{sym, ap, ◌∙◌, inr, arith}
use Rattle.std.proofs.lemmas.List.{length-replicate}
use Rattle.curve.specs.Curve.{Curve}
use Rattle.curve.specs.Drawn.{drawn}
use Rattle.sheet.specs.Sheet.{Session}
use Rattle.sheet.specs.Told.{SessionIn}
use Rattle.sheet.proofs.ToldLaws.{service_in, envelope_in, session_is}
use Rattle.sheet.specs.declared.fields.Session.{Session as SessionAt}
use Rattle.layout.specs.Layout.{block_numbers, service_at, envelope_at, service_ahead_at, envelope_ahead_at, deadlines_at, ring}
use Rattle.layout.specs.Over.{over, length_over, over_out}
use Rattle.layout.specs.Splice.{zeros-at, over_zeros}
use Rattle.history.specs.Image.{fields_of, tables_over, ShortTables, block_of, fresh}

-- a session's block before slot 1: its numbers and its tables over zeros, and no deadline yet
pub fresh-block : (s : Session) → ShortTables s
    → tables_over (over (replicate block_numbers 0) 0 (fields_of s (fresh s))) s.service.table s.envelope.table ≡ block_of s (fresh s)
unfolding tables_over block_of
fresh-block s short = sym (over_zeros tables deadlines_at ring fits empty)
  where
    S : List ℕ
    S = s.service.table

    b : List ℕ
    b = s.envelope.table

    zeros : List ℕ
    zeros = replicate block_numbers 0

    fields : List ℕ
    fields = over zeros 0 (fields_of s (fresh s))

    one : List ℕ
    one = over fields service_at S

    two : List ℕ
    two = over one envelope_at b

    three : List ℕ
    three = over two service_ahead_at S

    tables : List ℕ
    tables = over three envelope_ahead_at b

    fits : deadlines_at + ring ≤ length tables
    fits =
        omega
        (arith, length_over three envelope_ahead_at b, length_over two service_ahead_at S, length_over one envelope_at b, length_over fields service_at S, length_over zeros 0 (fields_of s (fresh s)), length-replicate block_numbers zero)

    empty : (i : ℕ) → deadlines_at ≤ i → i < deadlines_at + ring → get_or tables i 0 ≡ 0
    empty i p q =
        over_out three envelope_ahead_at b i (inr (omega (arith, short.envelope)))
        ∙ over_out two service_ahead_at S i (inr (omega (arith, short.service)))
        ∙ over_out one envelope_at b i (inr (omega (arith, short.envelope)))
        ∙ over_out fields service_at S i (inr (omega (arith, short.service)))
        ∙ over_out zeros 0 (fields_of s (fresh s)) i (inr (omega arith))
        ∙ zeros-at block_numbers i

-- a session taken apart: how many values its tables have, and the numbers of its block
module _ (session : Session) (s : SessionAt) (lies : SessionIn session s) where
  pub service-values : length (drawn s.service).table ≡ length session.service.table
  service-values = ap (λ (F : Curve). length F.table) (service_in session s lies)

  pub envelope-values : length (drawn s.envelope).table ≡ length session.envelope.table
  envelope-values = ap (λ (F : Curve). length F.table) (envelope_in session s lies)

  pub fields_are :
      length (drawn s.service).table ∷ length (drawn s.envelope).table ∷ s.room.0 ∷ s.service.rate.0 ∷ s.envelope.rate.0 ∷ 0 ∷ 0 ∷ [] ≡ fields_of session (fresh session)
  fields_are = ap (λ (w : Session). fields_of w (fresh w)) (session_is session s lies)
