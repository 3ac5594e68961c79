-- The numbers and the tables that are written over zeros are the session's block. Assumes nothing.
use Rattle.std.proofs.Common.{◌≡◌, [], ◌∷◌, ap, ◌∙◌, replicate}
use Rattle.sheet.specs.Told.{as_session}
use Rattle.layout.specs.Layout.{block_numbers}
use Rattle.layout.specs.Over.{over}
use Rattle.history.specs.Image.{tables_over, fields_of, fresh}
use Rattle.opening.proofs.Fresh.{fresh-block}
use Rattle.opening.proofs.writing.write_block.Goals as goal
use Rattle.opening.proofs.writing.write_block.Goals.{After-write_fields}

-- the numbers are the session's
numbers : (c : After-write_fields)
    → c.len-n.result ∷ c.len-m.result ∷ c.args.session.now.room.0 ∷ c.args.session.now.service.rate.0 ∷ c.args.session.now.envelope.rate.0 ∷ 0 ∷ 0 ∷ [] ≡ fields_of (as_session c.args.session.now) (fresh (as_session c.args.session.now))
numbers c = rw (c.len-n.ensures, c.len-m.ensures)

-- after the numbers
first : (c : After-write_fields) → c.write_fields.new.block ≡ over (replicate block_numbers 0) 0 (fields_of (as_session c.args.session.now) (fresh (as_session c.args.session.now)))
first c =
    let S = as_session c.args.session.now in
    c.write_fields.ensures ∙ ap (over c.args.block.now 0) (numbers c) ∙ ap (λ l. over l 0 (fields_of S (fresh S))) c.requires.0

pub returns : goal.returns
returns c =
    let S = as_session c.args.session.now in
    c.write_tables.ensures ∙ ap (λ l. tables_over l S.service.table S.envelope.table) (first (goal.at.returns c).After-write_fields) ∙ fresh-block S c.requires.1
