-- Each of the four copies is written over what the one before it left. Assumes nothing.
use Rattle.std.proofs.Common.{ap, ◌∙◌}
use Rattle.words.specs.Words.{words}
use Rattle.layout.specs.Layout.{envelope_at, service_ahead_at, envelope_ahead_at}
use Rattle.layout.specs.Over.{over}
use Rattle.history.specs.Image.{tables_over}
use Rattle.opening.proofs.writing.write_tables.Goals as goal

pub returns : goal.returns
unfolding tables_over
returns c =
    let s = words c.args.service.now.0.now in
    let e = words c.args.envelope.now.0.now in
    c.copy_table-4.ensures
    ∙ ap (λ l. over l envelope_ahead_at e)
    (c.copy_table-3.ensures
    ∙ ap (λ l. over l service_ahead_at s) (c.copy_table-2.ensures ∙ ap (λ l. over l envelope_at e) c.copy_table.ensures))
