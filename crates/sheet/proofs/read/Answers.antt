-- The head's lines come first, and then the sessions'. Assumes nothing.
use Rattle.std.proofs.Common.{sym, ap, ◌∙◌}
use Rattle.std.proofs.lemmas.Result.{err_from_is_err_and}
use Rattle.sheet.proofs.RefusalLaws.{first_found}
use Rattle.sheet.specs.Reading.{head_lines, lines, reading}
use Rattle.sheet.specs.Told.{fault}
use Rattle.sheet.proofs.ClearsLaws.{clear-head}
use Rattle.sheet.proofs.ToldLaws.{check_clear}
use Rattle.sheet.proofs.WalkLaws.{reads-refused}
use Rattle.sheet.proofs.read.Goals as goal

pub returns-in_err-check_head : goal.returns-in_err-check_head
unfolding reading lines
returns-in_err-check_head c =
    let p = err_from_is_err_and c.from_residual.result c.from_residual.ensures.1 in
    rw (p.1, p.2) (reads-refused c.args.bytes.now _ (first_found (head_lines c.args.bytes.now) _ _ _ (sym c.check_head.ensures ∙ ap fault c.in_err-check_head.was)))

pub read_sessions-requires : goal.read_sessions-requires
read_sessions-requires c = clear-head c.args.bytes.now (check_clear _ c.check_head.ensures c.in_ok-check_head.was)
