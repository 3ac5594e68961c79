-- What does not read is the reader's refusal itself. Assumes nothing.
use Rattle.sheet.proofs.TellsLaws.{refused_tells}
use Rattle.verdict.proofs.FiguredLaws.{judges-unread}
use Rattle.verdict.proofs.judge.Goals as goal

pub returns-in-Err : goal.returns-in-Err
returns-in-Err c = rw c.unreadable.ensures (judges-unread c.args.bytes.now _ (refused_tells c.args.bytes.now _ c.in-Err.ensures))
