-- What does not read is refused as the reader says. Assumes nothing.
use Rattle.std.proofs.Common.{refl}
use Rattle.sheet.proofs.TellsLaws.{refused_tells}
use Rattle.verdict.specs.Verdict.{unreadable}
use Rattle.verdict.proofs.FiguredLaws.{judges-unread}
use Rattle.opening.proofs.OpenLaws.{opens_by}
use Rattle.opening.proofs.open_judged.Goals as goal

pub returns-in-Err : goal.returns-in-Err
returns-in-Err c =
    let e = refused_tells c.args.bytes.now _ c.in-Err.ensures in
    (opens_by _ _ _ _ (unreadable _ _) c.requires e refl refl, rw c.unreadable.ensures (judges-unread c.args.bytes.now _ e))
