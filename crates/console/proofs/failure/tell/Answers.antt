-- One text after the other is handed over. Assumes nothing.
use Rattle.console.proofs.Known.{keeps}
use Rattle.console.proofs.failure.tell.Goals as goal

pub returns : goal.returns
returns g c = (c.as_bytes.result.now, (_, c.hand.ensures, (_, c.hand-2.ensures, (_, c.hand-3.ensures, (_, c.hand-4.ensures, keeps (g.E.Write.contents c.hand-4.new.writer))))))
