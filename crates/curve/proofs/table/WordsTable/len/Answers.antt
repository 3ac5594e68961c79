-- Two bytes make a value. Assumes nothing.
use Rattle.std.proofs.Common.{sym}
use Rattle.words.specs.Words.{length-words}
use Rattle.curve.proofs.table.WordsTable.len.Goals as goal

pub returns : goal.returns
returns c = sym (length-words c.args.self.now.0.now)
