-- The i-th value is the word at byte 2·i. Assumes nothing.
use Rattle.std.proofs.Common.{sym, ◌∙◌, arith}
use Rattle.words.specs.Words.{length-words, word_of}
use Rattle.curve.proofs.table.WordsTable.entry.Goals as goal

pub overflow_mul-i : goal.overflow_mul-i
overflow_mul-i c = omega (arith, length-words c.args.self.now.0.now)

pub word-requires : goal.word-requires
word-requires c = omega (arith, length-words c.args.self.now.0.now)

pub returns-clause-value : goal.returns-clause-value
returns-clause-value c =
    c.word.ensures.0 ∙ sym (word_of c.args.self.now.0.now c.args.i (omega (arith, length-words c.args.self.now.0.now)))
