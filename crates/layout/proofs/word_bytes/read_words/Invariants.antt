use Rattle.base.specs.Copied.{Copied}
use Rattle.layout.specs.ByteWords.{words_of}
use Rattle.layout.proofs.word_bytes.read_words.Given as goal

abbrev pub invariant-loop-k : goal.invariant-loop-k
invariant-loop-k l = Copied (words_of l.bytes) l.initial.words l.words l.k
