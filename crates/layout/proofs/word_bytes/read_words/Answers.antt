use Rattle.layout.proofs.WordReading.{read_next, read_end}
use Rattle.layout.proofs.word_bytes.read_words.Goals as goal

pub loop-k-preserved : goal.loop-k-preserved
loop-k-preserved c = search (read_next)

pub returns : goal.returns
returns c = search (read_end)
