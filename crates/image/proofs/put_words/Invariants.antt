use Rattle.image.proofs.Writing.{Writing}
use Rattle.image.proofs.put_words.Given as goal

abbrev pub invariant-loop-word : goal.invariant-loop-word
invariant-loop-word l = Writing l.words l.initial.printer l.printer l.word-index
