use Rattle.loomconvert.proofs.Converting.{words_unsized, words_refused, words_filled}
use Rattle.loomconvert.proofs.convert_words.Goals as goal

pub returns-then-not-is_bench_sized : goal.returns-then-not-is_bench_sized
returns-then-not-is_bench_sized c = search (words_unsized)

pub returns-in-Ok : goal.returns-in-Ok
returns-in-Ok c = search (words_filled)

pub returns-in_default : goal.returns-in_default
returns-in_default c = search (words_refused)
