use Rattle.undo.proofs.Filtering.{word_counted, word_count_fits}
use Rattle.undo.proofs.filter.ones_in.Goals as goal

pub overflow_cast-result : goal.overflow_cast-result
overflow_cast-result c = search (word_count_fits)

pub returns : goal.returns
returns c = search (word_counted)
