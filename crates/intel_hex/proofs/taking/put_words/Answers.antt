use Rattle.intel_hex.proofs.Importing.{words_put}
use Rattle.intel_hex.proofs.taking.put_words.Goals as goal

pub returns : goal.returns
returns c = search (words_put)
