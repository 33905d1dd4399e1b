use Rattle.undo.proofs.Reading.{word_address, word_unformed, word_till}
use Rattle.undo.proofs.is_proper_word.Goals as goal

pub returns-then-not-is_address_below : goal.returns-then-not-is_address_below
returns-then-not-is_address_below c = search (word_address)

pub returns-then-not-is_formed : goal.returns-then-not-is_formed
returns-then-not-is_formed c = search (word_unformed)

pub returns : goal.returns
returns c = search (word_till)
