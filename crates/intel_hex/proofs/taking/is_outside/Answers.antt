use Rattle.intel_hex.proofs.Importing.{past_odd, past_bank, past_board, past_lines}
use Rattle.intel_hex.proofs.taking.is_outside.Goals as goal

pub returns-then-from-ne0 : goal.returns-then-from-ne0
returns-then-from-ne0 c = search (past_odd)

pub returns-then-from-count-gt-BANK_BYTES : goal.returns-then-from-count-gt-BANK_BYTES
returns-then-from-count-gt-BANK_BYTES c = search (past_bank)

pub returns-then-upper-ge-BANKS : goal.returns-then-upper-ge-BANKS
returns-then-upper-ge-BANKS c = search (past_board)

pub returns : goal.returns
returns c = search (past_lines)
