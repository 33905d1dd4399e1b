use Rattle.loomconvert.proofs.Converting.{sizes_short, sizes_told}
use Rattle.loomconvert.proofs.is_bench_sized.Goals as goal

pub returns-then-old-lt-LOG_AT : goal.returns-then-old-lt-LOG_AT
returns-then-old-lt-LOG_AT c = search (sizes_short)

pub returns : goal.returns
returns c = search (sizes_told)
