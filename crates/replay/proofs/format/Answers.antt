use Rattle.replay.specs.Laws.{format_again, format_large, sizes_good, format_starts}
use Rattle.replay.proofs.format.Goals as goal

pub returns-then-is_some : goal.returns-then-is_some
returns-then-is_some c = search (format_again)

pub returns-then-not-is_bench_sized : goal.returns-then-not-is_bench_sized
returns-then-not-is_bench_sized c = search (format_large)

pub start-requires : goal.start-requires
start-requires c = search (sizes_good)

pub returns : goal.returns
returns c = search (format_starts)
