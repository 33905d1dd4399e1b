use Rattle.intel_hex.proofs.TextReading.{place_done}
use Rattle.intel_hex.proofs.reading.with_place.Goals as goal

pub returns : goal.returns
returns c = search (place_done)
