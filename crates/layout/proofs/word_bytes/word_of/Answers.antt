use Rattle.std.proofs.Common.{rules, ◌≡◌, ◌∙◌}
use Rattle.std.specs.List.{fold}
use Rattle.layout.specs.Bytes.{with_byte}
use Rattle.layout.proofs.WordReading.{word_put}
use Rattle.layout.proofs.word_bytes.word_of.Goals as goal

pub returns : goal.returns
returns c =
    let put : c.fold.result ≡ fold with_byte 0 c.args.bytes.now = search rules in
    put ∙ word_put c.args.bytes.now c.fits-bytes c.told-bytes
