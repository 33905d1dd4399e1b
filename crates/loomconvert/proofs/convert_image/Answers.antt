use Rattle.std.proofs.Common.{◌≡◌, ◌/◌, length, ◌∙◌, ap, sym, take_at, arith}
use Rattle.std.proofs.lemmas.Result.{err_from_is_err_and}
use Rattle.std.proofs.lemmas.Grind.{common_steps}
use Rattle.image.specs.Image.{image_of}
use Rattle.loomconvert.specs.Output.{words_text}
use Rattle.loomconvert.proofs.Converting.{long_refused, part_refused, output_whole}
use Rattle.loomconvert.proofs.convert_image.Goals as goal

pub returns-then-image-gt-MOST_BYTES-clause-words :
    goal.returns-then-image-gt-MOST_BYTES-clause-words
returns-then-image-gt-MOST_BYTES-clause-words c = search (long_refused)

pub returns-then-image-ne0-clause-words : goal.returns-then-image-ne0-clause-words
returns-then-image-ne0-clause-words c = search (part_refused)

pub returns-in_err-convert_words-clause-words : goal.returns-in_err-convert_words-clause-words
returns-in_err-convert_words-clause-words c =
    let p = err_from_is_err_and c.from_residual.result c.from_residual.ensures.1 in
    rw (p.1, p.2) (output_whole c.args.image.now c.if-image-ne0.false ∙ ap words_text (sym c.read.ensures) ∙ c.in_err-convert_words.ensures)

pub returns-clause-words : goal.returns-clause-words
returns-clause-words c =
    let whole : length c.convert_words.new.board ≡ length c.args.image.now / 8
    = c.convert_words.auto.board ∙ grind (arith, common_steps) in
    output_whole c.args.image.now c.if-image-ne0.false
    ∙ ap words_text (sym c.read.ensures)
    ∙ c.in_ok-convert_words.ensures
    ∙ ap image_of (sym (take_at c.convert_words.new.board _ (length c.args.image.now / 8) whole))
