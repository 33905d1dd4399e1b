-- Request 9/13's bench program: what it writes to standard output, for what stands on standard input.
use Rattle.std.specs.Prelude.{ℕ, ◌+◌, ◌*◌, ◌%◌, cond, List, [], ◌∷◌, ◌++◌, eqb, length}
use Rattle.status.specs.declared.Status.{Status}
use Rattle.status.specs.declared.Status.TheVariants as status
use Rattle.status.specs.Names.{most_letters}
use Rattle.layout.specs.Bytes.{bytes_of_word}
use Rattle.benchboard.specs.Sizes.{bench_board, bench_sized}
use Rattle.text.specs.Text.{line_feed, name_text}
use Rattle.image.specs.Image.{image_of}
use Rattle.layout.specs.ByteWords.{words_of}
use Rattle.convert.specs.Old.{old_shape_in}
use Rattle.convert.specs.Convert.{Conversion, refused, filled, conversion}

-- "of a refusal it writes only the name and a line feed"
unfoldable pub refusal_text : Status → List ℕ
refusal_text s = name_text s ++ (line_feed ∷ [])

abbrev pub conversion_text : Conversion → List ℕ
conversion_text (refused why value) = refusal_text why
conversion_text (filled words) = image_of words

-- "for files of the replay's sizes (anything else is shape)": N ≤ 2,048 and L ≤ 1,024. A board by itself has no slots.
abbrev pub no_slots : ℕ
no_slots = 0

-- of the words of an old board; the second memory has as many
unfoldable pub words_text : List ℕ → List ℕ
words_text old =
    cond (bench_sized (old_shape_in old).lines (old_shape_in old).entries no_slots) (conversion_text (conversion old (length old))) (refusal_text status.Shape)

-- "bytes as in 1/13": most significant byte first
unfoldable pub output : List ℕ → List ℕ
output input = cond (eqb (length input % bytes_of_word) 0) (words_text (words_of input)) (refusal_text status.Shape)

-- the most bytes that are written: of a refusal, and of an image
abbrev pub most_refusal : ℕ
most_refusal = most_letters + 1

abbrev pub most_output : ℕ
most_output = bytes_of_word * bench_board
