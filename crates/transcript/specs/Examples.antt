-- Two lines of the paper's worked replay, as the definitions give them.
use Rattle.std.specs.Prelude.{◌≡◌, refl}
use Rattle.base.specs.Walk.{first_from}
use Rattle.status.specs.Names.{bytes, row_of, name_of}
use Rattle.status.specs.declared.Status.TheVariants as status
use Rattle.replay.specs.declared.Line.{Line}
use Rattle.replay.specs.declared.Reply.TheVariants.{Bad}
use Rattle.text.specs.Text.{decimal_places, decimal_of, numbers_text, name_text}
use Rattle.transcript.specs.Text.{line_text, bad_text, reply_text}

abbrev persisting : Line
persisting = record { status = status.Ok; value = 1; stores = 6; epoch = 3; persisted = 1; length = 1; buffered = 0 }

pub persisting_line : line_text 97 persisting ≡ bytes "a ok 1 6 3 1 1 0\n"
unfolding line_text name_text name_of row_of numbers_text decimal_of decimal_places first_from
persisting_line = refl

pub bad_line : reply_text 120 Bad 12 ≡ bytes "? 12\n"
unfolding reply_text bad_text numbers_text decimal_of decimal_places first_from
bad_line = refl
