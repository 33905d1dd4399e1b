use Rattle.std.proofs.Common.{◌≡◌, ◌++◌, ◌∷◌, []}
use Rattle.std.proofs.lemmas.List.{length_push}
use Rattle.undo.proofs.Restoring.{restore_start, restore_next}
use Rattle.undo.proofs.recovery.restore_in.Goals as goal

pub loop-word-init : goal.loop-word-init
loop-word-init c =
    rw (c.into_iter-word-iterator.ensures.into_iter_gives, c.rev-word-items.ensures.source, c.iter.ensures.rest) (search (restore_start))

pub loop-word-preserved : goal.loop-word-preserved
loop-word-preserved c =
    let taken : c.loop-word.word-iterator.iter.rest.now ≡ c.next.new.self.iter.rest.now ++ c.in-Some.field-0.now ∷ [] = c.in-Some.ensures.steps in
    search (restore_next, length_push)
