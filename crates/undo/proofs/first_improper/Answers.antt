use Rattle.std.proofs.Common.{◌≡◌, ◌-◌, length, None, Some}
use Rattle.std.specs.List.{slice_get}
use Rattle.undo.proofs.Reading.{search_early, search_none, search_late, both_fit}
use Rattle.undo.proofs.first_improper.Goals as goal

pub returns-then-found-older : goal.returns-then-found-older
returns-then-found-older c = search (search_early)

pub overflow_add-result : goal.overflow_add-result
overflow_add-result c = search (both_fit)

pub returns-in-None : goal.returns-in-None
returns-in-None c =
    let none : None ≡ slice_get c.stretches.result.0.now (length c.stretches.result.0.now - 1) = c.in-None.ensures.value in
    search (search_none)

pub returns-in-Some : goal.returns-in-Some
returns-in-Some c =
    let some : Some c.in-Some.field-0.now ≡ slice_get c.stretches.result.0.now (length c.stretches.result.0.now - 1) = c.in-Some.ensures.value in
    search (search_late)
