-- "The registers go in by value and come back by value: s, b (entries buffered), c (scan cursor)", of request 5/13 "the count of dirty
-- slots", and of 8/13 "The registers gain the target, 0 outside a pass". Every other definition makes registers by one of these.
use Rattle.std.specs.Prelude.{ℕ, ◌+◌, ◌-◌, Bool, cond, ◌==◌}
use Rattle.layout.specs.Words.{bit}
use Rattle.undo.specs.declared.LogState.{LogState}
use Rattle.checks.specs.declared.Registers.{Registers}

abbrev pub all_zero : Registers
all_zero = record { epoch = 0; buffered = 0; cursor = 0; dirty = 0; target = 0 }

-- as a caller hands them in: any words
abbrev pub given : (epoch buffered cursor dirty target : ℕ) → Registers
given epoch buffered cursor dirty target =
    record { epoch = epoch; buffered = buffered; cursor = cursor; dirty = dirty; target = target }

-- "s = P + 1, b = 0, c = 0", beside a work memory all zero, and outside a pass
abbrev pub restarted : (persisted : ℕ) → Registers
restarted persisted = record { epoch = persisted + 1; buffered = 0; cursor = 0; dirty = 0; target = 0 }

-- "s becomes s + 1"
abbrev pub committed : Registers → Registers
committed r = record { epoch = r.epoch + 1; buffered = r.buffered; cursor = r.cursor; dirty = r.dirty; target = r.target }

-- "A scan call outside a pass begins one with P + 1": the target that it then has; inside one, that of the pass
abbrev pub scan_target : Registers → (persisted : ℕ) → ℕ
scan_target r persisted = cond (r.target == 0) (persisted + 1) r.target

-- in a pass with this target; "it visits no slot"
abbrev pub begun : Registers → (target : ℕ) → Registers
begun r target = record { epoch = r.epoch; buffered = r.buffered; cursor = r.cursor; dirty = r.dirty; target = target }

-- "c rises by one"
abbrev pub stepped : Registers → Registers
stepped r = record { epoch = r.epoch; buffered = r.buffered; cursor = r.cursor + 1; dirty = r.dirty; target = r.target }

-- "c = 0", and outside a pass
abbrev pub ended : Registers → Registers
ended r = record { epoch = r.epoch; buffered = r.buffered; cursor = 0; dirty = r.dirty; target = 0 }

-- "Keep the count of dirty slots": a step found its slot dirty or not, and leaves it dirty or not
abbrev pub recounted : Registers → (was is : Bool) → Registers
recounted r was is =
    record { epoch = r.epoch; buffered = r.buffered; cursor = r.cursor; dirty = r.dirty - bit was + bit is; target = r.target }

-- with what the steps of a call have left: the entries that are still buffered
abbrev pub leaving : Registers → LogState → Registers
leaving r u = record { epoch = r.epoch; buffered = u.buffered; cursor = r.cursor; dirty = r.dirty; target = r.target }
