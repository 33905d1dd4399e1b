-- The invariant of a run: a controller at work on its board, or a board with the current off and registers that every
-- call but a power-up refuses.
use Rattle.std.specs.Prelude.{ℕ, ◌<◌, ◌≡◌, true, List, length, replicate}
use Rattle.std.proofs.Common.{sym, ap, subst, ◌∙◌, arith}
use Rattle.std.proofs.lemmas.List.{length-replicate}
use Rattle.layout.specs.declared.Shape.{Shape}
use Rattle.layout.specs.declared.Control.{Control}
use Rattle.layout.specs.Limits.{buffer_places}
use Rattle.layout.specs.Memory.{slots_of, work_words, shape_in, control_in}
use Rattle.undo.specs.declared.LogState.{LogState}
use Rattle.slots.specs.declared.Bounds.{Bounds}
use Rattle.slots.specs.Slots.{dirty_slots}
use Rattle.checks.specs.declared.Registers.{Registers}
use Rattle.checks.specs.Registers.{all_zero}
use Rattle.checks.specs.View.{view_of, good_work, bounds_of, undo_of}
use Rattle.reference.specs.Machine.{Reference}
use Rattle.durable.specs.Reads.{reads_persisted}
use Rattle.refine.specs.Pass.{Sweep}
use Rattle.refine.specs.State.{Off, Ok}
use Rattle.refine.specs.Flush.{ok_off}
use Rattle.crash.specs.Statement.{Machine, dirty_in}

-- where the registers say that the pass is
abbrev pub sweep_of : Registers → Sweep
sweep_of r = record { cursor = r.cursor; target = r.target }

pub record Up (N L : ℕ) (m : Machine) (g : Reference) : Type 0 where
  pub lines : (shape_in m.board).lines ≡ N
  pub ok :
      Ok L (bounds_of (view_of m.board m.work) m.registers) (sweep_of m.registers) m.board m.work
      (undo_of (view_of m.board m.work) m.registers) g
  pub few : m.registers.buffered < buffer_places
  -- request 5/13
  pub counted : m.registers.dirty ≡ dirty_in m.work

-- a work memory with the current off: all zero, unless it is of a length that every call refuses
abbrev pub Emptied : List ℕ → Type 0
Emptied work = good_work (length work) ≡ true → work ≡ replicate (length work) 0

pub emptied_zeros : (words : ℕ) → Emptied (replicate words 0)
emptied_zeros words good = rw (length-replicate {A = ℕ} words 0)

pub record Down (N L : ℕ) (m : Machine) (g : Reference) : Type 0 where
  pub off : Off N L m.board g
  pub registers : m.registers ≡ all_zero
  pub emptied : Emptied m.work
  pub ended : g.persisted < g.running

pub data Holds (N L : ℕ) (m : Machine) (g : Reference) : Type 0 where
  is_up : Up N L m g → Holds N L m g
  is_down : Down N L m g → Holds N L m g

slots_same : (slots words : ℕ) → words ≡ work_words slots → slots ≡ slots_of words
slots_same slots words e = omega arith

-- a controller at work, by the words that it has
pub up_of : {L : ℕ} {b : Bounds} {at : Sweep} {board work : List ℕ} {u : LogState} {g : Reference} → Ok L b at board work u g → (r : Registers)
    → r.epoch ≡ b.epoch → r.buffered ≡ u.buffered → sweep_of r ≡ at → u.buffered < buffer_places → r.dirty ≡ dirty_slots work b.slots
    → Up b.lines L (record { board = board; work = work; registers = r }) g
unfolding view_of
up_of {L} {b} {at} {board} {work} {u} {g} o r e n k few count =
    let shape = o.reads.sized.shape in
    let lines : b.lines ≡ (shape_in board).lines = sym (ap (λ (s : Shape). s.lines) shape) in
    let entries : u.entries ≡ (shape_in board).entries = o.ring ∙ sym (ap (λ (s : Shape). s.entries) shape) in
    let control : u.control ≡ control_in board = sym o.reads.control in
    let persisted : b.persisted ≡ (control_in board).persisted =
    o.persisted ∙ sym (reads_persisted o.reads) ∙ ap (λ (x : Control). x.persisted) control in
    let slots : b.slots ≡ slots_of (length work) = slots_same b.slots (length work) o.slotted.words in
    let bounds : b ≡ bounds_of (view_of board work) r =
    λ i. record { lines = lines i; slots = slots i; persisted = persisted i; epoch = sym e i } in
    let numbers : u ≡ undo_of (view_of board work) r = λ i. record { control = control i; entries = entries i; buffered = sym n i } in
    record {
      lines = sym lines;
      ok =
          subst (λ (x : LogState). Ok L (bounds_of (view_of board work) r) (sweep_of r) board work x g) numbers
          (subst (λ (x : Sweep). Ok L (bounds_of (view_of board work) r) x board work u g) (sym k)
          (subst (λ (x : Bounds). Ok L x at board work u g) bounds o));
      few = omega (arith, n);
      counted = rw slots at count;
    }

pub holds_off : {N L : ℕ} {m : Machine} {g : Reference} → Holds N L m g → Off N L m.board g
unfolding view_of
holds_off {N} {L} {m} {g} (is_up x) = subst (λ (n : ℕ). Off n L m.board g) x.lines (ok_off x.ok)
holds_off (is_down x) = x.off

-- epoch p has ended
pub holds_ended : {N L : ℕ} {m : Machine} {g : Reference} → Holds N L m g → g.persisted < g.running
holds_ended (is_up x) =
    let past = x.ok.live.history in
    omega (arith, past.clock, past.ahead, x.ok.safe.named)
holds_ended (is_down x) = x.ended
