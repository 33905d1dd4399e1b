-- How far the scan has come. Each accepted scan call takes it one slot on, and S + 1 of them to the end of its pass.
use Rattle.std.specs.Prelude.{ℕ, ◌+◌, ◌≤◌, ◌<◌, ◌≡◌, refl}
use Rattle.std.proofs.Common.{arith, eq-eqb, ne_eqb}
use Rattle.checks.specs.declared.Registers.{Registers}
use Rattle.checks.specs.Registers.{scan_target}
use Rattle.reference.specs.Machine.{Reference}

-- its cursor, the epoch that its next calls are to persist, and the epoch that is persisted
pub record Reached : Type 0 where
  pub cursor : ℕ
  pub aim : ℕ
  pub persisted : ℕ

abbrev pub reached : Registers → Reference → Reached
reached r g = record { cursor = r.cursor; aim = scan_target r g.persisted; persisted = g.persisted }

-- outside a pass the aim is the oldest epoch that waits, and inside one the pass's target
pub aim_outside : (r : Registers) (persisted : ℕ) → r.target ≡ 0 → scan_target r persisted ≡ persisted + 1
aim_outside r persisted none = rw (eq-eqb r.target 0 none)

pub aim_inside : (r : Registers) (persisted : ℕ) → 0 < r.target → scan_target r persisted ≡ r.target
aim_inside r persisted some = rw (ne_eqb r.target 0 (omega arith))

-- After n accepted scan calls: n slots on, in a pass that persists no less; or what was to be persisted is.
pub data Onward (n : ℕ) (x y : Reached) : Type 0 where
  farther : y.persisted ≡ x.persisted → y.cursor ≡ x.cursor + n → x.aim ≤ y.aim → Onward n x y
  done : x.aim ≤ y.persisted → Onward n x y

pub onward_none : (x : Reached) → Onward 0 x x
onward_none x = farther refl (omega arith) (omega arith)

pub onward_then : {k n : ℕ} {x y z : Reached} → y.persisted < y.aim → Onward k x y → Onward n y z → Onward (k + n) x z
onward_then ahead (farther p c a) (farther q d b) = farther (omega arith) (omega arith) (omega arith)
onward_then ahead (farther p c a) (done b) = done (omega arith)
onward_then ahead (done a) (farther q d b) = done (omega arith)
onward_then ahead (done a) (done b) = done (omega arith)

-- so the persisted epoch never falls
pub onward_rises : {n : ℕ} {x y : Reached} → x.persisted < x.aim → Onward n x y → x.persisted ≤ y.persisted
onward_rises ahead (farther p c a) = omega arith
onward_rises ahead (done a) = omega arith

-- the cursor has no place for S + 1 of them
pub onward_done : {n : ℕ} {x y : Reached} (slots : ℕ) → y.cursor ≤ slots → slots + 1 ≤ n → Onward n x y → x.aim ≤ y.persisted
onward_done slots within many (farther p c a) = absurd (omega arith)
onward_done slots within many (done a) = a
