-- Bytes of a script, one after the other: the loop's invariant, and a law for each of its needs.
use Rattle.std.proofs.Common.{◌≡◌, ℕ, ◌+◌, ◌<◌, ◌≤◌, Bool, true, false, not, List, [], ◌∷◌, ◌++◌, length, get_or, take, refl, ap, ◌∙◌, append_assoc, add-one, arith, length-append, take-suc}
use mathlib.Core.List.{foldl-append}
use Rattle.base.specs.Walk.{Walked, walk_start, walk_end, walk_found, walk_next}
use Rattle.text.specs.Printing.{same_behind}
use Rattle.transcript.specs.declared.Session.{Session}
use Rattle.transcript.specs.Printing.{longest}
use Rattle.transcript.specs.Session.{machine_of, session_of, Turn, resting, roomy, feed_turn, fed_byte, fed, victim_of, Ready, Turns, Feeds}
use Rattle.transcript.specs.Laws.{still, ready_roomy}

-- ── the loop ──

-- the turn of the first k bytes
abbrev turn_of : Session → (input board work : List ℕ) → ℕ → Turn
turn_of s input board work k = fed (resting (machine_of s board work)) (take k input)

abbrev room_after : Session → (input board work out : List ℕ) → ℕ → Bool
room_after s input board work out k = roomy (s.used + length (turn_of s input board work k).text) (length out)

-- one byte more
turn_next : (s : Session) (input board work : List ℕ) (k : ℕ) → k < length input
    → turn_of s input board work (k + 1) ≡ fed_byte (turn_of s input board work k) (get_or input k 0)
unfolding fed
turn_next s input board work k h =
    rw (add-one, take-suc input k 0 h) (foldl-append fed_byte (resting (machine_of s board work)) (take k input) (get_or input k 0 ∷ []))

-- the first i bytes were read, each where there was room
pub record Feeding (s₀ : Session) (input board₀ work₀ out₀ board work out : List ℕ) (s : Session) (i : ℕ) : Type 0 where
  pub ready : Ready s₀ board₀ work₀ out₀
  pub same_board : length board ≡ length board₀
  pub same_work : length work ≡ length work₀
  pub same_out : length out ≡ length out₀
  pub walked : Walked (room_after s₀ input board₀ work₀ out₀) (length input) i
  pub turns : Turns (length out₀) s₀ out₀ (turn_of s₀ input board₀ work₀ i) board work out s

pub feeding_start : (s : Session) (input board work out : List ℕ) → Ready s board work out → Feeding s input board work out board work out s 0
unfolding fed
feeding_start s input board work out ready =
    record {
      ready = ready;
      same_board = refl;
      same_work = refl;
      same_out = refl;
      walked = walk_start (room_after s input board work out) (length input);
      turns = still s board work out ready (length out) (omega (arith, ready.room)) s (machine_of s board work) refl refl;
    }

module _ (s₀ : Session) (input board₀ work₀ out₀ board work out : List ℕ) (s : Session) (i : ℕ) (f : Feeding s₀ input board₀ work₀ out₀ board work out s i) where
  pub feeding_end : length input ≤ i → Feeds s₀ input board₀ work₀ out₀ board work out (record { session = s; taken = length input })
  unfolding victim_of
  feeding_end h =
      let all : i ≡ length input = omega (arith, f.walked.within, h) in
      rw (← all) (record { taken = walk_end f.walked h; turns = f.turns })

  module _ (t : Bool) (is : t ≡ roomy s.used (length out)) where
    tested : t ≡ room_after s₀ input board₀ work₀ out₀ i
    tested = is ∙ rw (f.turns.session, f.same_out)

    pub feeding_full : i < length input → not t ≡ true → Feeds s₀ input board₀ work₀ out₀ board work out (record { session = s; taken = i })
    unfolding victim_of
    feeding_full g h = record { taken = walk_found f.walked t tested g h; turns = f.turns }

    module _ (h : not t ≡ false) where
      abbrev before : Turn
      before = turn_of s₀ input board₀ work₀ i

      pub feed_ready : Ready s board work out
      feed_ready =
          ready_roomy (length out₀) s₀ s before board₀ work₀ out₀ board work out f.ready.lent.board_length f.ready.lent.work_length
          f.turns f.same_board f.same_work t is h

      module _ (board' work' out' : List ℕ) (s' : Session) (p : Turns (s.used + longest) s out (feed_turn (machine_of s board work) (get_or input i 0)) board' work' out' s') where
        abbrev next : Turn
        next = feed_turn before.machine (get_or input i 0)

        from_before : feed_turn (machine_of s board work) (get_or input i 0) ≡ next
        from_before = rw (f.turns.session, f.turns.board_left, f.turns.work_left)

        followed_by : i < length input → Turns (length out₀) s₀ out₀ (turn_of s₀ input board₀ work₀ (i + 1)) board' work' out' s'
        followed_by g =
            let used : s.used ≡ s₀.used + length before.text = ap (λ (x : Session). x.used) f.turns.session in
            let q : Turns (s.used + longest) s out next board' work' out' s' = rw from_before at p in
            let used' : s'.used ≡ s.used + length next.text = ap (λ (x : Session). x.used) q.session in
            rw (turn_next s₀ input board₀ work₀ i g) (record {
              session = q.session
                  ∙ ap (session_of next.machine) (rw (used, length-append before.text next.text) (omega arith));
              shown = q.shown ∙ ap (λ (x : List ℕ). x ++ next.text) f.turns.shown
                  ∙ append_assoc (take s₀.used out₀) before.text next.text;
              behind = q.behind ∙ same_behind s.used s'.used out out₀ (omega (arith, used')) f.turns.behind;
              board_left = q.board_left;
              work_left = q.work_left;
              kept = record { sized = q.kept.sized; used_most = omega (arith, q.kept.used_most, feed_ready.room, f.same_out) };
            })

        pub feeding_next : i < length input → length board' ≡ length board → length work' ≡ length work → length out' ≡ length out
            → Feeding s₀ input board₀ work₀ out₀ board' work' out' s' (i + 1)
        feeding_next g b w o =
            record {
              ready = f.ready;
              same_board = b ∙ f.same_board;
              same_work = w ∙ f.same_work;
              same_out = o ∙ f.same_out;
              walked = walk_next f.walked t tested g h;
              turns = followed_by g;
            }
