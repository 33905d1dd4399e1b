-- A call makes its check in stages: what the answer of one stage tells of the whole check, and what it gives the next stage. The premises
-- are what the code knows there.
use Rattle.std.specs.Prelude.{Result, Ok, Err, IsErrAnd, MatchResult, ◌≡◌, ℕ, ◌+◌, ◌-◌, ◌<◌, ◌≤◌, Bool, true, false, cond, List, ◌++◌, refl}
use Rattle.std.proofs.Common.{sym, ap, ◌∙◌, arith}
use Rattle.layout.specs.Laws.{control_laws}
use Rattle.layout.specs.Limits.{last_epoch}
use Rattle.layout.specs.Words.{ControlFits, encode_slot}
use Rattle.status.specs.declared.Status.TheVariants as status
use Rattle.slots.specs.declared.Spot.{Spot}
use Rattle.slots.specs.declared.sets.Site.{Site}
use Rattle.slots.specs.declared.sets.Site.TheVariants.{Held, Free}
use Rattle.slots.specs.Promises.{BoundsReady, SpotReady, TagsReady}
use Rattle.slots.specs.Laws.{spot_below}
use Rattle.slots.specs.Passes.{bounds_by, site_of, site_for}
use Rattle.slots.specs.Sets.{places_of, proper_set, spot_of}
use Rattle.slots.specs.Sited.{bounds_by_holds, tags_ready, site_improper, site_proper, spot_set, spot_words}
use Rattle.slots.specs.Slots.{dirty_slot}
use Rattle.checks.specs.declared.Refusal.{Refusal}
use Rattle.checks.specs.declared.Registers.{Registers}
use Rattle.checks.specs.declared.Line.{Line}
use Rattle.checks.specs.declared.View.{View}
use Rattle.checks.specs.View.{view_of, bounds_of}
use Rattle.checks.specs.Refusals.{Checked, unvalued, Row, tested, then, line_rows, buffer_rows, room_rows}
use Rattle.checks.specs.Refusals.{memories_checked, running_checked, ready_checked, named_checked, line_checked, store_checked}
use Rattle.checks.specs.Promises.{Running, RowsReady, CountReady, set_checked, count_rows, Sited, Roomy}
use Rattle.checks.specs.Laws.{passed_view, then_passed, memories_shaped, running, ready_running, named_running, named_inside, line_running, differ}

-- a check that is known by what a function has answered
module _ (whole k : Checked) (is : k ≡ whole) where
  pub told_refused : (why : Refusal) → k ≡ Err why → Err why ≡ whole
  told_refused why e = sym e ∙ is

  pub told_passed : (v : View) → k ≡ Ok v → Ok v ≡ whole
  told_passed v e = sym e ∙ is

-- what `?` hands on is what the check before it has refused
pub handed_as : {T U : Type 0} (P : T → Type 0) (Q : U → Type 0) (k : Result T U) (why : U) → IsErrAnd k (λ x. x ≡ why) → Q why → MatchResult k P Q
handed_as P Q (Ok v) why same q = absurd same
handed_as P Q (Err x) why same q = rw same q

pub handed : (whole k : Checked) (why : Refusal) → IsErrAnd k (λ x. x ≡ why) → Err why ≡ whole → k ≡ whole
handed whole (Ok v) why same e = absurd same
handed whole (Err x) why same e = rw same e

-- a spot, told as a site
pub spot_again : (spot : Spot) → set_checked (site_of spot) ≡ Ok spot
spot_again spot = go spot.held
  where
    go : (t : Bool) → set_checked (cond t (Held spot.slot) (Free spot.slot)) ≡ Ok (record { slot = spot.slot; held = t })
    go true = refl
    go false = refl

-- rows behind a check that passed
module _ (before : Checked) (rows : View → List Row) (v : View) (passed : Ok v ≡ before) (k : Checked) (is : k ≡ tested (rows v) v) where
  pub staged : k ≡ then before rows
  staged = is ∙ sym (then_passed before rows v passed)

-- what passes is the view that was tested
pub staged_passed : (before : Checked) (rows : View → List Row) (v w : View) → Ok v ≡ before → Ok w ≡ tested (rows v) v → Ok v ≡ then before rows
staged_passed before rows v w passed is =
    rw (passed_view (rows v) v w is) at (staged before rows v passed (Ok w) is)

ready_of : (board work : List ℕ) (r : Registers) (v : View) → Running board work r v → RowsReady work r v
ready_of board work r v h =
    record {
      sizes = h.shaped.good.sizes;
      sets = h.shaped.sets;
      work_words_holds = h.shaped.work_words_holds;
      proper = h.proper;
    }

pub running_rows : (board work : List ℕ) (r : Registers) (v : View) → Ok v ≡ running_checked board work r → RowsReady work r v
running_rows board work r v passed = ready_of board work r v (running board work r v passed)

-- what a check that passed tells the next stage
pub memories_fits : (board work : List ℕ) (v : View) → Ok v ≡ memories_checked board work → ControlFits v.control
unfolding view_of
memories_fits board work v passed = rw (memories_shaped board work v passed).is (control_laws.decoded_fits _)

module _ (board work : List ℕ) (r : Registers) (v : View) (passed : Ok v ≡ ready_checked board work r) where
  pub ready_ahead : v.control.persisted < r.epoch
  ready_ahead = (ready_running board work r v passed).proper.ahead

  pub ready_last : r.epoch ≤ last_epoch
  ready_last = (ready_running board work r v passed).proper.epoch_most

-- the pass over the set of an address: what it is told, and that what it has found is what the rows ask
module _ (board work : List ℕ) (r : Registers) (address : ℕ) (v : View) (passed : Ok v ≡ named_checked board work r address) where
  named : Running board work r v
  named = named_running board work r address v passed

  pub named_ready : RowsReady work r v
  named_ready = ready_of board work r v named

  pub named_persisted : v.control.persisted < last_epoch
  named_persisted = named.shaped.good.control.persisted

  pub named_ahead : v.control.persisted < r.epoch
  named_ahead = named.proper.ahead

  pub named_spot : SpotReady work v.slots address
  named_spot =
      record {
        sets = named.shaped.sets;
        words = omega (arith, named.shaped.work_words_holds);
        fits = omega (arith, named.shaped.good.sizes.lines_most, named_inside board work r address v passed);
      }

  module _ (least tags : ℕ) (first : least ≡ encode_slot (dirty_slot 0 (v.control.persisted + 1))) (many : tags ≡ r.epoch - v.control.persisted) where
    bounds : BoundsReady (bounds_of v r)
    bounds = record { sets = named.shaped.sets; ahead = named.proper.ahead; last = named.proper.epoch_most }

    pub named_tags : TagsReady least tags
    named_tags = tags_ready (bounds_of v r) least tags bounds first many

    module _ (site : Site) (found : site ≡ site_for (bounds_by v.slots v.shape.lines least tags) work address) where
      here : site ≡ site_for (bounds_of v r) work address
      here = rw (bounds_by_holds (bounds_of v r) least tags bounds first many) at found

      abbrev proper : Bool
      proper = proper_set (bounds_of v r) work (places_of v.slots address)

      -- 6
      refused : proper ≡ false → set_checked site ≡ Err (unvalued status.Slot)
      refused e = ap set_checked (here ∙ site_improper (bounds_of v r) work address e)

      placed : proper ≡ true → set_checked site ≡ Ok (spot_of work v.slots address)
      placed e = ap set_checked (here ∙ site_proper (bounds_of v r) work address e) ∙ spot_again (spot_of work v.slots address)

      pub set_refused : (why : Refusal) → Err why ≡ set_checked site → Err why ≡ line_checked board work r address
      unfolding line_checked
      set_refused why is =
          staged (named_checked board work r address) (λ w. line_rows w work r address) v passed (Err why) (go proper refl)
        where
          go : (t : Bool) → proper ≡ t → Err why ≡ tested (line_rows v work r address) v
          go true e = let both : Err why ≡ Ok (spot_of work v.slots address) = is ∙ placed e in absurd (differ cc)
          go false e =
              let both : ◌≡◌ {A = Result Spot Refusal} (Err why) (Err (unvalued status.Slot)) = is ∙ refused e in
              let same : why ≡ unvalued status.Slot = cc in
              rw (e, same)

      module _ (spot : Spot) (is : Ok spot ≡ set_checked site) where
        sound : proper ≡ true
        sound = go proper refl
          where
            go : (t : Bool) → proper ≡ t → proper ≡ true
            go true e = e
            go false e = let both : Ok spot ≡ Err (unvalued status.Slot) = is ∙ refused e in absurd (differ cc)

        whole : spot ≡ spot_of work v.slots address
        whole = let same : Ok spot ≡ Ok (spot_of work v.slots address) = is ∙ placed sound in cc

        pub count_ready : CountReady work v spot
        count_ready =
            record {
              some = omega (arith, named.shaped.sets.some);
              words = rw whole (spot_words work v.slots address named.shaped.sets.some (omega (arith, named.shaped.work_words_holds)));
            }

        -- the count, 7 and 14
        abbrev spot_rest : Checked
        spot_rest = tested (count_rows v work r spot ++ buffer_rows v work r) v

        spot_tested : spot_rest ≡ tested (line_rows v work r address) v
        spot_tested = rw (sound, whole, spot_set work v.slots address named.shaped.sets.some)

        pub line_staged : (k : Checked) → k ≡ spot_rest → k ≡ line_checked board work r address
        unfolding line_checked
        line_staged k e = staged (named_checked board work r address) (λ w. line_rows w work r address) v passed k (e ∙ spot_tested)

        -- and where the line is held or put
        pub line_sited : (w : View) (l : Line) → Ok w ≡ spot_rest → l.view ≡ v → l.spot ≡ spot → Sited board work r address l
        unfolding line_checked
        line_sited w l all e at =
            record {
              passed = rw e (staged_passed (named_checked board work r address) (λ w. line_rows w work r address) v w passed (all ∙ spot_tested));
              at = rw e (at ∙ whole);
            }

-- 8 of store, behind the rows of load
module _ (board work : List ℕ) (r : Registers) (address : ℕ) (l : Line) (s : Sited board work r address l) where
  pub line_ready : RowsReady work r l.view
  line_ready = ready_of board work r l.view (line_running board work r address l.view s.passed)

  pub line_below : l.spot.slot < l.view.slots
  line_below = rw s.at (spot_below work l.view.slots address line_ready.sets.some)

  abbrev room : View → List Row
  room w = room_rows w work r (spot_of work w.slots address)

  pub room_staged : (k : Checked) → k ≡ tested (room_rows l.view work r l.spot) l.view → k ≡ store_checked board work r address
  unfolding store_checked
  room_staged k is = staged (line_checked board work r address) room l.view s.passed k (rw s.at at is)

  pub room_passed : (w : View) → Ok w ≡ tested (room_rows l.view work r l.spot) l.view → Roomy board work r address l
  unfolding store_checked
  room_passed w is = record { passed = staged_passed (line_checked board work r address) room l.view w s.passed (rw s.at at is); at = s.at }
