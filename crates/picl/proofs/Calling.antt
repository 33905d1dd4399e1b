-- The calls: one law for each way out of a function.
use Rattle.std.specs.Prelude.{Ok, Err}
use Prim.Native.Nat.{ℕ, ◌+◌, ◌*◌, ◌<◌, ◌≤◌}
use mathlib.Core.Path.{◌≡◌, refl, ap}
use mathlib.Core.Bool.{Bool}
use mathlib.Core.List.{List}
use borrow.Author.Tests.{lt-ltb, le-ltb}
use lib.ListN.{length, get_or}
use Rattle.board.specs.declared.Meter.{Meter}
use Rattle.board.specs.Stores.{full}
use Rattle.layout.specs.Limits.{last_epoch}
use Rattle.layout.specs.Memory.{data_in}
use Rattle.layout.specs.Words.{bit, IsBit}
use Rattle.status.specs.declared.Status.TheVariants as status
use Rattle.undo.specs.declared.LogState.{LogState}
use Rattle.undo.specs.declared.Progress.{Progress}
use Rattle.slots.specs.declared.Spot.{Spot}
use Rattle.steps.specs.Effects.{Effect, loading, storing, evicting, visiting, persisting}
use Rattle.steps.specs.Promises.{Acts, Carries}
use Rattle.slots.specs.Sets.{spot_of}
use Rattle.slots.specs.Slots.{dirty_at}
use Rattle.checks.specs.declared.Refusal.{Refusal}
use Rattle.checks.specs.declared.Registers.{Registers}
use Rattle.checks.specs.declared.Line.{Line}
use Rattle.checks.specs.declared.View.{View}
use Rattle.checks.specs.Promises.{Sited, Roomy}
use Rattle.checks.specs.Laws.{commit_running}
use Rattle.checks.specs.Refusals.{Checked, line_checked, store_checked, commit_checked, begin_checked, scan_checked}
use Rattle.checks.specs.Registers.{leaving, committed, begun, stepped, ended, recounted, scan_target}
use Rattle.checks.specs.View.{undo_of}
use Rattle.picl.specs.declared.Answer.{Answer}
use Rattle.picl.specs.Answers.{Outcome, answer, refusal}
use Rattle.board.specs.Verdict.{due}
use Rattle.picl.specs.Calls.{unstored, verdict_of, load_at, load_outcome, store_at, store_outcome, evict_at, evict_outcome}
use Rattle.picl.specs.Calls.{judged, carried, carried_at, scan_at, scan_outcome}
use Rattle.picl.specs.Promises.{Answers, Finishes, FinishReady, Found}
use Rattle.picl.proofs.Finishing.{answers_refused, answers_nothing, acted, carries_within, carries_ready, acts_ready, carries_answers}
use Rattle.picl.proofs.Passing.{line_found, evict_ready, store_sited, scan_told, visit_found, visit_ready}
use Rattle.picl.specs.Calls as calls

-- a call's verdict, once its check has come to a result
module _ (allowance : ℕ) (board work : List ℕ) (r : Registers) (k : Checked) (outcome : View → Outcome) where
  pub judged_refused : (why : Refusal) (a : Answer) → Err why ≡ k → a ≡ refusal why.status why.value r
      → Answers allowance r board work (judged k outcome) board work a
  judged_refused why a e x = rw (← e) (answers_refused allowance r board work why.status why.value a x)

  pub judged_passed : (v : View) (board' work' : List ℕ) (a : Answer) → Ok v ≡ k
      → Answers allowance r board work (due (outcome v)) board' work' a → Answers allowance r board work (judged k outcome) board' work' a
  judged_passed v board' work' a e x = rw (← e) x

-- what is counted is the slot as the effect leaves it
counted : (r : Registers) (work work' left : List ℕ) (k : ℕ) (was : Bool) → Found work r k was → work' ≡ left
    → recounted r was (dirty_at work' k) ≡ recounted r (dirty_at work k) (dirty_at left k)
counted r work work' left k was found x = rw (found.is, x)

-- load
pub load_done : (allowance : ℕ) (board work : List ℕ) (r : Registers) (u : LogState) (address : ℕ) (spot : Spot) (m : Meter) (p : Progress)
    (board' work' work'' : List ℕ) (was : Bool) (a : Answer) → m ≡ full allowance
    → Carries board m (loading board u work address spot) board' work' p → length work' ≡ length work → Found work r spot.slot was
    → Finishes work' p.meter allowance (get_or work' (2 * spot.slot + 1) 0)
    (leaving (recounted r was (dirty_at work' spot.slot)) p.undo) work'' a
    → Answers allowance r board work (due (load_at board work r u address spot)) board' work'' a
unfolding load_at
load_done allowance board work r u address spot m p board' work' work'' was a new c l found f =
    let e = loading board u work address spot in
    carries_answers allowance r board work e m p board' work' work'' (data_in e.work spot.slot) _ _
    (get_or work' (2 * spot.slot + 1) 0) a new c l (λ x. ap (λ (w : List ℕ). get_or w (2 * spot.slot + 1) 0) x)
    (counted r work work' e.work spot.slot was found) f

pub load_found : (allowance : ℕ) (board work : List ℕ) (r : Registers) (address : ℕ) (v : View) (spot : Spot) (u : LogState) (board' work' : List ℕ)
    (a : Answer) → spot ≡ spot_of work v.slots address → u ≡ undo_of v r
    → Answers allowance r board work (due (load_at board work r u address spot)) board' work' a
    → Answers allowance r board work (due (load_outcome board work r address v)) board' work' a
unfolding load_outcome
load_found allowance board work r address v spot u board' work' a at is x = rw (at, is) at x

-- evict
pub evict_done : (allowance : ℕ) (board work : List ℕ) (r : Registers) (u : LogState) (spot : Spot) (m : Meter) (p : Progress)
    (board' work' work'' : List ℕ) (was : Bool) (held : ℕ) (a : Answer) → m ≡ full allowance
    → Acts board m (evicting u work spot) board' work' p → length work' ≡ length work → Found work r spot.slot was
    → IsBit spot.held held
    → Finishes work' p.meter allowance held (leaving (recounted r was (dirty_at work' spot.slot)) p.undo) work'' a
    → Answers allowance r board work (due (evict_at work r u spot)) board' work'' a
unfolding evict_at
evict_done allowance board work r u spot m p board' work' work'' was held a new c l found b f =
    let e = evicting u work spot in
    carries_answers allowance r board work e m p board' work' work'' (bit spot.held) _ _ held a new (acted c) l
    (λ x. b.is) (counted r work work' e.work spot.slot was found) f

pub evict_found : (allowance : ℕ) (board work : List ℕ) (r : Registers) (address : ℕ) (v : View) (spot : Spot) (u : LogState) (board' work' : List ℕ)
    (a : Answer) → spot ≡ spot_of work v.slots address → u ≡ undo_of v r
    → Answers allowance r board work (due (evict_at work r u spot)) board' work' a
    → Answers allowance r board work (due (evict_outcome work r address v)) board' work' a
unfolding evict_outcome
evict_found allowance board work r address v spot u board' work' a at is x = rw (at, is) at x

-- store
pub store_done : (allowance : ℕ) (board work : List ℕ) (r : Registers) (u : LogState) (address : ℕ) (spot : Spot) (value : ℕ) (m : Meter) (p : Progress)
    (board' work' work'' : List ℕ) (was : Bool) (a : Answer) → m ≡ full allowance
    → Carries board m (storing board u work address spot r.epoch value) board' work' p → length work' ≡ length work
    → Found work r spot.slot was
    → Finishes work' p.meter allowance 0 (leaving (recounted r was (dirty_at work' spot.slot)) p.undo) work'' a
    → Answers allowance r board work (due (store_at board work r u address spot value)) board' work'' a
unfolding store_at
store_done allowance board work r u address spot value m p board' work' work'' was a new c l found f =
    let e = storing board u work address spot r.epoch value in
    carries_answers allowance r board work e m p board' work' work'' 0 _ _ 0 a new c l
    (λ x. refl) (counted r work work' e.work spot.slot was found) f

pub store_found : (allowance : ℕ) (board work : List ℕ) (r : Registers) (address value : ℕ) (v : View) (spot : Spot) (u : LogState)
    (board' work' : List ℕ) (a : Answer) → spot ≡ spot_of work v.slots address → u ≡ undo_of v r
    → Answers allowance r board work (due (store_at board work r u address spot value)) board' work' a
    → Answers allowance r board work (due (store_outcome board work r address value v)) board' work' a
unfolding store_outcome
store_found allowance board work r address value v spot u board' work' a at is x = rw (at, is) at x

-- commit
module _ (board work : List ℕ) (r : Registers) (v : View) (passed : Ok v ≡ commit_checked board work r) where
  pub commit_within : r.epoch ≤ last_epoch
  commit_within = (commit_running board work r v passed).proper.epoch_most

  pub commit_answered : (allowance : ℕ) (after : Registers) (a : Answer) → after ≡ committed r → a ≡ answer status.Ok 0 0 after
      → Answers allowance r board work (verdict_of board work r calls.commit) board work a
  commit_answered allowance after a e x =
      judged_passed allowance board work r (commit_checked board work r) (λ u. unstored 0 (committed r) work) v board work a
      passed (answers_nothing allowance r board work (committed r) a (rw e at x))

-- begin
pub begin_answered : (allowance : ℕ) (board work : List ℕ) (r : Registers) (target : ℕ) (v : View) (after : Registers) (a : Answer)
    → Ok v ≡ begin_checked board work r target → after ≡ begun r target → a ≡ answer status.Ok 0 0 after
    → Answers allowance r board work (verdict_of board work r (calls.begin target)) board work a
begin_answered allowance board work r target v after a passed e x =
    judged_passed allowance board work r (begin_checked board work r target) (λ u. unstored 0 (begun r target) work) v board work a
    passed (answers_nothing allowance r board work (begun r target) a (rw e at x))

-- scan
module _ (allowance : ℕ) (board work : List ℕ) (r next : Registers) (u : LogState) (target : ℕ) (m : Meter) (p : Progress)
    (board' work' work'' : List ℕ) (a : Answer) (new : m ≡ full allowance) (same : length work' ≡ length work) where
  pub visit_done : (k : ℕ) (was : Bool) → Acts board m (visiting u work k target) board' work' p → Found work next k was
      → Finishes work' p.meter allowance 0 (leaving (recounted next was (dirty_at work' k)) p.undo) work'' a
      → Answers allowance r board work (due (carried_at 0 next work k (visiting u work k target))) board' work'' a
  visit_done k was c found f =
      let e = visiting u work k target in
      carries_answers allowance r board work e m p board' work' work'' 0 _ _ 0 a new (acted c) same (λ x. refl)
      (counted next work work' e.work k was found) f

  pub persist_done : (after : Registers) → Carries board m (persisting board u work target) board' work' p → after ≡ leaving next p.undo
      → Finishes work' p.meter allowance target after work'' a
      → Answers allowance r board work (due (carried target next (persisting board u work target))) board' work'' a
  persist_done after c q f =
      carries_answers allowance r board work (persisting board u work target) m p board' work' work'' target next next target a new c same
      (λ x. refl) (λ x. refl) (rw q at f)

module _ (allowance : ℕ) (board work : List ℕ) (r next : Registers) (v : View) (target : ℕ) (board' work' : List ℕ) (a : Answer) where
  module _ (u : LogState) (is : u ≡ undo_of v r) where
    pub scan_visits : (in_pass : Registers) → r.cursor < v.slots → in_pass ≡ begun r target → next ≡ stepped in_pass
        → Answers allowance r board work (due (carried_at 0 next work r.cursor (visiting u work r.cursor target))) board' work' a
        → Answers allowance r board work (due (scan_at board work r v target)) board' work' a
    unfolding scan_at
    scan_visits in_pass h b n x = rw (lt-ltb r.cursor v.slots h) (rw (n, b, is) at x)

    pub scan_persists : v.slots ≤ r.cursor → next ≡ ended r
        → Answers allowance r board work (due (carried target next (persisting board u work target))) board' work' a
        → Answers allowance r board work (due (scan_at board work r v target)) board' work' a
    unfolding scan_at
    scan_persists h n x = rw (le-ltb r.cursor v.slots h) (rw (n, is) at x)

  pub scan_aimed : target ≡ scan_target r v.control.persisted
      → Answers allowance r board work (due (scan_at board work r v target)) board' work' a
      → Answers allowance r board work (due (scan_outcome board work r v)) board' work' a
  unfolding scan_outcome
  scan_aimed e x = rw e at x

-- ---- whole calls

-- what a call comes to that names a line, once its step is done under a new meter
module _ (allowance : ℕ) (board work : List ℕ) (r : Registers) (address : ℕ) (l : Line) (u : LogState) (is : u ≡ undo_of l.view r) (m : Meter)
    (new : m ≡ full allowance) (p : Progress) (board' work' : List ℕ) (same : length work' ≡ length work) (was : Bool)
    (told : was ≡ dirty_at work l.spot.slot) where
  module _ (s : Sited board work r address l) where
    found : Found work r l.spot.slot was
    found = line_found board work r address l s was told

    pub line_carried : (e : Effect) → Carries board m e board' work' p → FinishReady work' l.spot.slot was p allowance r
    line_carried e =
        carries_ready allowance board board' work' e m p new work l.spot.slot r was same (evict_ready board work r address l s u is).within found

    pub line_acted : (e : Effect) → Acts board m e board' work' p → FinishReady work' l.spot.slot was p allowance r
    line_acted e c = line_carried e (acted c)

    module _ (work'' : List ℕ) (a : Answer) where
      pub load_answered : Carries board m (loading board u work address l.spot) board' work' p
          → Finishes work' p.meter allowance (get_or work' (2 * l.spot.slot + 1) 0)
          (leaving (recounted r was (dirty_at work' l.spot.slot)) p.undo) work'' a
          → Answers allowance r board work (verdict_of board work r (calls.load address)) board' work'' a
      load_answered c f =
          judged_passed allowance board work r (line_checked board work r address) (load_outcome board work r address) l.view board' work'' a s.passed
          (load_found allowance board work r address l.view l.spot u board' work'' a s.at is
          (load_done allowance board work r u address l.spot m p board' work' work'' was a new c same found f))

      pub evict_answered : (held : ℕ) → Acts board m (evicting u work l.spot) board' work' p → IsBit l.spot.held held
          → Finishes work' p.meter allowance held (leaving (recounted r was (dirty_at work' l.spot.slot)) p.undo) work'' a
          → Answers allowance r board work (verdict_of board work r (calls.evict address)) board' work'' a
      evict_answered held c b f =
          judged_passed allowance board work r (line_checked board work r address) (evict_outcome work r address) l.view board' work'' a s.passed
          (evict_found allowance board work r address l.view l.spot u board' work'' a s.at is
          (evict_done allowance board work r u l.spot m p board' work' work'' was held a new c same found b f))

  module _ (s : Roomy board work r address l) where
    sited : Sited board work r address l
    sited = store_sited board work r address l s

    pub store_carried : (e : Effect) → Carries board m e board' work' p → FinishReady work' l.spot.slot was p allowance r
    store_carried = line_carried sited

    pub store_answered : (value : ℕ) (work'' : List ℕ) (a : Answer)
        → Carries board m (storing board u work address l.spot r.epoch value) board' work' p
        → Finishes work' p.meter allowance 0 (leaving (recounted r was (dirty_at work' l.spot.slot)) p.undo) work'' a
        → Answers allowance r board work (verdict_of board work r (calls.store address value)) board' work'' a
    store_answered value work'' a c f =
        judged_passed allowance board work r (store_checked board work r address) (store_outcome board work r address value) l.view board' work'' a
        s.passed
        (store_found allowance board work r address value l.view l.spot u board' work'' a s.at is
        (store_done allowance board work r u address l.spot value m p board' work' work'' was a new c same (found sited) f))

-- scan
module _ (allowance : ℕ) (board work : List ℕ) (r : Registers) (v : View) (passed : Ok v ≡ scan_checked board work r) (target : ℕ)
    (aim : target ≡ scan_target r v.control.persisted) (u : LogState) (is : u ≡ undo_of v r) (m : Meter) (new : m ≡ full allowance) (p : Progress)
    (board' work' : List ℕ) (same : length work' ≡ length work) where
  whole : (work'' : List ℕ) (a : Answer) → Answers allowance r board work (due (scan_at board work r v target)) board' work'' a
      → Answers allowance r board work (verdict_of board work r calls.scan) board' work'' a
  whole work'' a x =
      judged_passed allowance board work r (scan_checked board work r) (scan_outcome board work r) v board' work'' a passed
      (scan_aimed allowance board work r r v target board' work'' a aim x)

  module _ (within : r.cursor < v.slots) (in_pass next : Registers) (begins : in_pass ≡ begun r target) (steps : next ≡ stepped in_pass)
      (was : Bool) (told : was ≡ dirty_at work r.cursor) (c : Acts board m (visiting u work r.cursor target) board' work' p) where
    visited : Found work next r.cursor was
    visited = visit_found board work r v (scan_told board work r v passed) within target in_pass next was begins steps told

    pub visit_acted : FinishReady work' r.cursor was p allowance next
    visit_acted =
        acts_ready allowance board board' work' (visiting u work r.cursor target) m p new work r.cursor next was same
        (visit_ready board work r v (scan_told board work r v passed) u is within).within visited c

    pub visit_answered : (work'' : List ℕ) (a : Answer)
        → Finishes work' p.meter allowance 0 (leaving (recounted next was (dirty_at work' r.cursor)) p.undo) work'' a
        → Answers allowance r board work (verdict_of board work r calls.scan) board' work'' a
    visit_answered work'' a f =
        whole work'' a
        (scan_visits allowance board work r next v target board' work'' a u is in_pass within begins steps
        (visit_done allowance board work r next u target m p board' work' work'' a new same r.cursor was c visited f))

  module _ (c : Carries board m (persisting board u work target) board' work' p) where
    pub persist_within : p.meter.left ≤ allowance + 1
    persist_within = carries_within allowance board board' work' (persisting board u work target) m p new c

    pub persist_answered : (next after : Registers) (work'' : List ℕ) (a : Answer) → v.slots ≤ r.cursor → next ≡ ended r
        → after ≡ leaving next p.undo → Finishes work' p.meter allowance target after work'' a
        → Answers allowance r board work (verdict_of board work r calls.scan) board' work'' a
    persist_answered next after work'' a h n q f =
        whole work'' a
        (scan_persists allowance board work r next v target board' work'' a u is h n
        (persist_done allowance board work r next u target m p board' work' work'' a new same after c q f))
