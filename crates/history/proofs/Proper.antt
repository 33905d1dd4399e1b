-- The laws of proper logs. Assumes nothing.
use Rattle.std.specs.Prelude.{◌≡◌, Bool, ℕ, suc, ◌≤◌}
use Rattle.std.proofs.Math.Path.{refl}
use mathlib.Core.List.{List, [], ◌∷◌, ◌++◌}
use Rattle.std.proofs.Math.Bool.{true, false}
use Rattle.std.proofs.Common.{arith, leb-false}
use Rattle.std.proofs.Math.Dec.{leb}
use Rattle.base.specs.Every.{Every}
use Rattle.ranges.specs.Ranges.{ProperFacts, proper_facts, proper_rebound}
use Rattle.history.specs.Machine.{Entry, recall, Silent, ended, drop_ended}
use Rattle.history.specs.Invariant.{ProperEntry, ProperLog}
use Rattle.history.proofs.Recall.{covers_at_ended}

-- what the test of its range says
pub entry_facts : {N W low high : ℕ} {x : Entry} → ProperEntry N W low high x → ProperFacts N low high x.range
entry_facts {N} {low = low} {high = high} {x = x} p = proper_facts N low high x.range p.proper

-- the same entry between other bounds
rebound : {N W low high low' high' : ℕ} {x : Entry} → low' ≤ x.range.till → x.range.till ≤ high' → ProperEntry N W low high x
    → ProperEntry N W low' high' x
rebound {N} {low = low} {high = high} {low' = low'} {high' = high'} {x = x} l h p =
    record { proper = proper_rebound N low high low' high' x.range l h p.proper; narrow = p.narrow }

-- and with a wider window
pub entry_wider : {N W low high : ℕ} {x : Entry} (W' : ℕ) → W ≤ W' → ProperEntry N W low high x → ProperEntry N W' low high x
entry_wider W' h p = record { proper = p.proper; narrow = omega (arith, p.narrow) }

module _ (N W : ℕ) where
  -- each entry by itself: the bounds of the whole log are its own
  pub proper_every : (low high : ℕ) (xs : List Entry) → ProperLog N W low high xs → Every (ProperEntry N W low high) xs
  proper_every low high [] p = tt
  proper_every low high (x ∷ xs) p = (p.0, lower xs (proper_every x.range.till high xs p.1))
    where
      lower : (ys : List Entry) → Every (ProperEntry N W x.range.till high) ys → Every (ProperEntry N W low high) ys
      lower [] q = tt
      lower (y ∷ ys) q =
          let f = entry_facts q.0 in
          (rebound (omega (arith, (entry_facts p.0).after, f.after)) f.before q.0, lower ys q.1)

  pub proper_wider : (low high high' : ℕ) (xs : List Entry) → high ≤ high' → ProperLog N W low high xs → ProperLog N W low high' xs
  proper_wider low high high' [] h p = tt
  proper_wider low high high' (x ∷ xs) h p =
      let f = entry_facts p.0 in
      (rebound f.after (omega (arith, f.before)) p.0, proper_wider x.range.till high high' xs h p.1)

  -- a new entry, whose till bounds the older ones'
  pub proper_new : (low : ℕ) (xs : List Entry) (x : Entry) → ProperEntry N W low x.range.till x → ProperLog N W low x.range.till xs
      → ProperLog N W low x.range.till (xs ++ (x ∷ []))
  proper_new low [] x new p = (new, tt)
  proper_new low (y ∷ ys) x new p =
      (p.0, proper_new y.range.till ys x (rebound (entry_facts p.0).before (entry_facts new).before new) p.1)

  pub proper_drop_ended : (low high q : ℕ) (xs : List Entry) → ProperLog N W low high xs → ProperLog N W (suc q) high (drop_ended q xs)
  unfolding ended
  proper_drop_ended low high q [] p = tt
  proper_drop_ended low high q (x ∷ xs) p = go (leb x.range.till q) refl (proper_drop_ended x.range.till high q xs p.1)
    where
      go : (t : Bool) → leb x.range.till q ≡ t → ProperLog N W (suc q) high (drop_ended q xs) → ProperLog N W (suc q) high (drop_ended q (x ∷ xs))
      go true e ih = rw e ih
      go false e ih = rw e (rebound (leb-false x.range.till q e) (entry_facts p.0).before p.0, p.1)

  -- an epoch that no entry reaches
  pub proper_silent : (low high e a : ℕ) (xs : List Entry) → high ≤ e → ProperLog N W low high xs → Silent xs e a
  unfolding recall
  proper_silent low high e a [] h p d = refl
  proper_silent low high e a (x ∷ xs) h p d =
      rw (covers_at_ended x e a (omega (arith, (entry_facts p.0).before))) (proper_silent x.range.till high e a xs h p.1 d)
