-- What a reach answers, from what its parts were found to be.
use Rattle.std.specs.Prelude.{List, Bool, ◌≡◌, ℕ, ◌<◌, ◌≤◌, Ok, Err}
use Rattle.std.proofs.Math.Path.{refl}
use Rattle.std.proofs.Common.{sym, ◌∙◌}
use borrow.Author.Tests.{lt-ltb, le-ltb}
use Rattle.refusals.specs.declared.Refusal.{Refusal}
use Rattle.refusals.specs.Answers.{Answer}
use Rattle.table.specs.declared.Table.{Table}
use Rattle.table.specs.Faults.{table_fault, unsound_table}
use Rattle.table.specs.Sound.{Sound, sound_table}
use Rattle.reach.specs.declared.Reach.{Reach}
use Rattle.reacher.specs.declared.touched.Touched.{Touched}
use Rattle.reach.specs.Reaching.{reach_fault, no_marks, ReachReply}
use Rattle.reacher.specs.Following.{Reached}
use Rattle.reacher.specs.Touching.{Touches}

-- "A reach shows all three: its entries, its imports and whether it has the clock."
abbrev pub shown : List Bool → Touched → Reach
shown marks touched = record { answer = Ok tt; entries = marks; imports = touched.imports; clock = touched.clock }

module _ (t : Table) {found : Answer} (judged : found ≡ table_fault t) where
  -- a table that was found without fault is sound
  pub found_sound : found ≡ Ok tt → Sound t
  found_sound good = sound_table t (sym judged ∙ good)

  module _ (k : ℕ) where
    -- "29 before all else in ... a reach"
    pub reply_unsound : {r : Reach} {f : Refusal} → found ≡ Err f → r ≡ no_marks Refusal.Unsound → ReachReply t k (reach_fault t k) r
    unfolding reach_fault unsound_table
    reply_unsound bad none = rw (sym judged ∙ bad) none

    -- "30 last": "no such entry"
    pub reply_no_entry : {r : Reach} → found ≡ Ok tt → t.n ≤ k → r ≡ no_marks Refusal.NoEntry → ReachReply t k (reach_fault t k) r
    unfolding reach_fault unsound_table
    reply_no_entry good past none = rw (sym judged ∙ good, le-ltb k t.n past) none

    -- what was reached, and what that touches
    pub reply_shown : {marks : List Bool} {touched : Touched} → found ≡ Ok tt → k < t.n → Reached t k marks → Touches t marks touched
        → ReachReply t k (reach_fault t k) (shown marks touched)
    unfolding reach_fault unsound_table
    reply_shown good entry reached touches =
        rw (sym judged ∙ good, lt-ltb k t.n entry) (
          refl,
          record {
            slots = (reached.slots, touches.slots);
            entries = reached.least;
            unused = reached.unused;
            imports = touches.imports;
            clock = touches.clock;
          },
        )
