-- nimbra_reach: the marks of a reach as bytes that are 0 or 1.
use Rattle.std.specs.Prelude.{Bool, false, cond, ◌&&◌, List, ◌≡◌, refl, ℕ, eqb, length, get_or, Ok, Err}
use Rattle.std.proofs.Common.{sym, ap, ◌∙◌}
use Rattle.std.proofs.lemmas.List.{length-replicate}
use Rattle.refusals.specs.declared.Refusal.{Refusal}
use Rattle.refusals.specs.Answers.{Answer}
use Rattle.refusals.specs.Numbering.{number_of}
use Rattle.bits.specs.Bits.{list_to}
use Rattle.table.specs.declared.Table.{Table}
use Rattle.table.specs.Limits.{limits}
use Rattle.monitor.specs.declared.Monitor.{Monitor}
use Rattle.reach.specs.declared.Reach.{Reach}
use Rattle.reach.specs.Reaching.{reach_fault, ReachReply}
use Rattle.reach.specs.Spreading.{reach_of}
use Rattle.reach.proofs.Shown.{reply_is}
use Rattle.words.specs.Layout.{followed, state_words}
use Rattle.words.specs.Unpacking.{monitor_in, state_fault}
use Rattle.door.specs.Leaving.{Left, if_size, Leaves, leaves_same, right_size, wrong_size_lem, sizes_right, first_wrong, second_wrong}

-- the byte of a mark
abbrev pub mark_byte : Bool → ℕ
mark_byte b = cond b 1 0

-- how many bytes the marks take
abbrev pub mark_count : ℕ
mark_count = 177

-- the marks of 128 entries, of 48 imports, and of the clock
unfoldable pub mark_bytes : Reach → List ℕ
mark_bytes found =
    list_to mark_count
    (followed 128 (λ k. mark_byte (get_or found.entries k false))
    (followed 48 (λ i. mark_byte (get_or found.imports i false))
    (λ j. mark_byte found.clock)))

-- a reach whose arrays have their slots; every value of the type has them
abbrev pub Slotted : Reach → Type 0
Slotted found = (length found.entries ≡ limits.slots) × (length found.imports ≡ limits.imports)

-- 0 and the marks, or a number and the bytes as they were
abbrev pub marks_left : Answer → Reach → List ℕ → Left
marks_left (Ok _) found marks = record { reply = 0; buffer = mark_bytes found }
marks_left (Err r) found marks = record { reply = number_of r; buffer = marks }

-- the reach of an entry of the table in sound words, or 29
abbrev pub reach_left : Answer → List ℕ → ℕ → List ℕ → Left
reach_left (Ok _) state entry marks = let found = reach_of (monitor_in state).table entry in marks_left found.answer found marks
reach_left (Err r) state entry marks = record { reply = number_of r; buffer = marks }

-- what nimbra_reach answers, and the marks that it leaves
unfoldable pub reach_door : List ℕ → ℕ → List ℕ → Left
reach_door state entry marks = if_size (eqb (length state) state_words && eqb (length marks) mark_count) marks (reach_left (state_fault state) state entry marks)

module _ (answer : Answer) (found : Reach) (marks : List ℕ) where
  -- a reach that is refused
  pub marks_refused : {r : Refusal} {n : ℕ} → answer ≡ Err r → n ≡ number_of r → Leaves (marks_left answer found marks) n marks
  marks_refused bad number = leaves_same (record { reply = number; buffer = refl }) (ap (λ (a : Answer). marks_left a found marks) (sym bad))

  -- one that is shown
  pub marks_shown : {later : List ℕ} → answer ≡ Ok tt → later ≡ mark_bytes found → Leaves (marks_left answer found marks) 0 later
  marks_shown good put =
      leaves_same {left = marks_left (Ok tt) found marks} (record { reply = refl; buffer = put }) (ap (λ (a : Answer). marks_left a found marks) (sym good))

module _ (state : List ℕ) (entry : ℕ) (marks : List ℕ) where
  -- the words are not 452
  pub reach_words : (length state ≡ state_words → ⊥) → Leaves (reach_door state entry marks) 90 marks
  unfolding reach_door
  reach_words other = wrong_size_lem marks _ (first_wrong (length state) state_words (length marks) mark_count other)

  module _ (long : length state ≡ state_words) where
    -- or the marks not 177
    pub reach_marks : (length marks ≡ mark_count → ⊥) → Leaves (reach_door state entry marks) 90 marks
    unfolding reach_door
    reach_marks other = wrong_size_lem marks _ (second_wrong (length state) state_words (length marks) mark_count long other)

    module _ (room : length marks ≡ mark_count) {fault : Answer} (is : fault ≡ state_fault state) where
      -- what is left goes by 29
      by_fault : {answer : Answer} {n : ℕ} {later : List ℕ} → fault ≡ answer → Leaves (reach_left answer state entry marks) n later
          → Leaves (reach_door state entry marks) n later
      unfolding reach_door
      by_fault said so =
          right_size marks (sizes_right (length state) state_words (length marks) mark_count long room)
          (leaves_same so (ap (λ (a : Answer). reach_left a state entry marks) (sym said ∙ is)))

      -- 29
      pub reach_unsound : {r : Refusal} {n : ℕ} → fault ≡ Err r → n ≡ number_of r → Leaves (reach_door state entry marks) n marks
      reach_unsound bad number = by_fault bad (record { reply = number; buffer = refl })

      -- what the reach of an entry shows
      pub reach_shown : {m : Monitor} (found : Reach) {n : ℕ} {later : List ℕ} → fault ≡ Ok tt → m ≡ monitor_in state
          → ReachReply m.table entry (reach_fault m.table entry) found
          → Leaves (marks_left found.answer found marks) n later
          → Leaves (reach_door state entry marks) n later
      reach_shown {m} found good monitor reply so =
          by_fault good
          (leaves_same so
          (ap (λ (r : Reach). marks_left r.answer r marks)
          (reply_is m.table entry found reply ∙ ap (λ (o : Monitor). reach_of o.table entry) monitor)))

-- a reach that was found has its slots
pub found_slotted : (t : Table) (entry : ℕ) (found : Reach) → ReachReply t entry (reach_fault t entry) found → Slotted found
found_slotted t entry found reply = by (reach_fault t entry) reply
  where
    by : (a : Answer) → ReachReply t entry a found → Slotted found
    by (Ok _) reply = reply.1.slots
    by (Err r) reply = (
      ap (λ (x : Reach). length x.entries) reply ∙ length-replicate limits.slots false,
      ap (λ (x : Reach). length x.imports) reply ∙ length-replicate limits.imports false,
    )
