-- A monitor that is not at fault, in parts, and back.
use Rattle.std.specs.Prelude.{Bool, true, ◌≡◌, refl, ℕ, ◌<◌, Ok, Err}
use Rattle.std.proofs.Common.{sym, ◌∙◌}
use Rattle.std.proofs.Math.Path.{ap}
use Rattle.values.specs.Numbers.{fits_n}
use Rattle.refusals.specs.declared.Refusal.{Refusal}
use Rattle.refusals.specs.Answers.{Answer}
use Rattle.refusals.specs.Numbering.{unless, and_then, first_fault}
use Rattle.refusals.specs.Accepting.{not_accepted, unless_accepted, accepted_first, accepted_second, none_at_fault, no_fault}
use Rattle.table.specs.Limits.{limits}
use Rattle.table.specs.Faults.{table_fault, number_fault, as_unsound}
use Rattle.table.specs.Sound.{Sound, sound_table, within_limits, table_sound}
use Rattle.sound.specs.Firsts.{number_said_lem}
use Rattle.memory.specs.Recall.{kept_fits}
use Rattle.monitor.specs.declared.Monitor.{Monitor}
use Rattle.monitor.specs.Keeping.{cell_at, held_in, kept_fault, unsound}

-- a monitor that keeps no number and no time out of range
pub record Kept (m : Monitor) : Type 0 where
  pub last : kept_fits m.last ≡ true
  pub held : (x : ℕ) → x < limits.variables → fits_n (held_in m x) ≡ true
  pub cells : (k : ℕ) → k < limits.slots → kept_fits (cell_at m k) ≡ true

-- where 29 is not given there is no fault
no_29 : (a : Answer) → as_unsound a ≡ Ok tt → a ≡ Ok tt
no_29 (Ok _) good = refl
no_29 (Err r) good = not_accepted Refusal.Unsound good

module _ (m : Monitor) where
  -- the table of a monitor that is accepted is sound
  pub sound_of : unsound m ≡ Ok tt → Sound m.table
  unfolding unsound
  sound_of good = sound_table m.table (accepted_first (table_fault m.table) (kept_fault m) (no_29 _ good))

  -- and it keeps nothing out of range
  pub kept_of : unsound m ≡ Ok tt → Kept m
  unfolding unsound kept_fault
  kept_of good =
      let last = unless (kept_fits m.last) Refusal.Unsound in
      let held = first_fault limits.variables (λ x. number_fault (held_in m x)) in
      let cells = first_fault limits.slots (λ k. unless (kept_fits (cell_at m k)) Refusal.Unsound) in
      let kept = accepted_second (table_fault m.table) (kept_fault m) (no_29 _ good) in
      let rest = accepted_second last (and_then held cells) kept in
      record {
        last = unless_accepted (kept_fits m.last) Refusal.Unsound (accepted_first last (and_then held cells) kept);
        held = λ x slot. unless_accepted (fits_n (held_in m x)) Refusal.Range
            (sym (number_said_lem (held_in m x)) ∙ none_at_fault limits.variables _ (accepted_first held cells rest) x slot);
        cells = λ k slot. unless_accepted (kept_fits (cell_at m k)) Refusal.Unsound
            (none_at_fault limits.slots _ (accepted_second held cells rest) k slot);
      }

  -- a monitor of a sound table that keeps nothing out of range is accepted
  pub sound_monitor : Sound m.table → Kept m → unsound m ≡ Ok tt
  unfolding unsound kept_fault
  sound_monitor sound kept =
      rw (
        table_sound m.table (within_limits m.table sound.within sound.unused) sound.numbers sound.operands,
        kept.last,
        no_fault limits.variables (λ x. number_fault (held_in m x))
            (λ x slot. number_said_lem (held_in m x) ∙ ap (λ (b : Bool). unless b Refusal.Range) (kept.held x slot)),
        no_fault limits.slots (λ k. unless (kept_fits (cell_at m k)) Refusal.Unsound)
            (λ k slot. ap (λ (b : Bool). unless b Refusal.Unsound) (kept.cells k slot)),
      )
