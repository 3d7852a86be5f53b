-- "Neither falls under 29": whatever sound monitor takes a step, the one that it leaves is sound, and has its slots.
use Rattle.std.specs.Prelude.{◌≡◌, List, ℕ, suc, ◌^◌, Ok, Err}
use Rattle.std.proofs.Math.Path.{refl, ap}
use Rattle.std.proofs.Common.{sym, subst, arith}
use borrow.Author.Tests.{le-leb}
use Rattle.refusals.specs.Answers.{Answer}
use Rattle.step.specs.declared.Taken.{Taken}
use Rattle.monitor.specs.declared.Monitor.{Monitor}
use Rattle.monitor.specs.declared.Stepped.{Stepped}
use Rattle.monitor.specs.Keeping.{unsound}
use Rattle.monitor.specs.Laws.{sound_of, sound_monitor}
use Rattle.monitor.specs.Stepping.{monitor_after, advanced, taken_by, step_of}
use Rattle.words.specs.Layout.{Kept}
use Rattle.inplace.specs.Ranges.{TakenFits, walk_fits}
use Rattle.inplace.specs.Saying.{taken_fits}
use Rattle.inplace.specs.Taking.{step_accepted, step_refused}
use Rattle.inplace.specs.Walking.{after_kept}

-- a monitor that can be lent as words: it has its slots, and 29 does not stop it
pub record Standing (m : Monitor) : Type 0 where
  pub shape : Kept m
  pub sound : unsound m ≡ Ok tt

module _ (m : Monitor) (standing : Standing m) where
  -- an accepted step leaves such a one
  pub advanced_stands : (s : Taken) → TakenFits s → Standing (advanced m s).monitor
  unfolding advanced monitor_after
  advanced_stands s fits =
      let so = walk_fits m standing.shape standing.sound s fits m.table.n (omega arith) in
      record {
        shape = after_kept m s standing.shape fits m.table.n;
        sound = sound_monitor _ (sound_of m standing.sound)
            (record { last = le-leb (suc s.time) (2 ^ 47) (omega (arith, fits.time)); held = λ x slot. so.held x; cells = λ k slot. so.cells k });
      }

  -- and so does any step
  pub step_stands : (bytes : List ℕ) → Standing (step_of m bytes).monitor
  step_stands bytes = by (taken_by m bytes).answer refl
    where
      by : (a : Answer) → (taken_by m bytes).answer ≡ a → Standing (step_of m bytes).monitor
      by (Ok _) is =
          subst Standing (sym (ap (λ (x : Stepped). x.monitor) (step_accepted m standing.sound bytes is)))
          (advanced_stands (taken_by m bytes) (taken_fits m bytes is))
      by (Err r) is = subst Standing (sym (ap (λ (x : Stepped). x.monitor) (step_refused m standing.sound bytes r is))) standing

  -- "an accepted step's monitor holds the same table", and so does a refused one's
  pub step_table : (bytes : List ℕ) → (step_of m bytes).monitor.table ≡ m.table
  unfolding advanced monitor_after
  step_table bytes = by (taken_by m bytes).answer refl
    where
      by : (a : Answer) → (taken_by m bytes).answer ≡ a → (step_of m bytes).monitor.table ≡ m.table
      by (Ok _) is = ap (λ (x : Stepped). x.monitor.table) (step_accepted m standing.sound bytes is)
      by (Err r) is = ap (λ (x : Stepped). x.monitor.table) (step_refused m standing.sound bytes r is)
