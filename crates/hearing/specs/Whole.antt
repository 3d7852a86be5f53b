-- A whole step heard, from what is heard of its stages.
use Rattle.std.specs.Prelude.{List, ◌≡◌, ℕ, Result, Ok, Err}
use Rattle.std.proofs.Common.{refl, sym, ◌∙◌, ap, arith}
use Rattle.refusals.specs.declared.Refusal.{Refusal}
use Rattle.bits.specs.Reading.{Got, refused}
use Rattle.table.specs.declared.Table.{Table}
use Rattle.step.specs.Steps.{Step}
use Rattle.step.specs.Reader.{read_step}
use Rattle.step.specs.Taking.{taken_of}
use Rattle.step.specs.Stages.{after_count}
use Rattle.hearing.specs.Hearing.{event_words, told_words, Heard}
use Rattle.hearing.specs.Lent.{lent, step_same}
use Rattle.hearing.specs.Gathering.{Gathered}

-- a refusal has no time
no_time : {X : Type 0} (r : Refusal) (time : ℕ) → ◌≡◌ {A = Result ℕ Refusal} (Err r) (Ok time) → X
no_time r time e = absurd (let z : ◌≡◌ {A = ℕ} 0 1 = cc e in omega arith)

-- an accepted step has one
same_time : {time other : ℕ} → ◌≡◌ {A = Result ℕ Refusal} (Ok time) (Ok other) → other ≡ time
same_time e = cc

module _ (t : Table) (q : ℕ) (events : List ℕ) (counted : t.q ≡ q) (are : events ≡ event_words t) (earliest : ℕ) (s : List ℕ) where
  -- what is taken of a rest that decides, by the table that is lent, is taken of the whole step
  rest_whole : (rest : Got Step) → read_step (lent q events) earliest s 0 ≡ rest → rest ≡ read_step t earliest s 0
  rest_whole rest is = sym is ∙ step_same t q events counted are earliest s

  -- the first fault decides
  pub heard_refused : (heard : Result ℕ Refusal) (r : Refusal) → read_step (lent q events) earliest s 0 ≡ refused r → heard ≡ Err r → {words : List ℕ}
      → Heard t earliest s heard words
  heard_refused heard r stops is {words} =
      rw is
      (record {
        answer = λ before. ap (λ (g : Got Step). (taken_of before g).answer) (rest_whole (refused r) stops);
        time = λ before time e. no_time r time e;
        told = λ before time e. no_time r time e;
      })

  module _ (time count : ℕ) (goes : read_step (lent q events) earliest s 0 ≡ after_count (lent q events) time count s) {words : List ℕ} where
    -- the reports or the end are refused
    pub heard_stopped : (heard : Result ℕ Refusal) (r : Refusal) → heard ≡ Err r → Gathered (lent q events) count s (Err r) words → Heard t earliest s heard words
    heard_stopped heard r is g =
        rw is
        (record {
          answer = λ before. g.answers before time ∙ ap (λ (x : Got Step). (taken_of before x).answer) (rest_whole _ goes);
          time = λ before other e. no_time r other e;
          told = λ before other e. no_time r other e;
        })

    -- nothing is
    pub heard_passed : Gathered (lent q events) count s (Ok tt) words → Heard t earliest s (Ok time) words
    heard_passed g =
        let whole : after_count (lent q events) time count s ≡ read_step t earliest s 0 = rest_whole _ goes in
        record {
          answer = λ before. g.answers before time ∙ ap (λ (x : Got Step). (taken_of before x).answer) whole;
          time = λ before other e. same_time e ∙ g.times before time refl ∙ ap (λ (x : Got Step). (taken_of before x).time) whole;
          told = λ before other e. g.told before time refl ∙ ap (λ (x : Got Step). told_words (taken_of before x).told) whole;
        }
