-- The words of a step's reports, as far as they have been heard.
use Rattle.std.specs.Prelude.{Bool, true, false, cond, List, [], ◌≡◌, refl, ℕ, ◌+◌, ◌-◌, ◌*◌, ◌<◌, ◌≤◌, ltb, set, replicate, Ok, Err}
use Rattle.std.proofs.Common.{sym, ◌∙◌, arith, lt-ltb, le-ltb, length-set, get_or-set_same, get_or-set_other}
use Rattle.std.proofs.Math.Path.{ap}
use Rattle.std.proofs.Math.Decide.{dec_lt}
use Rattle.std.proofs.Math.ListN.{length}
use Rattle.std.proofs.lemmas.List.{length-replicate}
use Rattle.std.proofs.Math.Seq.{set_out}
use Rattle.values.specs.declared.Truth.{Truth}
use Rattle.refusals.specs.Answers.{Answer}
use Rattle.refusals.specs.Accepting.{not_accepted}
use Rattle.refusals.specs.declared.Refusal.{Refusal}
use Rattle.bits.specs.Lists.{length_list}
use Rattle.bits.specs.Filled.{list_all, list_set, get_d_padded}
use Rattle.bits.specs.Reading.{Got, got, refused}
use Rattle.table.specs.declared.Table.{Table}
use Rattle.table.specs.Limits.{limits}
use Rattle.step.specs.declared.Told.{Told}
use Rattle.step.specs.declared.Taken.{Taken}
use Rattle.step.specs.Steps.{Report, Step}
use Rattle.step.specs.Taking.{told_at, truth_at, reported_now, told_slots, taken_of}
use Rattle.step.specs.declared.Heard.{Heard}
use Rattle.step.specs.Hearing.{next_report, Reported, Rising, next_rising}
use Rattle.step.specs.Stages.{closed, after_count}
use Rattle.step.specs.SoFar.{SoFar, heard_none, end_refused, end_accepted, next_stops, one_more}
use Rattle.words.specs.Words.{told_word}
use Rattle.hearing.specs.Hearing.{told_words}
use Rattle.hearing.specs.declared.Word.{Word}
use Rattle.hearing.specs.Nexts.{as_word}

-- the word of import i is kept, where there is such an import
abbrev pub kept_at : List ℕ → ℕ → ℕ → List ℕ
kept_at words i word = cond (ltb i limits.imports) (set words i word) words

-- no word is added
length_kept : (words : List ℕ) (i word : ℕ) → length (kept_at words i word) ≡ length words
length_kept words i word =
    elim (ltb i limits.imports) as (λ b. length (cond b (set words i word) words) ≡ length words) [
      | true ↦ length-set words i word
      | false ↦ refl
    ]

-- before any report every word is 0
words_none : replicate 64 0 ≡ told_words (replicate limits.imports Told.Nothing)
words_none =
    list_all 64 (λ i. told_word (told_at (replicate limits.imports Told.Nothing) i)) 0
    (λ i h. ap told_word (sym (get_d_padded [] limits.imports i Told.Nothing)))

module _ (slots : List Told) (full : length slots ≡ limits.imports) (i : ℕ) (x : Told) where
  -- with one slot filled anew, its word is the new one's
  word_set : i < limits.imports → set (told_words slots) i (told_word x) ≡ told_words (set slots i x)
  word_set h =
      list_set 64 (λ j. told_word (told_at slots j)) (λ j. told_word (told_at (set slots i x) j)) i (told_word x)
      (λ inside. ap told_word (sym (get_or-set_same slots i x Told.Nothing (omega arith))))
      (λ j inside other.
      ap told_word (sym (get_or-set_other slots i j x Told.Nothing other)))

  -- and past the slots nothing is kept
  word_kept : kept_at (told_words slots) i (told_word x) ≡ told_words (set slots i x)
  word_kept =
      elim (dec_lt i limits.imports) [
        | yes h ↦ ap (λ (b : Bool). cond b (set (told_words slots) i (told_word x)) (told_words slots)) (lt-ltb i limits.imports h) ∙ word_set h
        | no h ↦
            ap (λ (b : Bool). cond b (set (told_words slots) i (told_word x)) (told_words slots)) (le-ltb i limits.imports (omega arith))
            ∙ ap told_words (sym (set_out slots i x (omega arith)))
      ]

-- the answer to the reports and the end of a step, and the words of what they tell, whatever its time and whatever was reported before it
pub record Gathered (t : Table) (count : ℕ) (s : List ℕ) (answer : Answer) (words : List ℕ) : Type 0 where
  pub answers : (before : List Truth) (time : ℕ) → answer ≡ (taken_of before (after_count t time count s)).answer
  pub times : (before : List Truth) (time : ℕ) → answer ≡ Ok tt → time ≡ (taken_of before (after_count t time count s)).time
  pub told : (before : List Truth) (time : ℕ) → answer ≡ Ok tt → words ≡ told_words (taken_of before (after_count t time count s)).told

-- nothing was reported before
abbrev unreported : List Truth
unreported = replicate limits.imports Truth.Undefined

-- what was reported before changes neither the answer
any_answer : (g : Got Step) (before : List Truth) → (taken_of unreported g).answer ≡ (taken_of before g).answer
any_answer (got s end) before = refl
any_answer (refused r) before = refl

-- nor the time
any_time : (g : Got Step) (before : List Truth) → (taken_of unreported g).time ≡ (taken_of before g).time
any_time (got s end) before = refl
any_time (refused r) before = refl

-- nor what is told
any_told : (g : Got Step) (before : List Truth) → (taken_of unreported g).told ≡ (taken_of before g).told
any_told (got s end) before = refl
any_told (refused r) before = refl

module _ {t : Table} {count : ℕ} {s : List ℕ} where
  -- the first fault decides
  gathered_refused : (r : Refusal) {words : List ℕ} → ((time : ℕ) → after_count t time count s ≡ refused r) → Gathered t count s (Err r) words
  gathered_refused r stops =
      record {
        answers = λ before time. ap (λ (g : Got Step). (taken_of before g).answer) (sym (stops time));
        times = λ before time e. not_accepted r e;
        told = λ before time e. not_accepted r e;
      }

  -- there is none
  gathered_accepted : (slots : List Told) (reported : List Truth) {words : List ℕ} → words ≡ told_words slots
      → ((time : ℕ) → taken_of unreported (after_count t time count s)
      ≡ record { answer = Ok tt; time = time; told = slots; reported = reported })
      → Gathered t count s (Ok tt) words
  gathered_accepted slots reported are taken =
      record {
        answers = λ before time. sym (ap (λ (x : Taken). x.answer) (taken time)) ∙ any_answer (after_count t time count s) before;
        times = λ before time e. sym (ap (λ (x : Taken). x.time) (taken time)) ∙ any_time (after_count t time count s) before;
        told = λ before time e.
            are ∙ ap told_words (sym (ap (λ (x : Taken). x.told) (taken time)) ∙ any_told (after_count t time count s) before);
      }

-- the words of the reports so far, from slots that they fill
pub record Hears (t : Table) (count : ℕ) (s words : List ℕ) (at least left : ℕ) : Type 0 where
  pub slots : List Told
  pub reported : List Truth
  pub sofar : SoFar t count unreported s slots reported at least left
  pub are : words ≡ told_words slots

-- the same where every word was 0 at first, and how far the reports reach in any case
pub record Gathers (t : Table) (count : ℕ) (s first words : List ℕ) (at least left : ℕ) : Type 0 where
  -- a report takes 55 bits at most
  pub place : at + 55 * left ≤ 53 + 55 * count
  pub long : length words ≡ length first
  pub hears : first ≡ replicate 64 0 → Hears t count s words at least left

-- none is heard yet
pub gathers_none : (t : Table) (count : ℕ) (s first : List ℕ) → {left : ℕ} → left ≡ count → Gathers t count s first first 53 0 left
gathers_none t count s first all =
    record {
      place = omega arith;
      long = refl;
      hears = λ empty.
          record {
            slots = replicate limits.imports Told.Nothing;
            reported = unreported;
            sofar = heard_none t count unreported s (length-replicate {A = Truth} limits.imports Truth.Undefined) all;
            are = empty ∙ words_none;
          };
    }

module _ {t : Table} {count : ℕ} {s words : List ℕ} {at least left : ℕ} (h : Hears t count s words at least left) where
  -- as many slots as there may be imports
  slots_full : length h.slots ≡ limits.imports
  unfolding told_slots
  slots_full = ap length h.sofar.tells ∙ length_list limits.imports _

  -- one report more
  hears_more : 0 < left → (r : Report) (next : ℕ) → next_report t least s at ≡ got r next
      → Hears t count s (kept_at words r.imported (told_word r.told)) next (r.imported + 1) (left - 1)
  hears_more more r next e =
      record {
        slots = set h.slots r.imported r.told;
        reported = set h.reported r.imported (reported_now r.told (truth_at unreported r.imported));
        sofar = one_more h.sofar more r next e;
        are =
            ap (λ (l : List ℕ). kept_at l r.imported (told_word r.told)) h.are ∙ word_kept h.slots slots_full r.imported r.told;
      }

module _ {t : Table} {count : ℕ} {s first words : List ℕ} {at least left : ℕ} (g : Gathers t count s first words at least left) where
  -- the next report is refused
  pub gathers_stops : 0 < left → (answer : Answer) (r : Refusal) → answer ≡ Err r → next_report t least s at ≡ refused r → first ≡ replicate 64 0
      → Gathered t count s answer words
  gathers_stops more answer r is e empty = rw is (gathered_refused r (λ time. next_stops (g.hears empty).sofar more time r e))

  -- no report is left: the end decides
  pub gathers_ends : left ≤ 0 → (answer : Answer) → answer ≡ closed s at → first ≡ replicate 64 0 → Gathered t count s answer words
  gathers_ends none (Ok _) e empty =
      let h : Hears t count s words at least left = g.hears empty in
      gathered_accepted h.slots h.reported h.are (λ time. end_accepted h.sofar time none (sym e))
  gathers_ends none (Err r) e empty = gathered_refused r (λ time. end_refused (g.hears empty).sofar time none r (sym e))

  -- one report more
  pub gathers_more : 0 < left → {h : Heard Word} → Reported as_word (next_report t least s at) h
      → {words' : List ℕ} {at' least' left' : ℕ} → words' ≡ kept_at words h.imported h.told.word → at' ≡ h.next → least' ≡ h.imported + 1
      → left' ≡ left - 1 → Gathers t count s first words' at' least' left'
  gathers_more more {h} told kept ends above fewer =
      let r : Report = told.report in
      let is : Rising t least at r h.next = (next_rising t least s at).told r h.next told.is in
      let tells : told_word r.told ≡ h.told.word = ap (λ (w : Word). w.word) told.tells in
      rw (kept, ends, above, fewer, ← told.imports, ← tells)
      (record {
        place = omega (arith, g.place, is.ends);
        long = length_kept words r.imported (told_word r.told) ∙ g.long;
        hears = λ empty. hears_more (g.hears empty) more r h.next told.is;
      })
