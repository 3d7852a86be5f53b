-- A monitor put into a buffer: its words where the buffer is as long as they are, and nothing elsewhere.
use Rattle.std.specs.Prelude.{Bool, false, cond, List, ◌≡◌, ℕ, ◌+◌, ◌<◌, ◌≤◌, eqb, length, get_or, replicate}
use Rattle.std.proofs.Common.{sym, ◌∙◌, ap, subst, arith, eq-eqb, ne_eqb}
use Rattle.std.proofs.lemmas.List.{get_or-replicate}
use Rattle.std.proofs.Math.ListN.{get_or-eq_default}
use Rattle.values.specs.declared.Truth.{Truth}
use Rattle.bits.specs.Window.{stored}
use Rattle.bits.specs.Filled.{list_is}
use Rattle.table.specs.declared.Entry.{Entry}
use Rattle.table.specs.Tables.{entry_at, number_at, is_event, initial_of}
use Rattle.step.specs.Taking.{truth_at}
use Rattle.monitor.specs.declared.Monitor.{Monitor}
use Rattle.words.specs.Rows.{Begun, begun_part}
use Rattle.words.specs.Words.{number_word, truth_word, event_word, entry_word}
use Rattle.words.specs.Layout.{Kept, count_word, state_words, word_at, state_of}
use Rattle.words.specs.Standing.{followed_first, word_entry, word_cell, word_held, word_initial, word_event, word_truth}

-- the entry in a slot; past the slots, which nothing asks for, it is the first kind
abbrev pub slot_entry : List Entry → ℕ → Entry
slot_entry slots k = get_or slots k (Entry.ImportedCondition 0)

-- the buffer with the monitor in it; one of another size is not touched
abbrev pub packed : Monitor → List ℕ → List ℕ
packed m before = cond (eqb (length before) state_words) (state_of m) before

-- a buffer of that size has the monitor's words
pub packed_whole : (m : Monitor) (before : List ℕ) {after : List ℕ} → length before ≡ state_words → after ≡ state_of m → after ≡ packed m before
packed_whole m before long put =
    put ∙ sym (ap (λ (t : Bool). cond t (state_of m) before) (eq-eqb (length before) state_words long))

-- one of another size stays
pub packed_other : (m : Monitor) (before : List ℕ) → (length before ≡ state_words → ⊥) → before ≡ packed m before
packed_other m before other = sym (ap (λ (t : Bool). cond t (state_of m) before) (ne_eqb (length before) state_words other))

-- ---- the parts, one after another

-- the words of the imports that there are none of
event_unused : (m : Monitor) → Kept m → (j : ℕ) → 48 ≤ j → 0 ≡ event_word (is_event m.table j)
unfolding is_event
event_unused m kept j h = ap event_word (sym (get_or-eq_default m.table.events false (omega (arith, kept.table.events))))

truth_unused : (m : Monitor) → Kept m → (j : ℕ) → 48 ≤ j → 1 ≡ truth_word (truth_at m.reported j)
truth_unused m kept j h =
    ap truth_word
    (sym (get_or-eq_default m.reported Truth.Undefined (omega (arith, kept.reported))))

-- the word that stands in their places
spare_word : (w i : ℕ) {v : ℕ} → i < 16 → w ≡ v → get_or (replicate 16 w) i 0 ≡ v
spare_word w i h is = get_or-replicate 16 i w 0 h ∙ is

-- a word of the row, where the place is counted another way
counted : (m : Monitor) (j i : ℕ) → i ≡ j → {w : ℕ} → word_at m i ≡ w → w ≡ word_at m j
counted m j i e here = sym here ∙ ap (word_at m) e

-- one part more is put, and it ends where the next one begins
part_put : (m : Monitor) (g : ℕ → ℕ) (at n next : ℕ) {s l : List ℕ} → at + n ≤ state_words → at + n ≡ next
    → ((j : ℕ) → j < n → g j ≡ word_at m (at + j)) → Begun state_words (word_at m) at s → l ≡ stored s at g n → Begun state_words (word_at m) next l
part_put m g at n next {s} {l} room to words so put =
    subst (λ (k : ℕ). Begun state_words (word_at m) k l) to (subst (Begun state_words (word_at m) (at + n)) (sym put) (begun_part state_words (word_at m) g at n s room words so))

-- the parts make the words of the monitor: the counts, the entries, what they remember and what the variables hold and start with, the imports'
-- sorts and last reported values
pub parts_put : (m : Monitor) → Kept m → (s : List ℕ) {s₁ s₂ s₃ s₄ s₅ s₆ s₇ s₈ s₉ : List ℕ} → length s ≡ state_words
    → s₁ ≡ stored s 0 (count_word m) 4
    → s₂ ≡ stored s₁ 4 (λ k. entry_word (slot_entry m.table.entries k)) (length m.table.entries)
    → s₃ ≡ stored s₂ 132 (λ k. get_or m.cells k 0) (length m.cells)
    → s₄ ≡ stored s₃ 260 (λ x. number_word (number_at m.held x)) (length m.held)
    → s₅ ≡ stored s₄ 292 (λ x. number_word (number_at m.table.variables x)) (length m.table.variables)
    → s₆ ≡ stored s₅ 324 (λ i. event_word (get_or m.table.events i false)) (length m.table.events)
    → s₇ ≡ stored s₆ 372 (λ i. get_or (replicate 16 0) i 0) 16
    → s₈ ≡ stored s₇ 388 (λ i. truth_word (truth_at m.reported i)) (length m.reported)
    → s₉ ≡ stored s₈ 436 (λ i. get_or (replicate 16 1) i 0) 16
    → s₉ ≡ state_of m
unfolding state_of word_at entry_at initial_of is_event
parts_put m kept s {s₄ = s₄} {s₉ = s₉} long counts entries cells held initial events unused reported last =
    let front : Begun state_words (word_at m) 292 s₄ =
    part_put m _ 260 (length m.held) 292 (omega (arith, kept.held)) (omega (arith, kept.held))
    (λ j h. counted m (260 + j) _ (omega arith) (word_held m j (omega (arith, kept.held))))
    (part_put m _ 132 (length m.cells) 260 (omega (arith, kept.cells)) (omega (arith, kept.cells))
    (λ j h. counted m (132 + j) _ (omega arith) (word_cell m j (omega (arith, kept.cells))))
    (part_put m _ 4 (length m.table.entries) 132 (omega (arith, kept.table.entries)) (omega (arith, kept.table.entries))
    (λ j h. sym (word_entry m j (omega (arith, kept.table.entries))))
    (part_put m (count_word m) 0 4 4 (omega arith) (omega arith)
    (λ j h. sym (followed_first 4 (count_word m) _ j h) ∙ ap (word_at m) (omega arith))
    (record { long = long; same = λ j h. absurd (omega arith) })
    counts)
    entries)
    cells)
    held in
    let all : Begun state_words (word_at m) state_words s₉ =
    part_put m _ 436 16 state_words (omega arith) (omega arith)
    (λ j h. spare_word 1 j h (truth_unused m kept (48 + j) (omega arith) ∙ counted m (436 + j) _ (omega arith) (word_truth m (48 + j))))
    (part_put m _ 388 (length m.reported) 436 (omega (arith, kept.reported)) (omega (arith, kept.reported))
    (λ j h. counted m (388 + j) _ (omega arith) (word_truth m j))
    (part_put m _ 372 16 388 (omega arith) (omega arith)
    (λ j h. spare_word 0 j h (event_unused m kept (48 + j) (omega arith) ∙ counted m (372 + j) _ (omega arith) (word_event m (48 + j) (omega arith))))
    (part_put m _ 324 (length m.table.events) 372 (omega (arith, kept.table.events)) (omega (arith, kept.table.events))
    (λ j h. counted m (324 + j) _ (omega arith) (word_event m j (omega (arith, kept.table.events))))
    (part_put m _ 292 (length m.table.variables) 324 (omega (arith, kept.table.variables)) (omega (arith, kept.table.variables))
    (λ j h. counted m (292 + j) _ (omega arith) (word_initial m j (omega (arith, kept.table.variables)))) front initial)
    events)
    unused)
    reported)
    last in
    list_is state_words (word_at m) 0 s₉ all.long all.same
