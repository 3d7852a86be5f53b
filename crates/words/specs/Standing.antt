-- What stands at each place among a monitor's words, and what a store there makes of the monitor.
use Rattle.std.specs.Prelude.{cond, [], ◌∷◌, ◌≡◌, refl, ℕ, ◌+◌, ◌-◌, ◌<◌, ltb, length, get_or, set, take, drop}
use Rattle.std.proofs.Common.{sym, ◌∙◌, ap, arith, lt-ltb, le-ltb, length-drop, length-take-le, get_or-take, get_or-drop, get_or-set_same, get_or-set_other}
use Rattle.std.proofs.Math.Decide.{dec_lt}
use Rattle.values.specs.declared.Truth.{Truth}
use Rattle.values.specs.declared.Number.{Number}
use Rattle.bits.specs.Bits.{list_to}
use Rattle.bits.specs.Lists.{length_list, get_d_list}
use Rattle.bits.specs.Filled.{list_is, list_set}
use Rattle.table.specs.Tables.{entry_at, is_event, initial_of}
use Rattle.step.specs.Taking.{truth_at}
use Rattle.monitor.specs.declared.Monitor.{Monitor}
use Rattle.monitor.specs.Keeping.{cell_at, held_in}
use Rattle.words.specs.Words.{number_word, truth_word, event_word, entry_word}
use Rattle.words.specs.Layout.{Kept, followed, count_word, state_words, word_at, state_of}

-- a place of the first part
pub followed_first : (size : ℕ) (f g : ℕ → ℕ) (j : ℕ) → j < size → followed size f g j ≡ f j
unfolding followed
followed_first size f g j h = rw (lt-ltb j size h) refl

-- a place of what follows it
pub followed_later : (size : ℕ) (f g : ℕ → ℕ) (j : ℕ) → followed size f g (size + j) ≡ g j
unfolding followed
followed_later size f g j = rw (le-ltb (size + j) size (omega arith)) (ap g (omega arith))

-- two rows of words are the same but for one place
abbrev pub Except : ℕ → (ℕ → ℕ) → (ℕ → ℕ) → Type 0
Except k f g = (i : ℕ) → (i ≡ k → ⊥) → f i ≡ g i

-- a change at one place of the first part is a change at one place of the whole
pub except_first : (size : ℕ) (f f₁ g : ℕ → ℕ) (k : ℕ) → Except k f f₁ → Except k (followed size f g) (followed size f₁ g)
unfolding followed
except_first size f f₁ g k same i other = ap (λ (a : ℕ). cond (ltb i size) a (g (i - size))) (same i other)

-- and so is a change at one place of what follows it
pub except_later : (size : ℕ) (f g g₁ : ℕ → ℕ) (k : ℕ) → Except k g g₁ → Except (size + k) (followed size f g) (followed size f g₁)
unfolding followed
except_later size f g g₁ k same i other =
    elim (dec_lt i size) [
      | yes h ↦ rw (lt-ltb i size h) refl
      | no h ↦ rw (le-ltb i size (omega arith)) (same (i - size) (λ e. other (omega arith)))
    ]

-- a monitor is 452 words
pub length_state : (m : Monitor) → length (state_of m) ≡ state_words
unfolding state_of
length_state m = length_list state_words (word_at m)

-- the word at each place
pub word_there : (m : Monitor) (j : ℕ) → j < state_words → get_or (state_of m) j 0 ≡ word_at m j
unfolding state_of
word_there m j h = get_d_list state_words (word_at m) j 0 h

-- the same, where the place is counted another way
there : (m : Monitor) (j i : ℕ) → j < state_words → j ≡ i → {w : ℕ} → word_at m i ≡ w → get_or (state_of m) j 0 ≡ w
there m j i h e here = word_there m j h ∙ ap (word_at m) e ∙ here

-- the word of an entry, among the words
pub word_entry : (m : Monitor) (k : ℕ) → k < 128 → word_at m (4 + k) ≡ entry_word (entry_at m.table k)
unfolding word_at
word_entry m k h = followed_later 4 _ _ k ∙ followed_first 128 _ _ k h

-- what an entry remembers
pub word_cell : (m : Monitor) (k : ℕ) → k < 128 → word_at m (4 + (128 + k)) ≡ cell_at m k
unfolding word_at
word_cell m k h = followed_later 4 _ _ (128 + k) ∙ followed_later 128 _ _ k ∙ followed_first 128 _ _ k h

-- the number that a variable holds
pub word_held : (m : Monitor) (x : ℕ) → x < 32 → word_at m (4 + (128 + (128 + x))) ≡ number_word (held_in m x)
unfolding word_at
word_held m x h =
    followed_later 4 _ _ (128 + (128 + x)) ∙ followed_later 128 _ _ (128 + x) ∙ followed_later 128 _ _ x ∙ followed_first 32 _ _ x h

-- the number that a variable starts with
pub word_initial : (m : Monitor) (x : ℕ) → x < 32 → word_at m (4 + (128 + (128 + (32 + x)))) ≡ number_word (initial_of m.table x)
unfolding word_at
word_initial m x h =
    followed_later 4 _ _ (128 + (128 + (32 + x)))
    ∙ followed_later 128 _ _ (128 + (32 + x))
    ∙ followed_later 128 _ _ (32 + x)
    ∙ followed_later 32 _ _ x
    ∙ followed_first 32 _ _ x h

-- the sort of an import
pub word_event : (m : Monitor) (i : ℕ) → i < 64 → word_at m (4 + (128 + (128 + (32 + (32 + i))))) ≡ event_word (is_event m.table i)
unfolding word_at
word_event m i h =
    followed_later 4 _ _ (128 + (128 + (32 + (32 + i))))
    ∙ followed_later 128 _ _ (128 + (32 + (32 + i)))
    ∙ followed_later 128 _ _ (32 + (32 + i))
    ∙ followed_later 32 _ _ (32 + i)
    ∙ followed_later 32 _ _ i
    ∙ followed_first 64 _ _ i h

-- the last reported value of an import
pub word_truth : (m : Monitor) (i : ℕ) → word_at m (4 + (128 + (128 + (32 + (32 + (64 + i)))))) ≡ truth_word (truth_at m.reported i)
unfolding word_at
word_truth m i =
    followed_later 4 _ _ (128 + (128 + (32 + (32 + (64 + i)))))
    ∙ followed_later 128 _ _ (128 + (32 + (32 + (64 + i))))
    ∙ followed_later 128 _ _ (32 + (32 + (64 + i)))
    ∙ followed_later 32 _ _ (32 + (64 + i))
    ∙ followed_later 32 _ _ (64 + i)
    ∙ followed_later 64 _ _ i

-- how many entries there are
pub entries_count : (m : Monitor) → get_or (state_of m) 0 0 ≡ m.table.n
unfolding word_at
entries_count m = word_there m 0 (omega arith) ∙ followed_first 4 (count_word m) _ 0 (omega arith)

-- how many imports
pub imports_count : (m : Monitor) → get_or (state_of m) 1 0 ≡ m.table.q
unfolding word_at
imports_count m = word_there m 1 (omega arith) ∙ followed_first 4 (count_word m) _ 1 (omega arith)

-- how many variables
pub variables_count : (m : Monitor) → get_or (state_of m) 2 0 ≡ m.table.v
unfolding word_at
variables_count m = word_there m 2 (omega arith) ∙ followed_first 4 (count_word m) _ 2 (omega arith)

-- the kept time of the last accepted step
pub last_there : (m : Monitor) → get_or (state_of m) 3 0 ≡ m.last
unfolding word_at
last_there m = word_there m 3 (omega arith) ∙ followed_first 4 (count_word m) _ 3 (omega arith)

-- an entry
pub entry_there : (m : Monitor) (k : ℕ) → k < 128 → get_or (state_of m) (4 + k) 0 ≡ entry_word (entry_at m.table k)
entry_there m k h = word_there m (4 + k) (omega arith) ∙ word_entry m k h

-- what an entry remembers
pub cell_there : (m : Monitor) (k : ℕ) → k < 128 → get_or (state_of m) (132 + k) 0 ≡ cell_at m k
cell_there m k h = there m (132 + k) _ (omega arith) (omega arith) (word_cell m k h)

-- the number that a variable holds
pub held_there : (m : Monitor) (x : ℕ) → x < 32 → get_or (state_of m) (260 + x) 0 ≡ number_word (held_in m x)
held_there m x h = there m (260 + x) _ (omega arith) (omega arith) (word_held m x h)

-- the number that a variable starts with
pub initial_there : (m : Monitor) (x : ℕ) → x < 32 → get_or (state_of m) (292 + x) 0 ≡ number_word (initial_of m.table x)
initial_there m x h = there m (292 + x) _ (omega arith) (omega arith) (word_initial m x h)

-- the sort of an import
pub event_there : (m : Monitor) (i : ℕ) → i < 64 → get_or (state_of m) (324 + i) 0 ≡ event_word (is_event m.table i)
event_there m i h = there m (324 + i) _ (omega arith) (omega arith) (word_event m i h)

-- the last reported value of an import
pub truth_there : (m : Monitor) (i : ℕ) → i < 64 → get_or (state_of m) (388 + i) 0 ≡ truth_word (truth_at m.reported i)
truth_there m i h = there m (388 + i) _ (omega arith) (omega arith) (word_truth m i)

-- the sorts of the imports, as the part that is lent
pub events_part : (m : Monitor) → take (388 - 324) (drop 324 (state_of m)) ≡ list_to 64 (λ i. event_word (is_event m.table i))
events_part m =
    list_is 64 (λ i. event_word (is_event m.table i)) 0 (take 64 (drop 324 (state_of m)))
    (length-take-le 64 (drop 324 (state_of m)) (omega (arith, length-drop 324 (state_of m), length_state m)))
    (λ i h. get_or-take 64 (drop 324 (state_of m)) i 0 h ∙ get_or-drop 324 (state_of m) i 0 ∙ event_there m i h)

-- one word is stored, and the monitors' words are the same but for it
stored : (m m₁ : Monitor) (j i w : ℕ) → j ≡ i → word_at m₁ i ≡ w → Except i (word_at m) (word_at m₁) → set (state_of m) j w ≡ state_of m₁
unfolding state_of
stored m m₁ j i w e here others =
    list_set state_words (word_at m) (word_at m₁) j w
    (λ h. sym here ∙ ap (word_at m₁) (sym e))
    (λ n h other. others n (λ at. other (at ∙ sym e)))

-- what an entry remembers is stored
pub cell_set : (m : Monitor) → Kept m → (k c : ℕ) → k < 128
    → set (state_of m) (132 + k) c
    ≡ state_of (record { table = m.table; last = m.last; reported = m.reported; held = m.held; cells = set m.cells k c })
unfolding word_at
cell_set m kept k c h =
    let m₁ : Monitor = record { table = m.table; last = m.last; reported = m.reported; held = m.held; cells = set m.cells k c } in
    stored m m₁ (132 + k) (4 + (128 + k)) c (omega arith)
    (word_cell m₁ k h ∙ get_or-set_same m.cells k c 0 (omega (arith, kept.cells)))
    (except_later 4 _ _ _ (128 + k)
    (except_later 128 _ _ _ k
    (except_first 128 (cell_at m) (cell_at m₁) _ k (λ i other. sym (get_or-set_other m.cells k i c 0 other)))))

-- the number that a variable holds is stored
pub held_set : (m : Monitor) → Kept m → (x : ℕ) (n : Number) → x < 32
    → set (state_of m) (260 + x) (number_word n)
    ≡ state_of
    (record { table = m.table; last = m.last; reported = m.reported; held = set m.held x n; cells = m.cells })
unfolding word_at
held_set m kept x n h =
    let slot : Number = n in
    let none : Number = Number.Undefined in
    let m₁ : Monitor = record { table = m.table; last = m.last; reported = m.reported; held = set m.held x slot; cells = m.cells } in
    let word : Number → ℕ = λ s. number_word s in
    stored m m₁ (260 + x) (4 + (128 + (128 + x))) (number_word n) (omega arith)
    (word_held m₁ x h ∙ ap word (get_or-set_same m.held x slot none (omega (arith, kept.held))))
    (except_later 4 _ _ _ (128 + (128 + x))
    (except_later 128 _ _ _ (128 + x)
    (except_later 128 _ _ _ x
    (except_first 32 (λ y. number_word (held_in m y)) (λ y. number_word (held_in m₁ y)) _ x
    (λ i other. ap word (sym (get_or-set_other m.held x i slot none other)))))))

-- the last reported value of an import is stored
pub truth_set : (m : Monitor) → Kept m → (i : ℕ) (c : Truth) → i < 48
    → set (state_of m) (388 + i) (truth_word c)
    ≡ state_of
    (record { table = m.table; last = m.last; reported = set m.reported i c; held = m.held; cells = m.cells })
unfolding word_at
truth_set m kept i c h =
    let slot : Truth = c in
    let none : Truth = Truth.Undefined in
    let m₁ : Monitor = record { table = m.table; last = m.last; reported = set m.reported i slot; held = m.held; cells = m.cells } in
    let word : Truth → ℕ = λ s. truth_word s in
    stored m m₁ (388 + i) (4 + (128 + (128 + (32 + (32 + (64 + i)))))) (truth_word c) (omega arith)
    (word_truth m₁ i ∙ ap word (get_or-set_same m.reported i slot none (omega (arith, kept.reported))))
    (except_later 4 _ _ _ (128 + (128 + (32 + (32 + (64 + i)))))
    (except_later 128 _ _ _ (128 + (32 + (32 + (64 + i))))
    (except_later 128 _ _ _ (32 + (32 + (64 + i)))
    (except_later 32 _ _ _ (32 + (64 + i))
    (except_later 32 _ _ _ (64 + i)
    (except_later 64 _ (λ j. truth_word (truth_at m.reported j)) (λ j. truth_word (truth_at m₁.reported j)) i
    (λ j other. ap word (sym (get_or-set_other m.reported i j slot none other)))))))))

-- the kept time of the last accepted step is stored
pub last_set : (m : Monitor) (c : ℕ)
    → set (state_of m) 3 c ≡ state_of (record { table = m.table; last = c; reported = m.reported; held = m.held; cells = m.cells })
unfolding word_at
last_set m c =
    let m₁ : Monitor = record { table = m.table; last = c; reported = m.reported; held = m.held; cells = m.cells } in
    stored m m₁ 3 3 c refl
    (followed_first 4 (count_word m₁) _ 3 (omega arith))
    (except_first 4 (count_word m) (count_word m₁) _ 3
    (λ i other. sym (get_or-set_other (m.table.n ∷ m.table.q ∷ m.table.v ∷ m.last ∷ []) 3 i c 0 other)))
