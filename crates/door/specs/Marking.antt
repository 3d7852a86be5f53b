-- The marks of a reach laid down as bytes, part after part.
use Rattle.std.specs.Prelude.{Bool, true, false, List, ◌≡◌, refl, ℕ, ◌+◌, ◌<◌, ◌≤◌, length, get_or, set}
use Rattle.std.proofs.Common.{sym, ap, ◌∙◌, subst, add-one, arith, length-set}
use mir.Val.{bool_byte}
use Rattle.bits.specs.Window.{stored}
use Rattle.bits.specs.Filled.{list_is}
use Rattle.reach.specs.declared.Reach.{Reach}
use Rattle.words.specs.Rows.{Begun, begun_one, begun_part}
use Rattle.words.specs.Layout.{followed}
use Rattle.words.specs.Standing.{followed_first, followed_later}
use Rattle.door.specs.Reaching.{mark_byte, mark_count, mark_bytes, Slotted}

-- a mark as a byte
pub byte_of_mark : (b : Bool) → bool_byte b ≡ mark_byte b
byte_of_mark true = refl
byte_of_mark false = refl

-- the first k marks are laid down, from byte `at` on
pub record Marking (marks : List Bool) (at : ℕ) (first : List ℕ) (s : List ℕ) (k : ℕ) : Type 0 where
  pub long : length s ≡ length first
  pub within : k ≤ length marks
  pub same : s ≡ stored first at (λ j. mark_byte (get_or marks j false)) k

-- none is
pub marking_none : {marks : List Bool} {at : ℕ} {s : List ℕ} → Marking marks at s s 0
unfolding stored
marking_none = record { long = refl; within = omega arith; same = refl }

-- one more is
pub marking_more : {marks : List Bool} {at : ℕ} {first s : List ℕ} {k : ℕ} → Marking marks at first s k → k < length marks
    → Marking marks at first (set s (at + k) (bool_byte (get_or marks k false))) (k + 1)
unfolding stored
marking_more {marks} {at} {first} {s} {k} so more =
    record {
      long = length-set s (at + k) _ ∙ so.long;
      within = omega arith;
      same = rw (add-one k) (λ i. set (so.same i) (at + k) (byte_of_mark (get_or marks k false) i));
    }

-- all are
pub marking_all : {marks : List Bool} {at : ℕ} {first s : List ℕ} {k : ℕ} → Marking marks at first s k → length marks ≤ k
    → s ≡ stored first at (λ j. mark_byte (get_or marks j false)) (length marks)
marking_all {marks} {at} {first} {s} {k} so all = so.same ∙ ap (stored first at (λ j. mark_byte (get_or marks j false))) {x = k} {y = length marks} (omega (arith, so.within))

-- the three parts are the marks
pub marks_put : (found : Reach) (s : List ℕ) {s₁ s₂ : List ℕ} → length s ≡ mark_count → Slotted found
    → s₁ ≡ stored s 0 (λ j. mark_byte (get_or found.entries j false)) (length found.entries)
    → s₂ ≡ stored s₁ 128 (λ j. mark_byte (get_or found.imports j false)) (length found.imports)
    → set s₂ 176 (bool_byte found.clock) ≡ mark_bytes found
unfolding mark_bytes
marks_put found s {s₁} {s₂} long slots first second =
    let entry : ℕ → ℕ = λ k. mark_byte (get_or found.entries k false) in
    let named : ℕ → ℕ = λ i. mark_byte (get_or found.imports i false) in
    let clock : ℕ → ℕ = λ j. mark_byte found.clock in
    let rest : ℕ → ℕ = followed 48 named clock in
    let all : ℕ → ℕ = followed 128 entry rest in
    let none : Begun mark_count all 0 s = record { long = long; same = λ j h. absurd (omega arith) } in
    let entries : Begun mark_count all 128 s₁ =
    subst (Begun mark_count all 128) (sym (first ∙ ap (stored s 0 entry) slots.0))
    (begun_part mark_count all entry 0 128 s (omega arith) (λ j h. sym (followed_first 128 entry rest j h) ∙ ap all {x = j} {y = 0 + j} (omega arith)) none) in
    let imports : Begun mark_count all 176 s₂ =
    subst (Begun mark_count all 176) (sym (second ∙ ap (stored s₁ 128 named) slots.1))
    (begun_part mark_count all named 128 48 s₁ (omega arith) (λ j h. sym (followed_later 128 entry rest j ∙ followed_first 48 named clock j h)) entries) in
    let whole : Begun mark_count all mark_count (set s₂ 176 (bool_byte found.clock)) =
    begun_one mark_count all 176 (bool_byte found.clock) s₂ (omega arith)
    (byte_of_mark found.clock ∙ sym (followed_later 128 entry rest 48 ∙ followed_later 48 named clock 0)) imports in
    list_is mark_count all 0 _ whole.long whole.same
