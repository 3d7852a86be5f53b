-- A text laid into a destination byte by byte, as far as there is room.
use Rattle.std.specs.Prelude.{cond, List, [], ◌∷◌, ◌++◌, ◌≡◌, refl, ℕ, suc, ◌+◌, ◌<◌, ◌≤◌, ltb, length, get_or, set, take}
use Rattle.std.proofs.Common.{sym, ◌∙◌, ap, subst, add-one, arith, lt-ltb, le-ltb, length-set, take-suc, take_all}
use Rattle.std.proofs.Math.Decide.{dec_lt}
use Rattle.std.proofs.Math.Seq.{set_out}

-- where the next byte goes after one at `at`; past the room no byte is laid, and the place stays
abbrev pub onward : ℕ → ℕ → ℕ
onward room at = cond (ltb at room) (suc at) at

-- where the next byte goes after a text
unfoldable pub end_of : ℕ → ℕ → List ℕ → ℕ
end_of room at [] = at
end_of room at (b ∷ text) = end_of room (onward room at) text

-- what the destination then holds
unfoldable pub laid : List ℕ → ℕ → List ℕ → List ℕ
laid dst at [] = dst
laid dst at (b ∷ text) = laid (set dst at b) (onward (length dst) at) text

-- a text was laid from `at` on: what the destination holds, and where the next byte goes
pub record Lays (dst : List ℕ) (at : ℕ) (text after : List ℕ) (next : ℕ) : Type 0 where
  pub bytes : after ≡ laid dst at text
  pub place : next ≡ end_of (length dst) at text

-- a destination keeps its length
pub laid_length : (dst : List ℕ) (at : ℕ) (text : List ℕ) → length (laid dst at text) ≡ length dst
unfolding laid
laid_length dst at [] = refl
laid_length dst at (b ∷ text) = laid_length (set dst at b) (onward (length dst) at) text ∙ length-set dst at b

-- two texts, one after the other
end_join : (room at : ℕ) (a b : List ℕ) → end_of room at (a ++ b) ≡ end_of room (end_of room at a) b
unfolding end_of
end_join room at [] b = refl
end_join room at (x ∷ a) b = end_join room (onward room at) a b

laid_join : (dst : List ℕ) (at : ℕ) (a b : List ℕ) → laid dst at (a ++ b) ≡ laid (laid dst at a) (end_of (length dst) at a) b
unfolding laid end_of
laid_join dst at [] b = refl
laid_join dst at (x ∷ a) b =
    laid_join (set dst at x) (onward (length dst) at) a b
    ∙ ap (λ (room : ℕ). laid (laid (set dst at x) (onward (length dst) at) a) (end_of room (onward (length dst) at) a) b) (length-set dst at x)

-- no text
pub lays_none : (dst : List ℕ) (at : ℕ) → Lays dst at [] dst at
unfolding laid end_of
lays_none dst at = record { bytes = refl; place = refl }

-- one byte where there is room
pub lays_in : {dst : List ℕ} {at b : ℕ} → at < length dst → Lays dst at (b ∷ []) (set dst at b) (at + 1)
unfolding laid end_of
lays_in {dst} {at} room = record { bytes = refl; place = add-one at ∙ sym (rw (lt-ltb at (length dst) room) refl) }

-- and where there is none
pub lays_out : {dst : List ℕ} {at b : ℕ} → length dst ≤ at → Lays dst at (b ∷ []) dst at
unfolding laid end_of
lays_out {dst} {at} {b} none = record { bytes = sym (set_out dst at b none); place = sym (rw (le-ltb at (length dst) none) refl) }

-- a text after a text
pub lays_then : {dst mid after : List ℕ} {at next end : ℕ} {a b : List ℕ} → Lays dst at a mid next → Lays mid next b after end → Lays dst at (a ++ b) after end
lays_then {dst} {at = at} {a = a} {b = b} one two =
    record {
      bytes = two.bytes ∙ (λ i. laid (one.bytes i) (one.place i) b) ∙ sym (laid_join dst at a b);
      place =
          two.place
          ∙ (λ i. end_of (length (one.bytes i)) (one.place i) b)
          ∙ ap (λ (room : ℕ). end_of room (end_of (length dst) at a) b) (laid_length dst at a)
          ∙ sym (end_join (length dst) at a b);
    }

-- a text after a byte
pub lays_first : {dst mid after : List ℕ} {at next end b : ℕ} {text : List ℕ} → Lays dst at (b ∷ []) mid next → Lays mid next text after end → Lays dst at (b ∷ text) after end
lays_first one rest = lays_then one rest

-- one byte more of a text
pub lays_next : {dst mid after : List ℕ} {at next end : ℕ} (text : List ℕ) (i : ℕ) → Lays dst at (take i text) mid next → Lays mid next (get_or text i 0 ∷ []) after end
    → i < length text → Lays dst at (take (i + 1) text) after end
lays_next {dst} {after = after} {at} {end = end} text i some one there =
    subst (λ (x : List ℕ). Lays dst at x after end) (sym (take-suc text i 0 there) ∙ ap (λ (j : ℕ). take j text) (sym (add-one i))) (lays_then some one)

-- all of it
pub lays_all : {dst after : List ℕ} {at next : ℕ} (text : List ℕ) (i : ℕ) → Lays dst at (take i text) after next → length text ≤ i → Lays dst at text after next
lays_all {dst} {after} {at} {next} text i some all = subst (λ (x : List ℕ). Lays dst at x after next) (take_all i text all) some

-- the same destination keeps its length
pub lays_length : {dst after text : List ℕ} {at next : ℕ} → Lays dst at text after next → length after ≡ length dst
lays_length {dst} {text = text} {at} lays = ap length lays.bytes ∙ laid_length dst at text

-- the place never goes past the room
pub end_within : (room at : ℕ) (text : List ℕ) → at ≤ room → end_of room at text ≤ room
unfolding end_of
end_within room at [] within = within
end_within room at (b ∷ text) within =
    elim (dec_lt at room) [
      | yes l ↦ rw (lt-ltb at room l) (end_within room (suc at) text (omega arith))
      | no h ↦ rw (le-ltb at room (omega arith)) (end_within room at text within)
    ]

-- so a text that is laid ends within the room
pub lays_room : {dst after text : List ℕ} {at next : ℕ} → at ≤ length dst → Lays dst at text after next → next ≤ length dst
lays_room {dst} {text = text} {at} within lays = subst (λ (n : ℕ). n ≤ length dst) (sym lays.place) (end_within (length dst) at text within)

-- a text laid from the first byte on, and its end within the room
pub lays_within : {dst after text : List ℕ} {next : ℕ} → Lays dst 0 text after next → Lays dst 0 text after next × (next ≤ length dst)
lays_within lays = (lays, lays_room (omega arith) lays)

-- two layings of one text into one destination come to the same place and leave the same bytes
pub lays_same : {dst text one two : List ℕ} {at next end : ℕ} → Lays dst at text one next → Lays dst at text two end → (next ≡ end) × (one ≡ two)
lays_same first second = (first.place ∙ sym second.place, first.bytes ∙ sym second.bytes)
