-- Fields put one after another from a bit on: the bytes then, and the bit after the fields.
use Rattle.std.specs.Prelude.{List, [], ◌∷◌, ◌++◌, ◌≡◌, refl, ℕ, ◌+◌, ◌*◌, ◌/◌, length}
use Rattle.std.proofs.Common.{sym, ◌∙◌, ap, ap₂, subst, add-zero, zero-add, arith}
use Rattle.bits.specs.Bits.{Part, padding_at}
use Rattle.bits.specs.Holding.{width_of_all}
use Rattle.bits.specs.Packing.{width_append, padded, width_padded}
use Rattle.bits.specs.Putting.{put_at, put_all}
use Rattle.bits.specs.Putall.{put_append, length_put_all}
use Rattle.script.specs.Writer.{part, joined}
use Rattle.writer.specs.Parts.{joined_more}

-- what a function that puts fields says: the bytes as they were, the first bit, the fields, the bytes then, and the next bit
pub record Puts (before : List ℕ) (at : ℕ) (ps : List Part) (after : List ℕ) (next : ℕ) : Type 0 where
  pub bytes : after ≡ put_all before at ps
  pub ends : next ≡ at + width_of_all ps

-- no field
pub puts_none : {s : List ℕ} {at : ℕ} → Puts s at [] s at
unfolding put_all width_of_all
puts_none {s} {at} = record { bytes = refl; ends = sym (add-zero at) }

-- one field
pub puts_one : {s s' : List ℕ} {at w v next : ℕ} → s' ≡ put_at s at w v → next ≡ at + w → Puts s at (part w v ∷ []) s' next
unfolding put_all width_of_all
puts_one {at = at} {w = w} put ends = record { bytes = put; ends = ends ∙ ap (λ (n : ℕ). at + n) (sym (add-zero w)) }

-- some fields, and then some more
pub puts_more : {s s' s'' : List ℕ} {at mid next : ℕ} {ps qs : List Part} → Puts s at ps s' mid → Puts s' mid qs s'' next → Puts s at (ps ++ qs) s'' next
puts_more {s = s} {at = at} {ps = ps} {qs = qs} first second =
    record {
      bytes = second.bytes ∙ ap₂ (λ (l : List ℕ) (n : ℕ). put_all l n qs) first.bytes first.ends ∙ sym (put_append s at ps qs);
      ends = omega (arith, first.ends, second.ends, width_append ps qs);
    }

-- one field, and then some more
pub puts_next : {s s' s'' : List ℕ} {at mid next : ℕ} {p : Part} {ps : List Part} → Puts s at (p ∷ []) s' mid → Puts s' mid ps s'' next
    → Puts s at (p ∷ ps) s'' next
puts_next first second = puts_more first second

-- one list more
pub puts_joined : {s s' s'' : List ℕ} {at mid next : ℕ} (i : ℕ) (f : ℕ → List Part) → Puts s at (joined i f) s' mid → Puts s' mid (f i) s'' next
    → Puts s at (joined (i + 1) f) s'' next
puts_joined i f first second = rw (joined_more i f) (puts_more first second)

-- no list yet
pub puts_start : {s : List ℕ} {at : ℕ} (f : ℕ → List Part) → Puts s at (joined 0 f) s at
unfolding joined
puts_start f = puts_none

-- some fields, and zero bits up to a whole byte
pub puts_padded : {s s' s'' : List ℕ} {at end : ℕ} {ps : List Part} → Puts s 0 ps s' at → Puts s' at (part (padding_at at) 0 ∷ []) s'' end
    → Puts s 0 (padded ps) s'' (8 * (end / 8))
puts_padded {s = s} {s'' = s''} {at = at} {end = end} {ps = ps} first zeros =
    record { bytes = all.bytes; ends = omega (arith, all.ends, width_padded ps) }
  where
    all : Puts s 0 (padded ps) s'' end
    all =
        subst (λ (n : ℕ). Puts s 0 (ps ++ (part (padding_at n) 0 ∷ [])) s'' end) (first.ends ∙ zero-add (width_of_all ps)) (puts_more first zeros)

-- where a field ends
pub field_ends : {s s' : List ℕ} {at w v next : ℕ} → Puts s at (part w v ∷ []) s' next → next ≡ at + w
unfolding width_of_all
field_ends {w = w} put = omega (arith, put.ends)

-- the bytes stay as many
pub puts_length : {s s' : List ℕ} {at next : ℕ} {ps : List Part} → Puts s at ps s' next → length s' ≡ length s
puts_length {s} {s'} {at} {next} {ps} put = ap length put.bytes ∙ length_put_all s at ps
