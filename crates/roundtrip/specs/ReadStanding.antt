-- Fields that stand in bytes from one bit up to another.
use Rattle.std.specs.Prelude.{List, [], ◌∷◌, ◌++◌, ◌≡◌, ℕ, ◌+◌, Some}
use Rattle.std.proofs.Common.{arith}
use Rattle.bits.specs.Bits.{Part, field_at}
use Rattle.bits.specs.Holding.{width_of_all, Holds}
use Rattle.script.specs.Writer.{part}
use Rattle.bits.specs.Packing.{width_append, holds_append}

-- the fields stand one after another from bit `at` on, and bit `next` comes after them
pub record Stands (s : List ℕ) (at next : ℕ) (ps : List Part) : Type 0 where
  pub held : Holds s at ps
  pub ends : next ≡ at + width_of_all ps

-- no field
pub stands_none : {s : List ℕ} {at : ℕ} → Stands s at at []
unfolding Holds width_of_all
stands_none = record { held = tt; ends = omega arith }

-- one field and then others
pub stands_more : {s : List ℕ} {at w v next : ℕ} {ps : List Part} → field_at s at w ≡ Some v → Stands s (at + w) next ps
    → Stands s at next (part w v ∷ ps)
unfolding Holds width_of_all
stands_more there rest = record { held = (there, rest.held); ends = omega (arith, rest.ends) }

-- fields of one list and then those of another
pub stands_append : {s : List ℕ} {at mid next : ℕ} {ps qs : List Part} → Stands s at mid ps → Stands s mid next qs
    → Stands s at next (ps ++ qs)
stands_append {s} {at} {mid} {next} {ps} {qs} first second =
    record {
      held = holds_append s at ps qs first.held (rw first.ends at second.held);
      ends = omega (arith, first.ends, second.ends, width_append ps qs);
    }
