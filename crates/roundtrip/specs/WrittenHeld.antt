-- Bytes that hold a table's head, or lists of fields one after another.
use Rattle.std.specs.Prelude.{List, ◌≡◌, ℕ, zero, suc, ◌+◌, ◌<◌}
use Rattle.std.proofs.Common.{⊎_elim, sym, ap, subst, not-suc-le-zero, eq-or-lt_of_le, le_of_suc-le-suc, add-zero, arith, le-leb}
use Rattle.bits.specs.Bits.{Part}
use Rattle.bits.specs.Holding.{width_of_all, Holds}
use Rattle.bits.specs.Reading.{got}
use Rattle.table.specs.declared.Table.{Table}
use Rattle.script.specs.Writer.{joined, header_parts}
use Rattle.script.specs.Reader.{counted, header}
use Rattle.bits.specs.Packing.{width_append, holds_first, holds_second}
use Rattle.table.specs.Sound.{Within}

-- the head of a table within its limits
pub header_held : (t : Table) → Within t → (s : List ℕ) (at : ℕ) → Holds s at (header_parts t)
    → header s at ≡ got (counted t.n t.q t.v) (at + width_of_all (header_parts t))
unfolding header header_parts Holds width_of_all
header_held t within s at h =
    rw (
      h.0,
      h.1.0,
      le-leb 1 t.n within.some_entry,
      le-leb t.n 128 within.entries,
      h.1.1.0,
      le-leb t.q 48 within.imports,
      h.1.1.1.0,
      le-leb t.v 32 within.variables,
      h.1.1.1.1.0,
    )
    (ap (got (counted t.n t.q t.v)) (omega arith))

-- where list i of lists that are joined from bit `at` on begins
abbrev pub begins_at : ℕ → (ℕ → List Part) → ℕ → ℕ
begins_at at f i = at + width_of_all (joined i f)

-- list 0 begins where they all do
pub joined_start : (at : ℕ) (f : ℕ → List Part) → at ≡ begins_at at f 0
unfolding joined width_of_all
joined_start at f = sym (add-zero at)

-- each begins where the one before it ends
pub joined_next : (at : ℕ) (f : ℕ → List Part) (i : ℕ) → begins_at at f (suc i) ≡ begins_at at f i + width_of_all (f i)
unfolding joined
joined_next at f i = rw (width_append (joined i f) (f i)) (omega arith)

-- and stands there
pub joined_held : (s : List ℕ) (at n : ℕ) (f : ℕ → List Part) → Holds s at (joined n f) → (i : ℕ) → i < n → Holds s (begins_at at f i) (f i)
unfolding joined
joined_held s at zero f h i b = absurd (not-suc-le-zero b)
joined_held s at (suc n) f h i b =
    ⊎_elim (λ last. subst (λ (j : ℕ). Holds s (begins_at at f j) (f j)) (sym last) (holds_second s at (joined n f) (f n) h))
    (λ before. joined_held s at n f (holds_first s at (joined n f) (f n) h) i before)
    (eq-or-lt_of_le (le_of_suc-le-suc b))
