-- The fields of a table, read again: its head, imports, variables and entries one after another.
use Rattle.std.specs.Prelude.{Bool, true, false, cond, List, [], ◌∷◌, ◌++◌, ◌≡◌, refl, eqb, length}
use Rattle.std.proofs.Common.{sym, ◌∙◌, add-zero, zero-add, arith, Ok, Some}
use Rattle.std.proofs.Math.Path.{ap}
use Prim.Native.Nat.{ℕ, zero, suc, ◌+◌, ◌*◌, ◌/◌, ◌<◌, ◌≤◌}
use Rattle.values.specs.declared.Number.{Number}
use Rattle.values.specs.Numbers.{in_range}
use Rattle.refusals.specs.declared.Refusal.{Refusal}
use Rattle.bits.specs.Bits.{Part, field_at, bits_of_all, bytes_of, padding_at}
use Rattle.bits.specs.Holding.{width_of_all, Holds}
use Rattle.bits.specs.Reading.{got, ◌>>=◌, give, padding}
use Rattle.table.specs.declared.Table.{Table}
use Rattle.table.specs.Limits.{limits}
use Rattle.table.specs.Kinds.{Operand, operands_of}
use Rattle.table.specs.Tables.{Shaped, entry_at, is_event, initial_of}
use Rattle.table.specs.Faults.{operands_fault, number_fault}
use Rattle.script.specs.Reader.{with_variable, imports, variables, entries, packed_table}
use Rattle.script.specs.Writer.{joined, header_parts, import_parts, number_parts, entry_parts, table_parts}
use Rattle.bits.specs.Packing.{width_append, holds_first, holds_second, length_packed, packed_holds, packed_padding}
use Rattle.refusals.specs.Accepting.{unless_accepted}
use Rattle.table.specs.Sound.{Within, Sound}
use Rattle.roundtrip.specs.WrittenSoFar.{so_far, so_far_import, so_far_variable, so_far_entry, so_far_operand, so_far_all}
use Rattle.roundtrip.specs.WrittenTwos.{signed_unsigned}
use Rattle.roundtrip.proofs.WrittenFitting.{table_fits}
use Rattle.roundtrip.specs.WrittenHeld.{header_held, begins_at, joined_held, joined_next, joined_start}
use Rattle.roundtrip.specs.WrittenEntries.{entry_held}

-- one bit that says whether an import is an event
bit_again : (b : Bool) → eqb (cond b 1 0) 1 ≡ b
bit_again true = refl
bit_again false = refl

-- the fault of operands of an entry, all of them earlier
so_far_operands : (t : Table) → Shaped t → Within t → (x k : ℕ) → k ≤ limits.slots → (os : List Operand)
    → operands_fault (so_far t t.q x k) k os ≡ operands_fault t k os
unfolding operands_fault
so_far_operands t shape within x k h [] = refl
so_far_operands t shape within x k h (o ∷ os) = rw (so_far_operand t shape within x k h o, so_far_operands t shape within x k h os)

-- the fields of a variable
abbrev start_parts : Table → ℕ → List Part
start_parts t x = number_parts (initial_of t x)

-- the fields of an entry
abbrev slot_parts : Table → ℕ → List Part
slot_parts t k = entry_parts (entry_at t k)

module _ (t : Table) (shape : Shaped t) (sound : Sound t) (s : List ℕ) (at : ℕ) where
  -- one import, and the others
  import_held : Holds s at (joined t.q (import_parts t)) → (left i : ℕ) → i < t.q
      → imports (suc left) i (so_far t i 0 0) s (begins_at at (import_parts t) i)
      ≡ imports left (suc i) (so_far t (suc i) 0 0) s (begins_at at (import_parts t) (suc i))
  unfolding imports Holds import_parts width_of_all
  import_held held left i h =
      rw (
        (joined_held s at t.q (import_parts t) held i h).0,
        bit_again (is_event t i),
        joined_next at (import_parts t) i,
        so_far_import t shape i 0 0 (omega (arith, sound.within.imports)),
      )

  imports_held : Holds s at (joined t.q (import_parts t)) → (left i : ℕ) → i + left ≡ t.q
      → imports left i (so_far t i 0 0) s (begins_at at (import_parts t) i)
      ≡ got (so_far t t.q 0 0) (begins_at at (import_parts t) t.q)
  unfolding imports
  imports_held held zero i all = ap (λ (j : ℕ). got (so_far t j 0 0) (begins_at at (import_parts t) j)) (sym (add-zero i) ∙ all)
  imports_held held (suc left) i more = import_held held left i (omega arith) ∙ imports_held held left (suc i) (omega arith)

  -- one variable, whatever it starts with, and the others
  number_held : (y : Number) → number_fault y ≡ Ok tt → (left x here : ℕ) (so : Table) → Holds s here (number_parts y)
      → variables (suc left) x so s here ≡ variables left (suc x) (with_variable so x y) s (here + width_of_all (number_parts y))
  unfolding variables Holds width_of_all number_fault
  number_held Number.Undefined good left x here so held =
      rw (held.0, held.1.0)
      (ap (variables left (suc x) (with_variable so x Number.Undefined) s) (omega arith))
  number_held (Number.Whole z) good left x here so held =
      rw (held.0, held.1.0, signed_unsigned z (unless_accepted (in_range z) Refusal.Range good))
      (ap (variables left (suc x) (with_variable so x (Number.Whole z)) s) (omega arith))

  variable_held : Holds s at (joined t.v (start_parts t)) → (left x : ℕ) → x < t.v
      → variables (suc left) x (so_far t t.q x 0) s (begins_at at (start_parts t) x)
      ≡ variables left (suc x) (so_far t t.q (suc x) 0) s (begins_at at (start_parts t) (suc x))
  variable_held held left x h =
      number_held (initial_of t x) (sound.numbers x h) left x (begins_at at (start_parts t) x) (so_far t t.q x 0)
      (joined_held s at t.v (start_parts t) held x h)
      ∙ rw (so_far_variable t shape t.q x 0 (omega (arith, sound.within.variables)), joined_next at (start_parts t) x)

  variables_held : Holds s at (joined t.v (start_parts t)) → (left x : ℕ) → x + left ≡ t.v
      → variables left x (so_far t t.q x 0) s (begins_at at (start_parts t) x)
      ≡ got (so_far t t.q t.v 0) (begins_at at (start_parts t) t.v)
  unfolding variables
  variables_held held zero x all = ap (λ (y : ℕ). got (so_far t t.q y 0) (begins_at at (start_parts t) y)) (sym (add-zero x) ∙ all)
  variables_held held (suc left) x more = variable_held held left x (omega arith) ∙ variables_held held left (suc x) (omega arith)

  -- one entry, and the others
  entry_next : Holds s at (joined t.n (slot_parts t)) → (left k : ℕ) → k < t.n
      → entries (suc left) k (so_far t t.q t.v k) s (begins_at at (slot_parts t) k)
      ≡ entries left (suc k) (so_far t t.q t.v (suc k)) s (begins_at at (slot_parts t) (suc k))
  unfolding entries
  entry_next held left k h =
      let e = entry_at t k in
      let good = so_far_operands t shape sound.within t.v k (omega (arith, sound.within.entries)) (operands_of e) ∙ sound.operands k h in
      rw (
        entry_held (so_far t t.q t.v k) k s (begins_at at (slot_parts t) k) e (joined_held s at t.n (slot_parts t) held k h) good,
        so_far_entry t shape t.q t.v k (omega (arith, sound.within.entries)),
        joined_next at (slot_parts t) k,
      )

  entries_held : Holds s at (joined t.n (slot_parts t)) → (left k : ℕ) → k + left ≡ t.n
      → entries left k (so_far t t.q t.v k) s (begins_at at (slot_parts t) k)
      ≡ got (so_far t t.q t.v t.n) (begins_at at (slot_parts t) t.n)
  unfolding entries
  entries_held held zero k all = ap (λ (j : ℕ). got (so_far t t.q t.v j) (begins_at at (slot_parts t) j)) (sym (add-zero k) ∙ all)
  entries_held held (suc left) k more = entry_next held left k (omega arith) ∙ entries_held held left (suc k) (omega arith)

  -- all imports, all variables, all entries
  all_imports : Holds s at (joined t.q (import_parts t))
      → imports t.q 0 (so_far t 0 0 0) s at ≡ got (so_far t t.q 0 0) (begins_at at (import_parts t) t.q)
  all_imports held = ap (imports t.q 0 (so_far t 0 0 0) s) (joined_start at (import_parts t)) ∙ imports_held held t.q 0 (zero-add t.q)

  all_variables : Holds s at (joined t.v (start_parts t))
      → variables t.v 0 (so_far t t.q 0 0) s at ≡ got (so_far t t.q t.v 0) (begins_at at (start_parts t) t.v)
  all_variables held =
      ap (variables t.v 0 (so_far t t.q 0 0) s) (joined_start at (start_parts t)) ∙ variables_held held t.v 0 (zero-add t.v)

  all_entries : Holds s at (joined t.n (slot_parts t))
      → entries t.n 0 (so_far t t.q t.v 0) s at ≡ got t (begins_at at (slot_parts t) t.n)
  all_entries held =
      ap (entries t.n 0 (so_far t t.q t.v 0) s) (joined_start at (slot_parts t)) ∙ entries_held held t.n 0 (zero-add t.n)
      ∙ ap (λ (u : Table). got u (begins_at at (slot_parts t) t.n)) (so_far_all t shape sound.unused)

-- how wide all the fields are
table_wide : (t : Table) → width_of_all (table_parts t)
    ≡ 0 + width_of_all (header_parts t) + width_of_all (joined t.q (import_parts t)) + width_of_all (joined t.v (start_parts t))
    + width_of_all (joined t.n (slot_parts t))
unfolding table_parts
table_wide t = simp width_append (omega arith)

-- zero bits up to a whole byte
padding_held : (s : List ℕ) (at : ℕ) (t : Table) → field_at s at (padding_at at) ≡ Some 0
    → (padding Refusal.Cut Refusal.Padding >>= λ zeros. give t) s at ≡ got t (at + padding_at at)
padding_held s at t zeros = rw zeros

-- bytes that hold the fields of a table, and zero bits up to a whole byte
pub table_held : (t : Table) → Shaped t → Sound t → (s : List ℕ) → Holds s 0 (table_parts t)
    → field_at s (width_of_all (table_parts t)) (padding_at (width_of_all (table_parts t))) ≡ Some 0
    → packed_table s 0 ≡ got t (width_of_all (table_parts t) + padding_at (width_of_all (table_parts t)))
unfolding packed_table table_parts
table_held t shape sound s held zeros =
    let entryFields = joined t.n (slot_parts t) in
    let variableFields = joined t.v (start_parts t) in
    let importFields = joined t.q (import_parts t) in
    let after_head = 0 + width_of_all (header_parts t) in
    let after_imports = after_head + width_of_all importFields in
    let after_variables = after_imports + width_of_all variableFields in
    let imports = holds_second s 0 (header_parts t) (importFields ++ (variableFields ++ entryFields)) held in
    let variables = holds_second s after_head importFields (variableFields ++ entryFields) imports in
    rw (
      header_held t sound.within s 0 (holds_first s 0 (header_parts t) (importFields ++ (variableFields ++ entryFields)) held),
      all_imports t shape sound s after_head (holds_first s after_head importFields (variableFields ++ entryFields) imports),
      all_variables t shape sound s after_imports (holds_first s after_imports variableFields entryFields variables),
      all_entries t shape sound s after_variables (holds_second s after_imports variableFields entryFields variables),
      ← table_wide t,
    )
    (padding_held s (width_of_all (table_parts t)) t zeros)

-- zero bits bring a width to as many whole bytes as it takes
whole_bytes : (w : ℕ) → w + padding_at w ≡ 8 * ((w + 7) / 8)
whole_bytes w = omega arith

-- a packed table is read again, whatever follows it
pub packed_again : (t : Table) → Shaped t → Sound t → (rest : List ℕ)
    → packed_table (bytes_of (bits_of_all (table_parts t)) ++ rest) 0 ≡ got t (8 * length (bytes_of (bits_of_all (table_parts t))))
packed_again t shape sound rest =
    table_held t shape sound (bytes_of (bits_of_all (table_parts t)) ++ rest) (packed_holds (table_parts t) rest (table_fits t sound))
    (packed_padding (table_parts t) rest)
    ∙ ap (got t) (whole_bytes (width_of_all (table_parts t)) ∙ ap (λ (n : ℕ). 8 * n) (sym (length_packed (table_parts t))))
