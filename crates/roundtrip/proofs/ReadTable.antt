-- The table of a script, read: its fields stand in the bytes, zero bits follow up to a whole byte, and it has no fault.
use Rattle.std.specs.Prelude.{false, ◌||◌, List, ◌≡◌, refl, leb, eqb, get_or, replicate}
use Rattle.std.proofs.Common.{sym, ap, subst, arith, leb-true, eqb-true, Ok, Some}
use Rattle.std.proofs.Math.Path.{subst₃}
use Prim.Native.Nat.{ℕ, zero, suc, ◌+◌, ◌*◌, ◌/◌}
use Rattle.std.proofs.lemmas.List.{get_or-replicate}
use Rattle.replies.specs.Plain.{both_true}
use Rattle.values.specs.declared.Number.{Number}
use Rattle.refusals.specs.declared.Refusal.{Refusal}
use Rattle.bits.specs.Bits.{field_at, padding_at}
use Rattle.bits.specs.Holding.{width_of_all, Holds}
use Rattle.table.specs.declared.Table.{Table}
use Rattle.table.specs.declared.Entry.{Entry}
use Rattle.table.specs.Limits.{limits}
use Rattle.table.specs.Tables.{Shaped, entry_at, is_event, initial_of}
use Rattle.table.specs.Faults.{table_fault}
use Rattle.script.specs.Reader.{counted, with_event, with_variable, starting, header, imports, variables, entries, packed_table}
use Rattle.script.specs.Writer.{joined, header_parts, table_parts}
use Rattle.refusals.specs.Numbering.{unless}
use Rattle.refusals.specs.Accepting.{unless_accepted}
use Rattle.bits.specs.Reading.{◌>>=◌, field, whatever}
use Rattle.bits.specs.Giving.{Gives, gives_value, gives_onward, gives_field}
use Rattle.roundtrip.specs.ReadStanding.{Stands, stands_none, stands_more}
use Rattle.roundtrip.proofs.ReadEntries.{entry_read}
use Rattle.roundtrip.proofs.ReadSoFar.{SoFar, import_step, variable_step, entry_step}
use Rattle.table.specs.Sound.{Within, within_limits, table_sound}
use Rattle.roundtrip.specs.ReadFaults.{unused_slots_lem}

-- a list of one thing has it everywhere
alike : {A : Type 0} (n i : ℕ) (a : A) → get_or (replicate n a) i a ≡ a
alike zero i a = refl
alike (suc n) zero a = refl
alike (suc n) (suc i) a = alike n i a

-- the counts alone, with no slot used
counted_so_far : (s : List ℕ) (n q v at : ℕ) → Stands s 0 at (header_parts (counted n q v)) → SoFar (counted n q v) s 0 0 0 (counted n q v) at
unfolding joined header_parts is_event initial_of entry_at
counted_so_far s n q v at stand =
    record {
      n = refl;
      q = refl;
      v = refl;
      shaped = record { entries = refl; events = refl; variables = refl };
      stand = stand;
      no_import = λ j late. alike limits.imports j false;
      no_number = λ j late. (alike limits.variables j Number.Undefined);
      no_entry_lem = λ j late slot. (get_or-replicate limits.slots j _ _ slot);
      numbers = λ j none. absurd (omega arith);
      operands = λ j none. absurd (omega arith);
    }

-- "Format number ... Entry count n ... Import count q ... Variable count v ... Four zero bits."
pub header_read : (s : List ℕ) → Gives (header s 0) (λ c at. Within c × SoFar c s 0 0 0 c at)
unfolding header header_parts
header_read s =
    gives_field s 0 8 _ _ _ (λ f format one.
    gives_field s _ 8 _ _ _ (λ n entries-there some.
    gives_field s _ 6 _ _ _ (λ q imports-there few.
    gives_field s _ 6 _ _ _ (λ v variables-there fewer.
    gives_field s _ 4 _ _ _ (λ z zeros nothing.
    let bounds = both_true (leb 1 n) (leb n limits.entries) (unless_accepted _ _ some) in
    let first = eqb-true f 1 (unless_accepted (eqb f 1) Refusal.Format one) in
    let last = eqb-true z 0 (unless_accepted (eqb z 0) Refusal.HeaderBits nothing) in
    gives_value (
      record {
        some_entry = leb-true 1 n bounds.0;
        entries = leb-true n limits.entries bounds.1;
        imports = leb-true q limits.imports (unless_accepted _ _ few);
        variables = leb-true v limits.variables (unless_accepted _ _ fewer);
      },
      counted_so_far s n q v _
          (stands_more (rw first at format)
          (stands_more entries-there (stands_more imports-there (stands_more variables-there (stands_more (rw last at zeros) stands_none))))),
    ))))))

module _ (c : Table) (within : Within c) (s : List ℕ) where
  -- "q bits, one for each import"
  pub imports_read : (left i : ℕ) (t : Table) (at : ℕ) → i + left ≡ c.q → SoFar c s i 0 0 t at
      → Gives (imports left i t s at) (SoFar c s c.q 0 0)
  unfolding imports
  imports_read zero i t at all h = gives_value (subst (λ (m : ℕ). SoFar c s m 0 0 t at) (omega arith) h)
  imports_read (suc left) i t at all h =
      gives_field s at 1 Refusal.Cut whatever (λ bit. imports left (suc i) (with_event t i (eqb bit 1)) s) (λ bit there good.
      imports_read left (suc i) _ _ (omega arith) (import_step h (omega (arith, within.imports)) there))

  -- "For each variable: 1 bit ..., then 48 bits"
  pub variables_read : (left x : ℕ) (t : Table) (at : ℕ) → x + left ≡ c.v → SoFar c s c.q x 0 t at
      → Gives (variables left x t s at) (SoFar c s c.q c.v 0)
  unfolding variables
  variables_read zero x t at all h = gives_value (subst (λ (m : ℕ). SoFar c s c.q m 0 t at) (omega arith) h)
  variables_read (suc left) x t at all h =
      gives_field s at 1 Refusal.Cut whatever (λ bit. (field Refusal.Cut 48 (λ v. unless (eqb bit 1 || eqb v 0) Refusal.Initial) >>= λ v. variables left (suc x) (with_variable t x (starting bit v))) s) (λ bit there good.
      gives_field s (at + 1) 48 Refusal.Cut (λ v. unless (eqb bit 1 || eqb v 0) Refusal.Initial) (λ v. variables left (suc x) (with_variable t x (starting bit v)) s) (λ v number zero-or-defined.
      variables_read left (suc x) _ _ (omega arith) (variable_step h (omega (arith, within.variables)) there number (unless_accepted (eqb bit 1 || eqb v 0) Refusal.Initial zero-or-defined))))

  -- "n entries"
  pub entries_read : (left k : ℕ) (t : Table) (at : ℕ) → k + left ≡ c.n → SoFar c s c.q c.v k t at
      → Gives (entries left k t s at) (SoFar c s c.q c.v c.n)
  unfolding entries
  entries_read zero k t at all h = gives_value (subst (λ (m : ℕ). SoFar c s c.q c.v m t at) (omega arith) h)
  entries_read (suc left) k t at all h =
      gives_onward (λ e next read.
      let known = (entry_read t k s at).told e next read in
      entries_read left (suc k) _ _ (omega arith) (entry_step e h (omega (arith, within.entries)) known.0 known.1))

-- a table that was read, with the zero bits after it
pub record TableRead (s : List ℕ) (t : Table) (next : ℕ) : Type 0 where
  pub within : Within t
  pub shaped : Shaped t
  pub sound : table_fault t ≡ Ok tt
  pub held : Holds s 0 (table_parts t)
  pub padded : field_at s (width_of_all (table_parts t)) (padding_at (width_of_all (table_parts t))) ≡ Some 0
  pub ends : next ≡ 8 * ((width_of_all (table_parts t) + 7) / 8)

-- the table's own counts are the header's
own_counts : (c t : Table) (s : List ℕ) (at : ℕ) → SoFar c s c.q c.v c.n t at → SoFar c s t.q t.v t.n t at
own_counts c t s at h = subst₃ (λ (i x k : ℕ). SoFar c s i x k t at) (sym h.q) (sym h.v) (sym h.n) h

-- and so are within their limits
own_limits : (c t : Table) (s : List ℕ) (i x k at : ℕ) → Within c → SoFar c s i x k t at → Within t
own_limits c t s i x k at within h =
    record {
      some_entry = rw h.n within.some_entry;
      entries = rw h.n within.entries;
      imports = rw h.q within.imports;
      variables = rw h.v within.variables;
    }

-- every slot is read, and then the padding
whole_table : (c t : Table) (s : List ℕ) (at : ℕ) → Within t → SoFar c s t.q t.v t.n t at → field_at s at (padding_at at) ≡ Some 0
    → TableRead s t (at + padding_at at)
unfolding table_parts
whole_table c t s at within h padded =
    let same : at ≡ width_of_all (table_parts t) = omega (arith, h.stand.ends) in
    record {
      within = within;
      shaped = h.shaped;
      sound = table_sound t (within_limits t within (unused_slots_lem t h.no_entry_lem h.no_import h.no_number)) h.numbers h.operands;
      held = h.stand.held;
      padded = subst (λ (m : ℕ). field_at s m (padding_at m) ≡ Some 0) same padded;
      ends = subst (λ (m : ℕ). at + padding_at at ≡ 8 * ((m + 7) / 8)) same (omega arith);
    }

-- all that comes before the labels
pub table_read : (s : List ℕ) → Gives (packed_table s 0) (TableRead s)
unfolding packed_table
table_read s =
    gives_onward (λ c at counts.
    let (within, h) = (header_read s).told c at counts in
    gives_onward (λ sorted at₁ read₁.
    let h₁ = (imports_read c within s c.q 0 c at (omega arith) h).told sorted at₁ read₁ in
    gives_onward (λ started at₂ read₂.
    let h₂ = (variables_read c within s c.v 0 sorted at₁ (omega arith) h₁).told started at₂ read₂ in
    gives_onward (λ t at₃ read₃.
    let h₃ = (entries_read c within s c.n 0 started at₂ (omega arith) h₂).told t at₃ read₃ in
    gives_field s at₃ (padding_at at₃) _ _ _ (λ z zeros good.
    let none = eqb-true z 0 (unless_accepted (eqb z 0) Refusal.Padding good) in
    gives_value (whole_table c t s at₃ (own_limits c t s _ _ _ at₃ within h₃) (own_counts c t s at₃ h₃) (rw none at zeros)))))))
