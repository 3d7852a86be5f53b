-- In a sound table every entry looks at earlier entries, and inside the slots.
use Rattle.std.specs.Prelude.{List, [], ◌∷◌, ◌≡◌, ℕ, zero, suc, ◌<◌, ◌≤◌, ltb, length, get_or, Ok}
use Rattle.std.proofs.Math.Decide.{dec_lt}
use Rattle.std.proofs.Common.{not-suc-le-zero, arith, ltb-true}
use Rattle.std.proofs.Math.ListN.{get_or-eq_default}
use Rattle.refusals.specs.declared.Refusal.{Refusal}
use Rattle.refusals.specs.Numbering.{unless}
use Rattle.refusals.specs.Accepting.{unless_accepted, accepted_first, accepted_second}
use Rattle.table.specs.declared.Entry.{Entry}
use Rattle.table.specs.declared.Table.{Table}
use Rattle.table.specs.Limits.{limits}
use Rattle.table.specs.Kinds.{Operand, entry, imported, variable, constant, operands_of}
use Rattle.table.specs.Faults.{operand_fault, operands_fault}
use Rattle.table.specs.Sound.{Within}
use Rattle.meaning.specs.declared.Places.{Places}
use Rattle.meaning.specs.Places.{entries_in, imports_in, variables_in, places_of}

-- places that are slots of a table
pub record Inside (p : Places) : Type 0 where
  pub first : p.first < limits.slots
  pub second : p.second < limits.slots
  pub imported : p.imported < limits.imports
  pub variable : p.variable < limits.variables

-- numbers that are all below a bound
pub record AllBelow (bound : ℕ) (numbers : List ℕ) : Type 0 where
  pub each : (i : ℕ) → i < length numbers → get_or numbers i 0 < bound

-- of no numbers, all are
none_below : (bound : ℕ) → AllBelow bound []
none_below bound = record { each = λ i there. absurd (not-suc-le-zero there) }

-- one more that is below
one_more : (bound n : ℕ) (numbers : List ℕ) → n < bound → AllBelow bound numbers → AllBelow bound (n ∷ numbers)
one_more bound n numbers first rest = record { each = each }
  where
    each : (i : ℕ) → i < length (n ∷ numbers) → get_or (n ∷ numbers) i 0 < bound
    each zero there = first
    each (suc i) there = rest.each i (omega arith)

-- what accepted operands name: earlier entries, imports below q, variables below v
pub record Named (t : Table) (k : ℕ) (operands : List Operand) : Type 0 where
  pub entries : AllBelow k (entries_in operands)
  pub imports : AllBelow t.q (imports_in operands)
  pub variables : AllBelow t.v (variables_in operands)

-- what is not refused with 7 is below its bound
not_seven : (n bound : ℕ) → unless (ltb n bound) Refusal.Operand ≡ Ok tt → n < bound
not_seven n bound good = ltb-true n bound (unless_accepted (ltb n bound) Refusal.Operand good)

-- one more operand that is accepted
one_named : (t : Table) (k : ℕ) (o : Operand) (rest : List Operand) → operand_fault t k o ≡ Ok tt → Named t k rest → Named t k (o ∷ rest)
unfolding operand_fault
one_named t k (entry s a) rest good later =
    record {
      entries = one_more k a (entries_in rest) (not_seven a k (accepted_first (unless (ltb a k) Refusal.Operand) _ good)) later.entries;
      imports = later.imports;
      variables = later.variables;
    }
one_named t k (imported s i) rest good later =
    record {
      entries = later.entries;
      imports = one_more t.q i (imports_in rest) (not_seven i t.q (accepted_first (unless (ltb i t.q) Refusal.Operand) _ good)) later.imports;
      variables = later.variables;
    }
one_named t k (variable x) rest good later =
    record {
      entries = later.entries;
      imports = later.imports;
      variables = one_more t.v x (variables_in rest) (not_seven x t.v good) later.variables;
    }
one_named t k (constant z) rest good later = record { entries = later.entries; imports = later.imports; variables = later.variables }

-- "7: operand not an earlier entry, import ≥ q, or variable ≥ v": no accepted operand is such a one
pub all_named : (t : Table) (k : ℕ) (operands : List Operand) → operands_fault t k operands ≡ Ok tt → Named t k operands
unfolding operands_fault
all_named t k [] good = record { entries = none_below k; imports = none_below t.q; variables = none_below t.v }
all_named t k (o ∷ rest) good =
    one_named t k o rest (accepted_first (operand_fault t k o) (operands_fault t k rest) good)
    (all_named t k rest (accepted_second (operand_fault t k o) (operands_fault t k rest) good))

-- "Operand entries stand earlier in the script."
pub entries_earlier : (t : Table) (k : ℕ) (operands : List Operand) → operands_fault t k operands ≡ Ok tt
    → (i : ℕ) → i < length (entries_in operands) → get_or (entries_in operands) i 0 < k
entries_earlier t k operands good = (all_named t k operands good).entries.each

-- a number below the bound, or 0 where there is none, is a slot
pub a_slot : (bound slots : ℕ) (numbers : List ℕ) → AllBelow bound numbers → bound ≤ slots → 0 < slots → (i : ℕ) → get_or numbers i 0 < slots
a_slot bound slots numbers below fits some i =
    elim (dec_lt i (length numbers)) [
      | yes there ↦ omega (arith, below.each i there)
      | no there ↦ omega (arith, get_or-eq_default numbers 0 {n = i} (omega arith))
    ]

-- where an entry of a sound table looks, there is a slot
pub places_inside : (t : Table) → Within t → (k : ℕ) → k ≤ limits.slots → (e : Entry) → operands_fault t k (operands_of e) ≡ Ok tt
    → Inside (places_of e)
unfolding places_of
places_inside t within k slots e good =
    let named = all_named t k (operands_of e) good in
    let entries = a_slot k limits.slots (entries_in (operands_of e)) named.entries slots (omega arith) in
    record {
      first = entries 0;
      second = entries 1;
      imported = a_slot t.q limits.imports (imports_in (operands_of e)) named.imports within.imports (omega arith) 0;
      variable = a_slot t.v limits.variables (variables_in (operands_of e)) named.variables within.variables (omega arith) 0;
    }
