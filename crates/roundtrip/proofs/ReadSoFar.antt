-- A table as far as it is read: the first imports, variables and entries are in their slots, and stand in the bytes.
use Rattle.std.specs.Prelude.{Bool, true, false, cond, ◌||◌, List, [], ◌∷◌, ◌++◌, ◌≢◌, ◌≡◌, refl, ℕ, zero, suc, ◌+◌, ◌<◌, ◌≤◌, ltb, eqb, pos, length}
use Rattle.std.proofs.Common.{append_assoc, append-nil, ⊎_elim, sym, ◌∙◌, ap, ap₂, subst, not-suc-le-zero, eq-or-lt_of_le, le_of_suc-le-suc, arith, length-set, get_or-set_same, get_or-set_other, ltb-true, Ok, Some}
use Rattle.values.specs.declared.Number.{Number}
use Rattle.refusals.specs.declared.Refusal.{Refusal}
use Rattle.refusals.specs.Numbering.{unless, and_then}
use Rattle.bits.specs.Bits.{Part, field_at}
use Rattle.table.specs.declared.Entry.{Entry}
use Rattle.table.specs.declared.Table.{Table}
use Rattle.table.specs.Limits.{limits}
use Rattle.table.specs.Kinds.{Operand, entry, imported, variable, constant, operands_of, sort_of, same_sort}
use Rattle.table.specs.Tables.{Shaped, entry_at, is_event, import_sort, initial_of}
use Rattle.table.specs.Faults.{number_fault, operand_fault, operands_fault}
use Rattle.script.specs.Reader.{with_event, with_variable, with_entry, starting}
use Rattle.script.specs.Writer.{part, joined, header_parts, import_parts, number_parts, entry_parts}
use Rattle.bits.specs.Fields.{there_lt}
use Rattle.roundtrip.specs.ReadNumbers.{bit_again, starting_sound}
use Rattle.roundtrip.proofs.ReadStarting.{starting_again}
use Rattle.roundtrip.specs.ReadStanding.{Stands, stands_none, stands_more, stands_append}

-- the fields of a table's counts and of its first i imports, x variables and k entries
abbrev pub first_parts : Table → ℕ → ℕ → ℕ → List Part
first_parts t i x k =
    header_parts t ++ (joined i (import_parts t) ++ (joined x (λ j. number_parts (initial_of t j)) ++ joined k (λ j. entry_parts (entry_at t j))))

-- up to bit `at` the bytes give these counts and so many imports, variables and entries; no later slot is used
pub record SoFar (counts : Table) (s : List ℕ) (i x k : ℕ) (t : Table) (at : ℕ) : Type 0 where
  pub n : t.n ≡ counts.n
  pub q : t.q ≡ counts.q
  pub v : t.v ≡ counts.v
  pub shaped : Shaped t
  pub stand : Stands s 0 at (first_parts t i x k)
  pub no_import : (j : ℕ) → i ≤ j → is_event t j ≡ false
  pub no_number : (j : ℕ) → x ≤ j → initial_of t j ≡ Number.Undefined
  pub no_entry_lem : (j : ℕ) → k ≤ j → j < limits.slots → entry_at t j ≡ Entry.Constant (pos 0)
  pub numbers : (j : ℕ) → j < x → number_fault (initial_of t j) ≡ Ok tt
  pub operands : (j : ℕ) → j < k → operands_fault t j (operands_of (entry_at t j)) ≡ Ok tt

-- lists that are joined are the same where each of them is
pub joined_same : (n : ℕ) (f g : ℕ → List Part) → ((j : ℕ) → j < n → f j ≡ g j) → joined n f ≡ joined n g
unfolding joined
joined_same zero f g same = refl
joined_same (suc n) f g same = ap₂ ◌++◌ (joined_same n f g (λ j h. same j (omega arith))) (same n (omega arith))

-- what holds of each number below k, and of k, holds of each below k + 1
below_suc : (P : ℕ → Type 0) (k : ℕ) → ((j : ℕ) → j < k → P j) → P k → (j : ℕ) → j < suc k → P j
below_suc P k before last j lower = ⊎_elim (λ e. subst P (sym e) last) (before j) (eq-or-lt_of_le (le_of_suc-le-suc lower))

-- one more import, variable or entry: its fields come last
more_imports : (t : Table) (i : ℕ) → first_parts t (suc i) 0 0 ≡ first_parts t i 0 0 ++ import_parts t i
unfolding joined
more_imports t i = simp (append_assoc, append-nil)

more_variables : (t : Table) (i x : ℕ) → first_parts t i (suc x) 0 ≡ first_parts t i x 0 ++ number_parts (initial_of t x)
unfolding joined
more_variables t i x = simp (append_assoc, append-nil)

more_entries : (t : Table) (i x k : ℕ) → first_parts t i x (suc k) ≡ first_parts t i x k ++ entry_parts (entry_at t k)
unfolding joined
more_entries t i x k = simp append_assoc

-- the slot that is set, and every other
event_set : (t : Table) (i : ℕ) (e : Bool) → i < length t.events → is_event (with_event t i e) i ≡ e
unfolding is_event
event_set t i e less = get_or-set_same t.events i e false less

event_kept : (t : Table) (i : ℕ) (e : Bool) (j : ℕ) → j ≢ i → is_event (with_event t i e) j ≡ is_event t j
unfolding is_event
event_kept t i e j other = get_or-set_other t.events i j e false other

number_set : (t : Table) (x : ℕ) (y : Number) → x < length t.variables → initial_of (with_variable t x y) x ≡ y
unfolding initial_of
number_set t x y less = (get_or-set_same t.variables x _ _ less)

number_kept : (t : Table) (x : ℕ) (y : Number) (j : ℕ) → j ≢ x → initial_of (with_variable t x y) j ≡ initial_of t j
unfolding initial_of
number_kept t x y j other = (get_or-set_other t.variables x j _ _ other)

entry_set : (t : Table) (k : ℕ) (e : Entry) → k < length t.entries → entry_at (with_entry t k e) k ≡ e
unfolding entry_at
entry_set t k e less = (get_or-set_same t.entries k _ _ less)

entry_kept : (t : Table) (k : ℕ) (e : Entry) (j : ℕ) → j ≢ k → entry_at (with_entry t k e) j ≡ entry_at t j
unfolding entry_at
entry_kept t k e j other = (get_or-set_other t.entries k j _ _ other)

-- what is set later changes no earlier field
imports_kept : (t : Table) (i : ℕ) (e : Bool) → first_parts (with_event t i e) i 0 0 ≡ first_parts t i 0 0
unfolding joined header_parts import_parts
imports_kept t i e =
    ap (λ (l : List Part). header_parts t ++ (l ++ []))
    (joined_same i (import_parts (with_event t i e)) (import_parts t)
    (λ j lower. ap (λ (b : Bool). part 1 (cond b 1 0) ∷ []) (event_kept t i e j (omega arith))))

variables_kept : (t : Table) (i x : ℕ) (y : Number) → first_parts (with_variable t x y) i x 0 ≡ first_parts t i x 0
unfolding joined header_parts import_parts is_event
variables_kept t i x y =
    ap (λ (l : List Part). header_parts t ++ (joined i (import_parts t) ++ (l ++ [])))
    (joined_same x (λ j. number_parts (initial_of (with_variable t x y) j)) (λ j. number_parts (initial_of t j))
    (λ j lower. ap number_parts (number_kept t x y j (omega arith))))

entries_kept : (t : Table) (i x k : ℕ) (e : Entry) → first_parts (with_entry t k e) i x k ≡ first_parts t i x k
unfolding header_parts import_parts is_event initial_of
entries_kept t i x k e =
    ap (λ (l : List Part). header_parts t ++ (joined i (import_parts t) ++ (joined x (λ j. number_parts (initial_of t j)) ++ l)))
    (joined_same k (λ j. entry_parts (entry_at (with_entry t k e) j)) (λ j. entry_parts (entry_at t j))
    (λ j lower. ap entry_parts (entry_kept t k e j (omega arith))))

-- the fields that stood, and those that were read after them
grown : {s : List ℕ} {at next : ℕ} {old kept last all : List Part} → Stands s 0 at old → kept ≡ old → Stands s at next last
    → all ≡ kept ++ last → Stands s 0 next all
grown {kept = kept} stood same read parts = rw parts (stands_append {ps = kept} (rw same stood) read)

-- one more import
pub import_step : {c : Table} {s : List ℕ} {i : ℕ} {t : Table} {at bit : ℕ} → SoFar c s i 0 0 t at → i < limits.imports
    → field_at s at 1 ≡ Some bit
    → SoFar c s (suc i) 0 0 (with_event t i (eqb bit 1)) (at + 1)
unfolding import_parts initial_of entry_at
import_step {c} {s} {i} {t} {at} {bit} h less there =
    let e = eqb bit 1 in
    let u = with_event t i e in
    let here : is_event u i ≡ e = event_set t i e (rw h.shaped.events less) in
    let same : cond e 1 0 ≡ bit = bit_again bit (there_lt s at 1 bit there) in
    let last : Stands s at (at + 1) (import_parts u i) = rw (here, same) (stands_more there stands_none) in
    record {
      n = h.n;
      q = h.q;
      v = h.v;
      shaped = record { entries = h.shaped.entries; events = length-set t.events i e ∙ h.shaped.events; variables = h.shaped.variables };
      stand = grown h.stand (imports_kept t i e) last (more_imports u i);
      no_import = λ j later. event_kept t i e j (omega arith) ∙ h.no_import j (omega arith);
      no_number = h.no_number;
      no_entry_lem = h.no_entry_lem;
      numbers = h.numbers;
      operands = λ j none. absurd (not-suc-le-zero none);
    }

-- one more variable
pub variable_step : {c : Table} {s : List ℕ} {i x : ℕ} {t : Table} {at bit v : ℕ} → SoFar c s i x 0 t at → x < limits.variables
    → field_at s at 1 ≡ Some bit → field_at s (at + 1) 48 ≡ Some v → (eqb bit 1 || eqb v 0) ≡ true
    → SoFar c s i (suc x) 0 (with_variable t x (starting bit v)) (at + 1 + 48)
unfolding is_event entry_at
variable_step {c} {s} {i} {x} {t} {at} {bit} {v} h less first number good =
    let y = starting bit v in
    let u = with_variable t x y in
    let wide = there_lt s (at + 1) 48 v number in
    let here : initial_of u x ≡ y = number_set t x y (rw h.shaped.variables less) in
    let same : number_parts y ≡ part 1 bit ∷ part 48 v ∷ [] = starting_again bit v (there_lt s at 1 bit first) wide good in
    let last : Stands s at (at + 1 + 48) (number_parts (initial_of u x)) = rw (here, same) (stands_more first (stands_more number stands_none)) in
    record {
      n = h.n;
      q = h.q;
      v = h.v;
      shaped = record { entries = h.shaped.entries; events = h.shaped.events; variables = length-set t.variables x _ ∙ h.shaped.variables };
      stand = grown h.stand (variables_kept t i x y) last (more_variables u i x);
      no_import = h.no_import;
      no_number = λ j later. number_kept t x y j (omega arith) ∙ h.no_number j (omega arith);
      no_entry_lem = h.no_entry_lem;
      numbers = below_suc (λ j. number_fault (initial_of u j) ≡ Ok tt) x
          (λ j lower. rw (number_kept t x y j (omega arith)) (h.numbers j lower))
          (rw here (starting_sound bit v wide));
      operands = λ j none. absurd (not-suc-le-zero none);
    }

-- setting entry k changes no fault of an operand that is judged there or before
operand_kept : (t : Table) (k : ℕ) (e : Entry) (j : ℕ) (o : Operand) → j ≤ k → operand_fault (with_entry t k e) j o ≡ operand_fault t j o
unfolding operand_fault import_sort is_event
operand_kept t k e j (entry sort a) before = by_test (ltb a j) refl
  where
    by_test : (b : Bool) → ltb a j ≡ b
        → and_then (unless b Refusal.Operand) (unless (same_sort (sort_of (entry_at (with_entry t k e) a)) sort) Refusal.Sort)
        ≡ and_then (unless b Refusal.Operand) (unless (same_sort (sort_of (entry_at t a)) sort) Refusal.Sort)
    by_test true earlier = rw (entry_kept t k e a (omega (arith, ltb-true a j earlier)))
    by_test false late = refl
operand_kept t k e j (imported sort i) before = refl
operand_kept t k e j (variable x) before = refl
operand_kept t k e j (constant z) before = refl

-- nor of several
operands_kept : (t : Table) (k : ℕ) (e : Entry) (j : ℕ) (os : List Operand) → j ≤ k → operands_fault (with_entry t k e) j os ≡ operands_fault t j os
unfolding operands_fault
operands_kept t k e j [] before = refl
operands_kept t k e j (o ∷ os) before = rw (operand_kept t k e j o before, operands_kept t k e j os before)

-- one more entry
pub entry_step : {c : Table} {s : List ℕ} {i x k : ℕ} {t : Table} {at next : ℕ} (e : Entry) → SoFar c s i x k t at → k < limits.slots
    → Stands s at next (entry_parts e) → operands_fault t k (operands_of e) ≡ Ok tt → SoFar c s i x (suc k) (with_entry t k e) next
unfolding is_event initial_of
entry_step {c} {s} {i} {x} {k} {t} {at} {next} e h less stand good =
    let u = with_entry t k e in
    let here : entry_at u k ≡ e = entry_set t k e (rw h.shaped.entries less) in
    let last : Stands s at next (entry_parts (entry_at u k)) = rw here stand in
    record {
      n = h.n;
      q = h.q;
      v = h.v;
      shaped = record { entries = length-set t.entries k _ ∙ h.shaped.entries; events = h.shaped.events; variables = h.shaped.variables };
      stand = grown h.stand (entries_kept t i x k e) last (more_entries u i x k);
      no_import = h.no_import;
      no_number = h.no_number;
      no_entry_lem = λ j later slot. entry_kept t k e j (omega arith) ∙ h.no_entry_lem j (omega arith) slot;
      numbers = h.numbers;
      operands = below_suc (λ j. operands_fault u j (operands_of (entry_at u j)) ≡ Ok tt) k
          (λ j lower. operands_kept t k e j (operands_of (entry_at u j)) (omega arith) ∙ rw (entry_kept t k e j (omega arith)) (h.operands j lower))
          (operands_kept t k e k (operands_of (entry_at u k)) (omega arith) ∙ rw here good);
    }
