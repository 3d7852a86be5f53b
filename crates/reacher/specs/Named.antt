-- What the operands of an entry name, by numbers, once it is taken apart.
use Rattle.std.specs.Prelude.{Bool, false, ◌||◌, ◌≡◌, refl, ℕ, ◌<◌, T, eqb}
use Rattle.std.proofs.Math.Bool.{or_assoc, or-false}
use mathlib.Core.List.Memᴰ
use mathlib.Core.List.{List, [], ◌∷◌, ◌++◌, Memᴰ}
use Rattle.std.proofs.Common.{⊎_elim, sym, ap, ◌∙◌, arith, ne_eqb, eqb→eq}
use Rattle.std.proofs.Math.Dec.{eqb_refl}
use Rattle.table.specs.declared.Entry.{Entry}
use Rattle.table.specs.Limits.{limits}
use Rattle.table.specs.Kinds.{entry, imported, variable, constant, operands_of}
use Rattle.table.specs.Kinds as kinds
use Rattle.table.specs.Below.{either_split, either_left, either_right}
use Rattle.kinds.specs.declared.Operand.{Operand}
use Rattle.kinds.specs.declared.Apart.{Apart}
use Rattle.kinds.specs.Apart.{apart_of, first_of, named_by}
use Rattle.kinds.specs.Laws.{operands_apart}
use Rattle.reach.specs.Reaching.{is_operand, is_read, names_import}

-- the entry that an operand names; where it names none, a number past the slots
abbrev pub entry_named : Operand → ℕ
entry_named Operand.Nothing = limits.slots
entry_named (Operand.Entry s a) = a
entry_named (Operand.Imported s i) = limits.slots
entry_named (Operand.Variable x) = limits.slots
entry_named (Operand.Constant z) = limits.slots

-- the import that an operand names; where it names none, a number past the slots
abbrev pub import_named : Operand → ℕ
import_named Operand.Nothing = limits.imports
import_named (Operand.Entry s a) = limits.imports
import_named (Operand.Imported s i) = i
import_named (Operand.Variable x) = limits.imports
import_named (Operand.Constant z) = limits.imports

-- the variable that an operand names; where it names none, a number past the slots
abbrev pub variable_named : Operand → ℕ
variable_named Operand.Nothing = limits.variables
variable_named (Operand.Entry s a) = limits.variables
variable_named (Operand.Imported s i) = limits.variables
variable_named (Operand.Variable x) = x
variable_named (Operand.Constant z) = limits.variables

-- the entries that the operands name
abbrev pub entries_named : Apart → List ℕ
entries_named parts = entry_named parts.first ∷ entry_named parts.second ∷ entry_named parts.third ∷ []

-- past the slots nothing is named
pub nowhere : (slots i : ℕ) → i < slots → false ≡ eqb slots i
nowhere slots i slot = sym (ne_eqb slots i (λ e. omega arith))

-- "with any entry, its operand entries": among some operands and others
operand_joined : (os rest : List kinds.Operand) (o : ℕ) → is_operand (os ++ rest) o ≡ (is_operand os o || is_operand rest o)
unfolding is_operand
operand_joined [] rest o = refl
operand_joined (entry s a ∷ os) rest o =
    ap (λ (b : Bool). eqb a o || b) (operand_joined os rest o) ∙ sym (or_assoc (eqb a o) (is_operand os o) (is_operand rest o))
operand_joined (imported s i ∷ os) rest o = operand_joined os rest o
operand_joined (variable x ∷ os) rest o = operand_joined os rest o
operand_joined (constant z ∷ os) rest o = operand_joined os rest o

-- an operand is the entry that it names, if it names one
operand_named : (p : Operand) (o : ℕ) → o < limits.slots → is_operand (named_by p) o ≡ eqb (entry_named p) o
unfolding is_operand
operand_named Operand.Nothing o slot = nowhere limits.slots o slot
operand_named (Operand.Entry s a) o slot = or-false (eqb a o)
operand_named (Operand.Imported s i) o slot = nowhere limits.slots o slot
operand_named (Operand.Variable x) o slot = nowhere limits.slots o slot
operand_named (Operand.Constant z) o slot = nowhere limits.slots o slot

-- the operand entries are the entries that are named
operands_named : (e : Entry) (o : ℕ) → o < limits.slots → is_operand (operands_of e) o
    ≡ (eqb (entry_named (apart_of e).first) o || (eqb (entry_named (apart_of e).second) o || eqb (entry_named (apart_of e).third) o))
operands_named e o slot =
    let one = named_by (apart_of e).first in
    let two = named_by (apart_of e).second in
    let three = named_by (apart_of e).third in
    ap (λ os. is_operand os o) (sym (operands_apart e))
    ∙ operand_joined one (two ++ three) o
    ∙ ap (λ (b : Bool). is_operand one o || b) (operand_joined two three o)
    ∙ rw (operand_named (apart_of e).first o slot, operand_named (apart_of e).second o slot, operand_named (apart_of e).third o slot)

-- a test of the first number, or of the rest
among_cons : (a o : ℕ) (js : List ℕ) (b : Bool) → (T b → Memᴰ o js) → T (eqb a o || b) → Memᴰ o (a ∷ js)
among_cons a o js b rest = either_split (eqb a o) b (λ same. Memᴰ.head (sym (eqb→eq a o same))) (λ later. Memᴰ.tail (rest later))

-- and back
cons_among : (a o : ℕ) (js : List ℕ) (b : Bool) → (Memᴰ o js → T b) → Memᴰ o (a ∷ js) → T (eqb a o || b)
cons_among a o js b rest among =
    ⊎_elim (λ same. either_left (eqb a o) b (rw same (eqb_refl a))) (λ later. either_right (eqb a o) b (rest later)) (Memᴰ.cases_cons among)

module _ (e : Entry) (o : ℕ) (slot : o < limits.slots) where
  -- an operand entry is named
  pub operand_among : T (is_operand (operands_of e) o) → Memᴰ o (entries_named (apart_of e))
  operand_among is =
      let second = entry_named (apart_of e).second in
      let third = entry_named (apart_of e).third in
      among_cons (entry_named (apart_of e).first) o (second ∷ third ∷ []) _
      (among_cons second o (third ∷ []) _ (λ last. Memᴰ.head (sym (eqb→eq third o last))))
      (rw (operands_named e o slot) at is)

  -- what is named is an operand entry
  pub among_operand : Memᴰ o (entries_named (apart_of e)) → T (is_operand (operands_of e) o)
  among_operand among =
      let second = entry_named (apart_of e).second in
      let third = entry_named (apart_of e).third in
      rw (operands_named e o slot)
      (cons_among (entry_named (apart_of e).first) o (second ∷ third ∷ []) _
      (cons_among second o (third ∷ []) _ (λ last. rw (Memᴰ.eq_of_singleton last) (eqb_refl third)))
      among)

-- a read is of the variable that the first operand names
pub read_first : (os : List kinds.Operand) (x : ℕ) → T (is_read os x) → variable_named (first_of os) ≡ x
unfolding is_read
read_first [] x is = absurd is
read_first (entry s a ∷ os) x is = absurd is
read_first (imported s i ∷ os) x is = absurd is
read_first (variable y ∷ os) x is = eqb→eq y x is
read_first (constant z ∷ os) x is = absurd is

-- and where the first operand names a variable it is a read
pub first_read : (os : List kinds.Operand) → variable_named (first_of os) < limits.variables → T (is_read os (variable_named (first_of os)))
unfolding is_read
first_read [] slot = absurd (omega arith)
first_read (entry s a ∷ os) slot = absurd (omega arith)
first_read (imported s i ∷ os) slot = absurd (omega arith)
first_read (variable y ∷ os) slot = eqb_refl y
first_read (constant z ∷ os) slot = absurd (omega arith)

-- an import is named by the first operand
pub import_first : (os : List kinds.Operand) (i : ℕ) → i < limits.imports → names_import os i ≡ eqb (import_named (first_of os)) i
unfolding names_import
import_first [] i slot = nowhere limits.imports i slot
import_first (entry s a ∷ os) i slot = nowhere limits.imports i slot
import_first (imported s j ∷ os) i slot = refl
import_first (variable x ∷ os) i slot = nowhere limits.imports i slot
import_first (constant z ∷ os) i slot = nowhere limits.imports i slot
