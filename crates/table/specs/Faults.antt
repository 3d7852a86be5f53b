-- Faults of a table: refusals 4, 7, 8 and 13 in the order of the writer's check.
use Rattle.std.specs.Prelude.{false, ◌&&◌, ◌≡◌, List, [], ◌∷◌, ℕ, leb, ltb, Ok, Err}
use Rattle.values.specs.declared.Number.{Number}
use Rattle.values.specs.Numbers.{in_range}
use Rattle.refusals.specs.declared.Refusal.{Refusal}
use Rattle.refusals.specs.Answers.{Answer}
use Rattle.refusals.specs.Numbering.{unless, and_then, first_fault}
use Rattle.refusals.specs.Accepting.{refused_first}
use Rattle.table.specs.declared.Sort.{Sort}
use Rattle.table.specs.declared.Table.{Table}
use Rattle.table.specs.Limits.{limits}
use Rattle.table.specs.Kinds.{Operand, entry, imported, variable, constant, kind_of, operands_of, sort_of, same_sort, labelled, update_of}
use Rattle.table.specs.Tables.{entry_at, is_event, import_sort, initial_of, every_slot, unused_slots, labels_before}

-- "7: operand not an earlier entry, import ≥ q, or variable ≥ v"; "8: operand or import of the wrong sort"; "13: number outside 48 bits"
-- "operand by operand, 7 before 8"
unfoldable pub operand_fault : Table → ℕ → Operand → Answer
operand_fault t k (entry s a) = and_then (unless (ltb a k) Refusal.Operand) (unless (same_sort (sort_of (entry_at t a)) s) Refusal.Sort)
operand_fault t k (imported s i) = and_then (unless (ltb i t.q) Refusal.Operand) (unless (same_sort (import_sort t i) s) Refusal.Sort)
operand_fault t k (variable x) = unless (ltb x t.v) Refusal.Operand
operand_fault t k (constant z) = unless (in_range z) Refusal.Range

-- the first fault among operands, in order
unfoldable pub operands_fault : Table → ℕ → List Operand → Answer
operands_fault t k [] = Ok tt
operands_fault t k (o ∷ os) = and_then (operand_fault t k o) (operands_fault t k os)

-- "4: n, q or v outside its limits ...; in the writer, also an unused slot not as above"
unfoldable pub limits_fault : Table → Answer
limits_fault t =
    unless (leb 1 t.n && leb t.n limits.entries && leb t.q limits.imports && leb t.v limits.variables && unused_slots t)
    Refusal.TableLimits

-- "variables (13; ...)"
unfoldable pub number_fault : Number → Answer
number_fault Number.Undefined = Ok tt
number_fault (Number.Whole z) = unless (in_range z) Refusal.Range

-- "it checks 4, then variables (13; ...), entries in order (7, 8, 13)"
unfoldable pub table_fault : Table → Answer
table_fault t =
    and_then (limits_fault t)
    (and_then (first_fault t.v (λ x. number_fault (initial_of t x)))
    (first_fault t.n (λ k. operands_fault t k (operands_of (entry_at t k)))))

-- any fault is 29
abbrev pub as_unsound : Answer → Answer
as_unsound (Ok _) = Ok tt
as_unsound (Err r) = Err Refusal.Unsound

-- "29: ... table that the writer would refuse with 4, 7, 8 or 13"
unfoldable pub unsound_table : Table → Answer
unsound_table t = as_unsound (table_fault t)

-- names all that faults are computed with: an example says `unfolding the_faults`
unfoldable pub the_faults : Unit {0}
unfolding kind_of operands_of sort_of labelled update_of entry_at initial_of is_event import_sort every_slot unused_slots labels_before operand_fault operands_fault limits_fault number_fault first_fault table_fault unsound_table
the_faults = tt

-- "operand by operand, 7 before 8": what is no earlier entry is 7, whatever its sort
pub seven_before_eight : (t : Table) (k : ℕ) (s : Sort) (a : ℕ) → ltb a k ≡ false → operand_fault t k (entry s a) ≡ Err Refusal.Operand
unfolding operand_fault
seven_before_eight t k s a late = rw late

-- and so is an import ≥ q
pub seven_before_eight_import : (t : Table) (k : ℕ) (s : Sort) (i : ℕ) → ltb i t.q ≡ false → operand_fault t k (imported s i) ≡ Err Refusal.Operand
unfolding operand_fault
seven_before_eight_import t k s i none = rw none

-- 4 is judged wholly first
pub four_first : (t : Table) (r : Refusal) → limits_fault t ≡ Err r → table_fault t ≡ Err r
unfolding table_fault
four_first t r bad = refused_first {a = limits_fault t} _ bad
