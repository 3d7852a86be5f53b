-- An operand judged by what is lent of a table: the sorts of its entries as numbers, which imports are events, and its counts.
use Rattle.std.specs.Prelude.{Bool, false, cond, ◌&&◌, List, ℕ, eqb, leb, ltb, get_or, Ok}
use Rattle.values.specs.Numbers.{in_range}
use Rattle.refusals.specs.declared.Refusal.{Refusal}
use Rattle.refusals.specs.Answers.{Answer}
use Rattle.refusals.specs.Numbering.{unless, and_then}
use Rattle.table.specs.declared.Sort.{Sort}
use Rattle.table.specs.declared.Entry.{Entry}
use Rattle.table.specs.Limits.{limits}
use Rattle.table.specs.Kinds.{sort_number, operands_of}
use Rattle.table.specs.Tables.{zero_constant}
use Rattle.kinds.specs.declared.Operand.{Operand}
use Rattle.kinds.specs.declared.Apart.{Apart}

-- the sort of an import, as a number
abbrev pub import_number : List Bool → ℕ → ℕ
import_number events i = sort_number (cond (get_or events i false) Sort.Event Sort.Condition)

-- "operand by operand, 7 before 8": what is there, and of the sort that it has
abbrev pub placed : Bool → ℕ → Sort → Answer
placed there have s = and_then (unless there Refusal.Operand) (unless (eqb have (sort_number s)) Refusal.Sort)

-- "7: operand not an earlier entry, import ≥ q, or variable ≥ v"; "8: operand or import of the wrong sort"; "13: number outside 48 bits"
unfoldable pub judged_by : List ℕ → List Bool → ℕ → ℕ → ℕ → Operand → Answer
judged_by sorts events q v k Operand.Nothing = Ok tt
judged_by sorts events q v k (Operand.Entry s a) = placed (ltb a k) (get_or sorts a 0) s
judged_by sorts events q v k (Operand.Imported s i) = placed (ltb i q) (import_number events i) s
judged_by sorts events q v k (Operand.Variable x) = unless (ltb x v) Refusal.Operand
judged_by sorts events q v k (Operand.Constant z) = unless (in_range z) Refusal.Range

-- an entry's three operands, judged in order
abbrev pub apart_judged : List ℕ → List Bool → ℕ → ℕ → ℕ → Apart → Answer
apart_judged sorts events q v k parts =
    and_then (judged_by sorts events q v k parts.first)
    (and_then (judged_by sorts events q v k parts.second) (judged_by sorts events q v k parts.third))

-- the entry in a slot; past the slots, the first kind
abbrev pub slot_entry : List Entry → ℕ → Entry
slot_entry slots k = get_or slots k (Entry.ImportedCondition 0)

-- "unused entry slots are the constant 0"
abbrev pub zero_slot : Entry → Bool
zero_slot slot = zero_constant (operands_of slot)

-- "n, q or v outside its limits"
abbrev pub counts_kept : ℕ → ℕ → ℕ → Bool
counts_kept n q v = leb 1 n && leb n limits.entries && leb q limits.imports && leb v limits.variables
