-- In a sound table an entry leads to entries of the table: its operands stand earlier, its import is below q, its variable below v.
use Rattle.std.specs.Prelude.{List, [], ◌∷◌, ◌≡◌, ℕ, ◌<◌, T, ltb, eqb, Ok}
use Rattle.std.proofs.Common.{subst, ltb-true, eqb→eq}
use Rattle.refusals.specs.declared.Refusal.{Refusal}
use Rattle.refusals.specs.Numbering.{unless}
use Rattle.refusals.specs.Accepting.{unless_accepted, accepted_first, accepted_second}
use Rattle.table.specs.declared.Table.{Table}
use Rattle.table.specs.Kinds.{Operand, entry, imported, variable, constant}
use Rattle.table.specs.Below.{either_split}
use Rattle.table.specs.Faults.{operand_fault, operands_fault}
use Rattle.reach.specs.Reaching.{is_operand, is_read, names_import}

-- what is not refused with 7 is below its bound, and so is a number that equals it
below : (a b bound : ℕ) → unless (ltb a bound) Refusal.Operand ≡ Ok tt → T (eqb a b) → b < bound
below a b bound good same = subst (λ x. x < bound) (eqb→eq a b same) (ltb-true a bound (unless_accepted (ltb a bound) Refusal.Operand good))

-- "Operand entries stand earlier in the script."
pub operand_earlier : (t : Table) (k : ℕ) (os : List Operand) → operands_fault t k os ≡ Ok tt → (o : ℕ) → T (is_operand os o) → o < k
unfolding operands_fault operand_fault is_operand
operand_earlier t k [] good o is = absurd is
operand_earlier t k (entry s a ∷ os) good o is =
    let first = accepted_first (unless (ltb a k) Refusal.Operand) _ (accepted_first (operand_fault t k (entry s a)) (operands_fault t k os) good) in
    let later = accepted_second (operand_fault t k (entry s a)) (operands_fault t k os) good in
    either_split (eqb a o) (is_operand os o) (below a o k first) (operand_earlier t k os later o) is
operand_earlier t k (imported s i ∷ os) good o is = operand_earlier t k os (accepted_second (operand_fault t k (imported s i)) (operands_fault t k os) good) o is
operand_earlier t k (variable x ∷ os) good o is = operand_earlier t k os (accepted_second (operand_fault t k (variable x)) (operands_fault t k os) good) o is
operand_earlier t k (constant z ∷ os) good o is = operand_earlier t k os (accepted_second (operand_fault t k (constant z)) (operands_fault t k os) good) o is

-- no "import ≥ q"
pub import_below : (t : Table) (k : ℕ) (os : List Operand) → operands_fault t k os ≡ Ok tt → (i : ℕ) → T (names_import os i) → i < t.q
unfolding operands_fault operand_fault names_import
import_below t k [] good i is = absurd is
import_below t k (entry s a ∷ os) good i is = absurd is
import_below t k (imported s j ∷ os) good i is =
    below j i t.q (accepted_first (unless (ltb j t.q) Refusal.Operand) _ (accepted_first (operand_fault t k (imported s j)) (operands_fault t k os) good)) is
import_below t k (variable x ∷ os) good i is = absurd is
import_below t k (constant z ∷ os) good i is = absurd is

-- no "variable ≥ v"
pub read_below : (t : Table) (k : ℕ) (os : List Operand) → operands_fault t k os ≡ Ok tt → (x : ℕ) → T (is_read os x) → x < t.v
unfolding operands_fault operand_fault is_read
read_below t k [] good x is = absurd is
read_below t k (entry s a ∷ os) good x is = absurd is
read_below t k (imported s j ∷ os) good x is = absurd is
read_below t k (variable y ∷ os) good x is = below y x t.v (accepted_first (operand_fault t k (variable y)) (operands_fault t k os) good) is
read_below t k (constant z ∷ os) good x is = absurd is
