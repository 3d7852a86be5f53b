-- One entry, read: its fields stand in the bytes, and none of its operands is at fault.
use Rattle.std.specs.Prelude.{List, [], ◌∷◌, map, ◌≡◌, ℕ, zero, suc, ◌+◌, ◌^◌, ◌<◌, ltb, length, get_or}
use Rattle.std.proofs.Math.Path.{refl}
use Rattle.std.proofs.Common.{not-suc-le-zero, le_of_suc-le-suc, add-zero, arith, Ok, Some}
use borrow.Author.Tests.{ltb-true}
use Rattle.refusals.specs.declared.Refusal.{Refusal}
use Rattle.bits.specs.Bits.{Part, field_at}
use Rattle.bits.specs.Twos.{signed}
use Rattle.bits.specs.Reading.{Got, Reading, onward}
use Rattle.table.specs.declared.Sort.{Sort}
use Rattle.table.specs.declared.Entry.{Entry}
use Rattle.table.specs.declared.Table.{Table}
use Rattle.table.specs.Kinds.{Operand, imported, variable, kind_of, operands_of}
use Rattle.table.specs.Faults.{operand_fault, operands_fault}
use Rattle.script.specs.Operands.{width_of, field_of, constant_field}
use Rattle.script.specs.Reader.{operand, bare, one, two, three, kinds, entry}
use Rattle.script.specs.Writer.{part, entry_parts}
use Rattle.bits.specs.Fields.{there_lt}
use Rattle.refusals.specs.Accepting.{unless_accepted}
use Rattle.bits.specs.Giving.{Gives, gives_value, gives_also, gives_field}
use Rattle.roundtrip.specs.ReadNumbers.{unsigned_signed}
use Rattle.roundtrip.specs.ReadStanding.{Stands, stands_none, stands_more}

infixr 20 ◌then◌
-- an operand as a field
abbrev pub operand_part : Operand → Part
operand_part o = part (width_of o) (field_of o)

-- an operand that is read from a field is packed as the same field
pub record Packs (o : ℕ → Operand) : Type 0 where
  pub wide : (v : ℕ) → width_of (o v) ≡ width_of (o 0)
  pub is : (v : ℕ) → v < 2 ^ width_of (o 0) → field_of (o v) ≡ v

-- entries, imports, variables and constants are
entry_packs : (sort : Sort) → Packs (Operand.entry sort)
entry_packs sort = record { wide = λ v. refl; is = λ v h. refl }

import_packs : (sort : Sort) → Packs (imported sort)
import_packs sort = record { wide = λ v. refl; is = λ v h. refl }

variable_packs : Packs variable
variable_packs = record { wide = λ v. refl; is = λ v h. refl }

constant_packs : Packs constant_field
constant_packs = record { wide = λ v. refl; is = unsigned_signed }

-- operands of entry k that were read: their fields stand in the bytes, and none is at fault
pub record Operands (t : Table) (k : ℕ) (s : List ℕ) (at next : ℕ) (os : List Operand) : Type 0 where
  pub stand : Stands s at next (map operand_part os)
  pub sound : operands_fault t k os ≡ Ok tt

-- entry k, of that kind, that was read
pub record Row (t : Table) (k : ℕ) (s : List ℕ) (kind at : ℕ) (e : Entry) (next : ℕ) : Type 0 where
  pub kind_is : kind_of e ≡ kind
  pub operands : Operands t k s at next (operands_of e)

-- readings of entry k, of one kind after another
data Rows (t : Table) (k : ℕ) (s : List ℕ) : ℕ → List (Reading Entry) → Type 0 where
  nothing : {kind : ℕ} → Rows t k s kind []
  ◌then◌ : {kind : ℕ} {m : Reading Entry} {ms : List (Reading Entry)}
      → ((at : ℕ) → Gives (m s at) (Row t k s kind at)) → Rows t k s (suc kind) ms → Rows t k s kind (m ∷ ms)

module _ (t : Table) (k : ℕ) (s : List ℕ) where
  -- no operand
  operands_none : {at : ℕ} → Operands t k s at at []
  unfolding operands_fault
  operands_none = record { stand = stands_none; sound = refl }

  -- one operand and then others
  operands_more : (o : ℕ → Operand) (at next v : ℕ) (os : List Operand) → Packs o → field_at s at (width_of (o 0)) ≡ Some v
      → operand_fault t k (o v) ≡ Ok tt → Operands t k s (at + width_of (o 0)) next os → Operands t k s at next (o v ∷ os)
  unfolding operands_fault
  operands_more o at next v os packs there good rest =
      let same : operand_part (o v) ≡ part (width_of (o 0)) v = λ i. part (packs.wide v i) (packs.is v (there_lt s at (width_of (o 0)) v there) i) in
      record { stand = rw same (stands_more there rest.stand); sound = rw good rest.sound }

  -- an operand is read, and then the rest of the entry
  after_operand : {o : ℕ → Operand} (at : ℕ) (f : ℕ → ℕ → Got Entry) {P : Entry → ℕ → Type 0} → Packs o
      → ((v : ℕ) → ((next : ℕ) (os : List Operand) → Operands t k s (at + width_of (o 0)) next os → Operands t k s at next (o v ∷ os))
      → Gives (f v (at + width_of (o 0))) P)
      → Gives (onward (operand t k o s at) f) P
  unfolding operand
  after_operand {o} at f packs rest =
      gives_field s at (width_of (o 0)) _ _ f (λ v there good. rest v (λ next os. operands_more o at next v os packs there good))

  -- entries of a kind with no operand, with one, two and three
  none_row : (e : Entry) → operands_of e ≡ [] → (at : ℕ) → Gives (bare e s at) (Row t k s (kind_of e) at)
  none_row e has at = gives_value (record { kind_is = refl; operands = rw has operands_none })

  one_row : {o : ℕ → Operand} {kind : ℕ} (make : ℕ → Entry) → Packs o
      → ((a : ℕ) → (kind_of (make a) ≡ kind) × (operands_of (make a) ≡ o a ∷ []))
      → (at : ℕ) → Gives (one t k o make s at) (Row t k s kind at)
  one_row make packs is at =
      after_operand at _ packs
      (λ a more. gives_value (record { kind_is = (is a).0; operands = rw (is a).1 (more _ _ operands_none) }))

  two_row : {o p : ℕ → Operand} {kind : ℕ} (make : ℕ → ℕ → Entry) → Packs o → Packs p
      → ((a b : ℕ) → (kind_of (make a b) ≡ kind) × (operands_of (make a b) ≡ o a ∷ p b ∷ []))
      → (at : ℕ) → Gives (two t k o p make s at) (Row t k s kind at)
  two_row make packs packs' is at =
      after_operand at _ packs
      (λ a more. after_operand _ _ packs'
      (λ b more'. gives_value (record { kind_is = (is a b).0; operands = rw (is a b).1 (more _ _ (more' _ _ operands_none)) })))

  three_row : {o p r : ℕ → Operand} {kind : ℕ} (make : ℕ → ℕ → ℕ → Entry) → Packs o → Packs p → Packs r
      → ((a b c : ℕ) → (kind_of (make a b c) ≡ kind) × (operands_of (make a b c) ≡ o a ∷ p b ∷ r c ∷ []))
      → (at : ℕ) → Gives (three t k o p r make s at) (Row t k s kind at)
  three_row make packs packs' packs'' is at =
      after_operand at _ packs
      (λ a more. after_operand _ _ packs'
      (λ b more'. after_operand _ _ packs''
      (λ c more''. gives_value (record { kind_is = (is a b c).0; operands = rw (is a b c).1 (more _ _ (more' _ _ (more'' _ _ operands_none))) }))))

  -- the twenty-five kinds, 0 to 24
  rows : Rows t k s 0 (kinds t k)
  unfolding kinds kind_of operands_of
  rows =
      let C = entry_packs Sort.Condition in
      let E = entry_packs Sort.Event in
      let N = entry_packs Sort.Number in
      one_row Entry.ImportedCondition (import_packs Sort.Condition) (λ a. (refl, refl))
      then one_row Entry.Defined C (λ a. (refl, refl))
      then two_row Entry.Pair E E (λ a b. (refl, refl))
      then one_row Entry.Not C (λ a. (refl, refl))
      then two_row Entry.Or C C (λ a b. (refl, refl))
      then two_row Entry.And C C (λ a b. (refl, refl))
      then two_row Entry.Implies C C (λ a b. (refl, refl))
      then two_row Entry.Less N N (λ a b. (refl, refl))
      then two_row Entry.Equal N N (λ a b. (refl, refl))
      then one_row Entry.ImportedEvent (import_packs Sort.Event) (λ a. (refl, refl))
      then one_row Entry.Start C (λ a. (refl, refl))
      then one_row Entry.End C (λ a. (refl, refl))
      then two_row Entry.Both E E (λ a b. (refl, refl))
      then two_row Entry.Either E E (λ a b. (refl, refl))
      then two_row Entry.When E C (λ a b. (refl, refl))
      then one_row (λ v. Entry.Constant (signed v)) constant_packs (λ a. (refl, refl))
      then one_row Entry.Variable variable_packs (λ a. (refl, refl))
      then two_row Entry.Sum N N (λ a b. (refl, refl))
      then two_row Entry.Difference N N (λ a b. (refl, refl))
      then none_row Entry.Clock refl
      then one_row Entry.Value (import_packs Sort.Event) (λ a. (refl, refl))
      then one_row Entry.Time E (λ a. (refl, refl))
      then three_row Entry.Update E variable_packs N (λ a b c. (refl, refl))
      then one_row Entry.Alarm E (λ a. (refl, refl))
      then one_row Entry.Property C (λ a. (refl, refl))
      then nothing

  -- one of them
  row_at : {from : ℕ} {ms : List (Reading Entry)} → Rows t k s from ms → (i kind : ℕ) (other : Reading Entry) (at : ℕ)
      → from + i ≡ kind → i < length ms → Gives (get_or ms i other s at) (Row t k s kind at)
  row_at nothing i kind other at same less = absurd (not-suc-le-zero less)
  row_at {from} (row then rest) zero kind other at same less = rw (← same) (rw (add-zero from) (row at))
  row_at (row then rest) (suc i) kind other at same less = row_at rest i kind other at (omega arith) (le_of_suc-le-suc less)

  -- "5 bits of kind, then operands": an entry that was read
  pub entry_read : (at : ℕ)
      → Gives (entry t k s at) (λ e next. Stands s at next (entry_parts e) × (operands_fault t k (operands_of e) ≡ Ok tt))
  unfolding entry entry_parts kinds
  entry_read at =
      gives_field s at 5 _ _ _
      (λ kind there good.
      let known : kind < 25 = ltb-true kind 25 (unless_accepted (ltb kind 25) Refusal.Kind good) in
      gives_also (row_at rows kind kind (bare Entry.Clock) (at + 5) (omega arith) known)
      (λ e next row. (rw row.kind_is (stands_more there row.operands.stand), row.operands.sound)))
