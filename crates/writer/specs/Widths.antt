-- How many bits a table's fields take, and that none is wider than the widest.
use Rattle.std.specs.Prelude.{List, ◌++◌, ◌≡◌, refl, ℕ, zero, suc, ◌+◌, ◌*◌, ◌≤◌}
use Rattle.std.proofs.Common.{◌∙◌, ap, suc-mul, arith}
use Rattle.bits.specs.Bits.{Part, widest}
use Rattle.bits.specs.Holding.{width_of_all, Narrow}
use Rattle.bits.specs.Packing.{width_append, narrow_append}
use Rattle.values.specs.declared.Number.{Number}
use Rattle.table.specs.declared.Entry.{Entry}
use Rattle.table.specs.declared.Table.{Table}
use Rattle.table.specs.Tables.{initial_of, entry_at}
use Rattle.script.specs.Writer.{joined, header_parts, import_parts, number_parts, entry_parts, table_parts}
use Rattle.kinds.specs.declared.Operand.{Operand}
use Rattle.kinds.specs.Apart.{apart_of, wide_of}
use Rattle.writer.specs.Parts.{operand_parts, imports_parts, variables_parts, entries_parts, joined_more, entry_parts_lem}

-- an operand's field is as wide as the operand
pub operand_width : (o : Operand) → width_of_all (operand_parts o) ≡ wide_of o
unfolding width_of_all
operand_width Operand.Nothing = refl
operand_width (Operand.Entry s a) = refl
operand_width (Operand.Imported s i) = refl
operand_width (Operand.Variable x) = refl
operand_width (Operand.Constant z) = refl

-- which is no wider than the widest field
pub operand_wide : (o : Operand) → wide_of o ≤ widest
operand_wide Operand.Nothing = omega arith
operand_wide (Operand.Entry s a) = omega arith
operand_wide (Operand.Imported s i) = omega arith
operand_wide (Operand.Variable x) = omega arith
operand_wide (Operand.Constant z) = omega arith

-- and so is no field of it
operand_narrow : (o : Operand) → Narrow (operand_parts o)
unfolding Narrow
operand_narrow Operand.Nothing = tt
operand_narrow (Operand.Entry s a) = (omega arith, tt)
operand_narrow (Operand.Imported s i) = (omega arith, tt)
operand_narrow (Operand.Variable x) = (omega arith, tt)
operand_narrow (Operand.Constant z) = (omega arith, tt)

-- an entry's fields: the kind and the operands
pub entry_width : (e : Entry) → width_of_all (entry_parts e) ≡ 5 + wide_of (apart_of e).first + wide_of (apart_of e).second + wide_of (apart_of e).third
unfolding width_of_all
entry_width e =
    ap width_of_all (entry_parts_lem e)
    ∙ omega (
      arith,
      width_append o (p ++ q),
      width_append p q,
      operand_width (apart_of e).first,
      operand_width (apart_of e).second,
      operand_width (apart_of e).third,
    )
  where
    o : List Part
    o = operand_parts (apart_of e).first

    p : List Part
    p = operand_parts (apart_of e).second

    q : List Part
    q = operand_parts (apart_of e).third

-- at most 5 bits and three of the widest fields
pub entry_wide : (e : Entry) → width_of_all (entry_parts e) ≤ 149
entry_wide e =
    omega (arith, entry_width e, operand_wide (apart_of e).first, operand_wide (apart_of e).second, operand_wide (apart_of e).third)

-- none of them wider than the widest
entry_narrow : (e : Entry) → Narrow (entry_parts e)
unfolding Narrow
entry_narrow e =
    rw (entry_parts_lem e) (
      omega arith,
      narrow_append (operand_parts (apart_of e).first) (operand_parts (apart_of e).second ++ operand_parts (apart_of e).third) (operand_narrow (apart_of e).first)
          (narrow_append (operand_parts (apart_of e).second) (operand_parts (apart_of e).third) (operand_narrow (apart_of e).second) (operand_narrow (apart_of e).third)),
    )

-- a number's fields
number_width : (y : Number) → width_of_all (number_parts y) ≡ 49
unfolding width_of_all
number_width Number.Undefined = refl
number_width (Number.Whole z) = refl

number_narrow : (y : Number) → Narrow (number_parts y)
unfolding Narrow
number_narrow Number.Undefined = (omega arith, (omega arith, tt))
number_narrow (Number.Whole z) = (omega arith, (omega arith, tt))

-- an import's
import_width : (t : Table) (i : ℕ) → width_of_all (import_parts t i) ≡ 1
unfolding width_of_all import_parts
import_width t i = refl

import_narrow : (t : Table) (i : ℕ) → Narrow (import_parts t i)
unfolding Narrow import_parts
import_narrow t i = (omega arith, tt)

-- lists that are all as wide
joined_width : (n : ℕ) (f : ℕ → List Part) (w : ℕ) → ((i : ℕ) → width_of_all (f i) ≡ w) → width_of_all (joined n f) ≡ n * w
unfolding joined width_of_all
joined_width zero f w same = omega arith
joined_width (suc n) f w same =
    width_append (joined n f) (f n) ∙ omega (arith, joined_width n f w same, same n, suc-mul n w)

-- or at most
joined_wide : (n : ℕ) (f : ℕ → List Part) (w : ℕ) → ((i : ℕ) → width_of_all (f i) ≤ w) → width_of_all (joined n f) ≤ n * w
unfolding joined width_of_all
joined_wide zero f w most = omega arith
joined_wide (suc n) f w most = omega (arith, width_append (joined n f) (f n), joined_wide n f w most, most n, suc-mul n w)

-- lists without a field wider than the widest
joined_narrow : (n : ℕ) (f : ℕ → List Part) → ((i : ℕ) → Narrow (f i)) → Narrow (joined n f)
unfolding joined Narrow
joined_narrow zero f narrow = tt
joined_narrow (suc n) f narrow = narrow_append (joined n f) (f n) (joined_narrow n f narrow) (narrow n)

-- the imports take a bit each
pub imports_width : (t : Table) (q : ℕ) → width_of_all (imports_parts t q) ≡ q
imports_width t q = joined_width q (import_parts t) 1 (import_width t) ∙ omega arith

-- the variables 49
pub variables_width : (t : Table) (v : ℕ) → width_of_all (variables_parts t v) ≡ v * 49
variables_width t v = joined_width v (λ x. number_parts (initial_of t x)) 49 (λ x. number_width (initial_of t x))

-- the entries no more than this
pub entries_wide : (t : Table) (n : ℕ) → width_of_all (entries_parts t n) ≤ n * 149
entries_wide t n = joined_wide n (λ k. entry_parts (entry_at t k)) 149 (λ k. entry_wide (entry_at t k))

-- one entry more
pub entries_more : (t : Table) (k : ℕ) → width_of_all (entries_parts t (k + 1)) ≡ width_of_all (entries_parts t k) + width_of_all (entry_parts (entry_at t k))
entries_more t k =
    ap width_of_all (joined_more k (λ k. entry_parts (entry_at t k))) ∙ width_append (entries_parts t k) (entry_parts (entry_at t k))

-- the header 32
pub header_width : (t : Table) → width_of_all (header_parts t) ≡ 32
unfolding width_of_all header_parts
header_width t = refl

-- and all of them
pub table_width : (t : Table) → width_of_all (table_parts t) ≡ 32 + t.q + t.v * 49 + width_of_all (entries_parts t t.n)
unfolding table_parts
table_width t =
    omega (
      arith,
      width_append (header_parts t) (q ++ (v ++ n)),
      width_append q (v ++ n),
      width_append v n,
      header_width t,
      imports_width t t.q,
      variables_width t t.v,
    )
  where
    q : List Part
    q = imports_parts t t.q

    v : List Part
    v = variables_parts t t.v

    n : List Part
    n = entries_parts t t.n

-- no field of a table is wider than the widest
pub table_narrow : (t : Table) → Narrow (table_parts t)
unfolding table_parts header_parts Narrow
table_narrow t =
    let v = variables_parts t t.v in
    let n = entries_parts t t.n in
    let last = joined_narrow t.n (λ k. entry_parts (entry_at t k)) (λ k. entry_narrow (entry_at t k)) in
    let numbers = joined_narrow t.v (λ x. number_parts (initial_of t x)) (λ x. number_narrow (initial_of t x)) in
    let imports = joined_narrow t.q (import_parts t) (import_narrow t) in
    narrow_append (header_parts t) (imports_parts t t.q ++ (v ++ n)) (omega arith, (omega arith, (omega arith, (omega arith, (omega arith, tt)))))
    (narrow_append (imports_parts t t.q) (v ++ n) imports (narrow_append v n numbers last))
