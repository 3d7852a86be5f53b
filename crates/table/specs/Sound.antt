-- A table without fault, in parts, and back.
use Rattle.std.specs.Prelude.{true, ◌&&◌, ◌≡◌, ℕ, ◌<◌, ◌≤◌, leb, Ok}
use Rattle.std.proofs.Common.{le-leb, leb-true}
use Rattle.replies.specs.Plain.{both_true}
use Rattle.refusals.specs.declared.Refusal.{Refusal}
use Rattle.refusals.specs.Numbering.{and_then, first_fault}
use Rattle.refusals.specs.Accepting.{unless_accepted, accepted_first, accepted_second, none_at_fault, no_fault}
use Rattle.table.specs.declared.Table.{Table}
use Rattle.table.specs.Limits.{limits}
use Rattle.table.specs.Kinds.{operands_of}
use Rattle.table.specs.Tables.{entry_at, initial_of, unused_slots}
use Rattle.table.specs.Faults.{operands_fault, limits_fault, number_fault, table_fault}

-- a table within its limits
pub record Within (t : Table) : Type 0 where
  pub some_entry : 1 ≤ t.n
  pub entries : t.n ≤ limits.entries
  pub imports : t.q ≤ limits.imports
  pub variables : t.v ≤ limits.variables

-- a table in which the writer's check finds no fault
pub record Sound (t : Table) : Type 0 where
  pub within : Within t
  pub unused : unused_slots t ≡ true
  pub numbers : (x : ℕ) → x < t.v → number_fault (initial_of t x) ≡ Ok tt
  pub operands : (k : ℕ) → k < t.n → operands_fault t k (operands_of (entry_at t k)) ≡ Ok tt

-- its limits and its unused slots
pub limits_within : (t : Table) → limits_fault t ≡ Ok tt → Within t × (unused_slots t ≡ true)
unfolding limits_fault
limits_within t good =
    let one = leb 1 t.n in
    let entries = leb t.n limits.entries in
    let imports = leb t.q limits.imports in
    let variables = leb t.v limits.variables in
    let five = both_true (one && entries && imports && variables) (unused_slots t) (unless_accepted _ Refusal.TableLimits good) in
    let four = both_true (one && entries && imports) variables five.0 in
    let three = both_true (one && entries) imports four.0 in
    let two = both_true one entries three.0 in (
      record {
        some_entry = leb-true 1 t.n two.0;
        entries = leb-true t.n limits.entries two.1;
        imports = leb-true t.q limits.imports three.1;
        variables = leb-true t.v limits.variables four.1;
      },
      five.1,
    )

-- a table that is accepted is sound
pub sound_table : (t : Table) → table_fault t ≡ Ok tt → Sound t
unfolding table_fault
sound_table t good =
    let numbers = first_fault t.v (λ x. number_fault (initial_of t x)) in
    let operands = first_fault t.n (λ k. operands_fault t k (operands_of (entry_at t k))) in
    let limited = limits_within t (accepted_first (limits_fault t) (and_then numbers operands) good) in
    let rest = accepted_second (limits_fault t) (and_then numbers operands) good in
    record {
      within = limited.0;
      unused = limited.1;
      numbers = none_at_fault t.v (λ x. number_fault (initial_of t x)) (accepted_first numbers operands rest);
      operands = none_at_fault t.n (λ k. operands_fault t k (operands_of (entry_at t k))) (accepted_second numbers operands rest);
    }

-- "n, q or v outside its limits; ... also an unused slot"
pub within_limits : (t : Table) → Within t → unused_slots t ≡ true → limits_fault t ≡ Ok tt
unfolding limits_fault
within_limits t within unused =
    rw (
      le-leb 1 t.n within.some_entry,
      le-leb t.n limits.entries within.entries,
      le-leb t.q limits.imports within.imports,
      le-leb t.v limits.variables within.variables,
      unused,
    )

-- the writer's check of a table, part by part
pub table_sound : (t : Table) → limits_fault t ≡ Ok tt → ((x : ℕ) → x < t.v → number_fault (initial_of t x) ≡ Ok tt)
    → ((k : ℕ) → k < t.n → operands_fault t k (operands_of (entry_at t k)) ≡ Ok tt) → table_fault t ≡ Ok tt
unfolding table_fault
table_sound t limited numbers operands =
    rw (limited, no_fault t.v (λ x. number_fault (initial_of t x)) numbers)
    (no_fault t.n (λ k. operands_fault t k (operands_of (entry_at t k))) operands)
