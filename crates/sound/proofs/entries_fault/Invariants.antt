-- `sound::entries_fault` meets its contract. The loop's invariant: the sorts of the entries passed are kept, and none of them has a fault.
use Rattle.std.proofs.Common.{Ok}
use lib.ListN.{length}
use mathlib.Core.List.{List}
use mathlib.Core.Path.{◌≡◌}
use Prim.Native.Nat.{ℕ}
use Rattle.refusals.specs.Numbering.{first_fault}
use Rattle.table.specs.declared.Sort.{Sort}
use Rattle.table.specs.declared.Table.{Table}
use Rattle.sound.specs.Laws.{Sorts, entry_fault}
use Rattle.sound.proofs.entries_fault.Given as goal

-- how far the loop has come
pub record Come (t : Table) (sorts : List ℕ) (k : ℕ) : Type 0 where
  pub room : length sorts ≡ 128
  pub sorted : Sorts t k sorts
  pub none : first_fault k (entry_fault t) ≡ Ok tt

abbrev pub invariant-loop-k : goal.invariant-loop-k
invariant-loop-k l = Come l.t l.sorts l.k
