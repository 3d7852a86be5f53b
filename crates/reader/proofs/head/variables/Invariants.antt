-- `reader::head::variables` meets its contract. The loop's invariant: what is left to read, from here, gives what all of it gives from the start.
use mathlib.Core.Path.{◌≡◌}
use Prim.Native.Nat.{◌+◌, ◌*◌, ◌-◌}
use Rattle.script.specs.Reader.{variables}
use Rattle.reader.proofs.head.variables.Given as goal

abbrev pub invariant-loop-x : goal.invariant-loop-x
invariant-loop-x l = (l.next ≡ l.at + 49 * l.x) × (variables (l.fn.t.v - l.x) l.x l.table l.s l.next ≡ variables l.fn.t.v 0 l.fn.t l.s l.at)
