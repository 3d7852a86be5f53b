-- `reader::head::imports` meets its contract. The loop's invariant: what is left to read, from here, gives what all of it gives from the start.
use mathlib.Core.Path.{◌≡◌}
use Prim.Native.Nat.{◌+◌, ◌-◌}
use Rattle.script.specs.Reader.{imports}
use Rattle.reader.proofs.head.imports.Given as goal

abbrev pub invariant-loop-i : goal.invariant-loop-i
invariant-loop-i l = imports (l.t.q - l.i) l.i l.table l.s (l.at + l.i) ≡ imports l.t.q 0 l.t l.s l.at
