-- `lines::put` meets its contract. The loop's invariant: the bytes of the text so far are laid.
use Rattle.std.specs.Prelude.{take}
use Rattle.lines.specs.Laying.{Lays}
use Rattle.lines.proofs.put.Given as goal

abbrev pub invariant-loop-b : goal.invariant-loop-b
invariant-loop-b l = Lays l.initial.out l.at (take l.b-index l.text) l.out l.next
