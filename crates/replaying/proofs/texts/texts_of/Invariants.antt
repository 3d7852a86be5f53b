-- `replaying::texts::texts_of` meets its contract. The loop's invariant: the texts and sizes of the first k entries are there.
use Rattle.replaying.specs.Texts.{KeptTo}
use Rattle.replaying.proofs.texts.texts_of.Given as goal

abbrev pub invariant-loop-k : goal.invariant-loop-k
invariant-loop-k l = KeptTo l.script l.texts l.size-items l.k
