-- `words::unpacking::second_of` meets its contract: its test is the definition's.
use borrow.Author.Tests.{eq-eqb, ne_eqb}
use Rattle.words.specs.Unpacking.{second_of_word}
use Rattle.words.proofs.unpacking.second_of.Goals as goal

pub returns-then-word-eq22 : goal.returns-then-word-eq22
unfolding second_of_word
returns-then-word-eq22 c = rw (eq-eqb _ 22 c.if-word-eq22.true)

pub returns : goal.returns
unfolding second_of_word
returns c = rw (ne_eqb _ 22 c.if-word-eq22.false)
