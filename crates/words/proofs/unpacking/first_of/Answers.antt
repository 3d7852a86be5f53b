-- `words::unpacking::first_of` meets its contract: its tests are the definition's.
use borrow.Author.Tests.{eq-eqb, ne_eqb}
use mathlib.Core.Path.{sym, ◌∙◌}
use Rattle.words.specs.Unpacking.{first_of_word}
use Rattle.words.proofs.unpacking.first_of.Goals as goal

pub returns-then-of_import : goal.returns-then-of_import
unfolding first_of_word
returns-then-of_import c = rw (sym c.of_import.ensures ∙ c.if-of_import.true)

pub returns-then-word-eq16 : goal.returns-then-word-eq16
unfolding first_of_word
returns-then-word-eq16 c = rw (sym c.of_import.ensures ∙ c.if-of_import.false, eq-eqb _ 16 c.if-word-eq16.true)

pub returns : goal.returns
unfolding first_of_word
returns c = rw (sym c.of_import.ensures ∙ c.if-of_import.false, ne_eqb _ 16 c.if-word-eq16.false)
