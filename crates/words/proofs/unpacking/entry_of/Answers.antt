-- `words::unpacking::entry_of` meets its contract: the entry is made of what was taken from the word.
use mathlib.Core.Path.{◌∙◌}
use Prim.Native.Nat.{◌/◌, ◌%◌}
use mir.Syntax.{w64}
use mir.ValLaws.{to_z-of_z}
use Rattle.kinds.specs.Apart.{made_of}
use Rattle.words.specs.Unpacking.{entry_of_word}
use Rattle.words.proofs.unpacking.entry_of.Goals as goal

pub returns : goal.returns
unfolding entry_of_word
returns c =
    let w = c.args.word in
    let constant = to_z-of_z w64 _ (record { sfits = c.constant_of.type_inv }) ∙ c.constant_of.ensures in
    c.made.ensures
    ∙ (λ i. made_of (w % 32) (c.first_of.ensures i) (c.second_of.ensures i) (w / 4096 % 128) (constant i))
