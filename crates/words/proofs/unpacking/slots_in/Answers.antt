-- Each call is at the word of its place, and changes nothing.
use borrow.Author.Rules.{rules}
use Prim.Native.Nat.{◌+◌}
use Rattle.words.specs.Unpacking.{word_in}
use Rattle.words.specs.Filling.{made_all}
use Rattle.words.proofs.unpacking.slots_in.Goals as goal

pub returns : goal.returns
returns g c f gives =
    made_all _ _ (λ k. f (word_in c.args.state.now (c.args.from + k))) (λ i a later call. search rules) c.from_fn.result g.row.N c.from_fn.ensures.items
