-- `words::unpacking::monitor_in` meets its contract: each part is read from its place.
use borrow.Author.Rules.{rules}
use Prim.Native.Nat.{ℕ}
use lib.Dec.{eqb}
use Rattle.table.specs.declared.Entry.{Entry}
use Rattle.values.specs.declared.Number.{Number}
use Rattle.values.specs.declared.Truth.{Truth}
use Rattle.words.specs.Unpacking.{number_of_word, truth_of_word, entry_of_word, numbers_in, entries_in, cells_in, events_in, reported_in}
use Rattle.words.specs.Restored.{parts_in}
use Rattle.words.proofs.unpacking.monitor_in.Goals as goal

-- the slots of a word
abbrev entry_in : ℕ → Entry
entry_in w = (entry_of_word w)

abbrev number_in : ℕ → Number
number_in w = (number_of_word w)

abbrev truth_in : ℕ → Truth
truth_in w = (truth_of_word w)

pub returns : goal.returns
unfolding events_in numbers_in entries_in reported_in cells_in
returns c =
    parts_in c.args.state.now c.word.ensures c.word-2.ensures c.word-3.ensures
    (c.slots_in.ensures (λ w. eqb w 1) (λ w r e. search rules))
    (c.slots_in-2.ensures number_in (λ w r e. search rules))
    (c.slots_in-3.ensures entry_in (λ w r e. search rules))
    c.word-4.ensures
    (c.slots_in-4.ensures truth_in (λ w r e. search rules))
    (c.slots_in-5.ensures number_in (λ w r e. search rules))
    (c.slots_in-6.ensures (λ w. w) (λ w r e. search rules))
