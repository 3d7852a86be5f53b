-- `words::packing::put_parts` meets its contract: each part stands where the last one ended.
use mathlib.Core.Bool.{false}
use borrow.Author.Rules.{rules}
use native.Mathlib.Omega.{arith}
use Rattle.values.specs.declared.Number.{Number}
use Rattle.values.specs.declared.Truth.{Truth}
use Rattle.table.specs.declared.Entry.{Entry}
use Rattle.words.specs.Words.{number_word, truth_word, event_word, entry_word}
use Rattle.words.specs.Layout.{Kept}
use Rattle.words.specs.Packing.{parts_put}
use Rattle.words.proofs.packing.put_parts.Goals as goal

pub returns : goal.returns
returns c =
    let m = c.args.m.now in
    let keeps : Kept m = record {
      table = record { entries = omega arith; events = omega arith; variables = omega arith };
      reported = omega arith;
      held = omega arith;
      cells = omega arith;
    } in
    parts_put m keeps c.args.state.now c.requires c.put_counts.ensures
    (c.put.ensures entry_word (Entry.ImportedCondition 0) (λ x r e. search rules))
    (c.put-2.ensures (λ x. x) 0 (λ x r e. search rules))
    (c.put-3.ensures number_word Number.Undefined (λ x r e. search rules))
    (c.put-4.ensures number_word Number.Undefined (λ x r e. search rules))
    (c.put-5.ensures event_word false (λ x r e. search rules))
    (c.put-6.ensures (λ x. x) 0 (λ x r e. search rules))
    (c.put-7.ensures truth_word Truth.Undefined (λ x r e. search rules))
    (c.put-8.ensures (λ x. x) 0 (λ x r e. search rules))
