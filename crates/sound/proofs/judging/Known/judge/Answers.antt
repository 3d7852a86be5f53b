-- `sound::judging::Known::judge` meets its contract: in each arm the operand is the arm's, and the call gives the arm's answer.
use mathlib.Core.Path.{ap, ◌∙◌}
use mir.Syntax.{w64}
use mir.ValLaws.{to_z-of_z}
use Rattle.values.specs.Numbers.{in_range}
use Rattle.sound.specs.Judged.{judged_by}
use borrow.Author.Rules.{rules}
use Rattle.sound.proofs.judging.Known.judge.Goals as goal

pub returns-in-Nothing : goal.returns-in-Nothing
unfolding judged_by
returns-in-Nothing c = rw c.in-Nothing.is

pub returns-in-Entry : goal.returns-in-Entry
unfolding judged_by
returns-in-Entry c = rw (c.in-Entry.is, ← c.sort_of_entry.ensures) c.placed.ensures

pub returns-in-Imported : goal.returns-in-Imported
unfolding judged_by
returns-in-Imported c = rw (c.in-Imported.is, ← c.sort_of_import.ensures) c.placed-in-Imported.ensures

pub returns-in-Variable : goal.returns-in-Variable
unfolding judged_by
returns-in-Variable c = rw c.in-Variable.is c.unless.ensures

pub returns-in-Constant : goal.returns-in-Constant
unfolding judged_by
returns-in-Constant c =
    let said = c.in_range.ensures ∙ ap in_range (to_z-of_z w64 c.in-Constant.z (search rules)) in
    rw (c.in-Constant.is, ← said) c.unless-in-Constant.ensures
