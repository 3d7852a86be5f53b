-- `reacher::of_entry` meets its contract: 29 before all else, 30 last, and else what was reached and what that touches.
use borrow.Author.Rules.{rules}
use Rattle.reacher.specs.Replying.{found_sound, reply_shown, reply_no_entry, reply_unsound}
use Rattle.reacher.proofs.of_entry.Goals as goal

-- what a refusal is shown by, whichever it is: which comes first is for the code to say
ruleset refused = (rules, reply_unsound, reply_no_entry)

pub returns-in-Err : goal.returns-in-Err
returns-in-Err c = search refused

pub returns-then-t-entry : goal.returns-then-t-entry
returns-then-t-entry c = search refused

pub linked-requires : goal.linked-requires
linked-requires c = search found_sound

pub reached-marks-requires : goal.reached-marks-requires
reached-marks-requires c = (search found_sound, search rules, search rules)

pub touched_by-clock-requires : goal.touched_by-clock-requires
touched_by-clock-requires c = search found_sound

pub returns : goal.returns
returns c = search reply_shown
