-- `inplace::taking::take` meets its contract: sizes and counts first, then the step.
use Rattle.std.proofs.Common.{◌≡◌, List, ℕ, get_or, ap, refl, arith}
use Rattle.inplace.specs.Taking.{took, took_words, took_entries, took_imports}
use Rattle.inplace.proofs.taking.take.Goals.{In_ok-results}
use Rattle.inplace.proofs.taking.take.Goals as goal

pub returns-in_err-state : goal.returns-in_err-state
returns-in_err-state c = took_words (rw c.in_err-state.ensures.ok_part at c.as_mut_array.ensures.cases)

-- the words as an array are the words
words-are : (k : In_ok-results) → k.in_ok-state.state.now ≡ k.args.state.now
words-are k = (rw k.in_ok-state.ensures.ok_part at k.as_mut_array.ensures.cases).same

-- and so are the slots
slots-are : (k : In_ok-results) → k.in_ok-results.results.now ≡ k.args.results.now
slots-are k = (rw k.in_ok-results.ensures.ok_part at k.as_mut_array-2.ensures.cases).same

pub returns-then-crowded : goal.returns-then-crowded
returns-then-crowded c =
    let k : In_ok-results = (goal.at.returns-then-crowded c).In_ok-results in
    rw (words-are k, slots-are k) (took_entries (omega (arith, ap (λ (l : List ℕ). get_or l 0 0) (words-are k))))

pub returns-then-q-gt48 : goal.returns-then-q-gt48
returns-then-q-gt48 c =
    let k : In_ok-results = (goal.at.returns-then-q-gt48 c).In_ok-results in
    rw (words-are k, slots-are k) (took_imports (omega (arith, ap (λ (l : List ℕ). get_or l 1 0) (words-are k))))

pub returns : goal.returns
returns c =
    let k : In_ok-results = (goal.at.returns c).In_ok-results in
    rw (← words-are k, ← slots-are k) (took _ _ refl refl c.heard.ensures)
