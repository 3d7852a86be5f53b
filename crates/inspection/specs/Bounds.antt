-- Whatever the script, no more than 98,304 bytes are printed, so that a destination of that size holds all of them.
use Rattle.std.specs.Prelude.{Bool, true, false, cond, List, [], ◌∷◌, map, ◌≡◌, refl, ℕ, zero, suc, ◌+◌, ◌*◌, ◌^◌, ◌<◌, ◌≤◌, eqb, length, take, Ok, Err}
use Rattle.std.proofs.Common.{◌∙◌, ap, suc-mul, arith, length-append}
use Rattle.std.proofs.lemmas.List.{length-replicate}
use Rattle.refusals.specs.Answers.{Answer}
use Rattle.bits.specs.Lists.{length_list}
use Rattle.bits.specs.Reading.{Got, got, refused}
use Rattle.table.specs.declared.Entry.{Entry}
use Rattle.table.specs.declared.Table.{Table}
use Rattle.table.specs.Limits.{limits}
use Rattle.table.specs.Kinds.{kind_of, labelled}
use Rattle.table.specs.Tables.{entry_at}
use Rattle.script.specs.Reader.{script_of, label_of, text_of}
use Rattle.roundtrip.proofs.ReadAgain.{script_few}
use Rattle.parts.specs.Within.{label_text_short}
use Rattle.reach.specs.declared.Reach.{Reach}
use Rattle.reach.specs.Reaching.{reach_fault}
use Rattle.reach.specs.Spreading.{marks_of, reach_reply, reach_of}
use Rattle.lines.specs.Text.{decimal, alarm_word, line}
use Rattle.lines.specs.Laying.{Lays, laid}
use Rattle.lines.specs.Decimals.{decimal_length}
use Rattle.lines.specs.Spaced.{spaced, line_length}
use Rattle.lines.specs.Lengths.{script_length, script_refused_length}
use Rattle.lines.specs.Whole.{laid_whole}
use Rattle.inspection.specs.Inspected.{property_word, entries_word, imports_word, clock_word, yes_or_no, marked_from, rule_word, rule_lines, rules_to, lines_of, inspected}
use Rattle.inspection.specs.Marks.{marks_text}
use Rattle.inspection.specs.Rules.{lines_at}

-- marks whose numbers have at most so many digits
marks_length : (d i : ℕ) (marks : List Bool) → i + length marks ≤ 10 ^ suc d → length (marks_text i marks) ≤ length marks * (d + 2)
unfolding spaced marked_from
marks_length d i [] few = omega arith
marks_length d i (true ∷ marks) few =
    let digits = decimal_length d i (omega arith) in
    let rest = marks_length d (suc i) marks (omega arith) in
    simp (length-append, suc-mul) (omega arith)
marks_length d i (false ∷ marks) few = let rest = marks_length d (suc i) marks (omega arith) in simp suc-mul (omega arith)

-- an entry's number, a word and a text
text_length : (k : ℕ) (word text : List ℕ) → k < 1000 → length (line (decimal k ∷ word ∷ text ∷ [])) ≤ 6 + length word + length text
unfolding spaced
text_length k word text low =
    let digits = decimal_length 2 k low in
    rw (line_length (decimal k) (word ∷ text ∷ [])) (simp length-append (omega arith))

-- an entry's number, a word and the numbers that are marked
marked_length : (d k : ℕ) (word : List ℕ) (marks : List Bool) → k < 1000 → length marks ≤ 10 ^ suc d
    → length (line (decimal k ∷ word ∷ map decimal (marked_from 0 marks))) ≤ 5 + length word + length marks * (d + 2)
unfolding spaced
marked_length d k word marks low few =
    let digits = decimal_length 2 k low in
    let numbers = marks_length d 0 marks (omega arith) in
    rw (line_length (decimal k) (word ∷ map decimal (marked_from 0 marks))) (simp length-append (omega arith))

-- "alarm" or "property"
word_length : (alarm : Bool) → length (cond alarm alarm_word property_word) ≤ 8
word_length true = omega arith
word_length false = omega arith

-- "yes" or "no"
answer_length : (b : Bool) → length (yes_or_no b) ≤ 3
answer_length true = omega arith
answer_length false = omega arith

-- the four lines of a rule
rule_length : (s : List ℕ) (k : ℕ) (e : Entry) (r : Reach) → k < 1000 → length r.entries ≡ 128 → length r.imports ≡ 48 → length (rule_lines s k e r) ≤ 740
unfolding rule_lines
rule_length s k e r low entries imports =
    let name = text_length k (rule_word e) (text_of s (label_of s k)) low in
    let word = word_length (eqb (kind_of e) 23) in
    let label = label_text_short s k in
    let entered = marked_length 2 k entries_word r.entries low (omega arith) in
    let imported = marked_length 1 k imports_word r.imports low (omega arith) in
    let clock = text_length k clock_word (yes_or_no r.clock) low in
    let answer = answer_length r.clock in
    simp length-append (omega arith)

-- a reach has its 128 and 48 marks, whatever it answers
reply_slots : (t : Table) (k : ℕ) (a : Answer) → (length (reach_reply t k a).entries ≡ 128) × (length (reach_reply t k a).imports ≡ 48)
unfolding marks_of
reply_slots t k (Ok _) = (length_list 128 _, length_list 48 _)
reply_slots t k (Err r) = (length-replicate 128 false, length-replicate 48 false)

-- the lines of an entry
at_length : (s : List ℕ) (t : Table) (k : ℕ) → k < 1000 → length (lines_at s t k) ≤ 740
unfolding reach_of
at_length s t k low =
    let slots = reply_slots t k (reach_fault t k) in
    shown (labelled (entry_at t k)) (rule_lines s k (entry_at t k) (reach_of t k)) (rule_length s k (entry_at t k) (reach_of t k) low slots.0 slots.1)
  where
    shown : (b : Bool) (text : List ℕ) → length text ≤ 740 → length (cond b text []) ≤ 740
    shown true text short = short
    shown false text short = omega arith

-- those of so many entries
rules_length : (s : List ℕ) (t : Table) (k : ℕ) → k ≤ 1000 → length (rules_to s t k) ≤ k * 740
unfolding rules_to
rules_length s t zero low = omega arith
rules_length s t (suc k) low =
    let some = rules_length s t k (omega arith) in
    let one = at_length s t k (omega arith) in
    simp length-append (omega arith)

-- what is printed
lines_length : (s : List ℕ) (m : Got Table) → ((t : Table) (end : ℕ) → m ≡ got t end → t.n ≤ limits.entries) → length (lines_of s m) ≤ 98304
lines_length s (got t end) few =
    let entries = few t end refl in
    let first = script_length 2 t.n (omega arith) in
    let rules = rules_length s t t.n (omega arith) in
    simp length-append (omega arith)
lines_length s (refused r) few = let line = script_refused_length r in omega arith

-- 128 rules of 740 bytes, and the first line
pub inspected_fits : (script : List ℕ) → length (inspected script) ≤ 98304
unfolding inspected
inspected_fits script = lines_length script (script_of script) (script_few script)

-- so where there is room for that many bytes, the bytes that are filled are what is printed
pub shown_whole : (script dst after : List ℕ) (r : ℕ) → 98304 ≤ length dst → Lays dst 0 (inspected script) after r → take r after ≡ inspected script
shown_whole script dst after r room lays =
    let whole = laid_whole dst (inspected script) (omega (arith, inspected_fits script)) in
    (λ i. take (lays.place i) (lays.bytes i)) ∙ ap (λ (n : ℕ). take n (laid dst 0 (inspected script))) whole.0 ∙ whole.1
