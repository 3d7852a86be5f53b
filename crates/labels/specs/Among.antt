-- The labels up to the end of the bytes: whether they are as they should be, and where a wanted one stands.
use Rattle.std.specs.Prelude.{Bool, cond, List, ℕ, ltb, Ok, Err, Result}
use Rattle.refusals.specs.declared.Refusal.{Refusal}
use Rattle.bits.specs.Reading.{Got, got, refused, Reading, ◌>>=◌, ended}
use Rattle.script.specs.declared.Span.{Span}
use Rattle.script.specs.declared.Label.{Label}
use Rattle.script.specs.Labels.{label, labels}
use Rattle.script.specs.Reader.{no_label}

-- no text
abbrev pub nowhere : Span
nowhere = record { from = 0; size = 0 }

-- where a label's text stands, if it was read
abbrev pub span_of : Got Span → Span
span_of (got span next) = span
span_of (refused r) = nowhere

-- the answer of all the labels, with the place of the wanted one among them
abbrev pub among_reply : Bool → Got Span → Got ℕ → Label
among_reply among one (got count end) = record { answer = Ok tt; span = cond among (span_of one) nowhere }
among_reply among one (refused r) = no_label r

-- the answer, from what was found of the wanted one
abbrev pub answer_of : Result Span Refusal → Label
answer_of (Ok span) = record { answer = Ok tt; span = span }
answer_of (Err r) = no_label r

-- "For each alarm and property entry, in order: [a label]. Nothing follows."
unfoldable pub labels_to_end : ℕ → Reading ℕ
labels_to_end count = labels count >>= λ c. ended Refusal.LeftOver

-- the label after as many others
unfoldable pub label_after : ℕ → Reading Span
label_after wanted = labels wanted >>= λ c. label

-- what reading the labels from a bit on answers
unfoldable pub label_among : ℕ → ℕ → List ℕ → ℕ → Label
label_among count wanted s at = among_reply (ltb wanted count) (label_after wanted s at) (labels_to_end count s at)
