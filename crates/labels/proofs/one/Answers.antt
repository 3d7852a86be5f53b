-- `labels::one` meets its contract: a length that is there, and a text wholly there, whose bytes decide.
use Rattle.std.proofs.Common.{Some}
use mathlib.Core.Bool.{Bool}
use mathlib.Core.List.{List}
use mathlib.Core.Path.{◌≡◌, sym, ◌∙◌, ap}
use Prim.Native.Nat.{ℕ, ◌+◌, ◌-◌, ◌*◌, ◌<◌}
use native.Mathlib.Omega.{arith}
use lib.ListN.{length, drop, take}
use Rattle.std.specs.List.{list_all}
use Rattle.bits.specs.Bits.{field_at}
use Rattle.script.specs.Labels.{printable, text, label}
use Rattle.labels.specs.Laws.{found_in, is_printable, printable_lem, label_text_lem, length_within, text_fault, text_found}
use Rattle.labels.proofs.one.Goals as goal

-- what was tested are the text's bytes
judged : (bytes : List ℕ) (first size : ℕ) {r : Bool} → r ≡ list_all is_printable (take (first + size - first) (drop first bytes))
    → printable (take size (drop first bytes)) ≡ r
judged bytes first size said =
    ap (λ (n : ℕ). printable (take n (drop first bytes))) {x = size} {y = first + size - first} (omega arith)
    ∙ printable_lem (take (first + size - first) (drop first bytes)) ∙ sym said

pub returns-then-not-all_printable : goal.returns-then-not-all_printable
returns-then-not-all_printable c =
    let bytes : List ℕ = c.args.s.now in
    let place : ℕ = c.args.from in
    let long : ℕ = c.in-Some.size in
    let there : field_at bytes (8 * place) 8 ≡ Some long = sym c.byte_at.ensures ∙ c.in-Some.is in
    let begun : place < length bytes = length_within bytes place long there in
    let on-text : label bytes (8 * place) ≡ text long bytes (8 * (place + 1)) = label_text_lem bytes place long there (omega arith) in
    let outside = judged bytes (place + 1) long c.all_printable.ensures ∙ c.if-not-all_printable.true in
    sym (ap found_in (on-text ∙ text_fault bytes (place + 1) long (omega arith) outside))

pub returns : goal.returns
returns c =
    let bytes : List ℕ = c.args.s.now in
    let place : ℕ = c.args.from in
    let long : ℕ = c.in-Some.size in
    let there : field_at bytes (8 * place) 8 ≡ Some long = sym c.byte_at.ensures ∙ c.in-Some.is in
    let begun : place < length bytes = length_within bytes place long there in
    let on-text : label bytes (8 * place) ≡ text long bytes (8 * (place + 1)) = label_text_lem bytes place long there (omega arith) in
    let inside = judged bytes (place + 1) long c.all_printable.ensures ∙ c.if-not-all_printable.false in
    sym (ap found_in (on-text ∙ text_found bytes (place + 1) long (omega arith) inside))
