-- The first 4,097 bytes of an input show what all of it shows: a script of more than 4,096 is refused for its length.
use Rattle.std.specs.Prelude.{Option, None, Some, IfSome, List, ◌++◌, ◌≡◌, refl, ℕ, ◌<◌, ◌≤◌, length, take}
use Rattle.std.proofs.Common.{sym, ◌∙◌, ap, append-nil, arith, lt-ltb, length-append, length-take-le}
use Rattle.std.proofs.Math.Decide.{dec_lt}
use Rattle.std.specs.Io.KnownBytes.{Consumes, IsAtEnd}
use Rattle.refusals.specs.declared.Refusal.{Refusal}
use Rattle.script.specs.Reader.{script_of}
use Rattle.lines.specs.Text.{script_refused_line}
use Rattle.inspection.specs.Inspected.{inspected}

-- what is shown of a script that is too long
too_long : (script : List ℕ) → 4096 < length script → inspected script ≡ script_refused_line Refusal.TooLong
unfolding inspected script_of
too_long script long = rw (lt-ltb 4096 (length script) long) refl

-- what was read of an input that has no more bytes than the room, or fills the room
pub first_shown : (given left : Option (List ℕ)) (room : List ℕ) (n : ℕ) → length room ≡ 4097 → n ≤ length room → Consumes given left (take n room)
    → (n < length room → IsAtEnd left) → IfSome given (λ script. inspected (take n room) ≡ inspected script)
first_shown None left room n size within read end = tt
first_shown (Some script) None room n size within read end = absurd read
first_shown (Some script) (Some rest) room n size within read end =
    let long = length-take-le n room within in
    elim (dec_lt n (length room)) [
      | yes less ↦ ap inspected (sym (read ∙ ap (λ (l : List ℕ). take n room ++ l) (end less) ∙ append-nil (take n room)))
      | no full ↦
          too_long (take n room) (omega arith)
          ∙ sym (too_long script (omega (arith, ap length read, length-append (take n room) rest)))
    ]
