-- Labels: "a length byte 0 to 32, then that many bytes from 0x20 to 0x7E."
use Rattle.std.specs.Prelude.{Bool, true, cond, ◌&&◌, List, [], ◌∷◌, ℕ, zero, suc, ◌+◌, ◌*◌, ◌/◌, leb, take, drop}
use Rattle.refusals.specs.declared.Refusal.{Refusal}
use Rattle.refusals.specs.Numbering.{unless}
use Rattle.bits.specs.Bits.{wholly}
use Rattle.bits.specs.Reading.{Reading, refused, give, ◌>>=◌, judged, field}
use Rattle.table.specs.Limits.{limits}
use Rattle.script.specs.declared.Span.{Span}

-- every byte is one "from 0x20 to 0x7E"
unfoldable pub printable : List ℕ → Bool
printable [] = true
printable (b ∷ bs) = leb 0x20 b && leb b 0x7E && printable bs

-- labels begin at a whole byte, so that byte `at / 8` is the next one
-- "a label's text is one field": 2 where it isn't wholly there, 10 where "a byte [is] outside 0x20 to 0x7E"
unfoldable pub text : ℕ → Reading Span
text size s at =
    cond (wholly s at (8 * size))
    (judged (unless (printable (take size (drop (at / 8) s))) Refusal.Label) (record { from = at / 8; size = size }) (at + 8 * size))
    (refused Refusal.Cut)

-- one label; "a label length over 32 is 10, even if the bytes are also missing"
unfoldable pub label : Reading Span
label = field Refusal.Cut 8 (λ size. unless (leb size limits.label) Refusal.Label) >>= λ size. text size

-- as many labels, one after another
unfoldable pub labels : ℕ → Reading ℕ
labels zero = give 0
labels (suc count) = label >>= λ span. labels count
