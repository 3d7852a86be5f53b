-- The bytes of the window are those of its number, the most significant first.
use mathlib.Core.List.{List}
use mathlib.Core.Path.{◌∙◌, ap}
use Prim.Native.Nat.{ℕ, ◌+◌, ◌-◌}
use native.Mathlib.Omega.{arith}
use lib.ListN.{get_or}
use borrow.Rule.Slice.PartMut.{put_mid}
use Rattle.bits.specs.Window.{byte_of, stored_between, eight_of}
use Rattle.bits.proofs.putting.store_eight.Goals as goal

pub returns : goal.returns
returns c =
    let a = c.args in
    let l = c.copy_from_slice.new.self in
    ap (λ (n : ℕ). put_mid a.first n a.s.now l) {x = a.first + 8 - a.first} {y = 8} (omega arith)
    ∙ stored_between a.s.now a.first (byte_of a.window 8) 8 l (omega arith) (omega arith)
    (λ i h. ap (λ (k : List ℕ). get_or k i 0) (c.copy_from_slice.ensures.after ∙ c.to_be_bytes.ensures) ∙ eight_of a.window i h)
