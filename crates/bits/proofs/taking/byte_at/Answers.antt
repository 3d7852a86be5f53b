-- `bits::byte_at` meets its contract: the eight bits of a byte make the byte.
use Rattle.std.proofs.Common.{Some}
use mathlib.Core.Path.{sym, ◌∙◌, ap}
use Prim.Native.Nat.{◌*◌}
use native.Mathlib.Omega.{arith}
use Rattle.bits.specs.Fields.{field_past, field_there}
use Rattle.bits.specs.Octets.{byte_number}
use Rattle.bits.proofs.taking.byte_at.Goals as goal

pub returns-then-s-i : goal.returns-then-s-i
returns-then-s-i c = sym (field_past c.args.s.now (8 * c.args.i) 8 (omega arith))

pub returns : goal.returns
returns c =
    let s = c.args.s.now in
    let i = c.args.i in
    ap Some (sym (byte_number s i (omega (arith, c.shared_slice_known-1.given i))))
    ∙ sym (field_there s (8 * i) 8 (omega arith) (omega arith))
