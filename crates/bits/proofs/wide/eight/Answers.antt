-- Four bytes and the four after them.
use Prim.Native.Nat.{◌+◌, ◌*◌}
use native.Mathlib.Omega.{arith}
use Rattle.bits.specs.Octets.{bits_lt, window_join}
use Rattle.bits.proofs.wide.eight.Goals as goal

pub overflow_mul-result : goal.overflow_mul-result
overflow_mul-result c =
    let a = c.args in
    record { fits = omega (arith, c.four.ensures, bits_lt a.s.now (8 * a.first) 32) }

pub overflow_add-result : goal.overflow_add-result
overflow_add-result c =
    let a = c.args in
    record {
      fits = omega (
        arith,
        c.four.ensures,
        c.four-2.ensures,
        bits_lt a.s.now (8 * a.first) 32,
        bits_lt a.s.now (8 * (a.first + 4)) 32,
      );
    }

pub returns : goal.returns
returns c =
    let a = c.args in
    omega (arith, c.four.ensures, c.four-2.ensures, window_join a.s.now a.first 4 4)
