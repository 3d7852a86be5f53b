-- `words::encoding::entry_word` meets its contract: what its operands add makes where it looks.
use Prim.Native.Nat.{◌<◌}
use native.Mathlib.Omega.{arith}
use Rattle.words.specs.Encoding.{kind_small, entry_made}
use Rattle.words.proofs.encoding.entry_word.Goals as goal

pub returns : goal.returns
returns c = search entry_made

pub overflow_add-result : goal.overflow_add-result
overflow_add-result c =
    let small : c.apart_of-parts.result.kind < 25 = kind_small _ c.apart_of-parts.ensures in
    omega (arith, small)
