-- `replay::source::more` meets its contract: nothing is read, or a piece is read after the first `have` bytes, and the piece is all that read gave.
use Rattle.std.proofs.Common.{◌≡◌, ◌-◌, refl, eqb-true, length, take, subst, sym, arith}
use Rattle.std.specs.Io.KnownBytes.{Consumes}
use borrow.Rule.Slice.PartMut.{post_of, same_len_mid}
use Rattle.replay.specs.Refilling.{refilled_read, refilled_piece}
use Rattle.replay.proofs.source.more.Given.{Over}
use Rattle.replay.proofs.source.more.Goals.{In-Ok}
use Rattle.replay.proofs.source.more.Goals as goal

abbrev pub returns-in-Ok-clause-held : goal.returns-in-Ok-clause-held
returns-in-Ok-clause-held g c =
    let was = c.args.input.now in
    let room = c.read.new.buf in
    let free = length was - c.args.have in
    refilled_read was room (post_of c.args.have free was) c.args.have c.in-Ok.count c.if-ended.false (omega (arith, c.requires)) c.in-Ok.ensures.bound.0
    (same_len_mid c.args.have free was room c.read.auto.buf) refl (λ none. eqb-true c.in-Ok.count 0 none)

pub returns-in-Ok-clause-bytes : goal.returns-in-Ok-clause-bytes
returns-in-Ok-clause-bytes g c =
    subst (Consumes _ _) (sym (refilled_piece c.args.have (returns-in-Ok-clause-held g c) (omega arith) (omega arith) (omega (arith, c.requires)))) c.in-Ok.ensures.bytes.0

-- the piece is as many bytes of the room as read answered
pub piece_read : (g : Over) (c : In-Ok g) → (returns-in-Ok-clause-held g c).piece ≡ take c.in-Ok.count c.read.new.buf
piece_read g c = refl
