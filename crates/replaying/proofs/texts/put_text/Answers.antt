-- `replaying::texts::put_text` meets its contract: the text is copied to where it is kept.
use Rattle.std.specs.Prelude.{length}
use Rattle.std.proofs.Common.{refl, ap, arith}
use Rattle.std.proofs.lemmas.Slice.{put_mid-paste}
use Rattle.parts.specs.Within.{label_text_short}
use Rattle.replaying.specs.Moving.{text_at}
use Rattle.replaying.specs.Texts.{text_put}
use Rattle.replaying.proofs.texts.put_text.Goals as goal

pub slice_bounds-copy_from_slice-end : goal.slice_bounds-copy_from_slice-end
slice_bounds-copy_from_slice-end c =
    omega (arith, c.requires.0, ap length c.label-text.ensures.text, label_text_short c.args.script.now c.args.k)

pub overflow_cast-result : goal.overflow_cast-result
overflow_cast-result c = omega (arith, ap length c.label-text.ensures.text, label_text_short c.args.script.now c.args.k)

pub returns : goal.returns
returns c =
    let put = put_mid-paste (text_at c.args.k) _ c.args.texts.now c.copy_from_slice.new.self c.label-text.result.now (length c.label-text.result.now)
    c.copy_from_slice.ensures.after (omega arith) refl in
    (text_put c.args.script.now c.requires.0 c.requires.1 c.label-text.ensures.text put, ap length c.label-text.ensures.text)
