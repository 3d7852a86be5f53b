-- `inspect::show` meets its contract: the writer gets all that is shown of what was read, and that is what is shown of all that the reader had.
use Rattle.std.specs.Prelude.{Option, None, Some, Result, Ok, Err, IfSome, OnOk, List, ◌≡◌, ℕ}
use Rattle.std.proofs.Common.{subst, ◌∙◌, arith}
use Rattle.std.specs.Io.KnownBytes.{Appends}
use Rattle.inspection.specs.Inspected.{inspected}
use Rattle.inspection.specs.Bounds.{shown_whole}
use Rattle.inspect.proofs.First.{first_shown}
use Rattle.inspect.proofs.show.Goals as goal

-- bytes that were written are those of whatever input shows them
written : {A E : Type 0} (r : Result A E) (given had has : Option (List ℕ)) (read bytes : List ℕ) → IfSome given (λ script. inspected read ≡ inspected script) → bytes ≡ inspected read
    → OnOk r (Appends had has bytes) → OnOk r (IfSome given (λ script. Appends had has (inspected script)))
written (Ok done) None had has read bytes same is put = tt
written (Ok done) (Some script) had has read bytes same is put = subst (Appends had has) (is ∙ same) put
written (Err e) given had has read bytes same is put = tt

pub returns : goal.returns
returns g c =
    let room = c.read_full.new.room in
    let long = c.read_full.ensures.long in
    let n = c.in_ok-n.n in
    let same = first_shown _ _ room n (omega (arith, long)) (omega (arith, long, c.in_ok-n.ensures.within)) c.in_ok-n.ensures.bytes
    (λ less. c.in_ok-n.ensures.end (omega (arith, long))) in
    let whole = shown_whole _ _ _ _ (omega arith) c.lines-m.ensures.lays in
    written c.write_all.result _ _ _ _ _ same whole c.write_all.ensures.bytes
