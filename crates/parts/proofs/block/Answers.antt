-- The part where the block stands, as the pass over the script found it.
use mathlib.Core.List.{List}
use mathlib.Core.Path.{◌≡◌, refl, ◌∙◌, ap}
use Prim.Native.Nat.{ℕ}
use native.Mathlib.Omega.{arith}
use Rattle.reader.specs.declared.Scan.{Scan}
use Rattle.reader.specs.Scans.{block_span, scan_of}
use Rattle.parts.specs.Shown.{outcome_number}
use Rattle.parts.specs.Within.{Inside, part_inside, part_text, part_place, block_inside, block_text}
use Rattle.parts.proofs.block.Goals as goal

-- what the pass found is the block of the definition, and stands within the bytes
found_block : (bytes : List ℕ) (scan : Scan) → scan ≡ scan_of bytes 0 → scan.block ≡ block_span bytes
unfolding scan_of
found_block bytes scan is = ap (λ (x : Scan). x.block) is

inside : (bytes : List ℕ) (scan : Scan) → scan ≡ scan_of bytes 0 → Inside bytes scan.block
inside bytes scan is = part_inside bytes (found_block bytes scan is) (block_inside bytes)

pub overflow_add-last : goal.overflow_add-last
overflow_add-last c =
    let h = inside c.args.s.now c.scan_script-scan.result c.scan_script-scan.ensures in record { fits = omega arith }

pub slice_bounds-result-end : goal.slice_bounds-result-end
slice_bounds-result-end c =
    let h = inside c.args.s.now c.scan_script-scan.result c.scan_script-scan.ensures in omega arith

pub returns-clause-text : goal.returns-clause-text
returns-clause-text c =
    part_text c.args.s.now (found_block c.args.s.now c.scan_script-scan.result c.scan_script-scan.ensures) ∙ block_text c.args.s.now

pub returns-clause-place : goal.returns-clause-place
returns-clause-place c =
    (refl, part_place c.args.s.now (found_block c.args.s.now c.scan_script-scan.result c.scan_script-scan.ensures) c.args.s.ref_ptr.1)

pub returns-clause-number : goal.returns-clause-number
unfolding scan_of
returns-clause-number c = c.outcome.ensures ∙ ap (λ (x : Scan). outcome_number x.answer) c.scan_script-scan.ensures
