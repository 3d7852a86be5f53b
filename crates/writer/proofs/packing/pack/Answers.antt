-- `writer::packing::pack` meets its contract: the parts of a table in order, and the padding; no position comes near the largest number.
use native.Mathlib.Omega.{arith}
use Rattle.script.specs.Writer.{table_parts}
use Rattle.writer.specs.Puts.{puts_more, puts_padded}
use Rattle.writer.specs.Widths.{header_width, imports_width, variables_width, entries_wide}
use Rattle.writer.proofs.packing.pack.Goals as goal

pub put_imports-at-requires : goal.put_imports-at-requires
put_imports-at-requires c =
    let header = c.put_header-at.ensures in
    omega (arith, header.ends, header_width c.args.t)

pub put_variables-at-requires : goal.put_variables-at-requires
put_variables-at-requires c =
    let t = c.args.t in
    let header = c.put_header-at.ensures in
    let imports = c.put_imports-at.ensures in
    omega (arith, header.ends, header_width t, imports.ends, imports_width t t.q)

pub put_entries-at-requires : goal.put_entries-at-requires
put_entries-at-requires c =
    let t = c.args.t in
    let header = c.put_header-at.ensures in
    let imports = c.put_imports-at.ensures in
    let variables = c.put_variables-at.ensures in
    omega (arith, header.ends, header_width t, imports.ends, imports_width t t.q, variables.ends, variables_width t t.v)

pub put_field-end-requires : goal.put_field-end-requires
put_field-end-requires c =
    let t = c.args.t in
    let header = c.put_header-at.ensures in
    let imports = c.put_imports-at.ensures in
    let variables = c.put_variables-at.ensures in
    let entries = c.put_entries-at.ensures in
    omega (
      arith,
      header.ends,
      header_width t,
      imports.ends,
      imports_width t t.q,
      variables.ends,
      variables_width t t.v,
      entries.ends,
      entries_wide t t.n,
    )

pub returns : goal.returns
unfolding table_parts
returns c = search (puts_padded, puts_more)
