-- All that comes before the labels, one stage after another.
use Rattle.std.specs.Prelude.{List, ◌≡◌, refl, ℕ, ◌*◌, ◌≤◌, length, Ok, Err, Result}
use Rattle.std.proofs.Common.{sym, ◌∙◌, ap, arith}
use Rattle.refusals.specs.declared.Refusal.{Refusal}
use Rattle.bits.specs.Reading.{Got, got, refused, onward, padding}
use Rattle.bits.specs.Packing.{holds_end}
use Rattle.table.specs.declared.Table.{Table}
use Rattle.table.specs.Limits.{limits}
use Rattle.script.specs.Reader.{header, imports, variables, entries, packed_table}
use Rattle.table.specs.Sound.{Within}
use Rattle.roundtrip.proofs.ReadSoFar.{SoFar, first_parts}
use Rattle.roundtrip.proofs.ReadTable.{header_read, imports_read, variables_read, entries_read}
use Rattle.reader.specs.declared.Stage.{Stage}
use Rattle.reader.specs.Stages.{reached}

-- what comes after the entries: "Zero bits up to a whole byte."
abbrev pub after_entries : List ℕ → Table → ℕ → Got Table
after_entries s t at = onward (padding Refusal.Cut Refusal.Padding s at) (λ zeros next. got t next)

-- after the variables: "n entries"
abbrev pub after_variables : List ℕ → Table → Table → ℕ → Got Table
after_variables s counts started at = onward (entries counts.n 0 started s at) (after_entries s)

-- after the imports: "For each variable"
abbrev pub after_imports : List ℕ → Table → Table → ℕ → Got Table
after_imports s counts sorted at = onward (variables counts.v 0 sorted s at) (after_variables s counts)

-- after the header: "q bits, one for each import"
abbrev pub after_header : List ℕ → Table → ℕ → Got Table
after_header s counts at = onward (imports counts.q 0 counts s at) (after_imports s counts)

-- the whole
pub packed_whole : (s : List ℕ) → packed_table s 0 ≡ onward (header s 0) (after_header s)
unfolding packed_table
packed_whole s = refl

-- a stage that was refused, and one that was not
pub stage_refused : {stage : Result Stage Refusal} {m : Got Table} {r : Refusal} → reached stage ≡ m → stage ≡ Err r → m ≡ refused r
stage_refused e is = sym e ∙ ap reached is

pub stage_stops : {stage : Result Stage Refusal} {m : Got Table} {r : Refusal} (f : Table → ℕ → Got Table) → reached stage ≡ m → stage ≡ Err r → onward m f ≡ refused r
stage_stops f e is = ap (λ (x : Got Table). onward x f) (stage_refused e is)

pub stage_goes : {result : Result Stage Refusal} {m : Got Table} {stage : Stage} → reached result ≡ m → result ≡ Ok stage → m ≡ got stage.table stage.at
stage_goes e is = sym e ∙ ap reached is

-- every stage ends within the bytes
within_bytes : {counts t : Table} {s : List ℕ} {i x k at : ℕ} → SoFar counts s i x k t at → at ≤ 8 * length s
within_bytes {counts} {t} {s} {i} {x} {k} {at} so_far =
    let held = holds_end s 0 (first_parts t i x k) (omega arith) so_far.stand.held in
    omega (arith, so_far.stand.ends)

-- what is known after the header, the imports and the variables of a script, and what is left to read
module _ (s : List ℕ) {counts : Table} {at : ℕ} (head : header s 0 ≡ got counts at) where
  within : Within counts
  within = ((header_read s).told counts at head).0

  counts_so_far : SoFar counts s 0 0 0 counts at
  counts_so_far = ((header_read s).told counts at head).1

  pub head_known : (counts.q ≤ limits.imports) × (at ≤ 8 * length s)
  head_known = (within.imports, within_bytes counts_so_far)

  pub head_left : packed_table s 0 ≡ onward (imports counts.q 0 counts s at) (after_imports s counts)
  head_left = packed_whole s ∙ ap (λ (m : Got Table). onward m (after_header s)) head

  module _ {sorted : Table} {next : ℕ} (bits : imports counts.q 0 counts s at ≡ got sorted next) where
    sorted_so_far : SoFar counts s counts.q 0 0 sorted next
    sorted_so_far = (imports_read counts within s counts.q 0 counts at (omega arith) counts_so_far).told sorted next bits

    pub imports_known : (sorted.v ≤ limits.variables) × (next ≤ 8 * length s)
    imports_known = (omega (arith, sorted_so_far.v, within.variables), within_bytes sorted_so_far)

    pub imports_left : packed_table s 0 ≡ onward (variables sorted.v 0 sorted s next) (after_variables s counts)
    imports_left =
        head_left
        ∙ ap (λ (m : Got Table). onward m (after_imports s counts)) bits
        ∙ ap (λ (v : ℕ). onward (variables v 0 sorted s next) (after_variables s counts)) (sym sorted_so_far.v)

    module _ {started : Table} {last : ℕ} (numbers : variables sorted.v 0 sorted s next ≡ got started last) where
      started_so_far : SoFar counts s counts.q counts.v 0 started last
      started_so_far =
          (variables_read counts within s counts.v 0 sorted next (omega arith) sorted_so_far).told started last
          (ap (λ (v : ℕ). variables v 0 sorted s next) (sym sorted_so_far.v) ∙ numbers)

      pub variables_known : (started.n ≤ limits.entries) × ((length started.entries ≡ limits.slots) × (last ≤ 8 * length s))
      variables_known = (omega (arith, started_so_far.n, within.entries), (started_so_far.shaped.entries, within_bytes started_so_far))

      pub variables_left : packed_table s 0 ≡ onward (entries started.n 0 started s last) (after_entries s)
      variables_left =
          imports_left
          ∙ ap (λ (m : Got Table). onward m (after_variables s counts)) numbers
          ∙ ap (λ (n : ℕ). onward (entries n 0 started s last) (after_entries s)) (sym started_so_far.n)

      module _ {t : Table} {end : ℕ} (rules : entries started.n 0 started s last ≡ got t end) where
        pub entries_known : end ≤ 8 * length s
        entries_known =
            within_bytes
            ((entries_read counts within s counts.n 0 started last (omega arith) started_so_far).told t end
            (ap (λ (n : ℕ). entries n 0 started s last) (sym started_so_far.n) ∙ rules))

        pub entries_left : packed_table s 0 ≡ after_entries s t end
        entries_left = variables_left ∙ ap (λ (m : Got Table). onward m (after_entries s)) rules
