-- One pass over a script gives what the definitions give, each read by itself.
use Rattle.std.specs.Prelude.{Bool, cond, ◌&&◌, List, ◌≡◌, ℕ, zero, suc, ◌+◌, ◌-◌, ◌*◌, ◌/◌, ◌<◌, ◌≤◌, ltb, length, Ok, Err}
use Rattle.std.proofs.Math.Bool.{true, false}
use Rattle.std.proofs.Math.Path.{refl, ap}
use Rattle.std.proofs.Common.{sym, ◌∙◌, add-zero, add-suc, arith}
use borrow.Author.Tests.{le-ltb, lt-ltb, ltb-true}
use Rattle.replies.specs.Plain.{both_true}
use Rattle.refusals.specs.declared.Refusal.{Refusal}
use Rattle.bits.specs.Reading.{Got, got, refused, onward, onward_onward}
use Rattle.table.specs.declared.Table.{Table}
use Rattle.table.specs.Limits.{limits}
use Rattle.table.specs.Kinds.{labelled}
use Rattle.table.specs.Tables.{entry_at, labels_before}
use Rattle.script.specs.declared.Span.{Span}
use Rattle.script.specs.declared.Label.{Label}
use Rattle.script.specs.Labels.{label, labels}
use Rattle.script.specs.Reader.{packed_table, whole_script, script_of, read_script, no_label, label_reply, label_span, label_of}
use Rattle.labels.specs.Counting.{labels_more}
use Rattle.labels.specs.Among.{span_of, among_reply, labels_to_end, label_after, label_among}
use Rattle.bits.specs.Bits.{padding_at}
use Rattle.bits.specs.Holding.{width_of_all}
use Rattle.bits.specs.Fields.{there_ends}
use Rattle.script.specs.Writer.{table_parts}
use Rattle.roundtrip.proofs.ReadTable.{table_read}
use Rattle.reader.specs.declared.Scan.{Scan}
use Rattle.reader.specs.Scans.{block_span, scan_of, refused_scan, shown}

-- a script that the definition refuses is refused
pub scan_refused : (s : List ℕ) (k : ℕ) (r : Refusal) → script_of s ≡ refused r → scan_of s k ≡ refused_scan r
unfolding scan_of read_script block_span label_of
scan_refused s k r e = rw e

-- "Number 1 comes before all reading"
pub scan_long : (s : List ℕ) (k : ℕ) → limits.script < length s → scan_of s k ≡ refused_scan Refusal.TooLong
unfolding script_of
scan_long s k h = scan_refused s k Refusal.TooLong (rw (lt-ltb limits.script (length s) h))

-- the table's refusal
pub scan_no_table : (s : List ℕ) (k : ℕ) (r : Refusal) → length s ≤ limits.script → packed_table s 0 ≡ refused r → scan_of s k ≡ refused_scan r
unfolding script_of whole_script
scan_no_table s k r h e = scan_refused s k r (rw (le-ltb limits.script (length s) h, e))

-- more entries, more labels
labels_rise : (t : Table) (k more : ℕ) → labels_before t k ≤ labels_before t (k + more)
unfolding labels_before
labels_rise t k zero = rw (add-zero k) (omega arith)
labels_rise t k (suc more) = rw (add-suc k more) (omega (arith, labels_rise t k more))

-- an entry with a label has one of all the labels
pub label_counts : (t : Table) (k n : ℕ) → k < n → labelled (entry_at t k) ≡ true → labels_before t k < labels_before t n
label_counts t k n h named =
    let more : labels_before t (k + 1) ≡ labels_before t k + 1 = rw (labels_more t k, named) in
    let all : k + 1 + (n - (k + 1)) ≡ n = omega arith in
    omega (arith, rw all at (labels_rise t (k + 1) (n - (k + 1))))

-- a label that was read
abbrev read_label : Got Span → Label
read_label m = record { answer = Ok tt; span = span_of m }

-- where reading went on after a label, the label was there
one_there : (m : Got Span) (f : Span → ℕ → Got ℕ) (n end : ℕ) → onward m f ≡ got n end → label_reply m ≡ read_label m
one_there (got span next) f n end e = refl
one_there (refused r) f n end e = let z : ◌≡◌ {A = ℕ} 0 1 = cc in absurd (omega arith)

-- and so was any label after it that was there
later_there : (s : List ℕ) (w c n end : ℕ) (m : Got Span)
    → ((at : ℕ) → labels c s at ≡ got n end → label_reply (label_after w s at) ≡ read_label (label_after w s at))
    → onward m (λ span next. labels c s next) ≡ got n end
    → label_reply (onward m (λ span next. label_after w s next)) ≡ read_label (onward m (λ span next. label_after w s next))
later_there s w c n end (got span next) all e = all next e
later_there s w c n end (refused r) all e = let z : ◌≡◌ {A = ℕ} 0 1 = cc in absurd (omega arith)

-- where all labels are read, each one is
label_there : (s : List ℕ) (n end wanted count at : ℕ) → wanted < count → labels count s at ≡ got n end
    → label_reply (label_after wanted s at) ≡ read_label (label_after wanted s at)
unfolding labels label_after
label_there s n end wanted zero at h e = absurd (omega arith)
label_there s n end zero (suc count) at h e = one_there (label s at) (λ span next. labels count s next) n end e
label_there s n end (suc wanted) (suc count) at h e =
    rw (onward_onward (label s at) (λ span next. labels wanted s next) (λ a next. label s next))
    (later_there s wanted count n end (label s at) (λ from. label_there s n end wanted count from (omega arith)) e)

-- the labels before the end were read
labels_read : (s : List ℕ) (m : Got ℕ) (f : ℕ → ℕ → Got ℕ) (n end : ℕ) → onward m f ≡ got n end → (c : ℕ) × (next : ℕ) × (m ≡ got c next)
labels_read s (got c next) f n end e = (c, next, refl)
labels_read s (refused r) f n end e = let z : ◌≡◌ {A = ℕ} 0 1 = cc in absurd (omega arith)

-- what all the labels answer
among_refused : (among : Bool) (one : Got Span) (m : Got ℕ) (r : Refusal) (t : Table) → (among_reply among one m).answer ≡ Err r
    → onward m (λ c end. got t end) ≡ refused r
among_refused among one (got c end) r t e = let z : ◌≡◌ {A = ℕ} 0 1 = cc in absurd (omega arith)
among_refused among one (refused q) r t e = cc

among_read : (among : Bool) (one : Got Span) (m : Got ℕ) → (among_reply among one m).answer ≡ Ok tt → (c : ℕ) × (end : ℕ) × (m ≡ got c end)
among_read among one (got c end) e = (c, end, refl)
among_read among one (refused q) e = let z : ◌≡◌ {A = ℕ} 0 1 = cc in absurd (omega arith)

module _ (s : List ℕ) (t : Table) (at : ℕ) (room : length s ≤ limits.script) (there : packed_table s 0 ≡ got t at) where
  -- a script that is accepted, with a label
  abbrev pub whole_scan : Label → Scan
  whole_scan l = record { answer = Ok tt; table = t; block = record { from = at / 8; size = length s - at / 8 }; label = l }

  -- the whole script, from its labels on
  script_rest : script_of s ≡ onward (labels_to_end (labels_before t t.n) s at) (λ c end. got t end)
  unfolding script_of whole_script labels_to_end
  script_rest = rw (le-ltb limits.script (length s) room, there) (sym (onward_onward (labels (labels_before t t.n) s at) _ _))

  -- the labels' refusal
  pub scan_no_labels : (k count wanted : ℕ) (l : Label) (r : Refusal) → count ≡ labels_before t t.n → l ≡ label_among count wanted s at
      → l.answer ≡ Err r → scan_of s k ≡ refused_scan r
  unfolding label_among
  scan_no_labels k count wanted l r all read e =
      scan_refused s k r
      (script_rest
      ∙ ap (λ (n : ℕ). onward (labels_to_end n s at) (λ c end. got t end)) (sym all)
      ∙ among_refused (ltb wanted count) (label_after wanted s at) (labels_to_end count s at) r t (ap (λ (x : Label). x.answer) (sym read) ∙ e))

  -- what is read of a script that is accepted
  scan_read : (k end : ℕ) → script_of s ≡ got t end → scan_of s k ≡ whole_scan (cond (ltb k t.n && labelled (entry_at t k)) (label_reply (label_after (labels_before t k) s at)) (no_label Refusal.NoEntry))
  unfolding scan_of read_script block_span label_of label_span label_after
  scan_read k end whole = rw (whole, there)

  -- the label that was wanted is the one that was found among all
  label_found : (k count wanted c end : ℕ) (named : Bool) → count ≡ labels_before t t.n → wanted ≡ labels_before t k
      → named ≡ (ltb k t.n && labelled (entry_at t k)) → labels_to_end count s at ≡ got c end
      → cond named (label_reply (label_after (labels_before t k) s at)) (no_label Refusal.NoEntry) ≡ shown named (label_among count wanted s at).span
  unfolding label_among labels_to_end
  label_found k count wanted c end false all one unnamed e = refl
  label_found k count wanted c end true all one named e =
      let both = both_true (ltb k t.n) (labelled (entry_at t k)) (sym named) in
      let early = ltb-true k t.n both.0 in
      let counts : wanted < count = omega (arith, label_counts t k t.n early both.1, all, one) in
      let read = labels_read s (labels count s at) _ c end e in
      ap (λ (n : ℕ). label_reply (label_after n s at)) (sym one)
      ∙ label_there s read.0 read.1 wanted count at counts read.2
      ∙ rw (e, lt-ltb wanted count counts) refl

  -- all of it
  pub scan_whole : (k count wanted : ℕ) (l : Label) → count ≡ labels_before t t.n → wanted ≡ labels_before t k
      → l ≡ label_among count wanted s at → l.answer ≡ Ok tt
      → scan_of s k ≡ whole_scan (shown (ltb k t.n && labelled (entry_at t k)) l.span)
  unfolding label_among
  scan_whole k count wanted l all one read e =
      let ends = among_read (ltb wanted count) (label_after wanted s at) (labels_to_end count s at) (ap (λ (x : Label). x.answer) (sym read) ∙ e) in
      scan_read k ends.1
      (script_rest ∙ ap (λ (n : ℕ). onward (labels_to_end n s at) (λ c end. got t end)) (sym all) ∙ ap (λ (m : Got ℕ). onward m (λ c end. got t end)) ends.2)
      ∙ ap whole_scan
      (label_found k count wanted ends.0 ends.1 (ltb k t.n && labelled (entry_at t k)) all one refl ends.2
      ∙ ap (λ (x : Label). shown (ltb k t.n && labelled (entry_at t k)) x.span) (sym read))

-- the labels begin at a whole byte, within the bytes
pub block_begins : (s : List ℕ) (t : Table) (at : ℕ) → packed_table s 0 ≡ got t at → (8 * (at / 8) ≡ at) × (at ≤ 8 * length s)
block_begins s t at there =
    let read = (table_read s).told t at there in
    let w = width_of_all (table_parts t) in
    (omega (arith, read.ends), omega (arith, read.ends, there_ends s w (padding_at w) 0 read.padded))

-- a table that was read has no more entries than there are slots
pub table_within : (s : List ℕ) (t : Table) (at : ℕ) → packed_table s 0 ≡ got t at → t.n ≤ limits.entries
table_within s t at there = ((table_read s).told t at there).within.entries
