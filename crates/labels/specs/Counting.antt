-- How the count of labels goes on from one entry to the next, and that it stops at the slots.
use Rattle.std.specs.Prelude.{Bool, true, false, cond, List, ◌≡◌, refl, ℕ, zero, suc, ◌+◌, ◌-◌, ◌<◌, ◌≤◌, length, get_or, take, min, count_by}
use Rattle.std.proofs.Common.{sym, ◌∙◌, ap, add-zero, add-suc, add-one, arith}
use Rattle.std.proofs.Math.Logic.{by_cases}
use Rattle.std.proofs.Math.Decide.{dec_le}
use Rattle.std.proofs.lemmas.List.Sums.{count_by_more_yes, count_by_more_no}
use Rattle.std.proofs.Math.ListN.{get_or-eq_default}
use Rattle.table.specs.declared.Entry.{Entry}
use Rattle.table.specs.declared.Table.{Table}
use Rattle.table.specs.Limits.{limits}
use Rattle.table.specs.Kinds.{kind_of, labelled}
use Rattle.table.specs.Tables.{entry_at, labels_before}

-- one entry more
pub labels_more : (t : Table) (k : ℕ) → labels_before t (k + 1) ≡ labels_before t k + cond (labelled (entry_at t k)) 1 0
unfolding labels_before
labels_more t k = rw (add-one k) refl

-- past the slots there is the first kind, which has no label
past_slots : (t : Table) (k : ℕ) → length t.entries ≤ k → labelled (entry_at t k) ≡ labelled (Entry.ImportedCondition 0)
unfolding entry_at
past_slots t k h =
    ap labelled (get_or-eq_default t.entries (Entry.ImportedCondition 0) h)

-- so from there on the count stays
labels_past : (t : Table) (m more : ℕ) → length t.entries ≤ m → labels_before t (m + more) ≡ labels_before t m
unfolding labels_before labelled kind_of
labels_past t m zero h = ap (labels_before t) (add-zero m)
labels_past t m (suc more) h = rw (add-suc m more, past_slots t (m + more) (omega arith), labels_past t m more h) (add-zero (labels_before t m))

pub labels_all : (t : Table) (m k : ℕ) → length t.entries ≤ m → m ≤ k → labels_before t m ≡ labels_before t k
labels_all t m k h late = sym (labels_past t m (k - m) h) ∙ ap (labels_before t) {x = m + (k - m)} {y = k} (omega arith)

-- one slot more
count_more : (slots : List Entry) (k : ℕ) (d : Entry) → k < length slots → count_by labelled (take (k + 1) slots) ≡ count_by labelled (take k slots) + cond (labelled (get_or slots k d)) 1 0
count_more slots k d room = by (labelled (get_or slots k d)) refl
  where
    by : (b : Bool) → labelled (get_or slots k d) ≡ b → count_by labelled (take (k + 1) slots) ≡ count_by labelled (take k slots) + cond (labelled (get_or slots k d)) 1 0
    by true e = rw e (count_by_more_yes labelled slots k d room e)
    by false e = rw (e, add-zero) (count_by_more_no labelled slots k d room e)

module _ (t : Table) where
  -- the slots before k hold their labels
  labels_below : (k : ℕ) → k ≤ length t.entries → count_by labelled (take k t.entries) ≡ labels_before t k
  unfolding labels_before entry_at
  labels_below zero room = refl
  labels_below (suc k) room =
      ap (λ (n : ℕ). count_by labelled (take n t.entries)) (sym (add-one k))
      ∙ count_more t.entries k (Entry.ImportedCondition 0) (omega arith)
      ∙ ap (λ (n : ℕ). n + cond (labelled (entry_at t k)) 1 0) (labels_below k (omega arith))

  -- and where k is past the slots, all of them do
  pub labels_counted : (k : ℕ) → length t.entries ≡ limits.slots → count_by labelled (take (min k limits.slots) t.entries) ≡ labels_before t k
  labels_counted k slots =
      by_cases (dec_le k limits.slots)
      (λ few. let some : min k limits.slots ≡ k = omega arith in rw some (labels_below k (omega arith)))
      (λ many. let all : min k limits.slots ≡ limits.slots = omega arith in rw all (labels_below limits.slots (omega arith) ∙ labels_all t limits.slots k (omega arith) (omega arith)))
