-- Laws of judged operands: what is lent of a table judges as the table does, and an entry's three operands judged in order give its fault.
use Rattle.std.specs.Prelude.{Bool, true, false, List, [], ◌∷◌, ◌++◌, ◌≡◌, ℕ, ◌+◌, ◌<◌, eqb, ltb, set, length, Ok, Err}
use Rattle.std.proofs.Math.Path.{refl, sym, ap}
use Rattle.std.proofs.Common.{◌∙◌, arith, get_or-set_same, ltb-true}
use Rattle.std.proofs.Math.ListN.{get_or}
use Rattle.std.proofs.Math.Seq.{get_or-set_other}
use borrow.Author.Count.{below_more}
use Rattle.refusals.specs.declared.Refusal.{Refusal}
use Rattle.refusals.specs.Answers.{Answer}
use Rattle.refusals.specs.Numbering.{unless, and_then}
use Rattle.table.specs.declared.Sort.{Sort}
use Rattle.table.specs.declared.Entry.{Entry}
use Rattle.table.specs.declared.Table.{Table}
use Rattle.table.specs.Kinds.{entry, imported, variable, constant, operands_of, sort_of, sort_number}
use Rattle.table.specs.Kinds as kinds
use Rattle.table.specs.Tables.{entry_at, is_event, import_sort}
use Rattle.table.specs.Faults.{operand_fault, operands_fault}
use Rattle.kinds.specs.declared.Operand.{Operand}
use Rattle.kinds.specs.declared.Apart.{Apart}
use Rattle.kinds.specs.Apart.{apart_of, first_of, named_by, sort_of_kind}
use Rattle.kinds.specs.Laws.{operands_apart, sort_of_kind_lem}
use Rattle.sound.specs.Judged.{placed, judged_by, apart_judged}

-- the sorts of the entries before k, as numbers
abbrev pub Sorts : Table → ℕ → List ℕ → Type 0
Sorts t k sorts = (a : ℕ) → a < k → get_or sorts a 0 ≡ sort_number (sort_of (entry_at t a))

-- the fault of entry k
abbrev pub entry_fault : Table → ℕ → Answer
entry_fault t k = operands_fault t k (operands_of (entry_at t k))

then_accepted : (a : Answer) → and_then a (Ok tt) ≡ a
then_accepted (Ok _) = refl
then_accepted (Err r) = refl

then_then : (a b c : Answer) → and_then (and_then a b) c ≡ and_then a (and_then b c)
then_then (Ok _) b c = refl
then_then (Err r) b c = refl

-- the sort is looked at only where the operand is there
placed_same : (there : Bool) (m n : ℕ) (s : Sort) → (there ≡ true → m ≡ n) → placed there m s ≡ placed there n s
placed_same true m n s same = ap (λ (j : ℕ). unless (eqb j (sort_number s)) Refusal.Sort) (same refl)
placed_same false m n s same = refl

-- the faults of two lists of operands, one after the other
pub operands_append : (t : Table) (k : ℕ) (os ps : List kinds.Operand) → operands_fault t k (os ++ ps) ≡ and_then (operands_fault t k os) (operands_fault t k ps)
unfolding operands_fault
operands_append t k [] ps = refl
operands_append t k (o ∷ os) ps =
    ap (and_then (operand_fault t k o)) (operands_append t k os ps) ∙ sym (then_then (operand_fault t k o) (operands_fault t k os) (operands_fault t k ps))

module _ (t : Table) (k : ℕ) (sorts : List ℕ) (sorted : Sorts t k sorts) where
  -- what is lent of a table judges an operand as the table does
  pub judged_by_lem : (o : kinds.Operand) → judged_by sorts t.events t.q t.v k (first_of (o ∷ [])) ≡ operand_fault t k o
  unfolding judged_by operand_fault import_sort is_event
  judged_by_lem (entry s a) =
      placed_same (ltb a k) (get_or sorts a 0) (sort_number (sort_of (entry_at t a))) s (λ there. sorted a (ltb-true a k there))
  judged_by_lem (imported s i) = refl
  judged_by_lem (variable x) = refl
  judged_by_lem (constant z) = refl

  -- and nothing is no fault
  pub judged_named : (o : Operand) → judged_by sorts t.events t.q t.v k o ≡ operands_fault t k (named_by o)
  unfolding judged_by operands_fault
  judged_named Operand.Nothing = refl
  judged_named (Operand.Entry s a) = judged_by_lem (entry s a) ∙ sym (then_accepted (operand_fault t k (entry s a)))
  judged_named (Operand.Imported s i) = judged_by_lem (imported s i) ∙ sym (then_accepted (operand_fault t k (imported s i)))
  judged_named (Operand.Variable x) = judged_by_lem (variable x) ∙ sym (then_accepted (operand_fault t k (variable x)))
  judged_named (Operand.Constant z) = judged_by_lem (constant z) ∙ sym (then_accepted (operand_fault t k (constant z)))

  -- an entry's three operands judged in order give its fault
  pub judged_apart : (e : Entry) → apart_judged sorts t.events t.q t.v k (apart_of e) ≡ operands_fault t k (operands_of e)
  judged_apart e =
      rw (judged_named (apart_of e).first, judged_named (apart_of e).second, judged_named (apart_of e).third)
      (sym
      (ap (operands_fault t k) (sym (operands_apart e))
      ∙ operands_append t k (named_by (apart_of e).first) (named_by (apart_of e).second ++ named_by (apart_of e).third)
      ∙ ap (and_then (operands_fault t k (named_by (apart_of e).first))) (operands_append t k (named_by (apart_of e).second) (named_by (apart_of e).third))))

  module _ {parts : Apart} (is : parts ≡ apart_of (entry_at t k)) where
    -- entry k, taken apart and judged
    pub entry_judged : {a : Answer} → a ≡ apart_judged sorts t.events t.q t.v k parts → entry_fault t k ≡ a
    entry_judged said = sym (said ∙ ap (apart_judged sorts t.events t.q t.v k) is ∙ judged_apart (entry_at t k))

    -- and its sort kept
    pub sorts_more : {s : ℕ} → s ≡ sort_of_kind parts.kind → k < length sorts → Sorts t (k + 1) (set sorts k s)
    unfolding apart_of
    sorts_more {s} said room =
        below_more (λ a. get_or (set sorts k s) a 0 ≡ sort_number (sort_of (entry_at t a))) k
        (λ a l. get_or-set_other sorts k a s 0 (λ e. omega arith) ∙ sorted a l)
        (get_or-set_same sorts k s 0 room ∙ said ∙ ap (λ (p : Apart). sort_of_kind p.kind) is ∙ sort_of_kind_lem (entry_at t k))
