-- The lines of a rule, laid one after another, and those of the rules.
use Rattle.std.specs.Prelude.{Bool, true, false, cond, List, [], ◌∷◌, ◌++◌, map, ◌≡◌, ℕ, ◌+◌}
use Rattle.std.proofs.Common.{append_assoc, sym, ◌∙◌, ap, subst, add-one, eq-eqb, ne_eqb}
use Rattle.table.specs.declared.Entry.{Entry}
use Rattle.table.specs.declared.Table.{Table}
use Rattle.table.specs.Kinds.{labelled}
use Rattle.table.specs.Tables.{entry_at}
use Rattle.script.specs.Reader.{label_of, text_of}
use Rattle.kinds.specs.declared.Apart.{Apart}
use Rattle.kinds.specs.Apart.{apart_of}
use Rattle.reach.specs.declared.Reach.{Reach}
use Rattle.reach.specs.Reaching.{reach_fault, ReachReply}
use Rattle.reach.specs.Spreading.{reach_of}
use Rattle.reach.proofs.Shown.{reply_is}
use Rattle.lines.specs.Text.{decimal, alarm_word, line}
use Rattle.lines.specs.Laying.{Lays, lays_none, lays_then}
use Rattle.inspection.specs.Inspected.{property_word, entries_word, imports_word, clock_word, yes_or_no, marked_from, rule_word, rule_lines, rules_to}

module _ {dst after : List ℕ} {at next : ℕ} {apart : Apart} (k : ℕ) (e : Entry) (label : List ℕ) where
  -- the name of an alarm
  pub lays_alarm : apart ≡ apart_of e → apart.kind ≡ 23 → Lays dst at (line (decimal k ∷ alarm_word ∷ label ∷ [])) after next
      → Lays dst at (line (decimal k ∷ rule_word e ∷ label ∷ [])) after next
  unfolding apart_of
  lays_alarm is kind lays = rw (eq-eqb _ _ (sym (ap (λ (a : Apart). a.kind) is) ∙ kind)) lays

  -- and of any other
  pub lays_property : apart ≡ apart_of e → (apart.kind ≡ 23 → ⊥) → Lays dst at (line (decimal k ∷ property_word ∷ label ∷ [])) after next
      → Lays dst at (line (decimal k ∷ rule_word e ∷ label ∷ [])) after next
  unfolding apart_of
  lays_property is kind lays = rw (ne_eqb _ _ (λ other. kind (ap (λ (a : Apart). a.kind) is ∙ other))) lays

-- the three lines of what a rule reaches
abbrev pub reach_lines : ℕ → Reach → List ℕ
reach_lines k r =
    line (decimal k ∷ entries_word ∷ map decimal (marked_from 0 r.entries))
    ++ line (decimal k ∷ imports_word ∷ map decimal (marked_from 0 r.imports))
    ++ line (decimal k ∷ clock_word ∷ yes_or_no r.clock ∷ [])

-- with its name, all four
pub lays_rule : {dst named after : List ℕ} {at next end : ℕ} {label : List ℕ} (s : List ℕ) (k : ℕ) (e : Entry) (r : Reach) → label ≡ text_of s (label_of s k)
    → Lays dst at (line (decimal k ∷ rule_word e ∷ label ∷ [])) named next → Lays named next (reach_lines k r) after end → Lays dst at (rule_lines s k e r) after end
unfolding rule_lines
lays_rule {dst} {named} {at = at} {next} s k e r is name reached =
    simp append_assoc
    (simp append_assoc at (lays_then (subst (λ (l : List ℕ). Lays dst at (line (decimal k ∷ rule_word e ∷ l ∷ [])) named next) is name) reached))

-- the lines of entry k, if it is an alarm or a property
abbrev pub lines_at : List ℕ → Table → ℕ → List ℕ
lines_at s t k = cond (labelled (entry_at t k)) (rule_lines s k (entry_at t k) (reach_of t k)) []

-- those of an alarm or property, from what the reach answered
pub lays_labelled : {dst after : List ℕ} {at next : ℕ} {is : Bool} (s : List ℕ) (t : Table) (k : ℕ) (r : Reach) → is ≡ labelled (entry_at t k) → is ≡ true
    → ReachReply t k (reach_fault t k) r → Lays dst at (rule_lines s k (entry_at t k) r) after next → Lays dst at (lines_at s t k) after next
lays_labelled {dst} {after} {at} {next} s t k r told holds reply lays =
    rw (sym told ∙ holds) (subst (λ (x : Reach). Lays dst at (rule_lines s k (entry_at t k) x) after next) (reply_is t k r reply) lays)

-- and of any other entry
pub lays_unlabelled : {dst : List ℕ} {at : ℕ} {is : Bool} (s : List ℕ) (t : Table) (k : ℕ) → is ≡ labelled (entry_at t k) → is ≡ false
    → Lays dst at (lines_at s t k) dst at
lays_unlabelled {dst} {at} s t k told fails = rw (sym told ∙ fails) (lays_none dst at)

-- before the first entry nothing is laid
pub lays_no_rules : (dst : List ℕ) (at : ℕ) (s : List ℕ) (t : Table) → Lays dst at (rules_to s t 0) dst at
unfolding rules_to
lays_no_rules dst at s t = lays_none dst at

-- one entry more
pub lays_next_rule : {dst mid after : List ℕ} {at next end : ℕ} (s : List ℕ) (t : Table) (k : ℕ) → Lays dst at (rules_to s t k) mid next
    → Lays mid next (lines_at s t k) after end → Lays dst at (rules_to s t (k + 1)) after end
unfolding rules_to
lays_next_rule s t k some one = rw (add-one k) (lays_then some one)
