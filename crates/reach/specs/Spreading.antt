-- A reach worked out: from the entry alone, as many times as there are entries, all that the set leads to.
use Rattle.std.specs.Prelude.{Bool, false, ◌&&◌, ◌||◌, List, ℕ, zero, suc, eqb, get_or, Ok, Err}
use Rattle.refusals.specs.Answers.{Answer}
use Rattle.bits.specs.Bits.{list_to}
use Rattle.table.specs.declared.Table.{Table}
use Rattle.table.specs.Limits.{limits}
use Rattle.table.specs.Below.{some_below}
use Rattle.table.specs.Faults.{the_faults}
use Rattle.reach.specs.declared.Reach.{Reach}
use Rattle.reach.specs.Reaching.{Entries, is_operand, is_read, leads_to, names_import, reads_clock, reaches_import, reaches_clock, reach_fault, no_marks}

-- the set of the marked entries
abbrev pub set_of : List Bool → Entries
set_of marks j = get_or marks j false

-- the entry alone, of n entries
abbrev pub alone : ℕ → ℕ → List Bool
alone n k = list_to n (λ j. eqb j k)

-- a set with all that its entries lead to
unfoldable pub spread : (ℕ → ℕ → Bool) → ℕ → List Bool → List Bool
spread leads n marks = list_to n (λ o. set_of marks o || some_below n (λ j. set_of marks j && leads j o))

-- so many times over
unfoldable pub spread_to : (ℕ → ℕ → Bool) → ℕ → ℕ → List Bool → List Bool
spread_to leads n zero marks = marks
spread_to leads n (suc times) marks = spread leads n (spread_to leads n times marks)

-- the entries that entry k reaches: "the least set", as `reached_least` shows
unfoldable pub reached_from : Table → ℕ → List Bool
reached_from t k = spread_to (leads_to t) t.n t.n (alone t.n k)

-- "A reach shows all three: its entries, its imports and whether it has the clock."
unfoldable pub marks_of : Table → ℕ → Reach
marks_of t k =
    let set = set_of (reached_from t k) in
    record { answer = Ok tt; entries = list_to limits.slots set; imports = list_to limits.imports (reaches_import t set); clock = reaches_clock t set }

-- the marks, or "no marks"
abbrev pub reach_reply : Table → ℕ → Answer → Reach
reach_reply t k (Ok _) = marks_of t k
reach_reply t k (Err r) = no_marks r

-- the reach of an entry of any table
unfoldable pub reach_of : Table → ℕ → Reach
reach_of t k = reach_reply t k (reach_fault t k)

-- names all that a reach is computed with: an example says `unfolding the_reach`
unfoldable pub the_reach : Unit {0}
unfolding the_faults list_to some_below is_operand is_read leads_to names_import reads_clock reaches_import reaches_clock reach_fault spread spread_to reached_from marks_of reach_of
the_reach = tt
