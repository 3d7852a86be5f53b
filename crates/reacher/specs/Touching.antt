-- The imports that marked entries name, and the clock, looked for entry by entry.
use Rattle.std.specs.Prelude.{Bool, false, ◌&&◌, List, [], ◌≡◌, refl, ℕ, ◌+◌, ◌<◌, ◌≤◌, length, get_or, set, replicate}
use Rattle.std.proofs.Math.Bool.{true, ◌||◌, or-true, or-false}
use Rattle.std.proofs.Math.Path.{sym, ap, ap₂}
use Rattle.std.proofs.Common.{◌∙◌, add-one, arith, eq-eqb, ne_eqb, length-set, get_or-set_same, get_or-set_other}
use Rattle.std.proofs.Math.Decide.{ℕ_discrete, dec_lt}
use Rattle.std.proofs.Math.Dec.{eqb}
use Rattle.std.proofs.Math.ListN.{get_or-eq_default}
use Rattle.bits.specs.Filled.{get_d_padded}
use Rattle.table.specs.declared.Table.{Table}
use Rattle.table.specs.Limits.{limits}
use Rattle.table.specs.Kinds.{operands_of}
use Rattle.table.specs.Below.{some_below}
use Rattle.table.specs.Tables.{entry_at}
use Rattle.table.specs.Sound.{Sound}
use Rattle.kinds.specs.declared.Apart.{Apart}
use Rattle.kinds.specs.Apart.{apart_of}
use Rattle.reacher.specs.declared.touched.Touched.{Touched}
use Rattle.reach.specs.Reaching.{names_import, reads_clock, reaches_import, reaches_clock}
use Rattle.reach.specs.Spreading.{set_of}
use Rattle.reach.proofs.Shown.{no_import}
use Rattle.reacher.specs.Named.{import_named, import_first}

-- what marked entries touch: "It reaches an import exactly if kind 0, 9 or 20 in the set names it, and the clock exactly if the set holds kind 19 or 21."
pub record Touches (t : Table) (marks : List Bool) (r : Touched) : Type 0 where
  pub slots : length r.imports ≡ limits.imports
  pub imports : (i : ℕ) → get_or r.imports i false ≡ reaches_import t (set_of marks) i
  pub clock : r.clock ≡ reaches_clock t (set_of marks)

-- entry j is marked and names import i
abbrev pub named_at : Table → List Bool → ℕ → ℕ → Bool
named_at t marks i j = set_of marks j && names_import (operands_of (entry_at t j)) i

-- entry j is marked and reads the clock
abbrev pub clock_at : Table → List Bool → ℕ → Bool
clock_at t marks j = set_of marks j && reads_clock t (entry_at t j)

-- how far the pass has come: what the entries before k touch
pub record Touching (t : Table) (marks imports : List Bool) (clock : Bool) (k : ℕ) : Type 0 where
  pub within : k ≤ t.n
  pub slots : length imports ≡ limits.imports
  pub names : (i : ℕ) → i < limits.imports → get_or imports i false ≡ some_below k (named_at t marks i)
  pub reads : clock ≡ some_below k (clock_at t marks)

-- one number more
some_more : (k : ℕ) (p : ℕ → Bool) → some_below (k + 1) p ≡ (some_below k p || p k)
unfolding some_below
some_more k p = rw (add-one k)

-- a mark that is set is set, and the others are as they were; past the slots there is none
pub marked_or : (l : List Bool) (i j : ℕ) → j < length l → get_or (set l i true) j false ≡ (get_or l j false || eqb i j)
marked_or l i j slot = elim (ℕ_discrete j i) [
  | yes same ↦ rw (same, eq-eqb i i refl, or-true) (get_or-set_same l i true false (rw same at slot))
  | no other ↦ get_or-set_other l i j true false other ∙ sym (rw (ne_eqb i j (λ e. other (sym e))) (or-false (get_or l j false)))
]

-- no entry is passed yet
pub touching_none : (t : Table) (marks : List Bool) → Touching t marks (replicate limits.imports false) false 0
unfolding some_below
touching_none t marks = record { within = omega arith; slots = refl; names = λ i slot. get_d_padded [] limits.imports i false; reads = refl }

module _ {t : Table} {marks imports : List Bool} {clock : Bool} {k : ℕ} (touching : Touching t marks imports clock k) (below : k < t.n) where
  -- an entry that is not marked
  pub touching_other : get_or marks k false ≡ false → Touching t marks imports clock (k + 1)
  touching_other unset =
      record {
        within = omega arith;
        slots = touching.slots;
        names = λ i slot. touching.names i slot ∙ sym (some_more k (named_at t marks i) ∙ rw unset (or-false _));
        reads = touching.reads ∙ sym (some_more k (clock_at t marks) ∙ rw unset (or-false _));
      }

  -- an entry that is: its import is marked, and whether it reads the clock is noted
  pub touching_marked : {parts : Apart} {named : ℕ} {after : List Bool} {reads noted : Bool} → get_or marks k false ≡ true → parts ≡ apart_of (entry_at t k)
      → named ≡ import_named parts.first → after ≡ set imports named true → reads ≡ (eqb parts.kind 19 || eqb parts.kind 21)
      → noted ≡ (clock || reads) → Touching t marks after noted (k + 1)
  unfolding apart_of reads_clock
  touching_marked {named = named} is apart names marked reads noted =
      record {
        within = omega arith;
        slots = rw marked (length-set imports named true ∙ touching.slots);
        names = λ i slot.
            let here : eqb named i ≡ names_import (operands_of (entry_at t k)) i =
            ap (λ (n : ℕ). eqb n i) (names ∙ ap (λ (p : Apart). import_named p.first) apart) ∙ sym (import_first (operands_of (entry_at t k)) i slot) in
            rw marked
            (marked_or imports named i (omega (arith, touching.slots))
            ∙ ap₂ ◌||◌ (touching.names i slot) here
            ∙ sym (some_more k (named_at t marks i) ∙ rw is));
        reads =
            noted
            ∙ ap₂ ◌||◌ touching.reads (reads ∙ ap (λ (p : Apart). eqb p.kind 19 || eqb p.kind 21) apart)
            ∙ sym (some_more k (clock_at t marks) ∙ rw is);
      }

-- all entries are passed
pub touching_all : {t : Table} {marks imports : List Bool} {clock : Bool} {k : ℕ} → Sound t → Touching t marks imports clock k → t.n ≤ k
    → Touches t marks (record { imports = imports; clock = clock })
unfolding reaches_import reaches_clock
touching_all {t} {marks} {imports} {clock} {k} sound touching past =
    let all : k ≡ t.n = omega (arith, touching.within) in
    record {
      slots = touching.slots;
      imports = λ i.
          elim (dec_lt i limits.imports) [
            | yes slot ↦ touching.names i slot ∙ ap (λ (n : ℕ). some_below n (named_at t marks i)) all
            | no none ↦ get_or-eq_default imports false (omega (arith, touching.slots))
                ∙ sym (no_import t sound (set_of marks) i (omega (arith, sound.within.imports)))
          ];
      clock = touching.reads ∙ ap (λ (n : ℕ). some_below n (clock_at t marks)) all;
    }
