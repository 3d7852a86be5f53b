-- The links of a variable followed from its last update to its first: each update of it is passed, and nothing else.
use mathlib.Core.List.Memᴰ
use mathlib.Core.List.{List, [], ◌∷◌, Memᴰ}
use Rattle.std.proofs.Math.Logic.{⊎_elim}
use Rattle.std.specs.Prelude.{◌≡◌, T, get_or}
use Rattle.std.proofs.Math.Path.{refl, ap}
use Rattle.std.proofs.Common.{subst, not-suc-le-zero}
use Prim.Native.Nat.{ℕ, zero, suc, ◌-◌, ◌<◌, ◌≤◌}
use Rattle.std.proofs.Math.Decide.{ℕ_discrete}
use native.Mathlib.Omega.{arith}
use Rattle.table.specs.declared.Table.{Table}
use Rattle.table.specs.Limits.{limits}
use Rattle.reacher.specs.Leading.{updates}
use Rattle.reacher.specs.Adding.{Found, Room, Adds, nothing, adds_joined, adds_room}
use Rattle.reacher.specs.Linking.{Link, Falls, Linked, last_is, last_after}

-- the entries that the links lead through, at most so many
unfoldable pub along : List ℕ → ℕ → ℕ → List ℕ
along before zero l = []
along before (suc most) zero = []
along before (suc most) (suc j) = j ∷ along before most (get_or before j 0)

-- the entries that the links lead through: each stands before the one that led to it
abbrev pub linked_from : List ℕ → ℕ → List ℕ
linked_from before l = along before l l

-- a link leads below itself
pub falls_less : {before : List ℕ} (l : ℕ) → Falls before → 0 < l → get_or before (l - 1) 0 < l
falls_less l falls some = omega (arith, falls.lower (l - 1))

-- from 0 no link leads on
pub linked_none : (before : List ℕ) (l : ℕ) → l ≤ 0 → linked_from before l ≡ []
unfolding along
linked_none before zero none = refl
linked_none before (suc l) none = absurd (not-suc-le-zero none)

module _ {before : List ℕ} (falls : Falls before) where
  -- as many as lead through are enough
  along_enough : (most more l : ℕ) → l ≤ most → l ≤ more → along before most l ≡ along before more l
  unfolding along
  along_enough zero zero l h more = refl
  along_enough zero (suc more) zero h k = refl
  along_enough zero (suc more) (suc j) h k = absurd (not-suc-le-zero h)
  along_enough (suc most) zero zero h k = refl
  along_enough (suc most) zero (suc j) h k = absurd (not-suc-le-zero k)
  along_enough (suc most) (suc more) zero h k = refl
  along_enough (suc most) (suc more) (suc j) h k =
      let lower = falls.lower j in ap (λ (js : List ℕ). j ∷ js) (along_enough most more (get_or before j 0) (omega arith) (omega arith))

  -- an entry, and those that its link leads through
  pub linked_next : (j : ℕ) → linked_from before (suc j) ≡ j ∷ linked_from before (get_or before j 0)
  unfolding along
  linked_next j = ap (λ (js : List ℕ). j ∷ js) (along_enough j (get_or before j 0) (get_or before j 0) (falls.lower j) (omega arith))

module _ {t : Table} {before : List ℕ} (linked : Linked t before) (x : ℕ) (slot : x < limits.variables) where
  -- an update's own link leads to an update
  link_earlier : (j : ℕ) → j < t.n → T (updates t x j) → Link t x (get_or before j 0)
  link_earlier j below is = rw (linked.earlier x j slot below is) (last_is t x j)

  -- links lead through updates only
  pub along_updates : (most l : ℕ) → l ≤ t.n → Link t x l → (o : ℕ) → Memᴰ o (along before most l) → (o < t.n) × T (updates t x o)
  unfolding along
  along_updates zero l few link o among = absurd (Memᴰ.not-nil among)
  along_updates (suc most) zero few link o among = absurd (Memᴰ.not-nil among)
  along_updates (suc most) (suc j) few link o among =
      let lower = linked.falls.lower j in
      let onward = along_updates most (get_or before j 0) (omega arith) (link_earlier j few (link.is j refl)) o in
      ⊎_elim (λ same. (omega arith, rw same (link.is j refl))) onward (Memᴰ.cases_cons among)

  -- and through all of them
  pub updates_along : (most l : ℕ) → l ≤ most → l ≤ t.n → Link t x l → (o : ℕ) → o < l → T (updates t x o) → Memᴰ o (along before most l)
  unfolding along
  updates_along zero l h few link o before is = absurd (omega arith)
  updates_along (suc most) zero h few link o before is = absurd (not-suc-le-zero before)
  updates_along (suc most) (suc j) h few link o earlier is =
      let lower = linked.falls.lower j in
      let mine = link.is j refl in
      let onward = updates_along most (get_or before j 0) (omega arith) (omega arith) (link_earlier j few mine) o in
      elim (ℕ_discrete o j) [
        | yes e ↦ Memᴰ.head e
        | no e ↦ Memᴰ.tail (onward (omega (arith, linked.earlier x j slot few mine, last_after t x j o (omega arith) is)) is)
      ]

-- the links are followed as far as a link: f was there before, and g is found by then
pub record Passing (before : List ℕ) (from : ℕ) (f : Found) (link : ℕ) (g : Found) : Type 0 where
  pub slots : link ≤ limits.slots
  pub room : Room g
  pub onward : (h : Found) → Adds g (linked_from before link) h → Adds f (linked_from before from) h

-- none is followed yet
pub passing_none : (before : List ℕ) (from : ℕ) {f : Found} → from ≤ limits.slots → Room f → Passing before from f from f
passing_none before from slots room = record { slots = slots; room = room; onward = λ h adds. adds }

module _ {before : List ℕ} {from : ℕ} {f : Found} {link : ℕ} {g : Found} (passing : Passing before from f link g) where
  -- one more
  pub passing_more : {h : Found} → Falls before → 0 < link → Adds g ((link - 1) ∷ []) h → Passing before from f (get_or before (link - 1) 0) h
  passing_more falls more adds =
      record {
        slots = omega (arith, passing.slots, falls_less link falls more);
        room = adds_room adds passing.room;
        onward = λ i rest.
            let same : suc (link - 1) ≡ link = omega arith in
            passing.onward i (subst (λ (l : ℕ). Adds g (linked_from before l) i) same (rw (linked_next falls (link - 1)) (adds_joined adds rest)));
      }

  -- all are
  pub passing_all : link ≤ 0 → Adds f (linked_from before from) g
  passing_all none = passing.onward g (rw (linked_none before link none) nothing)
