-- The updates of each variable, linked from the last to the first: a link is one more than an update's entry, and 0 where there is none.
use Rattle.std.specs.Prelude.{Bool, List, [], ◌≡◌, eqb, length, get_or, set, replicate}
use Rattle.std.proofs.Math.Bool.{true, false, cond}
use Rattle.std.proofs.Math.Path.{refl}
use Rattle.std.proofs.Common.{sym, ap, ◌∙◌, not-suc-le-zero, add-one, eq-eqb, ne_eqb, eqb→eq, length-set, get_or-set_same, get_or-set_other}
use Prim.Native.Nat.{ℕ, zero, suc, ◌+◌, ◌<◌, ◌≤◌}
use Rattle.std.proofs.Math.Decide.{ℕ_discrete, dec_lt}
use native.Mathlib.Omega.{arith}
use Rattle.std.proofs.Math.Dec.{T}
use Rattle.std.proofs.Math.ListN.{get_or-eq_default}
use Rattle.std.proofs.Math.Seq.{set_out}
use Rattle.bits.specs.Filled.{get_d_padded}
use Rattle.table.specs.declared.Table.{Table}
use Rattle.table.specs.Limits.{limits}
use Rattle.table.specs.Tables.{entry_at}
use Rattle.kinds.specs.declared.Apart.{Apart}
use Rattle.kinds.specs.Apart.{apart_of}
use Rattle.reacher.specs.declared.updates.Updates.{Updates}
use Rattle.reacher.specs.Named.{variable_named}
use Rattle.reacher.specs.Leading.{updates, update_named}

-- the link to the last update of variable x before entry k
unfoldable pub last_update : Table → ℕ → ℕ → ℕ
last_update t x zero = 0
last_update t x (suc k) = cond (updates t x k) (suc k) (last_update t x k)

-- a link to an update of variable x
pub record Link (t : Table) (x l : ℕ) : Type 0 where
  pub is : (j : ℕ) → l ≡ suc j → T (updates t x j)

-- every link leads to an earlier entry
pub record Falls (before : List ℕ) : Type 0 where
  pub lower : (j : ℕ) → get_or before j 0 ≤ j

-- each update is linked to the last one before it of the same variable
pub record Linked (t : Table) (before : List ℕ) : Type 0 where
  pub falls : Falls before
  pub earlier : (x j : ℕ) → x < limits.variables → j < t.n → T (updates t x j) → get_or before j 0 ≡ last_update t x j

-- the links of a table
pub record Links (t : Table) (u : Updates) : Type 0 where
  pub slots : length u.last ≡ limits.variables
  pub last : (x : ℕ) → x < limits.variables → get_or u.last x 0 ≡ last_update t x t.n
  pub before : Linked t u.before

-- a link to x that is replaced: what it was, and what it is then; past the slots there is none
pub record Replaced (last : List ℕ) (x link : ℕ) (after : List ℕ) (r : ℕ) : Type 0 where
  pub was : r ≡ get_or last x 0
  pub set : after ≡ set last x link

module _ (t : Table) (x : ℕ) where
  -- where entry k is one, it is the last
  last_here : (k : ℕ) → updates t x k ≡ true → last_update t x (suc k) ≡ suc k
  unfolding last_update
  last_here k is = rw is

  -- and else the last before it
  last_other : (k : ℕ) → updates t x k ≡ false → last_update t x (suc k) ≡ last_update t x k
  unfolding last_update
  last_other k other = rw other

  -- it stands before
  pub last_le : (k : ℕ) → last_update t x k ≤ k
  unfolding last_update
  last_le zero = omega arith
  last_le (suc k) = let rest = last_le k in elim (updates t x k) as (λ b. cond b (suc k) (last_update t x k) ≤ suc k) [ true ↦ omega arith | false ↦ omega arith ]

  -- it is an update
  pub last_is : (k : ℕ) → Link t x (last_update t x k)
  unfolding last_update
  last_is zero = record { is = λ j e. absurd (omega arith) }
  last_is (suc k) = go (updates t x k) refl (last_is k)
    where
      go : (b : Bool) → updates t x k ≡ b → Link t x (last_update t x k) → Link t x (cond b (suc k) (last_update t x k))
      go true here rest = record { is = λ j e. let same : j ≡ k = omega arith in rw (same, here) tt }
      go false here rest = rest

  -- and between it and k there is none
  pub last_after : (k o : ℕ) → o < k → T (updates t x o) → o < last_update t x k
  unfolding last_update
  last_after zero o h is = absurd (not-suc-le-zero h)
  last_after (suc k) o h is = go (updates t x k) refl (last_after k o)
    where
      go : (b : Bool) → updates t x k ≡ b → (o < k → T (updates t x o) → o < last_update t x k) → o < cond b (suc k) (last_update t x k)
      go true here rest = h
      go false here rest = elim (ℕ_discrete o k) [
        | yes e ↦ absurd (rw (e, here) at is)
        | no e ↦ rest (omega arith) is
      ]

-- past the slots there is no link
pub replaced_none : (last : List ℕ) (x link : ℕ) → length last ≡ limits.variables → limits.variables ≤ x → Replaced last x link last 0
replaced_none last x link slots past =
    record { was = sym (get_or-eq_default last 0 (omega (arith, slots))); set = sym (set_out last x link (omega (arith, slots))) }

-- how far the pass has come: the updates before entry k are linked
pub record Linking (t : Table) (last before : List ℕ) (k : ℕ) : Type 0 where
  pub within : k ≤ t.n
  pub slots : (length last ≡ limits.variables) × (length before ≡ limits.slots)
  pub lasts : (x : ℕ) → x < limits.variables → get_or last x 0 ≡ last_update t x k
  pub falls : Falls before
  pub earlier : (x j : ℕ) → x < limits.variables → j < k → T (updates t x j) → get_or before j 0 ≡ last_update t x j

-- no entry is passed yet
pub linking_none : (t : Table) → Linking t (replicate limits.variables 0) (replicate limits.slots 0) 0
unfolding last_update
linking_none t =
    record {
      within = omega arith;
      slots = (refl, refl);
      lasts = λ x slot. get_d_padded [] limits.variables x 0;
      falls = record { lower = λ j. omega (arith, get_d_padded {A = ℕ} [] limits.slots j 0) };
      earlier = λ x j slot h is. absurd (not-suc-le-zero h);
    }

module _ {t : Table} {last before : List ℕ} {k : ℕ} (linking : Linking t last before k) (few : t.n ≤ limits.slots) (below : k < t.n) where
  -- a link to an earlier entry, or none
  link_falls : (x : ℕ) → get_or last x 0 ≤ k
  link_falls x = elim (dec_lt x limits.variables) [
    | yes slot ↦ omega (arith, linking.lasts x slot, last_le t x k)
    | no past ↦ omega (arith, get_or-eq_default last 0 {n = x} (omega (arith, linking.slots.0)))
  ]

  -- entry k is passed: where it is an update, it is the last of its variable
  pub linking_more : {parts : Apart} {y link : ℕ} {after : List ℕ} → parts ≡ apart_of (entry_at t k) → y ≡ variable_named parts.second
      → Replaced last y (k + 1) after link → Linking t after (set before k link) (k + 1)
  linking_more {y = y} {link = link} apart named replaced =
      record {
        within = omega arith;
        slots = (rw replaced.set (length-set last y (k + 1) ∙ linking.slots.0), length-set before k link ∙ linking.slots.1);
        lasts = λ x slot. rw (replaced.set, add-one k) (lasts x slot);
        falls = record {
          lower = λ j. elim (ℕ_discrete j k) [
            | yes e ↦ rw e (omega (arith, here, link_falls y, replaced.was))
            | no e ↦ rw (get_or-set_other before k j link 0 e) (linking.falls.lower j)
          ];
        };
        earlier = λ x j slot h is. elim (ℕ_discrete j k) [
          | yes e ↦ rw e (here ∙ replaced.was ∙ ap (λ (v : ℕ). get_or last v 0) (sym (mine x slot (rw e at is))) ∙ linking.lasts x slot)
          | no e ↦ get_or-set_other before k j link 0 e ∙ linking.earlier x j slot (omega arith) is
        ];
      }
    where
      here : get_or (set before k link) k 0 ≡ link
      here = get_or-set_same before k link 0 (omega (arith, linking.slots.1))

      tested : (x : ℕ) → x < limits.variables → updates t x k ≡ eqb y x
      tested x slot = update_named t k x slot ∙ ap (λ (p : Apart). eqb (variable_named p.second) x) (sym apart) ∙ ap (λ (v : ℕ). eqb v x) (sym named)

      mine : (x : ℕ) → x < limits.variables → T (updates t x k) → x ≡ y
      mine x slot is = sym (eqb→eq y x (rw (tested x slot) at is))

      lasts : (x : ℕ) → x < limits.variables → get_or (set last y (suc k)) x 0 ≡ last_update t x (suc k)
      lasts x slot = elim (ℕ_discrete x y) [
        | yes e ↦ rw e (get_or-set_same last y (suc k) 0 (omega (arith, linking.slots.0)) ∙ sym (last_here t y k (tested y (rw e at slot) ∙ eq-eqb y y refl)))
        | no e ↦ get_or-set_other last y x (suc k) 0 e ∙ linking.lasts x slot ∙ sym (last_other t x k (tested x slot ∙ ne_eqb y x (λ same. e (sym same))))
      ]

-- all entries are passed
pub linking_all : {t : Table} {last before : List ℕ} {k : ℕ} → Linking t last before k → t.n ≤ k → Links t (record { last = last; before = before })
linking_all {t} {last} {before} {k} linking past =
    let all : k ≡ t.n = omega (arith, linking.within) in
    record {
      slots = linking.slots.0;
      last = λ x slot. linking.lasts x slot ∙ ap (last_update t x) all;
      before = record { falls = linking.falls; earlier = λ x j slot h is. linking.earlier x j slot (omega arith) is };
    }
