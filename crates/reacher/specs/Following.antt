-- The entries found so far, followed one after another: what is known of them, and that in the end they are the least set.
use Rattle.std.specs.Prelude.{Bool, true, false, ◌⊎◌, ◌≡◌, refl, ℕ, ◌+◌, ◌<◌, ◌≤◌, T, length, get_or, set, replicate}
use mathlib.Core.List.Memᴰ
use mathlib.Core.List.{List, [], ◌∷◌, Memᴰ}
use Rattle.std.proofs.Common.{inl, inr, ⊎_elim, sym, ap, subst, ◌∙◌, not-suc-le-zero, arith, length-set, get_or-set_same, get_or-set_other}
use Rattle.std.proofs.Math.Decide.{ℕ_discrete, dec_lt}
use Rattle.std.proofs.Math.ListN.{get_or-eq_default}
use Rattle.bits.specs.Filled.{get_d_padded}
use Rattle.table.specs.declared.Table.{Table}
use Rattle.table.specs.Limits.{limits}
use Rattle.table.specs.Kinds.{operands_of}
use Rattle.table.specs.Tables.{entry_at}
use Rattle.table.specs.Sound.{Sound}
use Rattle.kinds.specs.declared.Apart.{Apart}
use Rattle.kinds.specs.Apart.{apart_of}
use Rattle.reacher.specs.declared.updates.Updates.{Updates}
use Rattle.reach.specs.Reaching.{Entries, leads_to, Closed, Least}
use Rattle.reach.specs.Naming.{operand_earlier, read_below}
use Rattle.reach.specs.Counting.{count_of}
use Rattle.reach.specs.Spreading.{set_of}
use Rattle.reacher.specs.Named.{variable_named, entries_named, among_operand}
use Rattle.reacher.specs.Leading.{updates, led_either, leads_named, leads_update}
use Rattle.reacher.specs.Adding.{Found, found, marked, place_of, Room, Adds, Grows, Listed, adds_grows, adds_marked, adds_only, adds_listed}
use Rattle.reacher.specs.Linking.{Link, Linked, Links, Replaced, last_le, last_is, last_after}
use Rattle.reacher.specs.Along.{linked_from, linked_none, along_updates, updates_along}

-- what is found is reached: every closed set that holds the entry holds it
pub record Held (t : Table) (k : ℕ) (f : Found) : Type 0 where
  pub listed : Listed t.n f
  pub start : T (marked f k)
  pub inside : (other : Entries) → T (other k) → Closed (leads_to t) t.n other → (o : ℕ) → T (marked f o) → T (other o)

-- so is what an entry leads to that is found
held_more : {t : Table} {k : ℕ} {f g : Found} {js : List ℕ} → Held t k f → Adds f js g → (j : ℕ) → j < t.n → t.n ≤ limits.slots → T (marked f j)
    → ((o : ℕ) → o < limits.slots → Memᴰ o js → (o < t.n) × T (leads_to t j o)) → Held t k g
held_more {t} {k} {f} {g} held adds j below few there led =
    let room = held.listed.room in
    let listed = adds_listed adds held.listed (λ o slot among. (led o slot among).0) in
    record {
      listed = listed;
      start = (adds_grows adds room).kept k held.start;
      inside = λ other holds closed o is.
          let at = listed.placed o is in
          let low = listed.below at.0 at.1 in
          let slot : o < limits.slots = omega (arith, at.2) in
          ⊎_elim (held.inside other holds closed o)
          (λ among. closed j o below (led o slot among).0 (held.inside other holds closed j there) (led o slot among).1) (adds_only adds room o is);
    }

-- the first entries found are followed: all that they lead to is marked
pub record Following (t : Table) (k : ℕ) (before last : List ℕ) (f : Found) (head : ℕ) : Type 0 where
  pub within : head ≤ f.count
  pub held : Held t k f
  pub slots : length last ≡ limits.variables
  pub done : (p o : ℕ) → p < head → o < t.n → T (leads_to t (place_of f p) o) → T (marked f o)
  -- each link is whole, or it is cut and the updates of its variable are marked
  pub links : (x : ℕ) → x < limits.variables → Link t x (get_or last x 0) × (get_or last x 0 ≤ t.n)
  pub rest : (x o : ℕ) → x < limits.variables → o < t.n → T (updates t x o) → T (marked f o) ⊎ (o < get_or last x 0)

-- nothing is marked in slots that hold none
none_marked : (o : ℕ) → T (get_or (replicate limits.slots false) o false) → ⊥
none_marked o is = subst T (get_d_padded [] limits.slots o false) is

-- no entry is found yet
abbrev pub none_found : Found
none_found = found (replicate limits.slots false) (replicate limits.slots 0) 0

-- there is room for all
pub none_room : Room none_found
unfolding count_of
none_room = record { marks = refl; order = refl; counted = refl }

-- the entry that is asked for is found
pub following_none : {t : Table} {k : ℕ} {u : Updates} {f : Found} → Sound t → k < t.n → Links t u → Adds none_found (k ∷ []) f
    → Following t k u.before u.last f 0
following_none {t} {k} {u} {f} sound below links adds =
    record {
      within = omega arith;
      held = record {
        listed = adds_listed adds none_listed (λ o slot among. subst (λ (j : ℕ). j < t.n) (sym (Memᴰ.eq_of_singleton among)) below);
        start = adds_marked adds none_room k (omega (arith, sound.within.entries)) (Memᴰ.head refl);
        inside = λ other holds closed o is.
            ⊎_elim (λ was. absurd (none_marked o was)) (λ among. subst (λ (j : ℕ). T (other j)) (sym (Memᴰ.eq_of_singleton among)) holds) (adds_only adds none_room o is);
      };
      slots = links.slots;
      done = λ p o h. absurd (not-suc-le-zero h);
      links = λ x slot. rw (links.last x slot) (last_is t x t.n, last_le t x t.n);
      rest = λ x o slot h is. rw (links.last x slot) (inr (last_after t x t.n o h is));
    }
  where
    none_listed : Listed t.n none_found
    none_listed =
        record {
          room = none_room;
          below = λ p h. absurd (not-suc-le-zero h);
          there = λ p h. absurd (not-suc-le-zero h);
          placed = λ o is. absurd (none_marked o is);
        }

module _ {t : Table} {k : ℕ} {before last : List ℕ} {f : Found} {head : ℕ} (sound : Sound t) (following : Following t k before last f head) where
  -- past the slots there is no link
  no_link : (x : ℕ) → limits.variables ≤ x → get_or last x 0 ≡ 0
  no_link x past = get_or-eq_default last 0 (omega (arith, following.slots))

  -- a link leads to an entry that has a slot
  pub link_slot : {y link : ℕ} {after : List ℕ} → Replaced last y 0 after link → link ≤ limits.slots
  link_slot {y} replaced =
      elim (dec_lt y limits.variables) [
        | yes slot ↦ omega (arith, replaced.was, (following.links y slot).1, sound.within.entries)
        | no past ↦ omega (arith, replaced.was, no_link y (omega arith))
      ]

  -- an entry that was found has a slot
  pub found_slot : head < f.count → place_of f head < limits.slots
  found_slot some = omega (arith, following.held.listed.below head some, sound.within.entries)

module _ {t : Table} {k : ℕ} {before last : List ℕ} {f : Found} {head : ℕ} (sound : Sound t) (linked : Linked t before)
    (following : Following t k before last f head) (some : head < f.count) {parts : Apart} {y link : ℕ} {after : List ℕ} {g h : Found}
    (apart : parts ≡ apart_of (entry_at t (place_of f head))) (operands : Adds f (entries_named parts) g) (named : y ≡ variable_named parts.first)
    (replaced : Replaced last y 0 after link) (links : Adds g (linked_from before link) h) where
  -- the entry that is followed
  abbrev followed : ℕ
  followed = place_of f head

  -- it is an entry of the table
  followed_below : followed < t.n
  followed_below = following.held.listed.below head some

  -- and it is marked
  followed_marked : T (marked f followed)
  followed_marked = following.held.listed.there head some

  -- it leads to its operands, which stand earlier
  to_operand : (o : ℕ) → o < limits.slots → Memᴰ o (entries_named parts) → (o < t.n) × T (leads_to t followed o)
  to_operand o slot among =
      let mine = subst (λ (p : Apart). Memᴰ o (entries_named p)) apart among in
      let is = among_operand (entry_at t followed) o slot mine in
      let earlier = operand_earlier t followed (operands_of (entry_at t followed)) (sound.operands followed followed_below) o is in
      (omega (arith, followed_below), leads_named t followed o slot mine)

  -- it reads the variable whose link is cut, if any
  reads : y ≡ variable_named (apart_of (entry_at t followed)).first
  reads = named ∙ ap (λ (p : Apart). variable_named p.first) apart

  -- it leads to the updates that the link leads through
  to_update : (o : ℕ) → Memᴰ o (linked_from before link) → (o < t.n) × T (leads_to t followed o)
  to_update o among =
      elim (dec_lt y limits.variables) [
        | yes slot ↦
            let whole = following.links y slot in
            let mine = subst (λ (l : ℕ). Memᴰ o (linked_from before l)) replaced.was among in
            let is = along_updates linked y slot _ _ whole.1 whole.0 o mine in
            (is.0, leads_update t followed o (rw reads at slot) (rw reads at is.1))
        | no past ↦
            absurd (Memᴰ.not-nil (subst (Memᴰ o) (linked_none before link (omega (arith, replaced.was, no_link sound following y (omega arith)))) among))
      ]

  -- the operands are reached
  held_operands : Held t k g
  held_operands = held_more following.held operands followed followed_below sound.within.entries followed_marked to_operand

  -- what was found stays when they are added
  added : Grows f g
  added = adds_grows operands following.held.listed.room

  -- and when the updates are
  linked_on : Grows g h
  linked_on = adds_grows links held_operands.listed.room

  -- so what was marked is marked in the end
  kept : (o : ℕ) → T (marked f o) → T (marked h o)
  kept o is = linked_on.kept o (added.kept o is)

  -- every update of the variable that it reads is marked
  read_marked : (o : ℕ) → y < limits.variables → o < t.n → T (updates t y o) → T (marked h o)
  read_marked o slot below is =
      let whole = following.links y slot in
      ⊎_elim (kept o) (λ earlier.
      let among = updates_along linked y slot _ _ (omega arith) whole.1 whole.0 o earlier is in
      adds_marked links held_operands.listed.room o (omega (arith, sound.within.entries)) (subst (λ (l : ℕ). Memᴰ o (linked_from before l)) (sym replaced.was) among))
      (following.rest y o slot below is)

  -- all that it leads to is marked
  led_marked : (o : ℕ) → o < t.n → T (leads_to t followed o) → T (marked h o)
  led_marked o below led =
      let slot : o < limits.slots = omega (arith, sound.within.entries) in
      led_either t followed o slot led
      (λ among. linked_on.kept o (adds_marked operands following.held.listed.room o slot (subst (λ (p : Apart). Memᴰ o (entries_named p)) (sym apart) among)))
      (λ read is.
      let small = read_below t followed (operands_of (entry_at t followed)) (sound.operands followed followed_below) _ read in
      read_marked o (omega (arith, reads, sound.within.variables)) below (rw (← reads) at is))

  -- one entry more is followed: its operands are added, and the updates of the variable that it reads, whose link is cut
  pub following_more : Following t k before after h (head + 1)
  following_more =
      record {
        within = omega (arith, added.more, linked_on.more);
        held = held_more held_operands links followed followed_below sound.within.entries (added.kept followed followed_marked) (λ o slot. to_update o);
        slots = rw replaced.set (length-set last y 0 ∙ following.slots);
        done = λ p o passed below led.
            let p-found : p < f.count = omega (arith, some) in
            let same = linked_on.places p (omega (arith, added.more)) ∙ added.places p p-found in
            let mine = subst (λ (i : ℕ). T (leads_to t i o)) same led in
            elim (ℕ_discrete p head) [
              | yes last ↦ led_marked o below (subst (λ (i : ℕ). T (leads_to t (place_of f i) o)) last mine)
              | no before ↦ kept o (following.done p o (omega arith) below mine)
            ];
        links = λ x slot. rw replaced.set (elim (ℕ_discrete x y) [
          | yes cut ↦ subst (λ (l : ℕ). Link t x l × (l ≤ t.n)) (sym (cut_link x slot cut)) (record { is = λ i e. absurd (omega arith) }, omega arith)
          | no whole ↦ rw (get_or-set_other last y x 0 0 whole) (following.links x slot)
        ]);
        rest = λ x o slot below is. elim (ℕ_discrete x y) [
          | yes cut ↦ inl (read_marked o (rw cut at slot) below (rw cut at is))
          | no whole ↦ rw (replaced.set, get_or-set_other last y x 0 0 whole)
              (⊎_elim (λ was. inl (kept o was)) inr (following.rest x o slot below is))
        ];
      }
    where
      cut_link : (x : ℕ) → x < limits.variables → x ≡ y → get_or (set last y 0) x 0 ≡ 0
      cut_link x slot cut = rw cut (get_or-set_same last y 0 0 (omega (arith, following.slots)))

-- the marks of the entries that entry k reaches
pub record Reached (t : Table) (k : ℕ) (marks : List Bool) : Type 0 where
  pub slots : length marks ≡ limits.slots
  pub least : Least (leads_to t) t.n k (set_of marks)
  pub unused : (j : ℕ) → t.n ≤ j → get_or marks j false ≡ false

-- all that were found are followed
pub following_all : {t : Table} {k : ℕ} {before last : List ℕ} {f : Found} {head : ℕ} → Following t k before last f head → f.count ≤ head → Reached t k f.marks
following_all {t} {k} {f = f} following all =
    record {
      slots = following.held.listed.room.marks;
      least = record {
        holds = following.held.start;
        closed = λ j o below h is led.
            let at = following.held.listed.placed j is in
            following.done at.0 o (omega arith) h (subst (λ (i : ℕ). T (leads_to t i o)) (sym at.2) led);
        least = λ other holds closed j below is. following.held.inside other holds closed j is;
      };
      unused = λ j past. go j past (get_or f.marks j false) refl;
    }
  where
    go : (j : ℕ) → t.n ≤ j → (b : Bool) → get_or f.marks j false ≡ b → b ≡ false
    go j past true is =
        let at = following.held.listed.placed j (rw is tt) in
        absurd (omega (arith, following.held.listed.below at.0 at.1))
    go j past false is = refl
