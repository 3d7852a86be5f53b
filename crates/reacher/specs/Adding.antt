-- The entries found so far, in the order in which they were found, and what adding to them does.
use Rattle.std.specs.Prelude.{Bool, true, false, ◌⊎◌, ◌≡◌, refl, ℕ, ◌+◌, ◌<◌, ◌≤◌, T, length, get_or, set}
use mathlib.Core.List.Memᴰ
use mathlib.Core.List.{List, [], ◌∷◌, ◌++◌, Memᴰ}
use Rattle.std.proofs.Common.{inl, inr, ⊎_elim, sym, ◌∙◌, arith, length-set, get_or-set_same, get_or-set_other}
use Rattle.std.proofs.Math.Decide.{ℕ_discrete}
use Rattle.table.specs.Limits.{limits}
use Rattle.reach.specs.Counting.{count_of, count_le, count_set}

-- which entries are marked, the order in which they were found, and how many there are
pub record Found : Type 0 where
  pub marks : List Bool
  pub order : List ℕ
  pub count : ℕ

-- the same, from its parts
abbrev pub found : List Bool → List ℕ → ℕ → Found
found marks order count = record { marks = marks; order = order; count = count }

-- entry o is marked
abbrev pub marked : Found → ℕ → Bool
marked f o = get_or f.marks o false

-- the entry at place p of the order
abbrev pub place_of : Found → ℕ → ℕ
place_of f p = get_or f.order p 0

-- there is a slot for each entry, and as many are counted as are marked
pub record Room (f : Found) : Type 0 where
  pub marks : length f.marks ≡ limits.slots
  pub order : length f.order ≡ limits.slots
  pub counted : f.count ≡ count_of f.marks

-- one entry more
abbrev pub next : Found → ℕ → Found
next f j = record { marks = set f.marks j true; order = set f.order f.count j; count = f.count + 1 }

-- each of some entries is marked and put last, unless it was marked; past the slots there is no entry
pub data Adds : Found → List ℕ → Found → Type 0 where
  nothing : {f : Found} → Adds f [] f
  old : {f g : Found} {j : ℕ} {js : List ℕ} → (j < limits.slots → T (marked f j)) → Adds f js g → Adds f (j ∷ js) g
  new : {f g : Found} {j : ℕ} {js : List ℕ} → j < limits.slots → marked f j ≡ false → Adds (next f j) js g → Adds f (j ∷ js) g

module _ {f : Found} (j : ℕ) where
  -- an entry that was not marked
  pub adds_new : j < limits.slots → marked f j ≡ false → Adds f (j ∷ []) (next f j)
  adds_new slot unset = new slot unset nothing

  -- one that was
  pub adds_old : marked f j ≡ true → Adds f (j ∷ []) f
  adds_old is = old {f = f} {j = j} (λ slot. rw is tt) nothing

  -- past the slots
  pub adds_none : limits.slots ≤ j → Adds f (j ∷ []) f
  adds_none past = old {j = j} (λ slot. absurd (omega arith)) nothing

-- some entries, then others
pub adds_joined : {f g h : Found} {js ks : List ℕ} → Adds f js g → Adds g ks h → Adds f (js ++ ks) h
adds_joined nothing then = then
adds_joined (old there more) then = old there (adds_joined more then)
adds_joined (new slot unset more) then = new slot unset (adds_joined more then)

-- three entries, one after another
pub adds_three : {f g h i : Found} {a b c x y z : ℕ} → x ≡ a → Adds f (x ∷ []) g → y ≡ b → Adds g (y ∷ []) h → z ≡ c → Adds h (z ∷ []) i → Adds f (a ∷ b ∷ c ∷ []) i
adds_three one first two second three third = rw (← one, ← two, ← three) (adds_joined first (adds_joined second third))

-- no more are found than there are slots
pub room_count : {f : Found} → Room f → f.count ≤ limits.slots
room_count {f} room = omega (arith, room.marks, room.counted, count_le f.marks)

module _ {f : Found} {j : ℕ} (room : Room f) (slot : j < limits.slots) (unset : marked f j ≡ false) where
  -- an entry that is not marked has a place
  pub room_left : f.count < limits.slots
  room_left =
      let more = count_set f.marks j (omega (arith, room.marks)) unset in
      omega (arith, room.marks, room.counted, more, count_le (set f.marks j true), length-set f.marks j true)

  -- one entry more leaves room
  next_room : Room (next f j)
  next_room =
      record {
        marks = length-set f.marks j true ∙ room.marks;
        order = length-set f.order f.count j ∙ room.order;
        counted = omega (arith, room.counted, count_set f.marks j (omega (arith, room.marks)) unset);
      }

-- room is kept
pub adds_room : {f g : Found} {js : List ℕ} → Adds f js g → Room f → Room g
adds_room nothing room = room
adds_room (old there more) room = adds_room more room
adds_room (new slot unset more) room = adds_room more (next_room room slot unset)

-- what was found stays where it was
pub record Grows (f g : Found) : Type 0 where
  pub more : f.count ≤ g.count
  pub places : (p : ℕ) → p < f.count → place_of g p ≡ place_of f p
  pub kept : (o : ℕ) → T (marked f o) → T (marked g o)

-- the places below the count hold the marked entries, all below n
pub record Listed (n : ℕ) (f : Found) : Type 0 where
  pub room : Room f
  pub below : (p : ℕ) → p < f.count → place_of f p < n
  pub there : (p : ℕ) → p < f.count → T (marked f (place_of f p))
  pub placed : (o : ℕ) → T (marked f o) → (p : ℕ) × (p < f.count) × (place_of f p ≡ o)

module _ {f : Found} {j : ℕ} (room : Room f) (slot : j < limits.slots) (unset : marked f j ≡ false) where
  -- it is marked
  next_marked : T (marked (next f j) j)
  next_marked = rw (get_or-set_same f.marks j true false (omega (arith, room.marks))) tt

  -- and nothing else that was not
  next_only : (o : ℕ) → T (marked (next f j) o) → T (marked f o) ⊎ (o ≡ j)
  next_only o is = elim (ℕ_discrete o j) [
    | yes same ↦ inr same
    | no other ↦ inl (rw (get_or-set_other f.marks j o true false other) at is)
  ]

  -- it stands last
  next_last : place_of (next f j) f.count ≡ j
  next_last = get_or-set_same f.order f.count j 0 (omega (arith, room.order, room_left room slot unset))

  -- what was found before it stays
  next_grows : Grows f (next f j)
  next_grows =
      record {
        more = omega arith;
        places = λ p h. get_or-set_other f.order f.count p j 0 (λ e. omega arith);
        kept = λ o is. elim (ℕ_discrete o j) [
          | yes same ↦ rw same next_marked
          | no other ↦ rw (get_or-set_other f.marks j o true false other) is
        ];
      }

  -- and the places hold the marked entries as before
  next_listed : {n : ℕ} → Listed n f → j < n → Listed n (next f j)
  next_listed {n} listed below =
      record {
        room = next_room room slot unset;
        below = λ p h. by_place p h (λ q. q < n) (listed.below p) below;
        there = λ p h. by_place p h (λ q. T (marked (next f j) q)) (λ l. next_grows.kept (place_of f p) (listed.there p l)) next_marked;
        placed = λ o is.
            ⊎_elim
            (λ was. let at = listed.placed o was in (at.0, omega arith, next_grows.places at.0 at.1 ∙ at.2))
            (λ same. (f.count, omega arith, next_last ∙ sym same))
            (next_only o is);
      }
    where
      by_place : (p : ℕ) → p < f.count + 1 → (P : ℕ → Type 0) → (p < f.count → P (place_of f p)) → P j → P (place_of (next f j) p)
      by_place p h P earlier last = elim (ℕ_discrete p f.count) [
        | yes e ↦ rw (e, next_last) last
        | no e ↦ let l : p < f.count = omega arith in rw (next_grows.places p l) (earlier l)
      ]

-- adding leaves what was found
pub adds_grows : {f g : Found} {js : List ℕ} → Adds f js g → Room f → Grows f g
adds_grows nothing room = record { more = omega arith; places = λ p h. refl; kept = λ o is. is }
adds_grows (old there more) room = adds_grows more room
adds_grows (new slot unset more) room =
    let first = next_grows room slot unset in
    let rest = adds_grows more (next_room room slot unset) in
    record {
      more = omega arith;
      places = λ p h. rest.places p (omega arith) ∙ first.places p h;
      kept = λ o is. rest.kept o (first.kept o is);
    }

-- what is added is marked
pub adds_marked : {f g : Found} {js : List ℕ} → Adds f js g → Room f → (o : ℕ) → o < limits.slots → Memᴰ o js → T (marked g o)
adds_marked nothing room o slot among = absurd (Memᴰ.not-nil among)
adds_marked (old {f = f} there more) room o slot among =
    ⊎_elim (λ same. (adds_grows more room).kept o (rw same (there (rw same at slot)))) (adds_marked more room o slot) (Memᴰ.cases_cons among)
adds_marked (new free unset more) room o slot among =
    let onward = next_room room free unset in
    ⊎_elim (λ same. (adds_grows more onward).kept o (rw same (next_marked room free unset))) (adds_marked more onward o slot) (Memᴰ.cases_cons among)

-- and nothing else
pub adds_only : {f g : Found} {js : List ℕ} → Adds f js g → Room f → (o : ℕ) → T (marked g o) → T (marked f o) ⊎ Memᴰ o js
adds_only nothing room o is = inl is
adds_only (old there more) room o is = ⊎_elim inl (λ among. inr (Memᴰ.tail among)) (adds_only more room o is)
adds_only (new slot unset more) room o is =
    ⊎_elim
    (λ soon. ⊎_elim inl (λ same. inr (Memᴰ.head same)) (next_only room slot unset o soon))
    (λ among. inr (Memᴰ.tail among))
    (adds_only more (next_room room slot unset) o is)

-- entries below n are added to entries below n
pub adds_listed : {n : ℕ} {f g : Found} {js : List ℕ} → Adds f js g → Listed n f → ((o : ℕ) → o < limits.slots → Memᴰ o js → o < n) → Listed n g
adds_listed nothing listed below = listed
adds_listed (old there more) listed below = adds_listed more listed (λ o slot among. below o slot (Memᴰ.tail among))
adds_listed (new {j = j} slot unset more) listed below =
    adds_listed more (next_listed listed.room slot unset listed (below j slot (Memᴰ.head refl))) (λ o h among. below o h (Memᴰ.tail among))
