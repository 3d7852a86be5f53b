-- The entries of a script, as far as they have been read.
use Rattle.std.specs.Prelude.{List, ◌≡◌, length, set, replicate, Ok, Err}
use Rattle.std.proofs.Math.Logic.{⊎_elim}
use Rattle.std.proofs.Math.Path.{refl, sym, ap}
use Rattle.std.proofs.Common.{◌∙◌, ne_of_lt, eq-or-lt_of_le, le_of_suc-le-suc, sub-eq-zero_of_le, add-one, arith, length-set}
use Prim.Native.Nat.{ℕ, suc, ◌+◌, ◌-◌, ◌<◌, ◌≤◌}
use Rattle.std.proofs.lemmas.List.{length-replicate}
use Rattle.std.proofs.Math.Seq.{get_or-set_same, get_or-set_other}
use Rattle.refusals.specs.declared.Refusal.{Refusal}
use Rattle.bits.specs.Reading.{Got, got, refused, onward}
use Rattle.table.specs.declared.Sort.{Sort}
use Rattle.table.specs.declared.Entry.{Entry}
use Rattle.table.specs.declared.Table.{Table}
use Rattle.table.specs.Limits.{limits}
use Rattle.table.specs.Kinds.{sort_number, sort_of}
use Rattle.table.specs.Tables.{entry_at}
use Rattle.script.specs.Reader.{with_entry, entry, entries}
use Rattle.kinds.specs.Apart.{apart_of, sort_of_kind}
use Rattle.kinds.specs.Laws.{sort_of_kind_lem}
use Rattle.sound.specs.Laws.{Sorts}
use Rattle.entries.specs.Entering.{entered_of, entered}
use Rattle.entries.specs.Laws.{entered_by}

-- k entries of t are read from bit `from` up to bit `at`: the table holds them, and their sorts are at hand
pub record Ruled (s : List ℕ) (from : ℕ) (t table : Table) (sorts : List ℕ) (at k : ℕ) : Type 0 where
  pub some : k ≤ t.n
  -- what is left decides
  pub rest : entries (t.n - k) k table s at ≡ entries t.n 0 t s from
  pub counts : (table.q ≡ t.q) × (table.v ≡ t.v)
  pub events : table.events ≡ t.events
  pub slots : length table.entries ≡ limits.slots
  pub room : length sorts ≡ limits.slots
  pub known : Sorts table k sorts

-- no entry yet
pub ruled_start : (s : List ℕ) (from : ℕ) (t : Table) → length t.entries ≡ limits.slots → Ruled s from t t (replicate limits.slots 0) from 0
ruled_start s from t slots =
    record {
      some = omega arith;
      rest = ap (λ (n : ℕ). entries n 0 t s from) {x = t.n - 0} {y = t.n} (omega arith);
      counts = (refl, refl);
      events = refl;
      slots = slots;
      room = length-replicate {A = ℕ} limits.slots 0;
      known = λ a none. absurd (omega arith);
    }

-- what stands past the slots
abbrev unused : Entry
unused = Entry.ImportedCondition 0

-- the answer for an entry, taken apart
entered_refused : (m : Got Entry) (r : Refusal) → entered_of m ≡ Err r → m ≡ refused r
entered_refused (got e next) r h = let z : ◌≡◌ {A = ℕ} 0 1 = cc in absurd (omega arith)
entered_refused (refused q) r h = cc

entered_entry : (m : Got Entry) (e : Entry) (next : ℕ) → entered_of m ≡ Ok (e, next) → m ≡ got e next
entered_entry (got d last) e next h = let same : ◌≡◌ {A = Entry × ℕ} (d, last) (e, next) = cc in ap (λ (p : Entry × ℕ). got p.0 p.1) same
entered_entry (refused q) e next h = let z : ◌≡◌ {A = ℕ} 0 1 = cc in absurd (omega arith)

module _ {s : List ℕ} {from : ℕ} {t table : Table} {sorts : List ℕ} {at k : ℕ} (so_far : Ruled s from t table sorts at k) (more : k < t.n) where
  -- what is left: the next entry, and then the others
  one_left : entries t.n 0 t s from ≡ onward (entry table k s at) (λ e next. entries (t.n - (k + 1)) (k + 1) (with_entry table k e) s next)
  unfolding entries
  one_left =
      sym so_far.rest
      ∙ ap (λ (n : ℕ). entries n k table s at) {x = t.n - k} {y = suc (t.n - (k + 1))} (omega arith)
      ∙ rw (add-one k) refl

  -- the next entry is read by what is at hand
  next_entry : length s ≤ limits.script → entered sorts t.events t.q t.v k s at ≡ entered_of (entry table k s at)
  next_entry short = rw (← so_far.events, ← so_far.counts.0, ← so_far.counts.1) (entered_by table sorts k s at so_far.known short)

  -- an entry that is refused
  pub ruled_refused : length s ≤ limits.script → (r : Refusal) → entered sorts t.events t.q t.v k s at ≡ Err r
      → entries t.n 0 t s from ≡ refused r
  ruled_refused short r e = one_left ∙ rw (entered_refused (entry table k s at) r (sym (next_entry short) ∙ e)) refl

  -- the sorts with one more
  sort_known : (e : Entry) (sort : ℕ) → sort ≡ sort_of_kind (apart_of e).kind → k < limits.slots → Sorts (with_entry table k e) (k + 1) (set sorts k sort)
  unfolding entry_at apart_of
  sort_known e sort is slot a h =
      ⊎_elim
      (λ here.
      rw (here, get_or-set_same sorts k sort 0 (omega (arith, so_far.room)))
      (is
      ∙ sort_of_kind_lem e
      ∙ ap (λ (x : Entry). sort_number (sort_of x)) (sym (get_or-set_same table.entries k e unused (omega (arith, so_far.slots))))))
      (λ before.
      get_or-set_other sorts k a sort 0 (ne_of_lt before)
      ∙ so_far.known a before
      ∙ ap (λ (x : Entry). sort_number (sort_of x)) (sym (get_or-set_other table.entries k a e unused (ne_of_lt before))))
      (eq-or-lt_of_le (le_of_suc-le-suc (rw (add-one k) at h)))

  -- one entry more
  pub ruled_next : length s ≤ limits.script → k < limits.slots → (e : Entry) (next : ℕ) (sort : ℕ)
      → entered sorts t.events t.q t.v k s at ≡ Ok (e, next) → sort ≡ sort_of_kind (apart_of e).kind
      → Ruled s from t (with_entry table k e) (set sorts k sort) next (k + 1)
  ruled_next short slot e next sort read is =
      record {
        some = omega arith;
        rest = sym (one_left ∙ rw (entered_entry (entry table k s at) e next (sym (next_entry short) ∙ read)) refl);
        counts = so_far.counts;
        events = so_far.events;
        slots = length-set table.entries k _ ∙ so_far.slots;
        room = length-set sorts k sort ∙ so_far.room;
        known = sort_known e sort is slot;
      }

-- all entries
pub ruled_done : {s : List ℕ} {from : ℕ} {t table : Table} {sorts : List ℕ} {at k : ℕ} → Ruled s from t table sorts at k → t.n ≤ k
    → entries t.n 0 t s from ≡ got table at
unfolding entries
ruled_done {s} {from} {t} {table} {sorts} {at} {k} so_far all = sym so_far.rest ∙ rw (sub-eq-zero_of_le all) refl
