-- An entry read by what is lent of a table is the entry that the script's reader reads.
use Rattle.std.specs.Prelude.{Bool, true, false, not, List, ◌≡◌, ℕ, ◌+◌, ◌%◌, ◌^◌, ◌<◌, ◌≤◌, T, eqb, ltb, ℤ, pos, length, get_or, Ok, Err, Some, None, Option}
use Rattle.std.proofs.Math.Path.{refl, ap}
use Rattle.std.proofs.Common.{◌∙◌, ap₂, subst, mod-eq_of_lt, arith, ltb-true, le-ltb, eqb-true}
use Rattle.refusals.specs.declared.Refusal.{Refusal}
use Rattle.refusals.specs.Answers.{Answer}
use Rattle.refusals.specs.Numbering.{unless}
use Rattle.bits.specs.Bits.{field_at}
use Rattle.bits.specs.Fields.{there_lt}
use Rattle.bits.specs.Twos.{signed}
use Rattle.bits.specs.Reading.{Got, got, refused, onward, judged, taken, field}
use Rattle.table.specs.declared.Sort.{Sort}
use Rattle.table.specs.declared.Entry.{Entry}
use Rattle.table.specs.declared.Entry.TheVariants.{ImportedCondition, Defined, Pair, Not, Or, And, Implies, Less, Equal, ImportedEvent, Start, End, Both, Either, When, Constant, Variable, Sum, Difference, Clock, Value, Time, Update, Alarm, Property}
use Rattle.table.specs.declared.Table.{Table}
use Rattle.table.specs.Kinds.{entry, imported, variable, kind_of, operands_of}
use Rattle.table.specs.Kinds as table
use Rattle.table.specs.Limits.{limits}
use Rattle.table.specs.Below.{none_below, none_there}
use Rattle.table.specs.Faults.{operand_fault}
use Rattle.script.specs.Operands.{width_of, constant_field}
use Rattle.script.specs.Reader.{operand, bare, one, two, three, kinds}
use Rattle.script.specs.Reader as reader
use Rattle.kinds.specs.declared.Operand.{Operand}
use Rattle.kinds.specs.declared.Apart.{Apart}
use Rattle.kinds.specs.Apart.{apart_of, made_of}
use Rattle.sound.specs.Laws.{Sorts, judged_by_lem}
use Rattle.entries.specs.Entering.{operand_by, operands_by, entry_by, entered_of, entered}

-- a value that is kept was accepted, and is the one that was read
kept : (answer : Answer) (v end a next : ℕ) → judged answer v end ≡ got a next → (v ≡ a) × (answer ≡ Ok tt)
kept (Ok _) v end a next e = (cc, refl)
kept (Err r) v end a next e = let z : ◌≡◌ {A = ℕ} 0 1 = cc in absurd (omega arith)

-- what is taken of a field was there, and was accepted
taken_there : (cut : Refusal) (judge : ℕ → Answer) (end : ℕ) (f : Option ℕ) (a next : ℕ) → taken cut judge end f ≡ got a next
    → (f ≡ Some a) × (judge a ≡ Ok tt)
taken_there cut judge end None a next e = let z : ◌≡◌ {A = ℕ} 0 1 = cc in absurd (omega arith)
taken_there cut judge end (Some v) a next e =
    let told = kept (judge v) v end a next e in (ap Some told.0, subst (λ (n : ℕ). judge n ≡ Ok tt) told.0 told.1)

-- a number that was read is below 2^w
pub read_lt : (cut : Refusal) (w : ℕ) (judge : ℕ → Answer) (s : List ℕ) (at a next : ℕ) → field cut w judge s at ≡ got a next → a < 2 ^ w
read_lt cut w judge s at a next e = there_lt s at w a (taken_there cut judge (at + w) (field_at s at w) a next e).0

-- and was accepted
pub read_accepted : (cut : Refusal) (w : ℕ) (judge : ℕ → Answer) (s : List ℕ) (at a next : ℕ) → field cut w judge s at ≡ got a next → judge a ≡ Ok tt
read_accepted cut w judge s at a next e = (taken_there cut judge (at + w) (field_at s at w) a next e).1

-- two judges that agree on what was there lead on alike
taken_same : (cut : Refusal) (judge other : ℕ → Answer) (end : ℕ) (f : Option ℕ) → ((v : ℕ) → f ≡ Some v → judge v ≡ other v)
    → taken cut judge end f ≡ taken cut other end f
taken_same cut judge other end None same = refl
taken_same cut judge other end (Some v) same = ap (λ (x : Answer). judged x v end) (same v refl)

-- two judges that agree on numbers below 2^w give the same reading
pub field_same : (cut : Refusal) (w : ℕ) (judge other : ℕ → Answer) (s : List ℕ) (at : ℕ) → ((v : ℕ) → v < 2 ^ w → judge v ≡ other v)
    → field cut w judge s at ≡ field cut w other s at
field_same cut w judge other s at same = taken_same cut judge other (at + w) (field_at s at w) (λ v there. same v (there_lt s at w v there))

-- two ways onward that agree on what was read are the same
pub onward_same : {A B : Type 0} (m : Got A) (f g : A → ℕ → Got B) → ((a : A) (next : ℕ) → m ≡ got a next → f a next ≡ g a next) → onward m f ≡ onward m g
onward_same (got a next) f g same = same a next refl
onward_same (refused r) f g same = refl

-- a test that is not refuted holds
not_refuted : (b : Bool) → (T (not b) → ⊥) → b ≡ true
not_refuted true no_way = refl
not_refuted false no_way = absurd (no_way tt)

-- a test that was passed holds
passed_holds : (b : Bool) (r : Refusal) → unless b r ≡ Ok tt → b ≡ true
passed_holds true r e = refl
passed_holds false r e = let z : ◌≡◌ {A = ℕ} 0 1 = cc in absurd (omega arith)

-- a kind and its operands
abbrev places : ℕ → Operand → Operand → Operand → Apart
places kind o p r = record { kind = kind; first = o; second = p; third = r }

-- the entry that is made of a kind is of that kind
kind_of_made : (kind : ℕ) → kind < 25 → kind_of (made_of kind 0 0 0 (pos 0)) ≡ kind
unfolding none_below kind_of made_of
kind_of_made kind h =
    eqb-true (kind_of (made_of kind 0 0 0 (pos 0))) kind
    (not_refuted (eqb (kind_of (made_of kind 0 0 0 (pos 0))) kind) (none_there 25 (λ i. not (eqb (kind_of (made_of i 0 0 0 (pos 0))) i)) tt kind h))

module _ (t : Table) (sorts : List ℕ) (k : ℕ) (lent : Sorts t k sorts) where
  -- an operand's place, read and judged by what is lent as it is by the table
  abbrev Alike : Operand → (ℕ → table.Operand) → Type 0
  Alike o named = (s : List ℕ) (at : ℕ) → operand_by sorts t.events t.q t.v k o s at ≡ operand t k named s at

  alike_entry : (so : Sort) (a : ℕ) → Alike (Operand.Entry so a) (entry so)
  unfolding operand_by operand
  alike_entry so a s at = field_same Refusal.Cut 7 _ _ s at (λ v h. rw (mod-eq_of_lt {n = v} {m = 65536} (omega arith)) (judged_by_lem t k sorts lent (entry so v)))

  alike_import : (so : Sort) (i : ℕ) → Alike (Operand.Imported so i) (imported so)
  unfolding operand_by operand
  alike_import so i s at = field_same Refusal.Cut 6 _ _ s at (λ v h. rw (mod-eq_of_lt {n = v} {m = 65536} (omega arith)) (judged_by_lem t k sorts lent (imported so v)))

  alike_variable : (x : ℕ) → Alike (Operand.Variable x) variable
  unfolding operand_by operand
  alike_variable x s at = field_same Refusal.Cut 5 _ _ s at (λ v h. rw (mod-eq_of_lt {n = v} {m = 65536} (omega arith)) (judged_by_lem t k sorts lent (variable v)))

  alike_constant : (z : ℤ) → Alike (Operand.Constant z) constant_field
  unfolding operand_by operand
  alike_constant z s at = field_same Refusal.Cut 48 _ _ s at (λ v h. judged_by_lem t k sorts lent (constant_field v))

  -- what follows an operand needs to agree only on numbers that its field holds
  onward_operand : {A : Type 0} (o : Operand) (named : ℕ → table.Operand) → Alike o named → (s : List ℕ) (at : ℕ) (f g : ℕ → ℕ → Got A)
      → ((a next : ℕ) → a < 2 ^ width_of (named 0) → f a next ≡ g a next)
      → onward (operand_by sorts t.events t.q t.v k o s at) f ≡ onward (operand t k named s at) g
  unfolding operand
  onward_operand {A} o named alike s at f g same =
      ap (λ (m : Got ℕ). onward m f) (alike s at)
      ∙ onward_same (operand t k named s at) f g (λ a next e. same a next (read_lt Refusal.Cut (width_of (named 0)) (λ v. operand_fault t k (named v)) s at a next e))

  -- an operand whose number fits 16 bits
  record Narrow (o : Operand) (named : ℕ → table.Operand) : Type 0 where
    alike : Alike o named
    small : (a : ℕ) → a < 2 ^ width_of (named 0) → a % 65536 ≡ a

  of_sort : (so : Sort) (a : ℕ) → Narrow (Operand.Entry so a) (entry so)
  of_sort so a = record { alike = alike_entry so a; small = λ v h. mod-eq_of_lt (omega arith) }

  an_import : (so : Sort) (i : ℕ) → Narrow (Operand.Imported so i) (imported so)
  an_import so i = record { alike = alike_import so i; small = λ v h. mod-eq_of_lt (omega arith) }

  a_variable : (x : ℕ) → Narrow (Operand.Variable x) variable
  a_variable x = record { alike = alike_variable x; small = λ v h. mod-eq_of_lt (omega arith) }

  -- a kind with one operand
  with_one : (kind : ℕ) {o : Operand} {named : ℕ → table.Operand} (make : ℕ → Entry) → Narrow o named → ((a : ℕ) (z : ℤ) → made_of kind a 0 0 z ≡ make a)
      → (s : List ℕ) (at : ℕ) → operands_by sorts t.events t.q t.v k kind (places kind o Operand.Nothing Operand.Nothing) s at ≡ one t k named make s at
  unfolding operands_by operand_by
  with_one kind {o} {named} make first made s at =
      onward_operand o named first.alike s at _ _
      (λ a next h. ap (λ (e : Entry). got e next) (ap (λ (n : ℕ). made_of kind n 0 0 (signed a)) (first.small a h) ∙ made a (signed a)))

  -- with two
  with_two : (kind : ℕ) {o p : Operand} {named other : ℕ → table.Operand} (make : ℕ → ℕ → Entry) → Narrow o named → Narrow p other
      → ((a b : ℕ) (z : ℤ) → made_of kind a b 0 z ≡ make a b)
      → (s : List ℕ) (at : ℕ) → operands_by sorts t.events t.q t.v k kind (places kind o p Operand.Nothing) s at ≡ two t k named other make s at
  unfolding operands_by operand_by
  with_two kind {o} {p} {named} {other} make first second made s at =
      onward_operand o named first.alike s at _ _
      (λ a next h. onward_operand p other second.alike s next _ _
      (λ b next i. ap (λ (e : Entry). got e next)
      (ap₂ (λ (n m : ℕ). made_of kind n m 0 (signed a)) (first.small a h) (second.small b i) ∙ made a b (signed a))))

  -- with three
  with_three : (kind : ℕ) {o p r : Operand} {named other last : ℕ → table.Operand} (make : ℕ → ℕ → ℕ → Entry) → Narrow o named → Narrow p other → Narrow r last
      → ((a b c : ℕ) (z : ℤ) → made_of kind a b c z ≡ make a b c)
      → (s : List ℕ) (at : ℕ) → operands_by sorts t.events t.q t.v k kind (places kind o p r) s at ≡ three t k named other last make s at
  unfolding operands_by
  with_three kind {o} {p} {r} {named} {other} {last} make first second third made s at =
      onward_operand o named first.alike s at _ _
      (λ a next h. onward_operand p other second.alike s next _ _
      (λ b next i. onward_operand r last third.alike s next _ _
      (λ c next j. ap (λ (e : Entry). got e next)
      (ap₂ (λ (n m : ℕ). made_of kind n m (c % 65536) (signed a)) (first.small a h) (second.small b i)
      ∙ ap (λ (l : ℕ). made_of kind a b l (signed a)) (third.small c j) ∙ made a b c (signed a)))))

  -- each kind's operands, and the entry that they make
  each_kind : (e : Entry) (s : List ℕ) (at : ℕ)
      → operands_by sorts t.events t.q t.v k (kind_of e) (apart_of e) s at ≡ get_or (kinds t k) (kind_of e) (bare Entry.Clock) s at
  unfolding kinds kind_of apart_of operands_of made_of operands_by operand_by
  each_kind (ImportedCondition i) = with_one 0 Entry.ImportedCondition (an_import Sort.Condition i) (λ a z. refl)
  each_kind (Defined a) = with_one 1 Entry.Defined (of_sort Sort.Condition a) (λ a z. refl)
  each_kind (Pair a b) = with_two 2 Entry.Pair (of_sort Sort.Event a) (of_sort Sort.Event b) (λ a b z. refl)
  each_kind (Not a) = with_one 3 Entry.Not (of_sort Sort.Condition a) (λ a z. refl)
  each_kind (Or a b) = with_two 4 Entry.Or (of_sort Sort.Condition a) (of_sort Sort.Condition b) (λ a b z. refl)
  each_kind (And a b) = with_two 5 Entry.And (of_sort Sort.Condition a) (of_sort Sort.Condition b) (λ a b z. refl)
  each_kind (Implies a b) = with_two 6 Entry.Implies (of_sort Sort.Condition a) (of_sort Sort.Condition b) (λ a b z. refl)
  each_kind (Less a b) = with_two 7 Entry.Less (of_sort Sort.Number a) (of_sort Sort.Number b) (λ a b z. refl)
  each_kind (Equal a b) = with_two 8 Entry.Equal (of_sort Sort.Number a) (of_sort Sort.Number b) (λ a b z. refl)
  each_kind (ImportedEvent i) = with_one 9 Entry.ImportedEvent (an_import Sort.Event i) (λ a z. refl)
  each_kind (Start a) = with_one 10 Entry.Start (of_sort Sort.Condition a) (λ a z. refl)
  each_kind (End a) = with_one 11 Entry.End (of_sort Sort.Condition a) (λ a z. refl)
  each_kind (Both a b) = with_two 12 Entry.Both (of_sort Sort.Event a) (of_sort Sort.Event b) (λ a b z. refl)
  each_kind (Either a b) = with_two 13 Entry.Either (of_sort Sort.Event a) (of_sort Sort.Event b) (λ a b z. refl)
  each_kind (When a b) = with_two 14 Entry.When (of_sort Sort.Event a) (of_sort Sort.Condition b) (λ a b z. refl)
  each_kind (Constant z) = λ s at. ap (λ (m : Got ℕ). onward m (λ a next. got (Entry.Constant (signed a)) next)) (alike_constant z s at)
  each_kind (Variable x) = with_one 16 Entry.Variable (a_variable x) (λ a z. refl)
  each_kind (Sum a b) = with_two 17 Entry.Sum (of_sort Sort.Number a) (of_sort Sort.Number b) (λ a b z. refl)
  each_kind (Difference a b) = with_two 18 Entry.Difference (of_sort Sort.Number a) (of_sort Sort.Number b) (λ a b z. refl)
  each_kind Clock = λ s at. refl
  each_kind (Value i) = with_one 20 Entry.Value (an_import Sort.Event i) (λ a z. refl)
  each_kind (Time a) = with_one 21 Entry.Time (of_sort Sort.Event a) (λ a z. refl)
  each_kind (Update a x b) = with_three 22 Entry.Update (of_sort Sort.Event a) (a_variable x) (of_sort Sort.Number b) (λ a b c z. refl)
  each_kind (Alarm a) = with_one 23 Entry.Alarm (of_sort Sort.Event a) (λ a z. refl)
  each_kind (Property a) = with_one 24 Entry.Property (of_sort Sort.Condition a) (λ a z. refl)

  by_kind : (kind : ℕ) → kind < 25 → (s : List ℕ) (at : ℕ)
      → operands_by sorts t.events t.q t.v k kind (apart_of (made_of kind 0 0 0 (pos 0))) s at ≡ get_or (kinds t k) kind (bare Entry.Clock) s at
  by_kind kind h s at =
      subst (λ (n : ℕ). operands_by sorts t.events t.q t.v k n (apart_of (made_of kind 0 0 0 (pos 0))) s at ≡ get_or (kinds t k) n (bare Entry.Clock) s at)
      (kind_of_made kind h) (each_kind (made_of kind 0 0 0 (pos 0)) s at)

-- an entry read by what is lent of a table is the entry that the script's reader reads
pub entry_by_lem : (t : Table) (sorts : List ℕ) (k : ℕ) (s : List ℕ) (at : ℕ) → Sorts t k sorts → entry_by sorts t.events t.q t.v k s at ≡ reader.entry t k s at
unfolding entry_by reader.entry
entry_by_lem t sorts k s at lent =
    onward_same (field Refusal.Cut 5 (λ kind. unless (ltb kind 25) Refusal.Kind) s at) _ _
    (λ kind next e. by_kind t sorts k lent kind
    (ltb-true kind 25 (passed_holds (ltb kind 25) Refusal.Kind (read_accepted Refusal.Cut 5 (λ kind. unless (ltb kind 25) Refusal.Kind) s at kind next e))) s next)

-- and so is what is handed back, of a script that isn't too long
pub entered_by : (t : Table) (sorts : List ℕ) (k : ℕ) (s : List ℕ) (at : ℕ) → Sorts t k sorts → length s ≤ limits.script
    → entered sorts t.events t.q t.v k s at ≡ entered_of (reader.entry t k s at)
unfolding entered
entered_by t sorts k s at lent short = rw (le-ltb limits.script (length s) short) (ap entered_of (entry_by_lem t sorts k s at lent))
