-- What a reach shows is one thing only: the worked-out marks.
use Rattle.std.specs.Prelude.{Bool, true, false, ◌&&◌, List, ◌∷◌, ◌≡◌, refl, ℕ, ◌<◌, ◌≤◌, T, ltb, pos, length, get_or, replicate}
use Rattle.std.proofs.Common.{sym, ◌∙◌, ap, subst, arith, ltb-true, ext_get_or, Ok, Err}
use Rattle.std.proofs.Math.Decide.{dec_lt}
use Rattle.std.proofs.Math.ListN.{get_or-eq_default}
use Rattle.values.specs.declared.Number.{Number}
use Rattle.refusals.specs.declared.Refusal.{Refusal}
use Rattle.refusals.specs.Answers.{Answer}
use Rattle.refusals.specs.Numbering.{unless, and_then}
use Rattle.refusals.specs.Accepting.{not_accepted, unless_accepted}
use Rattle.bits.specs.Bits.{list_to}
use Rattle.bits.specs.Lists.{length_list, get_d_list}
use Rattle.table.specs.declared.Entry.{Entry}
use Rattle.table.specs.declared.Table.{Table}
use Rattle.table.specs.Limits.{limits}
use Rattle.table.specs.Kinds.{operands_of}
use Rattle.table.specs.Below.{both_parts, some_found}
use Rattle.table.specs.Tables.{entry_at}
use Rattle.table.specs.Faults.{table_fault, as_unsound, unsound_table}
use Rattle.table.specs.Sound.{Sound, sound_table}
use Rattle.reach.specs.declared.Reach.{Reach}
use Rattle.reach.specs.Reaching.{Entries, leads_to, Least, least_same, names_import, reaches_import, reaches_clock, marked_in, Shows, reach_fault, ReachReply}
use Rattle.reach.specs.Naming.{import_below}
use Rattle.reach.specs.Spreading.{set_of, reached_from, marks_of, reach_reply, reach_of, the_reach}
use Rattle.reach.proofs.Spread.{reached_least, length_reached}

-- two tests of which each passes where the other does are the same
same_test : (a b : Bool) → (T a → T b) → (T b → T a) → a ≡ b
same_test true true there back = refl
same_test true false there back = absurd (there tt)
same_test false true there back = absurd (back tt)
same_test false false there back = refl

-- neither 29 nor what comes after it
asked : (a b : Answer) → and_then (as_unsound a) b ≡ Ok tt → (a ≡ Ok tt) × (b ≡ Ok tt)
asked (Ok _) b good = (refl, good)
asked (Err r) b good = not_accepted Refusal.Unsound good

-- a reach that is not refused is asked of a table without fault, and of an entry of it
pub reach_asked : (t : Table) (k : ℕ) → reach_fault t k ≡ Ok tt → (table_fault t ≡ Ok tt) × (k < t.n)
unfolding reach_fault unsound_table
reach_asked t k good =
    let parts = asked (table_fault t) (unless (ltb k t.n) Refusal.NoEntry) good in
    (parts.0, ltb-true k t.n (unless_accepted (ltb k t.n) Refusal.NoEntry parts.1))

-- marks laid into slots, of which there are enough, are the same marks
slots_keep : (slots : ℕ) (marks : List Bool) → length marks ≤ slots → (j : ℕ) → get_or (list_to slots (set_of marks)) j false ≡ set_of marks j
slots_keep slots marks room j =
    elim (dec_lt j slots) [
      | yes h ↦ get_d_list slots (set_of marks) j false h
      | no h ↦ get_or-eq_default (list_to slots (set_of marks)) false (omega (arith, length_list slots (set_of marks)))
          ∙ sym (get_or-eq_default marks false (omega arith))
    ]

-- an import that entries of a sound table name is one of its imports
pub reached_below : (t : Table) → Sound t → (S : Entries) (i : ℕ) → T (reaches_import t S i) → i < t.q
unfolding reaches_import
reached_below t sound S i reaches =
    let f = some_found t.n (λ j. S j && names_import (operands_of (entry_at t j)) i) reaches in
    import_below t f.0 (operands_of (entry_at t f.0)) (sound.operands f.0 f.1) i
    (both_parts (S f.0) (names_import (operands_of (entry_at t f.0)) i) f.2).1

-- so past them none is reached
pub no_import : (t : Table) → Sound t → (S : Entries) (i : ℕ) → t.q ≤ i → reaches_import t S i ≡ false
no_import t sound S i past =
    same_test (reaches_import t S i) false (λ reaches. let below = reached_below t sound S i reaches in omega arith) (λ none. absurd none)

-- "A reach shows all three: its entries, its imports and whether it has the clock."
shows_marks : (t : Table) (k : ℕ) → reach_fault t k ≡ Ok tt → Shows t k (marks_of t k)
unfolding marks_of
shows_marks t k good =
    let sound = sound_table t (reach_asked t k good).0 in
    let long = length_reached t k in
    let room : length (reached_from t k) ≤ limits.slots = omega (arith, sound.within.entries) in
    let same : set_of (reached_from t k) ≡ marked_in (marks_of t k) = λ i j. sym (slots_keep limits.slots (reached_from t k) room j) i in
    record {
      slots = (length_list limits.slots _, length_list limits.imports _);
      entries = subst (Least (leads_to t) t.n k) same (reached_least t k (reach_asked t k good).1);
      unused = λ j past. slots_keep limits.slots (reached_from t k) room j ∙ get_or-eq_default (reached_from t k) false (omega arith);
      imports = λ i.
          elim (dec_lt i limits.imports) [
            | yes h ↦ get_d_list limits.imports (reaches_import t (set_of (reached_from t k))) i false h ∙ ap (λ (S : Entries). reaches_import t S i) same
            | no h ↦ get_or-eq_default (marks_of t k).imports false (omega (arith, length_list limits.imports (reaches_import t (set_of (reached_from t k)))))
                ∙ sym (no_import t sound (marked_in (marks_of t k)) i (omega (arith, sound.within.imports)))
          ];
      clock = ap (reaches_clock t) same;
    }

-- what is worked out is what a reach shows
pub shows_worked_out : (t : Table) (k : ℕ) → reach_fault t k ≡ Ok tt → Shows t k (reach_of t k)
unfolding reach_of
shows_worked_out t k good = subst (Shows t k) (ap (reach_reply t k) (sym good)) (shows_marks t k good)

-- the reply to an answer
reply_marks : (t : Table) (k : ℕ) (a : Answer) → reach_fault t k ≡ a → ReachReply t k a (reach_reply t k a)
unfolding marks_of
reply_marks t k (Ok _) good = (refl, shows_marks t k good)
reply_marks t k (Err f) refused = refl

-- the worked-out reply is one that a reach may give
pub reply_worked_out : (t : Table) (k : ℕ) → ReachReply t k (reach_fault t k) (reach_of t k)
unfolding reach_of
reply_worked_out t k = reply_marks t k (reach_fault t k) refl

-- two reaches that show what the document says mark the same entries
marked_same : (t : Table) (k : ℕ) (a b : Reach) → Shows t k a → Shows t k b → (j : ℕ) → marked_in a j ≡ marked_in b j
marked_same t k a b x y j =
    elim (dec_lt j t.n) [
      | yes h ↦ let both = least_same (leads_to t) t.n k (marked_in a) (marked_in b) x.entries y.entries j h in
          same_test (marked_in a j) (marked_in b j) both.0 both.1
      | no h ↦ x.unused j (omega arith) ∙ sym (y.unused j (omega arith))
    ]

-- and so they show the same
shown_same : (t : Table) (k : ℕ) (a b : Reach) → a.answer ≡ b.answer → Shows t k a → Shows t k b → a ≡ b
shown_same t k a b answer x y =
    let marked : marked_in a ≡ marked_in b = λ i j. marked_same t k a b x y j i in
    let entries = ext_get_or false a.entries b.entries (x.slots.0 ∙ sym y.slots.0) (λ j h. marked_same t k a b x y j) in
    let reached : reaches_import t (marked_in a) ≡ reaches_import t (marked_in b) = ap (reaches_import t) marked in
    let imports = ext_get_or false a.imports b.imports (x.slots.1 ∙ sym y.slots.1) (λ i h. x.imports i ∙ ap (λ f. f i) reached ∙ sym (y.imports i)) in
    let clock = x.clock ∙ ap (reaches_clock t) marked ∙ sym y.clock in
    λ i. record { answer = answer i; entries = entries i; imports = imports i; clock = clock i }

-- two replies to an answer are the same
replies_same : (t : Table) (k : ℕ) (answer : Answer) (a b : Reach) → ReachReply t k answer a → ReachReply t k answer b → a ≡ b
replies_same t k (Ok _) a b x y = shown_same t k a b (x.0 ∙ sym y.0) x.1 y.1
replies_same t k (Err f) a b x y = x ∙ sym y

-- "two replies allowed by the statement are equal"
pub reply_same : (t : Table) (k : ℕ) (a b : Reach) → ReachReply t k (reach_fault t k) a → ReachReply t k (reach_fault t k) b → a ≡ b
reply_same t k = replies_same t k (reach_fault t k)

-- so a reach gives the worked-out reply, and no other
pub reply_is : (t : Table) (k : ℕ) (r : Reach) → ReachReply t k (reach_fault t k) r → r ≡ reach_of t k
reply_is t k r reply = reply_same t k r (reach_of t k) reply (reply_worked_out t k)

-- a read of a variable that starts at 5, and after it an update that gives 7
abbrev read_then_update : Table
read_then_update =
    record {
      n = 4;
      q = 1;
      v = 1;
      events = true ∷ replicate 47 false;
      variables = (Number.Whole (pos 5)) ∷ replicate 31 Number.Undefined;
      entries =
          (Entry.Variable 0)
          ∷ (Entry.ImportedEvent 0)
          ∷ (Entry.Constant (pos 7))
          ∷ (Entry.Update 1 0 2)
          ∷ replicate 124 (Entry.Constant (pos 0));
    }

-- "every update of that variable, wherever it stands": the read reaches the later update, and with it the event and the constant
pub later_update : reach_of read_then_update 0 ≡ record { answer = Ok tt; entries = true ∷ true ∷ true ∷ true ∷ replicate 124 false; imports = true ∷ replicate 47 false; clock = false }
unfolding the_reach
later_update = refl

-- but the constant reaches nothing else
pub constant_alone : reach_of read_then_update 2 ≡ record { answer = Ok tt; entries = false ∷ false ∷ true ∷ replicate 125 false; imports = replicate 48 false; clock = false }
unfolding the_reach
constant_alone = refl
