-- The worked-out set is the least one.
use Rattle.std.specs.Prelude.{Bool, List, ◌≡◌, length}
use Rattle.std.proofs.Math.Bool.{false}
use Rattle.std.proofs.Common.{sym, ◌∙◌, arith, eqb→eq}
use Rattle.std.proofs.Math.Path.{ap, subst}
use Prim.Native.Nat.{ℕ, zero, suc, ◌<◌, ◌≤◌}
use Rattle.std.proofs.Math.Decide.{dec_le}
use Rattle.std.proofs.Math.Dec.{T, eqb_refl}
use Rattle.bits.specs.Lists.{length_list, get_d_list}
use Rattle.table.specs.declared.Table.{Table}
use Rattle.table.specs.Below.{both_parts, both_joined, either_split, either_left, either_right, some_found, some_here}
use Rattle.reach.specs.Reaching.{Entries, leads_to, Closed, Least}
use Rattle.reach.specs.Counting.{count_of, count_le, count_some, count_same}
use Rattle.reach.specs.Spreading.{set_of, alone, spread, spread_to, reached_from}

module _ (leads : ℕ → ℕ → Bool) (n : ℕ) where
  -- there is a mark for each entry
  length_spread : (marks : List Bool) → length (spread leads n marks) ≡ n
  unfolding spread
  length_spread marks = length_list n _

  -- and so it is after any number of times
  length_times : (times : ℕ) (marks : List Bool) → length marks ≡ n → length (spread_to leads n times marks) ≡ n
  unfolding spread_to
  length_times zero marks long = long
  length_times (suc times) marks long = length_spread (spread_to leads n times marks)

  -- what is marked stays marked
  spread_keeps : (marks : List Bool) (o : ℕ) → o < n → T (set_of marks o) → T (set_of (spread leads n marks) o)
  unfolding spread
  spread_keeps marks o h held = rw (get_d_list n _ o false h) (search either_left)

  -- and all that it leads to is marked
  spread_leads : (marks : List Bool) (j o : ℕ) → j < n → o < n → T (set_of marks j) → T (leads j o) → T (set_of (spread leads n marks) o)
  unfolding spread
  spread_leads marks j o hj ho held led =
      rw (get_d_list n _ o false ho) (either_right (set_of marks o) _ (some_here n _ j hj (both_joined (set_of marks j) (leads j o) held led)))

  -- but nothing that a closed set does not hold
  spread_inside : (marks : List Bool) (other : Entries) → Closed leads n other → ((j : ℕ) → j < n → T (set_of marks j) → T (other j))
      → (o : ℕ) → o < n → T (set_of (spread leads n marks) o) → T (other o)
  unfolding spread
  spread_inside marks other closed inside o h held =
      either_split (set_of marks o) _ (inside o h) (λ led.
      let f = some_found n _ led in
      let both = both_parts (set_of marks f.0) (leads f.0 o) f.2 in closed f.0 o f.1 h (inside f.0 f.1 both.0) both.1)
      (subst T (get_d_list n _ o false h) held)

  -- a set that grows no more is closed
  still_closed : (marks : List Bool) → marks ≡ spread leads n marks → Closed leads n (set_of marks)
  still_closed marks still j o hj ho held led = subst (λ (l : List Bool). T (set_of l o)) (sym still) (spread_leads marks j o hj ho held led)

  -- a set whose count does not grow grows no more
  still_same : (marks : List Bool) → length marks ≡ n → count_of (spread leads n marks) ≤ count_of marks → marks ≡ spread leads n marks
  still_same marks long =
      count_same marks (spread leads n marks) (long ∙ sym (length_spread marks)) (λ j h. spread_keeps marks j (omega (arith, long)))

  module _ (k : ℕ) (entry : k < n) where
    -- the set after so many times
    abbrev after : ℕ → List Bool
    after times = spread_to leads n times (alone n k)

    -- it holds the entry
    after_holds : (times : ℕ) → T (set_of (after times) k)
    unfolding spread_to
    after_holds zero = rw (get_d_list n _ k false entry) (search eqb_refl)
    after_holds (suc times) = spread_keeps (after times) k entry (after_holds times)

    -- every closed set that holds the entry holds all of it
    after_inside : (other : Entries) → T (other k) → Closed leads n other → (times j : ℕ) → j < n → T (set_of (after times) j) → T (other j)
    unfolding spread_to
    after_inside other holds closed zero j h held =
        subst (λ (i : ℕ). T (other i)) (sym (eqb→eq j k (search (subst T (get_d_list n _ j false h) held)))) holds
    after_inside other holds closed (suc times) j h held =
        spread_inside (after times) other closed (after_inside other holds closed times) j h held

    -- one more each time, from the entry alone on: where there are fewer it grows no more
    after_still : (times : ℕ) → count_of (after (suc times)) ≤ suc times → after times ≡ after (suc times)
    unfolding spread_to
    after_still zero few =
        let one = count_some (alone n k) k (after_holds zero) in still_same (alone n k) (length_list n _) (omega arith)
    after_still (suc times) few =
        elim (dec_le (count_of (after (suc times))) (suc times)) [
          | yes fewer ↦ ap (spread leads n) (after_still times fewer)
          | no more ↦ still_same (after (suc times)) (length_spread (after times)) (omega arith)
        ]

    -- so after one time fewer than there are entries it is the least set
    spread_enough : (times : ℕ) → n ≤ suc times → Least leads n k (set_of (after times))
    unfolding spread_to
    spread_enough times enough =
        let all = count_le (after (suc times)) in
        let long = length_spread (after times) in
        record {
          holds = after_holds times;
          closed = still_closed (after times) (after_still times (omega arith));
          least = λ other holds closed. after_inside other holds closed times;
        }

-- "the least set that holds the entry" and is closed, whatever leads to what
pub spread_least : (leads : ℕ → ℕ → Bool) (n k : ℕ) → k < n → Least leads n k (set_of (spread_to leads n n (alone n k)))
spread_least leads n k entry = spread_enough leads n k entry n (omega arith)

-- "The reach of an entry is the least set that holds the entry; with any entry, its operand entries; with any read of a variable, every update ..."
pub reached_least : (t : Table) (k : ℕ) → k < t.n → Least (leads_to t) t.n k (set_of (reached_from t k))
unfolding reached_from
reached_least t k entry = spread_enough (leads_to t) t.n k entry _ (omega arith)

-- a mark for each entry
pub length_reached : (t : Table) (k : ℕ) → length (reached_from t k) ≡ t.n
unfolding reached_from
length_reached t k = length_times (leads_to t) t.n _ (alone t.n k) (length_list t.n _)
