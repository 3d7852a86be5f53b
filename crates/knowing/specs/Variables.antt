-- What the variables hold after one more entry.
use Rattle.std.specs.Prelude.{Bool, true, false, cond, ◌&&◌, List, ◌≡◌, refl, ℕ, zero, suc, ◌<◌, ◌≤◌, eqb, Ok}
use Rattle.std.proofs.Math.Option.{Option, none, some, get_or}
use Rattle.std.proofs.Math.Path.{sym, ap, fun_ext}
use Rattle.std.proofs.Common.{◌∙◌, arith, eq-eqb, ne_eqb}
use Rattle.values.specs.declared.Number.{Number}
use Rattle.values.specs.declared.Outcome.{Outcome}
use Rattle.values.specs.Outcomes.{number_in, is_done}
use Rattle.bits.specs.Bits.{list_to}
use Rattle.table.specs.declared.Entry.{Entry}
use Rattle.table.specs.declared.Entry.TheVariants.{Update}
use Rattle.table.specs.declared.Table.{Table}
use Rattle.table.specs.Kinds.{operands_of, update_of}
use Rattle.table.specs.Tables.{entry_at}
use Rattle.table.specs.Faults.{operands_fault}
use Rattle.table.specs.Sound.{Sound}
use Rattle.meaning.specs.declared.Givens.{Givens}
use Rattle.meaning.specs.Places.{places_of}
use Rattle.meaning.specs.Inside.{entries_earlier}
use Rattle.meaning.specs.Meaning.{meaning}
use Rattle.history.specs.History.{Moment, Row, row_at, given_by, or_else, given_before, held_before, held_at}
use Rattle.monitor.specs.Stepping.{held_after}
use Rattle.bits.specs.Filled.{list_set}
use Rattle.knowing.specs.Carrying.{Carries, a_pair, a_start, an_end, a_time, an_update_lem, other, carries}

-- an update gives the same number by two rows that agree before it: its number's entry stands earlier
given_same : (t : Table) (k : ℕ) (e : Entry) → Carries e → operands_fault t k (operands_of e) ≡ Ok tt
    → (r₁ r₂ : Row) → ((j : ℕ) → j < k → row_at r₁ j ≡ row_at r₂ j) → (o : Outcome) (x : ℕ) → given_by (update_of e) o r₁ x ≡ given_by (update_of e) o r₂ x
unfolding update_of operands_of
given_same t k e (a_pair a b) good r₁ r₂ agree o x = refl
given_same t k e (a_start a) good r₁ r₂ agree o x = refl
given_same t k e (an_end a) good r₁ r₂ agree o x = refl
given_same t k e (a_time a) good r₁ r₂ agree o x = refl
given_same t k e (an_update_lem a v b) good r₁ r₂ agree o x =
    ap (λ (y : Outcome). cond (is_done o && eqb v x) (some (number_in y)) none)
    (agree b (entries_earlier t k (operands_of (Update a v b)) good 1 (omega arith)))
given_same t k e (other nothing no-update undone looks) good r₁ r₂ agree o x = rw no-update

-- and so do all the updates before entry k
pub given_stays : (t : Table) → Sound t → (r₁ r₂ : Row) (x k : ℕ) → k ≤ t.n → ((j : ℕ) → j < k → row_at r₁ j ≡ row_at r₂ j)
    → given_before t r₁ x k ≡ given_before t r₂ x k
unfolding given_before
given_stays t sound r₁ r₂ x zero fits agree = refl
given_stays t sound r₁ r₂ x (suc k) fits agree =
    let e = entry_at t k in
    let here = given_same t k e (carries e) (sound.operands k fits) r₁ r₂ (λ j h. agree j (omega arith)) (row_at r₁ k) x in
    let before = given_stays t sound r₁ r₂ x k (omega arith) (λ j h. agree j (omega arith)) in
    λ i. or_else ((here ∙ ap (λ (o : Outcome). given_by (update_of e) o r₂ x) (agree k (omega arith))) i) (before i)

-- "An update whose event occurs gives the variable that number": no other kind does
given_done : (e : Entry) → Carries e → (row : Row) (a : Outcome) (g : Givens) (x : ℕ)
    → let b = row_at row (places_of e).second in
    given_by (update_of e) (meaning e a b g) row x ≡ cond (is_done (meaning e a b g) && eqb (places_of e).variable x) (some (number_in b)) none
unfolding update_of operands_of places_of meaning
given_done e (a_pair a b) row o g x = refl
given_done e (a_start a) row o g x = refl
given_done e (an_end a) row o g x = refl
given_done e (a_time a) row o g x = refl
given_done e (an_update_lem a v b) row o g x = refl
given_done e (other nothing no-update undone looks) row o g x = rw (no-update, undone o (row_at row (places_of e).second) g)

-- the number that was given, else the number that was held
given_or : (a b : Option Number) (d : Number) → get_or (or_else a b) d ≡ get_or a (get_or b d)
given_or none b d = refl
given_or (some x) b d = refl

-- the variables' slots after one entry: the number given, else what was held
slots_after : (n : ℕ) (f : ℕ → Number) (done : Bool) (v : ℕ) (number : Number)
    → held_after done v number (list_to n (λ x. (f x)))
    ≡ list_to n (λ x. (get_or (cond (done && eqb v x) (some number) none) (f x)))
slots_after n f true v number =
    list_set n (λ x. (f x)) (λ x. (get_or (cond (eqb v x) (some number) none) (f x))) v
    number
    (λ h. rw (eq-eqb v v refl))
    (λ x h other. rw (ne_eqb v x (λ e. other (sym e))))
slots_after n f false v number = refl

-- entry k of a step whose whole row is `all`, after the results `row` of the entries before it
module _ (t : Table) (sound : Sound t) (k : ℕ) (below : k < t.n) (row all : Row) (stays : (j : ℕ) → j < k → row_at all j ≡ row_at row j)
    (a : Outcome) (g : Givens) (here : row_at all k ≡ meaning (entry_at t k) a (row_at row (places_of (entry_at t k)).second) g) where
  -- what it gives
  given_next : (x : ℕ)
      → let places = places_of (entry_at t k) in
      given_by (update_of (entry_at t k)) (row_at all k) all x
      ≡ cond (is_done (row_at all k) && eqb places.variable x) (some (number_in (row_at row places.second))) none
  given_next x =
      let e = entry_at t k in
      let o = meaning e a (row_at row (places_of e).second) g in
      rw here (given_same t k e (carries e) (sound.operands k below) all row stays o x ∙ given_done e (carries e) row a g x)

  -- what a variable holds after it
  held_now : (past : List Moment) (x : ℕ)
      → let places = places_of (entry_at t k) in
      let given = cond (is_done (row_at all k) && eqb places.variable x) (some (number_in (row_at row places.second))) none in
      get_or given (held_at t past all k x) ≡ held_at t past all (suc k) x
  unfolding held_at given_before
  held_now past x =
      ap (λ (given : Option Number). get_or given (held_at t past all k x)) (sym (given_next x))
      ∙ sym (given_or (given_by (update_of (entry_at t k)) (row_at all k) all x) (given_before t all x k) (held_before t past x))

  -- and what all of them do
  pub held_next : (past : List Moment) (n : ℕ)
      → let places = places_of (entry_at t k) in
      held_after (is_done (row_at all k)) places.variable (number_in (row_at row places.second)) (list_to n (λ x. (held_at t past all k x)))
      ≡ list_to n (λ x. (held_at t past all (suc k) x))
  held_next past n =
      let places = places_of (entry_at t k) in
      slots_after n (held_at t past all k) (is_done (row_at all k)) places.variable (number_in (row_at row places.second))
      ∙ ap (λ (f : ℕ → Number). list_to n (λ x. (f x))) (fun_ext (held_now past))
