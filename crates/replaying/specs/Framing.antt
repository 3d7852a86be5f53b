-- Where the records of a stream stand in the input.
use mathlib.Core.List.{List, ◌∷◌}
use Rattle.std.specs.Prelude.{◌≡◌, ℕ, ◌+◌, ◌*◌, ◌<◌, ◌≤◌, length, take, drop}
use Rattle.std.proofs.Math.Path.{sym, ap}
use Rattle.std.proofs.Common.{◌∙◌, add-one, arith, le-leb, length-drop, drop_of_length-le, drop-cons, drop-drop}
use Rattle.std.proofs.lemmas.Bool.{lt-leb}
use Rattle.std.proofs.Math.ListN.{get_or}
use Rattle.stream.specs.Records.{Next, end, stops, whole, next_of, next_record}
use Rattle.replaying.specs.declared.framing.Record.{Record}

-- what was found at a place, as the definition says it
abbrev pub next_in : List ℕ → ℕ → Record → Next
next_in input at Record.End = end
next_in input at Record.Stops = stops
next_in input at (Record.Whole size) = whole (take size (drop (at + 2) input)) (drop (at + 2 + size) input)

-- a record that is whole ends within the input
abbrev pub Ends : List ℕ → ℕ → Record → Type 0
Ends input at Record.End = Unit
Ends input at Record.Stops = Unit
Ends input at (Record.Whole size) = at + 2 + size ≤ length input

-- a record that was found is the next one from there on
pub record Framed (input : List ℕ) (at : ℕ) (r : Record) : Type 0 where
  pub next : next_in input at r ≡ next_record (drop at input)
  pub ends : Ends input at r

-- the number that two bytes of the input make, "most significant byte first"
abbrev pub length_at : List ℕ → ℕ → ℕ
length_at input at = get_or input at 0 * 256 + get_or input (at + 1) 0

-- the byte at a place, and those after it
front : (input : List ℕ) (at : ℕ) → at < length input → drop at input ≡ get_or input at 0 ∷ drop (at + 1) input
front input at there = rw (add-one at) (drop-cons input at 0 there)

module _ (input : List ℕ) (at : ℕ) where
  -- no byte is left
  pub framed_end : length input ≤ at → Framed input at Record.End
  unfolding next_record
  framed_end over = record { next = sym (ap next_record (drop_of_length-le input over)); ends = tt }

  -- one byte is left
  pub framed_byte : length input ≡ at + 1 → Framed input at Record.Stops
  unfolding next_record
  framed_byte one =
      record {
        next = sym (ap next_record (front input at (omega arith) ∙ ap (λ (rest : List ℕ). get_or input at 0 ∷ rest) (drop_of_length-le input {i = at + 1} (omega arith))));
        ends = tt;
      }

  -- two bytes or more: a length, and what is behind it
  next_length : at + 2 ≤ length input → next_record (drop at input) ≡ next_of (length_at input at) (drop (at + 2) input)
  unfolding next_record
  next_length there =
      ap next_record (front input at (omega arith) ∙ ap (λ (rest : List ℕ). get_or input at 0 ∷ rest) (front input (at + 1) (omega arith)))
      ∙ ap (λ (next : ℕ). next_of (length_at input at) (drop next input)) {x = at + 1 + 1} {y = at + 2} (omega arith)

  -- fewer bytes than the length says
  pub framed_cut : at + 2 ≤ length input → length input < at + 2 + length_at input at → Framed input at Record.Stops
  framed_cut there short =
      record { next = sym (next_length there ∙ rw (lt-leb (length_at input at) (length (drop (at + 2) input)) (omega (arith, length-drop (at + 2) input)))); ends = tt }

  -- as many as it says
  pub framed_whole : at + 2 + length_at input at ≤ length input → Framed input at (Record.Whole (length_at input at))
  framed_whole fits =
      record {
        next =
            sym
            (next_length (omega arith)
            ∙ rw (le-leb (length_at input at) (length (drop (at + 2) input)) (omega (arith, length-drop (at + 2) input)), drop-drop (length_at input at) (at + 2) input));
        ends = fits;
      }
