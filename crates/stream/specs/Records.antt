-- A recorded stream as bytes: "a 16-bit length and the script, then records of a 16-bit length and a step (lengths most significant byte first)".
use Rattle.std.specs.Prelude.{Bool, true, false, cond, List, [], ◌∷◌, ℕ, zero, suc, ◌+◌, ◌*◌, leb, length, take, drop}

-- what comes next in a stream: its end, a record and the rest, or a record or length that stops inside
pub data Next : Type 0 where
  end : Next
  stops : Next
  whole : List ℕ → List ℕ → Next

-- so many bytes, if they are there
abbrev pub next_of : ℕ → List ℕ → Next
next_of size rest = cond (leb size (length rest)) (whole (take size rest) (drop size rest)) stops

-- "a 16-bit length and [the bytes] (lengths most significant byte first)"
unfoldable pub next_record : List ℕ → Next
next_record [] = end
next_record (high ∷ []) = stops
next_record (high ∷ low ∷ rest) = next_of (high * 256 + low) rest

-- the whole records of a stream, in order, and whether it "stops inside a record or its length"
pub record Recorded : Type 0 where
  pub records : List (List ℕ)
  pub cut : Bool

-- a record before others
abbrev pub behind : List ℕ → Recorded → Recorded
behind bytes later = record { records = bytes ∷ later.records; cut = later.cut }

-- at most so many records: each takes two bytes or more
unfoldable pub records_to : ℕ → List ℕ → Recorded
records_to zero input = record { records = []; cut = false }
records_to (suc most) input =
    elim (next_record input) [
      | end ↦ record { records = []; cut = false }
      | stops ↦ record { records = []; cut = true }
      | whole bytes rest ↦ behind bytes (records_to most rest)
    ]

-- all of a stream
unfoldable pub records_of : List ℕ → Recorded
records_of input = records_to (suc (length input)) input
