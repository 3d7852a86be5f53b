-- How a stream goes on after a whole record.
use Rattle.std.specs.Prelude.{true, false, List, [], ◌∷◌, ◌++◌, ◌≡◌, refl, ℕ, zero, suc, ◌+◌, ◌*◌, ◌<◌, ◌≤◌, length, get_or, take, drop}
use Rattle.std.proofs.Common.{append_assoc, sym, ◌∙◌, ap, subst, not-suc-le-zero, arith, le-leb, length-append, take-append-drop, length-take-le, take_at, drop_at}
use Rattle.std.proofs.Math.Decide.{dec_le}
use Rattle.std.proofs.lemmas.Bool.{lt-leb}
use Rattle.stream.specs.Records.{Next, end, stops, whole, next_of, next_record, Recorded, behind, records_to, records_of}

-- an input that begins with a whole record: its length, its bytes, and the rest
pub record Begins (input bytes rest : List ℕ) : Type 0 where
  pub high : ℕ
  pub low : ℕ
  pub size : length bytes ≡ high * 256 + low
  pub is : input ≡ high ∷ low ∷ bytes ++ rest

-- so many bytes, where a whole record was found: they are there, and the rest comes after them
next_begins : (size : ℕ) (later : List ℕ) {bytes rest : List ℕ} → next_of size later ≡ whole bytes rest → (length bytes ≡ size) × (later ≡ bytes ++ rest)
next_begins size later {bytes} {rest} e =
    elim (dec_le size (length later)) [
      | yes there ↦
          let found : whole (take size later) (drop size later) ≡ whole bytes rest = rw (le-leb size (length later) there) at e in
          let first : take size later ≡ bytes = cc in
          let second : drop size later ≡ rest = cc in
          (ap length (sym first) ∙ length-take-le size later there, sym (take-append-drop size later) ∙ (λ i. first i ++ second i))
      | no short ↦
          let none : stops ≡ whole bytes rest = rw (lt-leb size (length later) (omega arith)) at e in
          let z : ◌≡◌ {A = ℕ} 0 1 = cc in
          absurd (omega arith)
    ]

-- an input whose next record is whole begins with it
pub whole_begins : (input : List ℕ) {bytes rest : List ℕ} → next_record input ≡ whole bytes rest → Begins input bytes rest
unfolding next_record
whole_begins [] e = let z : ◌≡◌ {A = ℕ} 0 1 = cc in absurd (omega arith)
whole_begins (high ∷ []) e = let z : ◌≡◌ {A = ℕ} 0 1 = cc in absurd (omega arith)
whole_begins (high ∷ low ∷ later) e =
    let found = next_begins (high * 256 + low) later e in
    record { high = high; low = low; size = found.0; is = ap (λ (l : List ℕ). high ∷ low ∷ l) found.1 }

-- what an input begins with is its next record
pub begins_whole : {input bytes rest : List ℕ} → Begins input bytes rest → next_record input ≡ whole bytes rest
unfolding next_record
begins_whole {input} {bytes} {rest} b =
    let size = b.high * 256 + b.low in
    ap next_record b.is
    ∙ rw (le-leb size (length (bytes ++ rest)) (omega (arith, length-append bytes rest, b.size)))
    (λ i. whole (take_at bytes rest size b.size i) (drop_at bytes rest size b.size i))

-- bytes that come later leave a whole record as it is
pub whole_more : (input : List ℕ) {bytes rest : List ℕ} → next_record input ≡ whole bytes rest → (more : List ℕ)
    → next_record (input ++ more) ≡ whole bytes (rest ++ more)
whole_more input {bytes} {rest} e more =
    let b = whole_begins input e in
    begins_whole
    (record {
      high = b.high;
      low = b.low;
      size = b.size;
      is = ap (λ (l : List ℕ). l ++ more) b.is ∙ ap (λ (l : List ℕ). b.high ∷ b.low ∷ l) (append_assoc bytes rest more);
    })

-- a whole record takes two bytes or more
pub rest_shorter : (input : List ℕ) {bytes rest : List ℕ} → next_record input ≡ whole bytes rest → length rest + 2 ≤ length input
rest_shorter input {bytes} {rest} e =
    let b = whole_begins input e in
    omega (arith, ap length b.is, length-append bytes rest)

-- the records from here on, by what comes next and the records of the rest
abbrev records_by : (List ℕ → Recorded) → Next → Recorded
records_by later next =
    elim next [
      | end ↦ record { records = []; cut = false }
      | stops ↦ record { records = []; cut = true }
      | whole bytes rest ↦ behind bytes (later rest)
    ]

-- any number above the input's length is enough
records_enough : (a b : ℕ) (input : List ℕ) → length input < a → length input < b → records_to a input ≡ records_to b input
unfolding records_to
records_enough zero b input more also = absurd (not-suc-le-zero more)
records_enough (suc a) zero input more also = absurd (not-suc-le-zero also)
records_enough (suc a) (suc b) input more also =
    elim (next_record input) as (λ next. next_record input ≡ next → records_by (records_to a) next ≡ records_by (records_to b) next) [
      | end ↦ λ e. refl
      | stops ↦ λ e. refl
      | whole bytes rest ↦ λ e.
          let shorter = rest_shorter input e in
          ap (behind bytes) (records_enough a b rest (omega arith) (omega arith))
    ]
    refl

-- a whole record, and then the records of the rest
pub records_whole : (input : List ℕ) {bytes rest : List ℕ} → next_record input ≡ whole bytes rest → records_of input ≡ behind bytes (records_of rest)
unfolding records_to records_of
records_whole input {bytes} {rest} e =
    let shorter = rest_shorter input e in
    ap (records_by (records_to (length input))) e ∙ ap (behind bytes) (records_enough (length input) (suc (length rest)) rest (omega arith) (omega arith))

-- the end
pub records_end : (input : List ℕ) → next_record input ≡ end → records_of input ≡ record { records = []; cut = false }
unfolding records_to records_of
records_end input e = ap (records_by (records_to (length input))) e

-- a record or length that stops inside
pub records_stops : (input : List ℕ) → next_record input ≡ stops → records_of input ≡ record { records = []; cut = true }
unfolding records_to records_of
records_stops input e = ap (records_by (records_to (length input))) e

-- what holds in each of the three cases holds of the records of an input
pub by_next : (P : Recorded → Type 0) (input : List ℕ) → (next_record input ≡ end → P (record { records = []; cut = false }))
    → (next_record input ≡ stops → P (record { records = []; cut = true }))
    → ((bytes rest : List ℕ) → next_record input ≡ whole bytes rest → P (behind bytes (records_of rest))) → P (records_of input)
by_next P input ended stopped more =
    elim (next_record input) as (λ next. next_record input ≡ next → P (records_of input)) [
      | end ↦ λ e. subst P (sym (records_end input e)) (ended e)
      | stops ↦ λ e. subst P (sym (records_stops input e)) (stopped e)
      | whole bytes rest ↦ λ e. subst P (sym (records_whole input e)) (more bytes rest e)
    ]
    refl

-- the longest record, and its length: "a 16-bit length"
abbrev pub longest : ℕ
longest = 2 + 65_535

-- as many bytes begin with a whole record
pub long_begins : (input : List ℕ) → longest ≤ length input → ((i : ℕ) → i < length input → get_or input i 0 < 256)
    → (bytes : List ℕ) × (rest : List ℕ) × (next_record input ≡ whole bytes rest)
unfolding next_record
long_begins [] long small = absurd (omega arith)
long_begins (high ∷ []) long small = absurd (omega arith)
long_begins (high ∷ low ∷ later) long small =
    let size = high * 256 + low in
    (take size later, drop size later, rw (le-leb size (length later) (omega (arith, small 0 (omega arith), small 1 (omega arith)))))
