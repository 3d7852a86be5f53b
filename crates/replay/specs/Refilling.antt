-- What a read leaves in the input: the bytes that were kept, and a piece of the stream after them.
use Rattle.std.specs.Prelude.{Bool, true, false, None, List, [], ◌++◌, ◌≡◌, refl, ℕ, ◌+◌, ◌-◌, ◌≤◌, length, take, drop}
use Rattle.std.proofs.Common.{append-nil, sym, ◌∙◌, ap, zero-add, arith, length-append, length-drop, length-take-le, take-add, drop_at}
use Rattle.std.proofs.Math.Seq.{paste, take-append-add}
use Rattle.std.proofs.lemmas.List.Edits.{take-paste, length-paste}
use Rattle.std.proofs.lemmas.List.{take-append-le}
use Rattle.replies.specs.Plain.{never}
use Rattle.replay.specs.declared.source.Held.{Held}

-- the first `have` bytes were held and the first `taken` of them are played: the rest stands at the front, with the piece that was read after it;
-- after the end of the input nothing is read, and the input has ended only where nothing was read
pub record Refilled (was : List ℕ) (taken have : ℕ) (ended : Bool) (is : List ℕ) (h : Held) : Type 0 where
  pub piece : List ℕ
  pub bytes : take h.have is ≡ drop taken (take have was) ++ piece
  pub within : h.have ≤ length was
  pub long : length is ≡ length was
  pub still : ended ≡ true → (piece ≡ []) × (h.ended ≡ true)
  pub ends : h.ended ≡ true → piece ≡ []

-- nothing is read
pub refilled_none : (was : List ℕ) (have : ℕ) {ended over : Bool} {h : Held} → have ≤ length was → ended ≡ over → h ≡ record { have = have; ended = over; failed = None }
    → Refilled was 0 have ended was h
refilled_none was have room same e =
    let count = ap (λ (x : Held). x.have) e in
    record {
      piece = [];
      bytes = ap (λ (k : ℕ). take k was) count ∙ sym (append-nil (take have was));
      within = omega arith;
      long = refl;
      still = λ over. (refl, ap (λ (x : Held). x.ended) e ∙ sym same ∙ over);
      ends = λ over. refl;
    }

-- `count` bytes are read into the room after the first `have`
abbrev pub refilled_read : (was room after : List ℕ) (have count : ℕ) {ended : Bool} {h : Held} → ended ≡ false → have ≤ length was → count ≤ length room → length (take have was ++ (room ++ after)) ≡ length was
    → h.have ≡ have + count → (h.ended ≡ true → count ≡ 0) → Refilled was 0 have ended (take have was ++ (room ++ after)) h
refilled_read was room after have count more within most long same none =
    let front = length-take-le have was within in
    let whole = take have was ++ (room ++ after) in
    record {
      piece = take count room;
      bytes =
          ap (λ (k : ℕ). take k whole) (same ∙ ap (λ (k : ℕ). k + count) (sym front))
          ∙ take-append-add (take have was) (room ++ after) count
          ∙ ap (λ (l : List ℕ). take have was ++ l) (take-append-le count room after most);
      within = omega (arith, length-append (take have was) (room ++ after), length-append room after);
      long = long;
      still = λ over. never (sym more ∙ over);
      ends = λ over. ap (λ (k : ℕ). take k room) (none over);
    }

-- what is left of the first bytes is what is first of the rest
take_rest : (l : List ℕ) (taken have : ℕ) → taken ≤ have → have ≤ length l → take (have - taken) (drop taken l) ≡ drop taken (take have l)
take_rest l taken have fewer within =
    let rest = take (have - taken) (drop taken l) in
    sym (drop_at (take taken l) rest taken (length-take-le taken l (omega arith)))
    ∙ ap (drop taken) (sym (take-add taken (have - taken) l) ∙ ap (λ (k : ℕ). take k l) {x = taken + (have - taken)} {y = have} (omega arith))

-- what was not taken is kept, and more is read after it
pub refilled_kept : {was kept is : List ℕ} {taken have count : ℕ} {ended : Bool} {h : Held} → taken ≤ have → have ≤ length was → count ≡ have - taken
    → kept ≡ paste was 0 (drop taken was) (have - taken) → Refilled kept 0 count ended is h → Refilled was taken have ended is h
refilled_kept {was} {kept} {taken = taken} {have = have} {count = count} fewer room same e f =
    let rest = length-drop taken was in
    let size : length kept ≡ length was = ap length e ∙ length-paste was 0 (drop taken was) (have - taken) (omega arith) (omega arith) in
    let front : take count kept ≡ take (have - taken) (drop taken was) =
    (λ i. take ((same ∙ sym (zero-add (have - taken))) i) (e i)) ∙ take-paste was 0 (drop taken was) (have - taken) (omega arith) (omega arith) in
    record {
      piece = f.piece;
      bytes = f.bytes ∙ ap (λ (l : List ℕ). l ++ f.piece) (front ∙ take_rest was taken have fewer room);
      within = omega (arith, f.within);
      long = f.long ∙ size;
      still = f.still;
      ends = f.ends;
    }

-- the piece is what stands after the bytes that were kept
pub refilled_piece : {was is : List ℕ} {taken have : ℕ} {ended : Bool} {h : Held} (kept : ℕ) (f : Refilled was taken have ended is h) → kept ≡ have - taken → taken ≤ have
    → have ≤ length was → drop kept (take h.have is) ≡ f.piece
refilled_piece {was} {taken = taken} {have = have} kept f same fewer room =
    let front = drop taken (take have was) in
    ap (drop kept) f.bytes ∙ drop_at front f.piece kept (omega (arith, length-drop taken (take have was), length-take-le have was room))
