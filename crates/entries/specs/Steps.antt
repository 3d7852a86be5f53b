-- One entry's reading, step by step: refusals 1, 2 and 6, then its operands in order.
use Rattle.std.specs.Prelude.{Bool, List, ◌≡◌, ℕ, ltb, ◌+◌, ◌%◌, ◌<◌, ◌≤◌, pos, length, Ok, Err, Some, None}
use Rattle.std.proofs.Common.{sym, ◌∙◌, ap, lt-ltb, le-ltb}
use Rattle.refusals.specs.declared.Refusal.{Refusal}
use Rattle.bits.specs.Bits.{field_at}
use Rattle.bits.specs.Twos.{signed}
use Rattle.bits.specs.Reading.{got, refused, stops}
use Rattle.table.specs.Limits.{limits}
use Rattle.kinds.specs.declared.Apart.{Apart}
use Rattle.kinds.specs.Apart.{apart_of, made_of}
use Rattle.entries.specs.Entering.{operand_by, operands_by, entry_by, entered_of, entered}

module _ (sorts : List ℕ) (events : List Bool) (q v k : ℕ) (s : List ℕ) (at : ℕ) where
  -- "Number 1 comes before all reading"
  pub too_long : limits.script < length s → Err Refusal.TooLong ≡ entered sorts events q v k s at
  unfolding entered
  too_long long = rw (lt-ltb limits.script (length s) long)

  module _ (short : length s ≤ limits.script) where
    -- a kind that isn't there
    pub no_kind : field_at s at 5 ≡ None → Err Refusal.Cut ≡ entered sorts events q v k s at
    unfolding entered entry_by
    no_kind missing = rw (le-ltb limits.script (length s) short, missing)

    -- "6: kind 25 to 31"
    pub past_kind : (kind : ℕ) → field_at s at 5 ≡ Some kind → 25 ≤ kind → Err Refusal.Kind ≡ entered sorts events q v k s at
    unfolding entered entry_by
    past_kind kind there past = rw (le-ltb limits.script (length s) short, there) (sym (ap entered_of (stops (ltb kind 25) Refusal.Kind kind (at + 5) _ (le-ltb kind 25 past))))

    module _ (kind : ℕ) (there : field_at s at 5 ≡ Some kind) (known : kind < 25) where
      -- what such a kind is made of
      abbrev places : Apart
      places = apart_of (made_of kind 0 0 0 (pos 0))

      -- any other kind has its operands read
      of_kind : entered_of (operands_by sorts events q v k kind places s (at + 5)) ≡ entered sorts events q v k s at
      unfolding entered entry_by
      of_kind = rw (le-ltb limits.script (length s) short, there, lt-ltb kind 25 known)

      -- the first operand that is refused decides
      pub first_refused : {r : Refusal} → operand_by sorts events q v k places.first s (at + 5) ≡ refused r → Err r ≡ entered sorts events q v k s at
      unfolding operands_by
      first_refused {r} stop =
          let stopped : operands_by sorts events q v k kind places s (at + 5) ≡ refused r = rw stop in
          ap entered_of (sym stopped) ∙ of_kind

      module _ {x n : ℕ} (first : operand_by sorts events q v k places.first s (at + 5) ≡ got x n) where
        pub second_refused : {r : Refusal} → operand_by sorts events q v k places.second s n ≡ refused r → Err r ≡ entered sorts events q v k s at
        unfolding operands_by
        second_refused {r} stop =
            let stopped : operands_by sorts events q v k kind places s (at + 5) ≡ refused r = rw (first, stop) in
            ap entered_of (sym stopped) ∙ of_kind

        module _ {y m : ℕ} (second : operand_by sorts events q v k places.second s n ≡ got y m) where
          pub third_refused : {r : Refusal} → operand_by sorts events q v k places.third s m ≡ refused r → Err r ≡ entered sorts events q v k s at
          unfolding operands_by
          third_refused {r} stop =
              let stopped : operands_by sorts events q v k kind places s (at + 5) ≡ refused r = rw (first, second, stop) in
              ap entered_of (sym stopped) ∙ of_kind

          -- where all are accepted they make the entry
          pub entry_made : {z next : ℕ} → operand_by sorts events q v k places.third s m ≡ got z next
              → Ok (made_of kind (x % 65536) (y % 65536) (z % 65536) (signed x), next) ≡ entered sorts events q v k s at
          unfolding operands_by
          entry_made {z} {next} third =
              let made : operands_by sorts events q v k kind places s (at + 5) ≡ got (made_of kind (x % 65536) (y % 65536) (z % 65536) (signed x)) next = rw (first, second, third) in
              ap entered_of (sym made) ∙ of_kind
