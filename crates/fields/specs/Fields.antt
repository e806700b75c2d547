-- What the contracts of the readers cite: the field at a place of a line.
-- Assumes nothing.
use Rattle.std.specs.Prelude.{ℕ, zero, suc, ◌+◌, ◌-◌, ◌*◌, ◌^◌, Bool, true, false, cond, ◌&&◌, ◌≡◌, List, [], ◌∷◌, ltb, leb, eqb, length, drop, slice_get, Option, Some, None}
use Rattle.std.specs.Option.{option_and_then}
use Rattle.std.proofs.lemmas.List.Edits.{sets}
use Rattle.lines.specs.Reading.{skipped}
use Rattle.lines.specs.declared.Read.{Read}

-- the flag that is read of two bytes: it is not set where there is a cursor behind the first; else it is set, with the cursor behind the second
abbrev pub flag_of : Option ℕ → Option ℕ → Option (Read Bool)
flag_of (Some k) behind = Some (record { value = false; next = k })
flag_of None (Some k) = Some (record { value = true; next = k })
flag_of None None = None

-- the choice of two bytes at the cursor
unfoldable pub either_at : List ℕ → Option ℕ → ℕ → ℕ → Option (Read Bool)
either_at s c first second = flag_of (skipped s c first) (skipped s c second)

-- the flag at the cursor: 0 or 1, which are 48 and 49 in the line
abbrev pub flag_at : List ℕ → Option ℕ → Option (Read Bool)
flag_at s c = either_at s c 48 49

-- the value of a hex digit, 0 to 9 (48 to 57) or a to f (97 to 102); none for a byte that is none
unfoldable pub digit_of : ℕ → Option ℕ
digit_of x = cond (leb 48 x && leb x 57) (Some (x - 48)) (cond (leb 97 x && leb x 102) (Some (x - 97 + 10)) None)

-- the number v with one more digit d: one of the base, with which the number still fits 64 bits; else none
unfoldable pub with_digit : ℕ → ℕ → Option ℕ → Option ℕ
with_digit base v None = None
with_digit base v (Some d) = cond (ltb d base && ltb (v * base + d) (2 ^ 64)) (Some (v * base + d)) None

-- v continued by at most `left` digits of the base from the front of s, which stands at the place k of the line, as far as the value fits,
-- and the place behind them
unfoldable pub digits_from : ℕ → ℕ → ℕ → ℕ → List ℕ → Read ℕ
digits_from base zero v k s = record { value = v; next = k }
digits_from base (suc left) v k [] = record { value = v; next = k }
digits_from base (suc left) v k (x ∷ s) =
    elim (with_digit base v (digit_of x)) [ None ↦ record { value = v; next = k } | Some w ↦ digits_from base left w (k + 1) s ]

-- the number at the cursor: 1 to 20 decimal digits, as far as their value fits
unfoldable pub number_at : List ℕ → Option ℕ → Option (Read ℕ)
number_at s (Some k) = let r = digits_from 10 20 0 k (drop k s) in cond (eqb r.next k) None (Some r)
number_at s None = None

-- the set at the cursor: 16 hex digits
-- (their value always fits)
unfoldable pub set_at : List ℕ → Option ℕ → Option (Read ℕ)
set_at s (Some k) = let r = digits_from 16 16 0 k (drop k s) in cond (ltb (r.next - k) 16) None (Some r)
set_at s None = None

-- the byte that two hex digits make
abbrev pub byte_of : Option ℕ → Option ℕ → Option ℕ
byte_of (Some high) (Some low) = Some (high * 16 + low)
byte_of (Some high) None = None
byte_of None low = None

-- the hex digit in s at k
abbrev pub digit_at : List ℕ → ℕ → Option ℕ
digit_at s k = option_and_then digit_of (slice_get s k)

-- the byte that two hex digits in s at k are
unfoldable pub byte_at : List ℕ → ℕ → Option ℕ
byte_at s k = byte_of (digit_at s k) (digit_at s (k + 1))

-- the bytes in s from k on, two hex digits each, as many as there are up to `room`
unfoldable pub bytes_from : ℕ → List ℕ → ℕ → List ℕ
bytes_from zero s k = []
bytes_from (suc room) s k = elim (byte_at s k) [ None ↦ [] | Some b ↦ b ∷ bytes_from room s (k + 2) ]

-- the word at the cursor c, and what is returned of it, where `dash` is the cursor behind a `-` (45) at c:
-- the empty word where that is there, else the bytes from c on, of which there have to be some
abbrev pub bytes_of : Option ℕ → ℕ → List ℕ → Option ℕ → List ℕ
bytes_of (Some d) room s c = []
bytes_of None room s (Some k) = bytes_from room s k
bytes_of None room s None = []

abbrev pub word_of : Option ℕ → ℕ → List ℕ → Option ℕ → Option (Read ℕ)
word_of (Some d) room s c = Some (record { value = 0; next = d })
word_of None room s (Some k) =
    let size = length (bytes_from room s k) in cond (eqb size 0) None (Some (record { value = size; next = k + 2 * size }))
word_of None room s None = None

-- the word's bytes, for which there is `room`
unfoldable pub word_bytes : ℕ → List ℕ → Option ℕ → List ℕ
word_bytes room s c = bytes_of (skipped s c 45) room s c

-- its length, and the cursor behind it
unfoldable pub word_at : ℕ → List ℕ → Option ℕ → Option (Read ℕ)
word_at room s c = word_of (skipped s c 45) room s c

-- r is the word that is read at c into the room `into`, which is `after` then: the word's bytes stand at its front
abbrev pub ReadsWord : List ℕ → Option ℕ → List ℕ → List ℕ → Option (Read ℕ) → Type 0
ReadsWord s c into after r = (r ≡ word_at (length into) s c) × (after ≡ sets into 0 (word_bytes (length into) s c))
