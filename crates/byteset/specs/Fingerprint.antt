-- The fingerprint of a byte string, and what it says of a byte.
-- Assumes nothing.
use Rattle.std.specs.Prelude.{ℕ, ◌/◌, ◌%◌, ◌^◌, ◌<◌, ◌≡◌, Bool, List, [], ◌∷◌, eqb, length, get_or}
use Rattle.std.specs.Int.Bits.{bit_and, bit_or}

-- "bit (byte AND 63)"
unfoldable pub bit_of : ℕ → ℕ
bit_of b = bit_and b 63

-- "A byte sets bit (byte AND 63) of the fingerprint": the set after each byte of a string has set its bit
unfoldable pub into : ℕ → List ℕ → ℕ
into set [] = set
into set (b ∷ bytes) = into (bit_or (2 ^ bit_of b) set) bytes

-- the fingerprint of a byte string: at first no bit is set
unfoldable pub fingerprint : List ℕ → ℕ
fingerprint bytes = into 0 bytes

-- whether bit (byte AND 63) of a set is 1: "the fingerprint may say yes falsely and never no falsely"
unfoldable pub has : ℕ → ℕ → Bool
has set b = eqb (set / 2 ^ bit_of b % 2) 1

-- "01 and 41 hex share bit 1": some byte of the string shares its bit with b. Every byte of the string does so with itself.
pub record SharesBit (bytes : List ℕ) (b : ℕ) : Type 0 where
  pub place : ℕ
  pub within : place < length bytes
  pub same : bit_of (get_or bytes place 0) ≡ bit_of b
