-- What a reader shows as it goes, one law for each way through its loop.
-- Assumes nothing.
use Prim.Native.Nat.{ℕ, zero, suc, ◌+◌, ◌-◌, ◌*◌, ◌^◌, ◌<◌, ◌≤◌}
use mathlib.Core.Path.{◌≡◌, refl, sym, ap}
use mathlib.Core.List.{List, [], ◌∷◌}
use native.Mathlib.Nat.{pow-le-pow_right}
use native.Mathlib.Numerals.{add-one}
use native.Mathlib.Omega.{arith}
use lib.ListN.{length, get_or, drop, set, length-set, drop_of_length-le}
use lib.Pow.{pow-add}
use lib.Seq.{drop-cons, sets}
use borrow.Author.Tests.{lt-ltb}
use Rattle.std.specs.Prelude.{Some, None}
use Rattle.lines.specs.declared.Read.{Read}
use Rattle.fields.specs.Fields.{digit_of, with_digit, digits_from, byte_at, bytes_from}

-- digits are read on at k, where one stands that makes the value w of v
pub digits_next : (s : List ℕ) (base v k left w : ℕ) → 0 < left → k < length s → with_digit base v (digit_of (get_or s k 0)) ≡ Some w
    → digits_from base left v k (drop k s) ≡ digits_from base (left - 1) w (k + 1) (drop (k + 1) s)
unfolding digits_from
digits_next s base v k zero w p h e = absurd (omega arith)
digits_next s base v k (suc left) w p h e = let q : suc left - 1 ≡ left = omega arith in rw (drop-cons s k 0 h, e, digits_from, add-one k, q)

-- r is what was read where they stop at k: at a byte, and where none may follow or the line ends
module _ (s : List ℕ) (base k : ℕ) (r : Read ℕ) (place : r.next ≡ k) where
  whole : record { value = r.value; next = k } ≡ r
  whole = ap (λ (n : ℕ). record { value = r.value; next = n }) (sym place)

  pub digits_stop : (left : ℕ) → k < length s → with_digit base r.value (digit_of (get_or s k 0)) ≡ None → digits_from base left r.value k (drop k s) ≡ r
  unfolding digits_from
  digits_stop zero h e = whole
  digits_stop (suc left) h e = rw (drop-cons s k 0 h, e, digits_from) whole

  pub digits_end : (left : ℕ) → (0 < left → length s ≤ k) → digits_from base left r.value k (drop k s) ≡ r
  unfolding digits_from
  digits_end zero h = whole
  digits_end (suc left) h = let past : length s ≤ k = h (omega arith) in rw (drop_of_length-le s past) whole

-- a set's digits: a value of `left` hex digits fewer than 16, and one digit more, which always fits
module _ (v d left : ℕ) (below : v < 2 ^ (4 * (16 - left))) (more : 0 < left) (most : left ≤ 16) (small : d < 16) where
  pub hex_below : v * 16 + d < 2 ^ (4 * (16 - (left - 1)))
  hex_below =
      let e : 4 * (16 - (left - 1)) ≡ 4 * (16 - left) + 4 = omega arith in
      rw (e, pow-add 2 (4 * (16 - left)) 4) (omega arith)

  pub hex_digit : with_digit 16 v (Some d) ≡ Some (v * 16 + d)
  unfolding with_digit
  hex_digit =
      let room : 2 ^ (4 * (16 - (left - 1))) ≤ 2 ^ 64 = pow-le-pow_right (omega arith) {i = 4 * (16 - (left - 1))} {j = 64} (omega arith) in
      let whole = hex_below in
      rw (lt-ltb d 16 small, lt-ltb (v * 16 + d) (2 ^ 64) (omega arith))

-- bytes are read on at k, and they stop there
pub bytes_next : (s : List ℕ) (n k b : ℕ) → 0 < n → byte_at s k ≡ Some b → bytes_from n s k ≡ b ∷ bytes_from (n - 1) s (k + 2)
unfolding bytes_from
bytes_next s zero k b p e = absurd (omega arith)
bytes_next s (suc n) k b p e = let q : suc n - 1 ≡ n = omega arith in rw (e, bytes_from, q)

pub bytes_end : (s : List ℕ) (n k : ℕ) → (0 < n → byte_at s k ≡ None) → bytes_from n s k ≡ []
unfolding bytes_from
bytes_end s zero k h = refl
bytes_end s (suc n) k h = let none : byte_at s k ≡ None = h (omega arith) in rw (none, bytes_from)

-- a byte b that is stored at the place i of the room
module _ (into s : List ℕ) (i k b : ℕ) (fits : i < length into) (is : byte_at s k ≡ Some b) where
  here : bytes_from (length into - i) s k ≡ b ∷ bytes_from (length into - i - 1) s (k + 2)
  here = bytes_next s (length into - i) k b (omega arith) is

  rest : bytes_from (length (set into i b) - (i + 1)) s (k + 2) ≡ bytes_from (length into - i - 1) s (k + 2)
  rest = let size : length (set into i b) - (i + 1) ≡ length into - i - 1 = omega (arith, length-set into i b) in rw size

  pub bytes_count : i + 1 + length (bytes_from (length (set into i b) - (i + 1)) s (k + 2)) ≡ i + length (bytes_from (length into - i) s k)
  bytes_count = omega (arith, ap length here, ap length rest)

  pub bytes_store : sets (set into i b) (i + 1) (bytes_from (length (set into i b) - (i + 1)) s (k + 2)) ≡ sets into i (bytes_from (length into - i) s k)
  bytes_store = rw (here, rest, add-one i)

-- no byte follows at k, or there is no room for it: all are read that there are, and they are stored
pub bytes_done : (after s whole : List ℕ) (i k size : ℕ) → (i < length after → byte_at s k ≡ None)
    → i + length (bytes_from (length after - i) s k) ≡ size
    → sets after i (bytes_from (length after - i) s k) ≡ whole
    → (i ≡ size) × (after ≡ whole)
bytes_done after s whole i k size h count stored =
    let none : bytes_from (length after - i) s k ≡ [] = bytes_end s (length after - i) k (λ p. h (omega arith)) in
    (omega (arith, ap length none), rw none at stored)
