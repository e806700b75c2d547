-- What a fingerprint says: it has the bit of a byte exactly if a byte of the string has that bit. So it may say yes falsely, and never no falsely.
-- These laws hold for any list of numbers. Below them stand those for the ways through the code.
-- Assumes nothing.
use Prim.Native.Nat.{ℕ, zero, suc, ◌+◌, ◌-◌, ◌/◌, ◌%◌, ◌^◌, ◌<◌, ◌≤◌, max}
use mathlib.Core.Path.{◌≡◌, refl, sym, ◌∙◌, ap, subst}
use mathlib.Core.Bool.{true, false, not, true≢false}
use mathlib.Core.Logic.{◌⊎◌, inl, inr, ⊎_elim}
use mathlib.Core.List.{List, [], ◌∷◌}
use native.Mathlib.Nat.{zero-div, div-eq_of_lt, div_self, mul-mod_left, pow-suc}
use native.Mathlib.Omega.{arith}
use native.Mathlib.Decide.{dec_lt, ℕ_discrete}
use lib.Bits.{bit_and, bit_or, or_comm, or_shr, or_step, and_mask, mask_lt}
use lib.Pow.{pow-add, pow_pos, pow-lt, shl-shr}
use lib.Dec.{eqb}
use lib.ListN.{length, get_or, take}
use Rattle.std.specs.List.{fold}
use Rattle.std.proofs.lemmas.List.{take_all}
use borrow.Author.Tests.{eqb-true, eq-eqb}
use Rattle.words.proofs.Tests.{Decides, decides_eq, decides_iff}
use Rattle.byteset.specs.Fingerprint.{bit_of, into, fingerprint, has, SharesBit}

-- ---- bits

-- bit k of a set
abbrev bit : ℕ → ℕ → ℕ
bit set k = set / 2 ^ k % 2

-- an or has the bits that either operand has
bit_or_lem : (a c k : ℕ) → bit (bit_or a c) k ≡ max (bit a k) (bit c k)
bit_or_lem a c k = ap (λ (x : ℕ). x % 2) (or_shr a c k ∙ or_step (a / 2 ^ k) (c / 2 ^ k)) ∙ omega arith

-- 2 ^ k has bit k and no other
bit_same : (k : ℕ) → bit (2 ^ k) k ≡ 1
bit_same k = ap (λ (x : ℕ). x % 2) (div_self (pow_pos k))

bit_below : (j k : ℕ) → j < k → bit (2 ^ j) k ≡ 0
bit_below j k h = ap (λ (x : ℕ). x % 2) (div-eq_of_lt (pow-lt h))

bit_above : (m k : ℕ) → bit (2 ^ (suc m + k)) k ≡ 0
bit_above m k = rw (pow-add, shl-shr, pow-suc, mul-mod_left)

bit_other : (j k : ℕ) → (j ≡ k → ⊥) → bit (2 ^ j) k ≡ 0
bit_other j k h =
    elim (dec_lt j k) [
      | yes y ↦ bit_below j k y
      | no y ↦ let e : suc (j - (k + 1)) + k ≡ j = omega arith in subst (λ (x : ℕ). bit (2 ^ x) k ≡ 0) e (bit_above (j - (k + 1)) k)
    ]

-- ---- when a fingerprint has the bit of a byte

-- one byte more: afterwards the set has the bit of b exactly if the byte has it or the set had it before
decides_set : (set x b : ℕ) → Decides ((bit_of x ≡ bit_of b) ⊎ (has set b ≡ true)) (has (bit_or (2 ^ bit_of x) set) b)
unfolding has
decides_set set x b =
    let m = bit_or_lem (2 ^ bit_of x) set (bit_of b) in
    decides_iff
    (λ e. elim (ℕ_discrete (bit_of x) (bit_of b)) [
      | yes y ↦ inl y
      | no y ↦ let o = bit_other (bit_of x) (bit_of b) y in inr (eq-eqb (bit set (bit_of b)) 1 (omega arith))
    ])
    (⊎_elim
    (λ e. let s : bit (2 ^ bit_of x) (bit_of b) ≡ 1 = rw e (bit_same (bit_of b)) in omega arith)
    (λ e. let s = eqb-true (bit set (bit_of b)) 1 e in omega arith))
    (decides_eq (bit (bit_or (2 ^ bit_of x) set) (bit_of b)) 1)

-- a byte of x ∷ bytes is x or stands in bytes
module _ (x b : ℕ) (bytes : List ℕ) where
  shares_cons : (bit_of x ≡ bit_of b) ⊎ SharesBit bytes b → SharesBit (x ∷ bytes) b
  shares_cons (inl e) = record { place = 0; within = omega arith; same = e }
  shares_cons (inr s) = record { place = suc s.place; within = omega arith; same = s.same }

  cons_shares : (i : ℕ) → i < length (x ∷ bytes) → bit_of (get_or (x ∷ bytes) i 0) ≡ bit_of b → (bit_of x ≡ bit_of b) ⊎ SharesBit bytes b
  cons_shares zero h e = inl e
  cons_shares (suc i) h e = inr (record { place = i; within = omega arith; same = e })

-- the rest of a string, from any set on
decides_into : (set : ℕ) (bytes : List ℕ) (b : ℕ) → Decides ((has set b ≡ true) ⊎ SharesBit bytes b) (has (into set bytes) b)
unfolding into
decides_into set [] b = record { sound = inl; complete = ⊎_elim (λ h. h) (λ s. absurd (omega arith)) }
decides_into set (x ∷ bytes) b =
    let one = decides_set set x b in
    decides_iff
    (⊎_elim
    (λ h. ⊎_elim (λ e. inr (shares_cons x b bytes (inl e))) inl (one.sound h))
    (λ s. inr (shares_cons x b bytes (inr s))))
    (⊎_elim
    (λ h. inl (one.complete (inr h)))
    (λ s. ⊎_elim (λ e. inl (one.complete (inl e))) inr (cons_shares x b bytes s.place s.within s.same)))
    (decides_into (bit_or (2 ^ bit_of x) set) bytes b)

-- the empty set has no bit
has_none : (b : ℕ) → has 0 b ≡ false
unfolding has
has_none b = rw zero-div

-- a fingerprint says yes for b exactly if some byte of the string shares its bit with b
pub has_decided : (bytes : List ℕ) (b : ℕ) → Decides (SharesBit bytes b) (has (fingerprint bytes) b)
unfolding fingerprint
has_decided bytes b = decides_iff (⊎_elim (λ h. absurd (true≢false (sym h ∙ has_none b))) (λ s. s)) inr (decides_into 0 bytes b)

-- "never no falsely"
pub never_no : (bytes : List ℕ) (i : ℕ) → i < length bytes → has (fingerprint bytes) (get_or bytes i 0) ≡ true
never_no bytes i h = (has_decided bytes (get_or bytes i 0)).complete (record { place = i; within = h; same = refl })

-- ---- the ways through the code

-- a bit is one of a set's 64
pub bit_lt : (b : ℕ) → bit_of b < 64
unfolding bit_of
bit_lt b = mask_lt b 6

-- what byteset_create folds over the bytes
abbrev pub folded : ℕ → List ℕ → ℕ
folded set bytes = fold (λ s b. bit_or s (2 ^ bit_of b)) set bytes

folded_into : (set : ℕ) (bytes : List ℕ) → folded set bytes ≡ into set bytes
unfolding into
folded_into set [] = refl
folded_into set (b ∷ bytes) = folded_into (bit_or set (2 ^ bit_of b)) bytes ∙ ap (λ (s : ℕ). into s bytes) (or_comm set (2 ^ bit_of b))

-- what its answer is once no byte is left, and what that never says
pub created : (bytes : List ℕ) {items : List ℕ} {set i : ℕ} → set ≡ folded 0 (take i items) → length items ≤ i → items ≡ bytes
    → (set ≡ fingerprint bytes) × ((j : ℕ) → j < length bytes → has set (get_or bytes j 0) ≡ true)
unfolding fingerprint
created bytes {items} {set} {i} e h all =
    let made : set ≡ fingerprint bytes = e ∙ ap (folded 0) (take_all i items h ∙ all) ∙ folded_into 0 bytes in
    (made, λ j hj. rw made (never_no bytes j hj))

-- the test of byteset_contains: the mask leaves one bit, which is not 0 exactly if it is 1
pub contains_test : (set k b : ℕ) → k ≡ bit_of b → not (eqb (bit_and (set / 2 ^ k) 1) 0) ≡ has set b
unfolding has
contains_test set k b e = rw (and_mask (set / 2 ^ k) 1, e) (not_zero (bit set (bit_of b)) (omega arith))
  where
    not_zero : (x : ℕ) → x < 2 → not (eqb x 0) ≡ eqb x 1
    not_zero zero h = refl
    not_zero (suc zero) h = refl
    not_zero (suc (suc x)) h = absurd (omega arith)
