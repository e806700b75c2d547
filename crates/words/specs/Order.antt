-- The two orders on letters and on words, and what it is to be the maximal suffix: 01's "Words about words".
-- Assumes nothing.
use Rattle.std.specs.Prelude.{ℕ, ◌+◌, ◌<◌, ◌≤◌, min, ◌≡◌, Bool, true, false, cond, not, ◌||◌, ◌⊎◌, ltb, eqb}
use Rattle.words.specs.Word.{Word, suffix}
use Rattle.words.specs.Choice.{every, least}

-- "in byte order (`order_greater` false) or in the order with bytes reversed (true)": a is below b
abbrev pub Below : Bool → ℕ → ℕ → Type 0
Below false a b = a < b
Below true a b = b < a

abbrev pub below : Bool → ℕ → ℕ → Bool
below false a b = ltb a b
below true a b = ltb b a

-- u is less than v: they agree up to index k, and there either both have a letter and u's is below v's, or u ends and v does not
-- ("in both, a proper prefix is less than the longer word")
pub record Less (g : Bool) (u v : Word) : Type 0 where
  pub k : ℕ
  pub same : (i : ℕ) → i < k → u.letter i ≡ v.letter i
  pub more : k < v.size
  pub parts : ((k < u.size) × Below g (u.letter k) (v.letter k)) ⊎ (k ≡ u.size)

-- the test for it: k is the first index at which they differ, or where one of them ends
unfoldable pub lessb : Bool → Word → Word → Bool
lessb g u v =
    let shorter = min u.size v.size in
    let k = least shorter (λ i. not (eqb (u.letter i) (v.letter i))) in
    cond (ltb k shorter) (below g (u.letter k) (v.letter k)) (ltb u.size v.size)

-- "The maximal suffix is the greatest suffix": the one that starts at s is above each other, the empty one among them
pub record MaximalSuffix (g : Bool) (x : Word) (s : ℕ) : Type 0 where
  pub within : s ≤ x.size
  pub greatest : (t : ℕ) → t ≤ x.size → (t ≡ s → ⊥) → Less g (suffix x t) (suffix x s)

unfoldable pub maximalb : Bool → Word → ℕ → Bool
maximalb g x s = every (x.size + 1) (λ t. eqb t s || lessb g (suffix x t) (suffix x s))

-- where the maximal suffix starts, computed
unfoldable pub maximal_suffix : Bool → Word → ℕ
maximal_suffix g x = least (x.size + 1) (maximalb g x)
