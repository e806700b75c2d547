-- Where a word stands in another, and which of these places a walk lists.
-- Assumes nothing.
use Rattle.std.specs.Prelude.{ℕ, zero, suc, ◌+◌, ◌-◌, ◌<◌, ◌≤◌, ◌≡◌, Bool, cond, ◌&&◌, List, [], ◌∷◌, map, leb, eqb}
use Rattle.words.specs.Word.{Word, mirror}
use Rattle.words.specs.Choice.{Least, Greatest, Nowhere, every, first_from}

-- x occurs in h at k: it fits there, and each of its letters is the one of h that it stands at
pub record Occurs (x h : Word) (k : ℕ) : Type 0 where
  pub fits : k + x.size ≤ h.size
  pub same : (i j : ℕ) → i < x.size → j ≡ k + i → x.letter i ≡ h.letter j

-- the test for it
unfoldable pub occursb : Word → Word → ℕ → Bool
occursb x h k = leb (k + x.size) h.size && every x.size (λ i. eqb (x.letter i) (h.letter (k + i)))

-- an occurrence that starts at a or after it
abbrev pub OccursFrom : Word → Word → ℕ → ℕ → Type 0
OccursFrom x h a k = (a ≤ k) × Occurs x h k

-- an occurrence that starts before b
abbrev pub OccursBelow : Word → Word → ℕ → ℕ → Type 0
OccursBelow x h b k = (k < b) × Occurs x h k

-- The greedy leftmost list from a on: the least occurrence from a on, and then the list from `gap` past its start on.
-- The occurrences that do not overlap are those at a gap of x's size; at a gap of 1 the list has every occurrence. A whole list starts at 0.
pub data Leftmost (x h : Word) (gap : ℕ) : ℕ → List ℕ → Type 0 where
  over : {a : ℕ} → Nowhere (OccursFrom x h a) → Leftmost x h gap a []
  hit : {a k : ℕ} {ks : List ℕ} → Least (OccursFrom x h a) k → Leftmost x h gap (k + gap) ks → Leftmost x h gap a (k ∷ ks)

-- The greedy rightmost list below b: the greatest occurrence that starts below b, and then the list of those that start `gap` or more before it.
-- A whole list starts at b = n + 1, which is above every start: an empty word occurs at n too.
pub data Rightmost (x h : Word) (gap : ℕ) : ℕ → List ℕ → Type 0 where
  over : {b : ℕ} → Nowhere (OccursBelow x h b) → Rightmost x h gap b []
  hit : {b k : ℕ} {ks : List ℕ} → Greatest (OccursBelow x h b) k → Rightmost x h gap (k + 1 - gap) ks → Rightmost x h gap b (k ∷ ks)

-- the least occurrence from a on, or a number that is above h's size
unfoldable pub next_from : Word → Word → ℕ → ℕ
next_from x h a = first_from (h.size + 1 - a) a (occursb x h)

-- the leftmost list, computed: of its first argument's many hits at most
unfoldable pub leftmost : ℕ → Word → Word → ℕ → ℕ → List ℕ
leftmost zero x h gap a = []
leftmost (suc most) x h gap a =
    let k = next_from x h a in
    let hits = k ∷ leftmost most x h gap (k + gap) in
    cond (leb k h.size) hits []

-- where an occurrence stands, counted from the other end
abbrev pub mirrored : Word → Word → ℕ → ℕ
mirrored x h k = h.size - (k + x.size)

-- the rightmost list, computed: the leftmost one of the words read from the back. What starts below b starts there at n + 1 - (m + b) or after it.
unfoldable pub rightmost : ℕ → Word → Word → ℕ → ℕ → List ℕ
rightmost most x h gap b = map (mirrored x h) (leftmost most (mirror x) (mirror h) gap (h.size + 1 - (x.size + b)))
