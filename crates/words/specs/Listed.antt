-- Lists of numbers that leave nothing out: what it rests on that a walk "lists every occurrence, each once, rising forward and falling backward" (02 [3]).
-- Beside them the executable form, in which a test stands for the property; proofs/Listed.antt shows that they agree.
-- Assumes nothing.
use Rattle.std.specs.Prelude.{ℕ, zero, suc, ◌+◌, ◌<◌, Bool, cond, List, [], ◌∷◌}
use Rattle.words.specs.Word.{Word}
use Rattle.words.specs.Occurs.{occursb}

-- k stands in the list
pub data In (k : ℕ) : List ℕ → Type 0 where
  here : {ks : List ℕ} → In k (k ∷ ks)
  later : {j : ℕ} {ks : List ℕ} → In k ks → In k (j ∷ ks)

-- each number comes before all that stand behind it
pub data Ordered (before : ℕ → ℕ → Type 0) : List ℕ → Type 0 where
  over : Ordered before []
  first : {k : ℕ} {ks : List ℕ} → ((j : ℕ) → In j ks → before k j) → Ordered before ks → Ordered before (k ∷ ks)

-- the list has every number that has P, and no other, in that order
pub record Lists (before : ℕ → ℕ → Type 0) (P : ℕ → Type 0) (ks : List ℕ) : Type 0 where
  pub every : (k : ℕ) → P k → In k ks
  pub only : (k : ℕ) → In k ks → P k
  pub ordered : Ordered before ks

-- rising, and falling: so that none stands twice
abbrev pub Rising : (ℕ → Type 0) → List ℕ → Type 0
Rising = Lists ◌<◌

abbrev pub Falling : (ℕ → Type 0) → List ℕ → Type 0
Falling = Lists (λ k j. j < k)

-- of the n numbers from i on, those at which the test f holds, each tried by itself
unfoldable pub passing : ℕ → ℕ → (ℕ → Bool) → List ℕ
passing zero i f = []
passing (suc n) i f = let later = passing n (i + 1) f in cond (f i) (i ∷ later) later

-- every occurrence of x in h, computed
abbrev pub occurrences : Word → Word → List ℕ
occurrences x h = passing (h.size + 1) 0 (occursb x h)
