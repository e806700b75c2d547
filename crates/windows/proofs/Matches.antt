-- What follows a match: the walk moves past the needle and remembers nothing, or it moves and remembers as after a difference in the second part.
-- Either way the plan keeps its shape and guides its walk. So it lists what does not overlap, or every occurrence.
-- Assumes nothing.
use Prim.Native.Nat.{ℕ, ◌+◌, ◌-◌, ◌<◌, ◌≤◌, max}
use mathlib.Core.Path.{◌≡◌, sym, ◌∙◌}
use mathlib.Core.Bool.{Bool}
use native.Mathlib.Omega.{arith}
use Rattle.words.specs.Word.{Word}
use Rattle.words.specs.Occurs.{Occurs}
use Rattle.words.specs.Period.{Period}
use Rattle.words.proofs.Critical.{smallest_le}
use Rattle.windows.specs.declared.Plan.{Plan}
use Rattle.windows.specs.Meaning.{Guides, Gap}
use Rattle.windows.specs.Shape.{Shape}

-- of a plan for a needle of m letters
pub data Follows (v : Plan) (m : ℕ) : Type 0 where
  past_needle : v.shift ≡ m → v.shift_memory ≡ 0 → Follows v m
  by_period : v.shift ≡ v.period → v.shift_memory ≡ v.period_memory → Follows v m

-- what a match asks of a plan's numbers, a difference asks as well
pub follows_shape : {v : Plan} {m : ℕ} → Follows v m → v.split < m → v.split < v.period → v.period_memory + v.period ≤ m → m ≤ v.period + max v.split v.period_memory
    → Shape v m
follows_shape (Follows.past_needle s k) inside ahead fits reach = omega arith
follows_shape (Follows.by_period s k) inside ahead fits reach = omega arith

-- and of its letters
module _ {v : Plan} {x : Word} (some : 0 < x.size) (ahead : v.split < v.period) (fits : v.period_memory + v.period ≤ x.size)
    (same : (i j : ℕ) → i < v.period_memory → j ≡ i + v.period → x.letter i ≡ x.letter j) where
  pub follows_positive : Follows v x.size → 0 < v.shift
  follows_positive (Follows.past_needle s k) = omega arith
  follows_positive (Follows.by_period s k) = omega arith

  pub follows_fits : Follows v x.size → v.shift_memory + v.shift ≤ x.size
  follows_fits (Follows.past_needle s k) = omega arith
  follows_fits (Follows.by_period s k) = omega arith

  pub follows_same : Follows v x.size → (i j : ℕ) → i < v.shift_memory → j ≡ i + v.shift → x.letter i ≡ x.letter j
  follows_same (Follows.past_needle s k) i j h e = absurd (omega arith)
  follows_same (Follows.by_period s k) i j h e = same i j (omega arith) (omega arith)

-- a match that moves by the needle's size: the walk lists what does not overlap
pub gap_whole : {v : Plan} {x : Word} {gap : ℕ} → v.shift ≡ gap → 0 < gap → Gap v x gap
gap_whole e pos = record { positive = pos; within = omega arith; between = λ h k j o lo hi p. absurd (omega arith) }

-- two occurrences that overlap stand a period of the needle apart
occurs_period : {x h : Word} {k j : ℕ} → Occurs x h k → Occurs x h j → k < j → j ≤ k + x.size → Period x (j - k)
occurs_period {x} {h} {k} {j} o p lo hi =
    record {
      positive = omega arith;
      within = omega arith;
      repeats = λ i l e inside. p.same i (j + i) (omega arith) (omega arith) ∙ sym (o.same l (j + i) inside (omega arith));
    }

-- a match that moves by a period that is no more than the smallest: it misses none, and the walk lists every occurrence
pub gap_every : {has : ℕ → Bool} {v : Plan} {x : Word} → Guides has v x → v.shift ≡ v.period → Gap v x 1
gap_every {v = v} {x} g e =
    let pos = g.shift_positive in
    let least = g.period_least in
    let within = g.smallest_is.holds.within in
    record {
      positive = omega arith;
      within = omega arith;
      between = λ h k j o lo hi p. let far = smallest_le g.smallest_is (occurs_period o p (omega arith) (omega arith)) in omega arith;
    }
