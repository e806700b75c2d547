-- What each return of the two calls has to show, and that no second answer fits the meaning.
-- Assumes nothing.
use Prim.Native.Nat.{ℕ, ◌<◌}
use mathlib.Core.Path.{◌≡◌, refl, sym, ◌∙◌, ap, subst}
use mathlib.Core.Bool.{Bool, true, false, cond}
use mathlib.Core.List.{List}
use Rattle.std.specs.Prelude.{None, Some}
use lib.Dec.{ltb}
use lib.ListN.{length}
use borrow.Author.Tests.{ltb-true, ltb-false}
use Rattle.words.specs.Word.{Word, front, back, suffix}
use Rattle.words.specs.Period.{Period, SmallestPeriod}
use Rattle.words.proofs.Tests.{least_alone}
use Rattle.words.proofs.Mirror.{period_mirror}
use Rattle.words.proofs.Order.{maximal_alone}
use Rattle.limits.specs.Bounds.{needle_bound}
use Rattle.limits.specs.Said.{Said, refused, given}
use Rattle.suffix.specs.Rounds.{rounds}
use Rattle.suffix.specs.Answer.{IsFound, maximal_rule, MaximalMeaning, reverse_rule, ReverseMeaning}
use Rattle.suffix.specs.declared.Suffix.{Suffix}
use Rattle.suffix.specs.declared.ReverseSuffix.{ReverseSuffix}
use Rattle.suffix.proofs.Steps.{few_rounds}
use Rattle.suffix.proofs.Maximal.{plain_found, known_found}

-- what each call's rule means

pub maximal_means : (g : Bool) (w : List ℕ) → MaximalMeaning g w (maximal_rule g w)
unfolding maximal_rule
maximal_means g w = go (ltb needle_bound (length w)) refl
  where
    go : (t : Bool) → ltb needle_bound (length w) ≡ t → MaximalMeaning g w (cond t (refused 2) (given (rounds g (front w) None)))
    go true e = (ltb-true _ _ e, refl)
    go false e = (ltb-false _ _ e, plain_found g (front w))

pub reverse_means : (g : Bool) (known : ℕ) (w : List ℕ) → ReverseMeaning g known w (reverse_rule g known w)
unfolding reverse_rule
reverse_means g known w = go (ltb needle_bound (length w)) refl
  where
    go : (t : Bool) → ltb needle_bound (length w) ≡ t
        → ReverseMeaning g known w (let r = rounds g (back w) (Some known) in cond t (refused 2) (given (record { start = r.start; rounds = r.rounds })))
    go true e = (ltb-true _ _ e, refl)
    go false e = (
      ltb-false _ _ e,
      few_rounds g (back w) (Some known),
      λ P. (known_found g (back w) known (period_mirror (front w) known P)).maximal,
    )

-- what the rounds give, once check 2 has passed
pub passed_gives : {A : Type 0} {t : Bool} {a b : A} → t ≡ false → a ≡ b → given b ≡ cond t (refused 2) (given a)
passed_gives e f = rw (e, f)

-- of the reversed word's suffix, the start and the rounds
abbrev pub halved : Said Suffix → Said ReverseSuffix
halved (given s) = given (record { start = s.start; rounds = s.rounds })
halved (refused number) = refused number

pub reverse_halves : (g : Bool) (known : ℕ) (w : List ℕ) {r : Said Suffix} → r ≡ cond (ltb needle_bound (length w)) (refused 2) (given (rounds g (back w) (Some known)))
    → halved r ≡ reverse_rule g known w
unfolding reverse_rule
reverse_halves g known w e = ap halved e ∙ go (ltb needle_bound (length w)) (rounds g (back w) (Some known))
  where
    go : (t : Bool) (s : Suffix) → halved (cond t (refused 2) (given s)) ≡ cond t (refused 2) (given (record { start = s.start; rounds = s.rounds }))
    go true s = refl
    go false s = refl

-- no second start and period fit the meaning
pub found_alone : (g : Bool) (x : Word) (r q : Suffix) → 0 < x.size → IsFound g x r → IsFound g x q → (r.start ≡ q.start) × (r.period ≡ q.period)
found_alone g x r q h a b =
    let e = maximal_alone g x r.start q.start a.maximal b.maximal in
    (e, least_alone (Period (suffix x r.start)) r.period q.period (a.period h) (subst (λ (s : ℕ). SmallestPeriod (suffix x s) q.period) (sym e) (b.period h)))
