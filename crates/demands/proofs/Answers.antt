-- From how a search ends to what the call answers, forward and backward, over words.
-- Assumes nothing.
use Prim.Native.Nat.{ℕ, ◌+◌, ◌-◌, ◌<◌}
use mathlib.Core.Path.{◌≡◌, refl}
use Rattle.std.specs.Prelude.{Option, None, Some, Ok}
use native.Mathlib.Omega.{arith}
use Rattle.words.specs.Word.{Word, mirror}
use Rattle.words.specs.Choice.{FindsLeast}
use Rattle.words.specs.Occurs.{OccursFrom, OccursBelow, mirrored}
use Rattle.words.proofs.Mirror.{Facing, occurs_mirror, mirror_occurs, least_greatest, none_none}
use Rattle.words.proofs.Tests.{least_same, greatest_same}
use Rattle.windows.specs.declared.Plan.{Plan}
use Rattle.windows.specs.declared.Stop.{Stop}
use Rattle.windows.specs.Meaning.{place}
use Rattle.windows.proofs.Windows.{Skips}
use Rattle.windows.proofs.Mirror.{MirroredStop}
use Rattle.search.specs.Calls.{ending_of}
use Rattle.limits.specs.Said.{Said, refused, given}
use Rattle.searcher.specs.Walk.{reject, step_answer, match_answer}
use Rattle.demands.specs.Means.{AnswersLeast, AnswersGreatest, StepMeans, StepBackMeans}
use Rattle.demands.proofs.OneWay.{Settled}

module _ (x h : Word) where
  abbrev m : ℕ
  m = x.size

  abbrev n : ℕ
  n = h.size

  pub answers_least : (a : ℕ) (t : Stop) → FindsLeast (OccursFrom x h a) (place t) → AnswersLeast (OccursFrom x h a) m (match_answer (Ok (ending_of m t)))
  answers_least a (Stop.Hit k) l = (l, refl)
  answers_least a Stop.Passed l = l
  answers_least a Stop.Out l = l

  -- b and a face each other: what starts below b here starts at a or after it in the mirror
  pub answers_greatest : (b a : ℕ) {t t' : Stop} → Facing x h b a → MirroredStop m n t t' → FindsLeast (OccursFrom (mirror x) (mirror h) a) (place t')
      → AnswersGreatest (OccursBelow x h b) m (match_answer (Ok (ending_of m t)))
  answers_greatest b a facing (MirroredStop.hit {k} {k'} q) l =
      let there : k ≡ mirrored x h k' = omega arith in
      (rw there (least_greatest x h b a facing k' l), refl)
  answers_greatest b a facing MirroredStop.passed l = none_none x h b a facing l
  answers_greatest b a facing MirroredStop.out l = none_none x h b a facing l

  -- a step's match moves by the needle's size; all that starts where it stands or after it is still to be given
  module _ (v : Plan) (whole : v.shift ≡ x.size) where
    pub step_settles : (a b : ℕ) (t : Stop) → Settled v x h a b t → StepMeans x h a a b (step_answer (Ok (ending_of m t)) a b)
    step_settles a b (Stop.Hit k) s = let here = s.0 in let there = s.1 in (here, omega arith, refl, (omega arith, rw here s.2))
    step_settles a b Stop.Passed s = (refl, refl, s.0, s.1)
    step_settles a b Stop.Out s = (refl, refl, s.0, s.1)

    -- what is settled in the mirror, from e' up to a', is settled here, from a up to e
    module _ (e a e' a' : ℕ) (before : e + e' ≡ n) (after : a + a' ≡ n) where
      rejects_back : (e' < a') × Skips (mirror x) (mirror h) e' a' → StepBackMeans x h (e + 1 - m) e a (given (reject a e))
      rejects_back s =
          let less = s.0 in
          (refl, refl, omega arith, λ j lo hi o. s.1 (mirrored x h j) (omega arith) (let fits = o.fits in omega arith) (occurs_mirror x h j o))

      pub step_settles_back : {t t' : Stop} → MirroredStop m n t t' → Settled v (mirror x) (mirror h) e' a' t' → StepBackMeans x h (e + 1 - m) e a (step_answer (Ok (ending_of m t)) a e)
      step_settles_back (MirroredStop.hit {k} {k'} q) s =
          let here = s.0 in
          let there = s.1 in
          let start : k ≡ mirrored x h e' = omega arith in
          let occurs = s.2 in
          let inside = occurs.fits in
          (omega arith, omega arith, refl, (omega arith, rw start (mirror_occurs x h e' occurs)))
      step_settles_back MirroredStop.passed s = rejects_back s
      step_settles_back MirroredStop.out s = rejects_back s

-- where P and Q hold of the same places, an answer says the same of both
module _ (P Q : ℕ → Type 0) (to : (j : ℕ) → P j → Q j) (from : (j : ℕ) → Q j → P j) (m : ℕ) where
  pub least_answer_same : (a : Said (Option (ℕ × ℕ))) → AnswersLeast P m a → AnswersLeast Q m a
  least_answer_same (given (Some (k, e))) l = (least_same to from l.0, l.1)
  least_answer_same (given None) l = λ j q. l j (from j q)
  least_answer_same (refused number) l = l

  pub greatest_answer_same : (a : Said (Option (ℕ × ℕ))) → AnswersGreatest P m a → AnswersGreatest Q m a
  greatest_answer_same (given (Some (k, e))) g = (greatest_same to from g.0, g.1)
  greatest_answer_same (given None) l = λ j q. l j (from j q)
  greatest_answer_same (refused number) g = g
