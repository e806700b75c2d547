-- A state that fits stays fitting, and only a step where matches may overlap is refused: of both kinds of walk. No call refuses by 3, and none changes what preparing fixed.
-- Assumes nothing.
use Prim.Native.Nat.{ℕ}
use mathlib.Core.Path.{◌≡◌, refl, sym, ◌∙◌, subst}
use mathlib.Core.Bool.{Bool, true, false, cond, ◌&&◌, false≢true}
use mathlib.Core.Logic.{⊎_elim}
use mathlib.Core.List.{List, [], ◌∷◌}
use native.Mathlib.Omega.{arith}
use lib.Dec.{eqb}
use lib.ListN.{length}
use Rattle.std.specs.Prelude.{Result, Ok, Err}
use Rattle.limits.specs.declared.Refusal.{Refusal}
use Rattle.limits.specs.declared.Refusal.TheVariants.{StateDoesNotFit, StepOverlapping}
use Rattle.limits.specs.Refusals.{number_of}
use Rattle.limits.specs.Checks.{Check, lengths, refuse_if, and_then}
use Rattle.limits.specs.Said.{refused}
use Rattle.limits.proofs.Checks.{lengths_refuse}
use Rattle.record.specs.declared.Kind.{Kind}
use Rattle.record.specs.declared.Kind.TheVariants.{TwoWay, Empty}
use Rattle.record.specs.declared.Mode.{Mode}
use Rattle.record.specs.declared.Fixed.{Fixed}
use Rattle.record.specs.declared.Moving.{Moving}
use Rattle.record.specs.Kinds.{overlaps}
use Rattle.record.specs.Fits.{fits, fitting}
use Rattle.windows.specs.declared.Stop.{Stop}
use Rattle.search.specs.declared.Ending.{Ending}
use Rattle.search.specs.declared.Walked.{Walked}
use Rattle.prepare.specs.Prepare.{five_steps, empty_walk, or_parts, prepare_rule}
use Rattle.prepare.proofs.Ready.{prepared_ready}
use Rattle.search.specs.Calls.{refusal, free, ending_of, forward, backward, forward_call, backward_call}
use Rattle.search.proofs.Calls.{Passed, refusal_passed, refused as call_refused}
use Rattle.searcher.specs.declared.TwoWaySearcher.{TwoWaySearcher}
use Rattle.searcher.specs.Walk.{new_rule, step_answer, match_answer}
use Rattle.demands.specs.Allowed.{Allowed}
use Rattle.demands.specs.Reached.{Call, called, after}
use Rattle.demands.specs.Stays.{Stays, NeverThree, FixedStays}
use Rattle.demands.proofs.Calls.{passes, forward_goes, backward_goes, forward_cases, backward_cases}
use Rattle.demands.proofs.Turns.{goes_ahead, goes_back, forward_turns, backward_turns}

-- what a call came to is no refusal, be it a step or a next match
abbrev Answers : Result Ending Refusal → Type 0
Answers e = (number : ℕ) → ((low high : ℕ) → step_answer e low high ≡ refused number → ⊥) × (match_answer e ≡ refused number → ⊥)

-- two answers that `cc` tells apart
apart : ◌≡◌ {A = ℕ} 0 1 → ⊥
apart e = omega arith

match_is : (a b : ℕ) → Answers (Ok (Ending.Match a b))
match_is a b number = ((λ low high e. apart cc), λ e. apart cc)

passed_is : Answers (Ok Ending.Passed)
passed_is number = ((λ low high e. apart cc), λ e. apart cc)

done_is : Answers (Ok Ending.Done)
done_is number = ((λ low high e. apart cc), λ e. apart cc)

stop_is : (m : ℕ) (t : Stop) → Answers (Ok (ending_of m t))
stop_is m (Stop.Hit k) = match_is k _
stop_is m Stop.Passed = passed_is
stop_is m Stop.Out = λ number. ((λ low high e. apart cc), λ e. apart cc)

module _ (needle haystack : List ℕ) (ok : Allowed needle haystack) (f : Fixed) (s : Moving) (fit : fits needle haystack f s ≡ true) where
  abbrev Left : Walked → Type 0
  Left r = (fits needle haystack f r.moving ≡ true) × Answers r.ending

  -- of a call that is no step where matches may overlap
  module _ (stepping : Bool) (allowed : (stepping && overlaps f.mode) ≡ false) where
    refuses : {A : Type 0} → (stepping && overlaps f.mode) ≡ true → A
    refuses e = absurd (false≢true (sym allowed ∙ e))

    forward_left : Left (forward_call stepping needle haystack f s)
    forward_left = go s.kind refl
      where
        go : (kind : Kind) → s.kind ≡ kind → Left (forward_call stepping needle haystack f s)
        go TwoWay e =
            forward_cases needle haystack ok f s fit e Left stepping refuses (λ _ _. (fit, done_is))
            (λ _ _. ((forward_goes needle haystack ok f s fit e stepping).fit, stop_is (length needle) (forward stepping needle haystack f s).stop))
        go (Empty ahead behind) e = (
          (goes_ahead needle haystack ok f s fit e stepping).fits_again,
          forward_turns needle haystack ok f s fit e (λ r. Answers r.ending) stepping refuses (λ _. match_is _ _) (λ _ _. done_is) (λ _ _ _. passed_is) (λ _ _ _. match_is _ _),
        )

    backward_left : Left (backward_call stepping needle haystack f s)
    backward_left = go s.kind refl
      where
        go : (kind : Kind) → s.kind ≡ kind → Left (backward_call stepping needle haystack f s)
        go TwoWay e =
            backward_cases needle haystack ok f s fit e Left stepping refuses (λ _ _. (fit, done_is))
            (λ _ _. ((backward_goes needle haystack ok f s fit e stepping).fit, stop_is (length needle) (backward stepping needle haystack f s).stop))
        go (Empty ahead behind) e = (
          (goes_back needle haystack ok f s fit e stepping).fits_again,
          backward_turns needle haystack ok f s fit e (λ r. Answers r.ending) stepping refuses (λ _. match_is _ _) (λ _ _. done_is) (λ _ _ _. passed_is) (λ _ _ _. match_is _ _),
        )

  -- a step where they may is refused
  module _ (may : overlaps f.mode ≡ true) where
    last_check : refusal true needle haystack f s ≡ Err StepOverlapping
    last_check = passes needle haystack ok f s fit true ∙ rw may

    pub step_refused : forward_call true needle haystack f s ≡ free (Err StepOverlapping) s
    step_refused = sym (call_refused needle haystack f s false true (sym last_check) refl)

    pub step_back_refused : backward_call true needle haystack f s ≡ free (Err StepOverlapping) s
    step_back_refused = sym (call_refused needle haystack f s true true (sym last_check) refl)

-- no call is refused but such a step, and the state that it hands back fits
pub fits_stays : (needle haystack : List ℕ) → Allowed needle haystack → (s : TwoWaySearcher) → fits needle haystack s.fixed s.moving ≡ true → Stays needle haystack s
fits_stays needle haystack ok s fit =
    let ahead : (stepping : Bool) → (stepping && overlaps s.fixed.mode) ≡ false → Left needle haystack ok s.fixed s.moving fit (forward_call stepping needle haystack s.fixed s.moving) =
    forward_left needle haystack ok s.fixed s.moving fit in
    let behind : (stepping : Bool) → (stepping && overlaps s.fixed.mode) ≡ false → Left needle haystack ok s.fixed s.moving fit (backward_call stepping needle haystack s.fixed s.moving) =
    backward_left needle haystack ok s.fixed s.moving fit in
    record {
      next = record {
        apart = λ e. ((ahead true e).0, λ number. ((ahead true e).1 number).0 _ _);
        overlapping = λ e. rw (step_refused needle haystack ok s.fixed s.moving fit e);
      };
      next_back = record {
        apart = λ e. ((behind true e).0, λ number. ((behind true e).1 number).0 _ _);
        overlapping = λ e. rw (step_back_refused needle haystack ok s.fixed s.moving fit e);
      };
      next_match = ((ahead false refl).0, λ number. ((ahead false refl).1 number).1);
      next_match_back = ((behind false refl).0, λ number. ((behind false refl).1 number).1);
    }

-- ---- what preparing fixed

pub fixed_stays : (needle haystack : List ℕ) (s : TwoWaySearcher) (calls : List Call) → FixedStays needle haystack s calls
unfolding after called
fixed_stays needle haystack s [] = refl
fixed_stays needle haystack s (Call.next ∷ earlier) = fixed_stays needle haystack s earlier
fixed_stays needle haystack s (Call.next_back ∷ earlier) = fixed_stays needle haystack s earlier
fixed_stays needle haystack s (Call.next_match ∷ earlier) = fixed_stays needle haystack s earlier
fixed_stays needle haystack s (Call.next_match_back ∷ earlier) = fixed_stays needle haystack s earlier

-- ---- refusal 3

-- what the checks refuse by
lengths_not_three : (n m : ℕ) {why : Refusal} → lengths n m ≡ Err why → number_of why ≡ 3 → ⊥
lengths_not_three n m e three = ⊎_elim (λ one. let is = one.0 in omega arith) (λ two. let is = two.0 in omega arith) (lengths_refuse n m refl e)

refusal_not_three : (stepping : Bool) (needle haystack : List ℕ) (f : Fixed) (s : Moving) {why : Refusal} → refusal stepping needle haystack f s ≡ Err why → number_of why ≡ 3 → ⊥
unfolding refusal fitting
refusal_not_three stepping needle haystack f s {why} = go (lengths (length haystack) (length needle)) (fits needle haystack f s) (stepping && overlaps f.mode) refl
  where
    go : (l : Check) (b o : Bool) → lengths (length haystack) (length needle) ≡ l
        → and_then l (and_then (cond b (Ok tt) (Err StateDoesNotFit)) (refuse_if o StepOverlapping)) ≡ Err why → number_of why ≡ 3 → ⊥
    go (Err _) b o el e three = lengths_not_three _ _ (el ∙ e) three
    go (Ok checked) false o el e three = let z : number_of StateDoesNotFit ≡ 3 = cc in omega arith
    go (Ok checked) true true el e three = let z : number_of StepOverlapping ≡ 3 = cc in omega arith
    go (Ok checked) true false el e three = apart cc

-- what a call came to is no refusal by 3
abbrev NotByThree : Result Ending Refusal → Type 0
NotByThree e = ((low high : ℕ) → step_answer e low high ≡ refused 3 → ⊥) × (match_answer e ≡ refused 3 → ⊥)

by_number : (why : Refusal) → (number_of why ≡ 3 → ⊥) → NotByThree (Err why)
by_number why other = ((λ low high e. let z : number_of why ≡ 3 = cc in other z), λ e. let z : number_of why ≡ 3 = cc in other z)

module _ (needle haystack : List ℕ) (f : Fixed) (s : Moving) (stepping : Bool) where
  -- a call is refused by the checks, or not at all
  not_three : (w : Walked) → (Passed needle haystack f s stepping → Answers w.ending)
      → ((why : Refusal) → refusal stepping needle haystack f s ≡ Err why → free (Err why) s ≡ w) → NotByThree w.ending
  not_three w went by = go (refusal stepping needle haystack f s) refl
    where
      go : (c : Check) → refusal stepping needle haystack f s ≡ c → NotByThree w.ending
      go (Ok checked) e = went (refusal_passed needle haystack f s stepping e) 3
      go (Err why) e = subst (λ (r : Walked). NotByThree r.ending) (by why e) (by_number why (refusal_not_three stepping needle haystack f s e))

  forward_three : NotByThree (forward_call stepping needle haystack f s).ending
  forward_three =
      not_three (forward_call stepping needle haystack f s)
      (λ p. (forward_left needle haystack (record { within = p.within }) f s p.fit stepping p.no_overlapping_step).1)
      (λ why e. call_refused needle haystack f s false stepping (sym e) refl)

  backward_three : NotByThree (backward_call stepping needle haystack f s).ending
  backward_three =
      not_three (backward_call stepping needle haystack f s)
      (λ p. (backward_left needle haystack (record { within = p.within }) f s p.fit stepping p.no_overlapping_step).1)
      (λ why e. call_refused needle haystack f s true stepping (sym e) refl)

-- preparing refuses by the lengths alone
new_three : (needle : List ℕ) (n : ℕ) (mode : Mode) → (new_rule needle n mode).answer ≡ refused 3 → ⊥
unfolding prepare_rule
new_three needle n mode = go (lengths n (length needle)) (eqb (length needle) 0) refl
  where
    go : (c : Check) (b : Bool) → lengths n (length needle) ≡ c → (or_parts c (cond b (empty_walk n mode) (five_steps needle n mode))).answer ≡ refused 3 → ⊥
    go (Err why) b el e = let z : number_of why ≡ 3 = cc in lengths_not_three n (length needle) el z
    go (Ok checked) true el e = apart cc
    go (Ok checked) false el e = let q = prepared_ready needle n mode in apart cc

pub never_three : (needle haystack : List ℕ) (s : TwoWaySearcher) → NeverThree needle haystack s
never_three needle haystack s =
    record {
      new = new_three needle (length haystack);
      next = (forward_three needle haystack s.fixed s.moving true).0 _ _;
      next_back = (backward_three needle haystack s.fixed s.moving true).0 _ _;
      next_match = (forward_three needle haystack s.fixed s.moving false).1;
      next_match_back = (backward_three needle haystack s.fixed s.moving false).1;
    }
