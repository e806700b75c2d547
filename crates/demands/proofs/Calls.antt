-- What a call does to a two way state that fits: it is a search that moves its own direction's cursor, or nothing where a step answers Done or is refused
-- because matches may overlap, and the state that it hands back fits again. This holds of every such state, prepared or not.
-- m is the needle's size and n the haystack's.
-- Assumes nothing.
use Prim.Native.Nat.{ℕ, ◌+◌, ◌-◌, ◌≤◌}
use mathlib.Core.Path.{◌≡◌, refl, sym, subst}
use mathlib.Core.Bool.{Bool, true, false, cond, ◌&&◌}
use mathlib.Core.List.{List}
use mathlib.Core.Logic.{inl, inr, ⊎_elim}
use native.Mathlib.Omega.{arith}
use lib.Dec.{eqb}
use lib.ListN.{length}
use borrow.Author.Tests.{eqb-true, eqb-false}
use Rattle.words.specs.Word.{front, mirror}
use Rattle.limits.specs.Checks.{refuse_if}
use Rattle.limits.specs.declared.Refusal.TheVariants.{StepOverlapping}
use Rattle.limits.proofs.Room.{haystack_room, needle_room}
use Rattle.limits.proofs.Checks.{within_passes}
use Rattle.byteset.specs.Fingerprint.{has}
use Rattle.windows.specs.declared.Plan.{Plan}
use Rattle.windows.specs.declared.Stop.{Stop}
use Rattle.windows.specs.declared.Searched.{Searched}
use Rattle.windows.specs.Mirror.{mirrored_plan, mirrored_cursor}
use Rattle.windows.proofs.Counts.{search_ends}
use Rattle.windows.proofs.Mirror.{MirroredSearched, mirrored_cursor_is, search_mirrored}
use Rattle.record.specs.declared.Kind.TheVariants.{TwoWay}
use Rattle.record.specs.declared.Fixed.{Fixed}
use Rattle.record.specs.declared.Moving.{Moving}
use Rattle.record.specs.Fits.{fits, fitting}
use Rattle.record.specs.Kinds.{flags_of, overlaps, forward_plan, backward_plan, forward_cursor, backward_cursor, moved_forward, moved_backward, backward_period_memory}
use Rattle.record.proofs.Fitting.{forward_follows, backward_follows, two_way_some, fits_forward, fits_backward}
use Rattle.record.proofs.Moves.{Goes, known_now, known_back_now, moved_forward_lem, moved_backward_lem}
use Rattle.std.specs.Prelude.{Ok, Err}
use Rattle.search.specs.declared.Ending.{Ending}
use Rattle.search.specs.declared.Walked.{Walked}
use Rattle.search.specs.Calls.{step_check, refusal, free, ending_of, or_walked, forward, backward, walked_forward, walked_backward, forward_by, backward_by, forward_call, backward_call}
use Rattle.searcher.specs.Walk.{step_answer, match_answer}
use Rattle.demands.specs.Allowed.{Allowed}
use Rattle.demands.specs.Reached.{step_matches, next_matches}
use Rattle.demands.proofs.OneWay.{searched, hits, Remembered, follows_remembered, searched_memory}

-- ---- the answers

-- two answers that `cc` tells apart
apart : ◌≡◌ {A = ℕ} 0 1 → ⊥
apart e = omega arith

-- what a search is to a step or a next match: its matches
module _ (m : ℕ) where
  pub step_hits : (low high : ℕ) (t : Stop) → step_matches (step_answer (Ok (ending_of m t)) low high) ≡ hits t
  step_hits low high (Stop.Hit k) = refl
  step_hits low high Stop.Passed = refl
  step_hits low high Stop.Out = refl

  pub match_hits : (t : Stop) → next_matches (match_answer (Ok (ending_of m t))) ≡ hits t
  match_hits (Stop.Hit k) = refl
  match_hits Stop.Passed = refl
  match_hits Stop.Out = refl

-- a step's test whether it is Done, which a next match does not make
by_done : {A : Type 0} (P : A → Type 0) {still more : A} (stepping : Bool) (a b : ℕ) → (stepping ≡ true → a ≡ b → P still) → ((stepping ≡ true → a ≡ b → ⊥) → P more)
    → P (cond (stepping && eqb a b) still more)
by_done P {still} {more} true a b p q = go (eqb a b) refl
  where
    go : (t : Bool) → eqb a b ≡ t → P (cond t still more)
    go true e = p refl (eqb-true a b e)
    go false e = q (λ s. eqb-false a b e)
by_done P false a b p q = q (λ s. let z : ◌≡◌ {A = ℕ} 0 1 = cc in absurd (apart z))

-- of the checks only the last can refuse a state that fits
pub passes : (needle haystack : List ℕ) → Allowed needle haystack → (f : Fixed) (s : Moving) → fits needle haystack f s ≡ true → (stepping : Bool)
    → refusal stepping needle haystack f s ≡ step_check stepping f.mode
unfolding refusal fitting
passes needle haystack ok f s fit stepping = rw (within_passes (length haystack) (length needle) ok.within, fit)

-- it refuses a step where matches may overlap: what has to be shown of that
abbrev pub StepRefused : (Walked → Type 0) → Bool → Fixed → Moving → Type 0
StepRefused P stepping f s = (stepping && overlaps f.mode) ≡ true → P (free (Err StepOverlapping) s)

pub by_check : (P : Walked → Type 0) (stepping : Bool) (f : Fixed) (s : Moving) {otherwise : Walked} → StepRefused P stepping f s
    → ((stepping && overlaps f.mode) ≡ false → P otherwise)
    → P (or_walked (step_check stepping f.mode) s otherwise)
by_check P stepping f s {otherwise} refuses passes_it = go (stepping && overlaps f.mode) refl
  where
    go : (b : Bool) → (stepping && overlaps f.mode) ≡ b → P (or_walked (refuse_if b StepOverlapping) s otherwise)
    go true e = refuses e
    go false e = passes_it e

module _ (needle haystack : List ℕ) (ok : Allowed needle haystack) (f : Fixed) (s : Moving) (fit : fits needle haystack f s ≡ true) (two_way : s.kind ≡ TwoWay) where
  abbrev m : ℕ
  m = length needle

  abbrev n : ℕ
  n = length haystack

  abbrev plan : Plan
  plan = forward_plan m f s.memory

  abbrev back_plan : Plan
  back_plan = backward_plan m f s.memory

  -- ---- the searches

  -- the search that a backward one is in the mirror
  abbrev pub in_mirror : Bool → Searched
  in_mirror stepping =
      searched (has f.byteset) (mirrored_plan m back_plan) (mirror (front needle)) (mirror (front haystack)) stepping (mirrored_cursor m n (backward_cursor m s))

  pub backward_mirrored : (stepping : Bool) → MirroredSearched m n (backward stepping needle haystack f s) (in_mirror stepping)
  unfolding backward
  backward_mirrored stepping =
      let b = fits_backward needle haystack f s fit two_way in
      let within = b.within in
      search_mirrored stepping (has f.byteset) back_plan (front needle) (front haystack) s.end (n - s.end) b.back (omega arith) (two_way_some needle haystack f s fit two_way)
      (omega (arith, needle_room, ok.within.needle_in)) (omega (arith, haystack_room, ok.within.haystack_in))
      (n + 1) (backward_cursor m s) (mirrored_cursor m n (backward_cursor m s)) 0 0 (mirrored_cursor_is m n (backward_cursor m s) within b.memory)

  pub forward_goes : (stepping : Bool) → let r = forward stepping needle haystack f s in Goes needle haystack f s (moved_forward s r.cursor) r.cursor (backward_cursor m s)
  unfolding forward
  forward_goes stepping =
      let v = fits_forward needle haystack f s fit two_way in
      let ends = search_ends (has f.byteset) plan (front needle) (front haystack) v.shape stepping s.position (n + 1) (forward_cursor s) 0 0 v.within in
      moved_forward_lem needle haystack f s fit two_way _ ends.1
      (searched_memory (has f.byteset) (front needle) (front haystack) stepping (forward_cursor s) v.shape (follows_remembered (forward_follows m f s.memory)) (known_now needle haystack f s fit two_way))

  pub backward_goes : (stepping : Bool) → let r = backward stepping needle haystack f s in Goes needle haystack f s (moved_backward s r.cursor) (forward_cursor s) r.cursor
  backward_goes stepping =
      let b = fits_backward needle haystack f s fit two_way in
      let start = mirrored_cursor m n (backward_cursor m s) in
      let same = (backward_mirrored stepping).cursors in
      let in_needle : backward_period_memory m f.period s.memory ≤ m = b.back.period_memory_in in
      let before : Remembered (mirrored_plan m back_plan) start.memory = ⊎_elim (λ e. inl (omega arith)) (λ e. inr (omega arith)) (known_back_now needle haystack f s fit two_way) in
      moved_backward_lem needle haystack f s fit two_way _ (omega arith)
      (⊎_elim (λ e. inl (omega arith)) (λ e. inr (omega arith))
      (searched_memory (has f.byteset) (mirror (front needle)) (mirror (front haystack)) stepping start b.shape (follows_remembered (backward_follows m f s.memory)) before))

  -- ---- the calls

  module _ (P : Walked → Type 0) (stepping : Bool) where
    pub forward_cases : StepRefused P stepping f s → (stepping ≡ true → s.position ≡ n → P (free (Ok Ending.Done) s))
        → ((stepping && overlaps f.mode) ≡ false → (stepping ≡ true → s.position ≡ n → ⊥) → P (walked_forward m s (forward stepping needle haystack f s)))
        → P (forward_call stepping needle haystack f s)
    unfolding forward_call
    forward_cases refuses still more =
        rw (passes needle haystack ok f s fit stepping)
        (by_check P stepping f s refuses
        (λ e. subst (λ kind. P (forward_by (flags_of kind) stepping needle haystack f s)) (sym two_way) (by_done P stepping s.position n still (more e))))

    pub backward_cases : StepRefused P stepping f s → (stepping ≡ true → s.end ≡ 0 → P (free (Ok Ending.Done) s))
        → ((stepping && overlaps f.mode) ≡ false → (stepping ≡ true → s.end ≡ 0 → ⊥) → P (walked_backward m s (backward stepping needle haystack f s)))
        → P (backward_call stepping needle haystack f s)
    unfolding backward_call
    backward_cases refuses still more =
        rw (passes needle haystack ok f s fit stepping)
        (by_check P stepping f s refuses
        (λ e. subst (λ kind. P (backward_by (flags_of kind) stepping needle haystack f s)) (sym two_way) (by_done P stepping s.end 0 still (more e))))

  not_stepping : {A : Type 0} → ◌≡◌ {A = Bool} false true → A
  not_stepping e = let z : ◌≡◌ {A = ℕ} 0 1 = cc in absurd (apart z)

  -- a next match is a search
  pub next_match_walked : forward_call false needle haystack f s ≡ walked_forward m s (forward false needle haystack f s)
  next_match_walked = forward_cases (λ r. r ≡ walked_forward m s (forward false needle haystack f s)) false not_stepping not_stepping (λ _ e. refl)

  pub next_match_back_walked : backward_call false needle haystack f s ≡ walked_backward m s (backward false needle haystack f s)
  next_match_back_walked = backward_cases (λ r. r ≡ walked_backward m s (backward false needle haystack f s)) false not_stepping not_stepping (λ _ e. refl)
