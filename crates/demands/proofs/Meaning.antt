-- Demand 2: what the answers and the matches of a walk mean, after any mix of calls from preparing on.
-- What holds of a walk in one direction (OneWay) is read off for each direction; the backward theorems are the forward ones of the mirrored words.
-- Assumes nothing.
use Prim.Native.Nat.{ℕ, ◌+◌, ◌-◌, ◌<◌, ◌≤◌, max}
use mathlib.Core.Path.{◌≡◌, refl, sym, ◌∙◌, ap, subst}
use mathlib.Core.Bool.{Bool, true, false, cond, false≢true}
use mathlib.Core.List.{List, [], map, append-nil, map-append}
use mathlib.Core.Logic.{⊎_elim}
use native.Mathlib.Omega.{arith}
use native.Mathlib.Decide.{ℕ_discrete}
use lib.ListN.{length}
use Rattle.words.specs.Word.{Word, front, mirror}
use Rattle.words.specs.Choice.{Greatest, Nowhere}
use Rattle.words.specs.Occurs.{Occurs, OccursFrom, OccursBelow, Leftmost, Rightmost, mirrored}
use Rattle.words.proofs.Mirror.{Facing, rightmost_mirror, leftmost_mirror, rightmost_mirrored}
use Rattle.byteset.specs.Fingerprint.{has}
use Rattle.windows.specs.declared.Cursor.{Cursor}
use Rattle.windows.specs.Mirror.{mirrored_plan, mirrored_cursor}
use Rattle.record.specs.declared.Kind.TheVariants.{Empty}
use Rattle.record.specs.declared.Fixed.{Fixed}
use Rattle.record.specs.declared.Moving.{Moving}
use Rattle.record.specs.declared.Mode.{Mode}
use Rattle.record.specs.Fits.{fits}
use Rattle.record.specs.Kinds.{overlaps, forward_plan, backward_plan, forward_cursor, backward_cursor}
use Rattle.record.proofs.Fitting.{StateFits, state, fits_backward}
use Rattle.search.specs.Calls.{forward}
use Rattle.searcher.specs.declared.TwoWaySearcher.{TwoWaySearcher}
use Rattle.limits.specs.Said.{given}
use Rattle.searcher.specs.Walk.{done, new_rule, step_answer, match_answer, next_rule, next_back_rule, next_match_rule, next_match_back_rule}
use Rattle.demands.specs.Open.{open_from, open_below}
use Rattle.demands.specs.Allowed.{Allowed}
use Rattle.demands.specs.Reached.{Call, History, after, reached}
use Rattle.demands.specs.Means.{AnswersLeast, AnswersGreatest, StepMeans, StepBackMeans, ForwardList, ForwardNone, NextMatchMeans, NextMeans, BackwardList, BackwardNone, NextMatchBackMeans, NextBackMeans, FirstMatchLeast, LastMatchGreatest, gap_of, Demand2}
use Rattle.demands.proofs.OneWay.{Holds, whole_holds, holds_next, holds_step}
use Rattle.demands.proofs.Calls.{backward_mirrored, forward_cases, backward_cases, next_match_walked, next_match_back_walked}
use Rattle.demands.proofs.Turns.{stands, least_here, none_past, greatest_here, forward_turns, backward_turns, open_given, open_later, open_back_given, open_back_later}
use Rattle.demands.proofs.Stays.{fits_stays, fixed_stays}
use Rattle.demands.proofs.Walks.{Walks, walks}
use Rattle.demands.proofs.Places.{Places, places, by_empty}
use Rattle.demands.proofs.Start.{Starts, Ready, prepared_starts, prepared_ready}
use Rattle.demands.proofs.Answers.{answers_least, answers_greatest, step_settles, step_settles_back, least_answer_same, greatest_answer_same}

-- ---- a reached state, of either kind

-- what its next calls answer, and the lists that it has given
pub record Means (needle haystack : List ℕ) (mode : Mode) (H : History) : Type 0 where
  pub fit : fits needle haystack H.walk.fixed H.walk.moving ≡ true
  pub forward_list : ForwardList needle haystack H (gap_of mode needle)
  pub next_match_means : NextMatchMeans needle haystack H
  pub step_means : overlaps mode ≡ false → NextMeans needle haystack H
  pub backward_list : BackwardList needle haystack H (gap_of mode needle)
  pub next_match_back_means : NextMatchBackMeans needle haystack H
  pub step_back_means : overlaps mode ≡ false → NextBackMeans needle haystack H

module _ (needle haystack : List ℕ) (mode : Mode) (ok : Allowed needle haystack) (calls : List Call) where
  abbrev x : Word
  x = front needle

  abbrev h : Word
  h = front haystack

  abbrev H : History
  H = reached needle haystack mode calls

  abbrev f : Fixed
  f = H.walk.fixed

  abbrev s : Moving
  s = H.walk.moving

  abbrev s₀ : TwoWaySearcher
  s₀ = (new_rule needle (length haystack) mode).walk

  abbrev gap : ℕ
  gap = gap_of mode needle

  -- no call has changed the mode
  pub mode_is : f.mode ≡ mode
  mode_is = ap (λ (k : Fixed). k.mode) (fixed_stays needle haystack s₀ calls) ∙ (prepared_ready needle haystack mode ok).mode_is

  -- where it is the one that does not overlap, no step is refused
  not_refused : overlaps mode ≡ false → {A : Type 0} → overlaps f.mode ≡ true → A
  not_refused e o = absurd (false≢true (sym e ∙ (rw mode_is at o)))

  -- all that starts, starts at 0 or after it, and below n + 1
  facing_all : Facing x h (h.size + 1) 0
  facing_all k k' e = omega arith

  -- ---- a two way one, in each direction

  module _ (pos : 0 < length needle) where
    start : Starts needle haystack mode s₀
    start = prepared_starts needle haystack mode ok pos

    reach : Walks needle haystack s₀ H
    reach = walks needle haystack ok s₀ start.fit start.two_way calls

    forward_holds : Holds (has f.byteset) (forward_plan x.size f s.memory) x h gap 0 (forward_cursor s) H.forward.matches
    forward_holds =
        let first = whole_holds start.guides start.gaps start.cursor reach.ahead in
        let planned = subst (λ v. Holds (has s₀.fixed.byteset) v x h gap 0 (forward_cursor s) H.forward.matches) (sym reach.plan) first in
        subst (λ b. Holds (has b) (forward_plan x.size f s.memory) x h gap 0 (forward_cursor s) H.forward.matches) (sym reach.set_is) planned

    -- the same of the walk in the mirror
    abbrev cursor' : Cursor
    cursor' = mirrored_cursor x.size h.size (backward_cursor x.size s)

    backward_holds : Holds (has f.byteset) (mirrored_plan x.size (backward_plan x.size f s.memory)) (mirror x) (mirror h) gap 0 cursor' reach.made'.matches
    backward_holds =
        let first = whole_holds start.guides_back start.gaps_back start.cursor_back reach.back in
        let planned = subst (λ v. Holds (has s₀.fixed.byteset) (mirrored_plan x.size v) (mirror x) (mirror h) gap 0 cursor' reach.made'.matches) (sym reach.back_plan) first in
        subst (λ b. Holds (has b) (mirrored_plan x.size (backward_plan x.size f s.memory)) (mirror x) (mirror h) gap 0 cursor' reach.made'.matches) (sym reach.set_is) planned

    -- forward, the open places are those from `position` on
    from_is : open_from s ≡ s.position
    from_is = rw reach.two_way

    two_way_next : NextMatchMeans needle haystack H
    unfolding forward
    two_way_next =
        rw (from_is, next_match_walked needle haystack ok f s reach.fit reach.two_way)
        (answers_least x h s.position (forward false needle haystack f s).stop (holds_next forward_holds))

    -- at the haystack's end there is no room for the needle, which has a letter
    at_end : s.position ≡ h.size → Nowhere (OccursFrom x h s.position)
    at_end e j o = omega (arith, o.0, o.1.fits)

    two_way_step : overlaps mode ≡ false → NextMeans needle haystack H
    unfolding forward
    two_way_step apart =
        let r = forward true needle haystack f s in
        rw from_is
        (forward_cases needle haystack ok f s reach.fit reach.two_way (λ r. StepMeans x h s.position s.position r.moving.position (step_answer r.ending s.position r.moving.position)) true
        (not_refused apart)
        (λ _ e. (e, refl, at_end e))
        (λ whole e. step_settles x h (forward_plan x.size f s.memory) (rw whole) s.position r.cursor.at r.stop (holds_step forward_holds (e refl))))

    -- backward, those of the occurrences that end at `end` or before it
    abbrev below : ℕ
    below = s.end + 1 - x.size

    below_is : open_below (length needle) s ≡ below
    below_is = rw reach.two_way

    end_in : s.end ≤ h.size
    end_in = (fits_backward needle haystack f s reach.fit reach.two_way).within

    -- what ends at `end` or before it starts, in the mirror, at its cursor or after it
    facing : Facing x h below cursor'.at
    facing k k' e = let inside = end_in in omega arith

    -- the list goes into the mirror, behind the matches there, and both come back
    two_way_back_list : BackwardList needle haystack H gap
    two_way_back_list ks open_list =
        let r : Rightmost x h gap below ks = rw below_is at open_list in
        let ks' = map (mirrored x h) ks in
        let l = backward_holds.lists ks' (leftmost_mirror x h gap below _ ks facing r) in
        rw (reach.mirrors.matches_are, ← rightmost_mirrored x h gap below ks r, ← map-append (mirrored x h) reach.made'.matches ks')
        (rightmost_mirror x h gap (h.size + 1) 0 _ facing_all l)

    two_way_next_back : NextMatchBackMeans needle haystack H
    two_way_next_back =
        rw (below_is, next_match_back_walked needle haystack ok f s reach.fit reach.two_way)
        (answers_greatest x h below _ facing (backward_mirrored needle haystack ok f s reach.fit reach.two_way false).stops (holds_next backward_holds))

    at_front : s.end ≡ 0 → Nowhere (OccursBelow x h below)
    at_front e j o = omega (arith, o.0)

    two_way_step_back : overlaps mode ≡ false → NextBackMeans needle haystack H
    two_way_step_back apart =
        let inside = end_in in
        let t = backward_mirrored needle haystack ok f s reach.fit reach.two_way true in
        rw below_is
        (backward_cases needle haystack ok f s reach.fit reach.two_way (λ r. StepBackMeans x h below s.end r.moving.end (step_answer r.ending r.moving.end s.end)) true
        (not_refused apart)
        (λ _ e. (e, refl, at_front e))
        (λ whole e. step_settles_back x h (mirrored_plan x.size (backward_plan x.size f s.memory)) (rw whole) s.end _ cursor'.at _ (omega arith) t.cursors.place t.stops (holds_step backward_holds (let more = e refl in omega arith))))

    two_way_means : Means needle haystack mode H
    two_way_means =
        record {
          fit = reach.fit;
          forward_list = rw from_is forward_holds.lists;
          next_match_means = two_way_next;
          step_means = two_way_step;
          backward_list = two_way_back_list;
          next_match_back_means = two_way_next_back;
          step_back_means = two_way_step_back;
        }

  -- ---- an empty one: what each call gives is the next place that is open

  module _ (blank : length needle ≡ 0) where
    ready : Ready needle haystack mode s₀ (new_rule needle (length haystack) mode).counts.preparing
    ready = prepared_ready needle haystack mode ok

    given_so_far : Places needle haystack ok blank s₀ H
    given_so_far = places needle haystack ok blank s₀ ready.fit calls

    module _ {ahead behind : Bool} (empty : s.kind ≡ Empty ahead behind) where
      inside : StateFits needle haystack f s
      inside = state needle haystack f s given_so_far.fit

      from_given : ahead ≡ true → open_from s ≡ s.position
      from_given = open_given needle haystack ok f s given_so_far.fit empty

      from_later : ahead ≡ false → open_from s ≡ s.position + 1
      from_later = open_later needle haystack ok f s given_so_far.fit empty

      empty_next : NextMatchMeans needle haystack H
      empty_next =
          let within = inside.position_in in
          forward_turns needle haystack ok f s given_so_far.fit empty (λ r. AnswersLeast (OccursFrom x h (open_from s)) x.size (match_answer r.ending)) false
          (λ o. absurd (false≢true o))
          (λ e. rw (from_given e) (least_here x h blank s.position within, omega arith))
          (λ e at. rw (from_later e) (none_past x h blank (s.position + 1) (omega arith)))
          (λ e more q. absurd (false≢true q))
          (λ e more q. rw (from_later e) (least_here x h blank (s.position + 1) (omega arith), omega arith))

      empty_step : overlaps mode ≡ false → NextMeans needle haystack H
      empty_step apart =
          let within = inside.position_in in
          forward_turns needle haystack ok f s given_so_far.fit empty (λ r. StepMeans x h (open_from s) s.position r.moving.position (step_answer r.ending s.position r.moving.position)) true
          (not_refused apart)
          (λ e. rw (from_given e) (refl, refl, omega arith, (omega arith, stands x h blank s.position within)))
          (λ e at. rw (from_later e) (at, refl, none_past x h blank (s.position + 1) (omega arith)))
          (λ e more q. rw (from_later e) (refl, refl, omega arith, λ j lo hi o. omega arith))
          (λ e more q. absurd (false≢true (sym q)))

      below_given : behind ≡ true → open_below (length needle) s ≡ s.end + 1
      below_given = open_back_given needle haystack ok f s given_so_far.fit empty

      below_later : behind ≡ false → open_below (length needle) s ≡ s.end
      below_later = open_back_later needle haystack ok f s given_so_far.fit empty

      empty_next_back : NextMatchBackMeans needle haystack H
      empty_next_back =
          let within = inside.end_in in
          let again : 0 < s.end → s.end ≡ s.end - 1 + 1 = λ more. omega arith in
          backward_turns needle haystack ok f s given_so_far.fit empty (λ r. AnswersGreatest (OccursBelow x h (open_below (length needle) s)) x.size (match_answer r.ending)) false
          (λ o. absurd (false≢true o))
          (λ e. rw (below_given e) (greatest_here x h blank s.end within, omega arith))
          (λ e at. rw (below_later e) (λ j o. let low = o.0 in omega arith))
          (λ e more q. absurd (false≢true q))
          (λ e more q. rw (below_later e) (subst (λ b. Greatest (OccursBelow x h b) (s.end - 1)) (sym (again more)) (greatest_here x h blank (s.end - 1) (omega arith)), omega arith))

      empty_step_back : overlaps mode ≡ false → NextBackMeans needle haystack H
      empty_step_back apart =
          let within = inside.end_in in
          backward_turns needle haystack ok f s given_so_far.fit empty (λ r. StepBackMeans x h (open_below (length needle) s) s.end r.moving.end (step_answer r.ending r.moving.end s.end)) true
          (not_refused apart)
          (λ e. rw (below_given e) (refl, refl, omega arith, (omega arith, stands x h blank s.end within)))
          (λ e at. rw (below_later e) (at, refl, λ j o. let low = o.0 in omega arith))
          (λ e more q. rw (below_later e) (refl, refl, omega arith, λ j lo hi o. omega arith))
          (λ e more q. absurd (false≢true (sym q)))

    -- in either mode its matches may be 1 apart
    pub gap_one : gap ≡ 1
    gap_one = go (overlaps mode)
      where
        go : (b : Bool) → cond b 1 (max 1 (length needle)) ≡ 1
        go true = refl
        go false = omega arith

    empty_means : Means needle haystack mode H
    empty_means =
        let whole : open_below (length needle) s₀.moving ≡ h.size + 1 = let e = ready.open_back_is in omega arith in
        by_empty needle haystack f s given_so_far.fit blank
        (λ ahead behind e.
        record {
          fit = given_so_far.fit;
          forward_list = rw gap_one (rw ready.open_is at given_so_far.forward_lists);
          next_match_means = empty_next e;
          step_means = empty_step e;
          backward_list = rw gap_one (rw whole at given_so_far.backward_lists);
          next_match_back_means = empty_next_back e;
          step_back_means = empty_step_back e;
        })

  pub means : Means needle haystack mode H
  means = elim (ℕ_discrete (length needle) 0) [ yes blank ↦ empty_means blank | no some ↦ two_way_means (omega arith) ]

  -- ---- once nothing is left, nothing was left out

  forward_done : (next_rule needle haystack H.walk).answer ≡ given done → Nowhere (OccursFrom x h (open_from s))
  forward_done e = go (overlaps mode) refl
    where
      go : (b : Bool) → overlaps mode ≡ b → Nowhere (OccursFrom x h (open_from s))
      go false apart = (subst (StepMeans x h (open_from s) s.position _) e (means.step_means apart)).2
      go true may = let q = (fits_stays needle haystack ok H.walk means.fit).next.overlapping (rw mode_is may) in let z : ◌≡◌ {A = ℕ} 0 1 = cc in absurd (omega arith)

  pub forward_none : ForwardNone needle haystack H gap
  forward_none e =
      rw append-nil at
      (means.forward_list []
      (Leftmost.over (⊎_elim (λ e. subst (AnswersLeast (OccursFrom x h (open_from s)) x.size) e means.next_match_means) forward_done e)))

  backward_done : (next_back_rule needle haystack H.walk).answer ≡ given done → Nowhere (OccursBelow x h (open_below (length needle) s))
  backward_done e = go (overlaps mode) refl
    where
      go : (b : Bool) → overlaps mode ≡ b → Nowhere (OccursBelow x h (open_below (length needle) s))
      go false apart = (subst (StepBackMeans x h (open_below (length needle) s) s.end _) e (means.step_back_means apart)).2
      go true may = let q = (fits_stays needle haystack ok H.walk means.fit).next_back.overlapping (rw mode_is may) in let z : ◌≡◌ {A = ℕ} 0 1 = cc in absurd (omega arith)

  pub backward_none : BackwardNone needle haystack H gap
  backward_none e =
      rw append-nil at
      (means.backward_list []
      (Rightmost.over (⊎_elim (λ e. subst (AnswersGreatest (OccursBelow x h (open_below (length needle) s)) x.size) e means.next_match_back_means) backward_done e)))

-- ---- whole searches: the first call, from a state at the two ends of the haystack

module _ (needle haystack : List ℕ) (mode : Mode) (ok : Allowed needle haystack) where
  abbrev prepared : TwoWaySearcher
  prepared = (new_rule needle (length haystack) mode).walk

  pub find_least : FirstMatchLeast needle haystack mode
  unfolding after
  find_least =
      let begin = (prepared_ready needle haystack mode ok).open_is in
      least_answer_same (OccursFrom (front needle) (front haystack) (open_from prepared.moving)) (Occurs (front needle) (front haystack))
      (λ j o. o.1) (λ j o. (omega arith, o)) (length needle) (next_match_rule needle haystack prepared).answer (means needle haystack mode ok []).next_match_means

  pub rfind_greatest : LastMatchGreatest needle haystack mode
  unfolding after
  rfind_greatest =
      let begin = (prepared_ready needle haystack mode ok).open_back_is in
      greatest_answer_same (OccursBelow (front needle) (front haystack) (open_below (length needle) prepared.moving)) (Occurs (front needle) (front haystack))
      (λ j o. o.1) (λ j o. let fits = o.fits in (omega arith, o)) (length needle) (next_match_back_rule needle haystack prepared).answer
      (means needle haystack mode ok []).next_match_back_means

  pub demand_2 : (calls : List Call) → Demand2 needle haystack mode calls
  demand_2 calls =
      let m = means needle haystack mode ok calls in
      record {
        forward_list = m.forward_list;
        forward_none = forward_none needle haystack mode ok calls;
        next_match_means = m.next_match_means;
        step_means = m.step_means;
        backward_list = m.backward_list;
        backward_none = backward_none needle haystack mode ok calls;
        next_match_back_means = m.next_match_back_means;
        step_back_means = m.step_back_means;
        find_least = find_least;
        rfind_greatest = rfind_greatest;
      }
