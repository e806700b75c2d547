-- What a call does to an empty state that fits: it costs nothing, it turns its own direction's side, but for a step that is refused because matches may overlap,
-- and the state that it hands back fits again;
-- and what it gives: every place once, in its order. This holds of every such state, prepared or not.
-- m is the needle's size, which is 0, and n the haystack's.
-- Assumes nothing.
use Prim.Native.Nat.{ℕ, ◌+◌, ◌-◌, ◌<◌, ◌≤◌}
use mathlib.Core.Path.{◌≡◌, refl, sym, subst}
use mathlib.Core.Bool.{Bool, true, false}
use mathlib.Core.List.{List, [], ◌∷◌, ◌++◌}
use native.Mathlib.Omega.{arith}
use lib.ListN.{length}
use Rattle.words.specs.Word.{Word, front}
use Rattle.words.specs.Choice.{Least, Greatest, Nowhere}
use Rattle.words.specs.Occurs.{Occurs, OccursFrom, OccursBelow, Leftmost, Rightmost}
use Rattle.empty.specs.declared.Turned.{Turned}
use Rattle.empty.proofs.Laws.{by_turn}
use Rattle.record.specs.declared.Kind.TheVariants.{Empty}
use Rattle.record.specs.declared.Fixed.{Fixed}
use Rattle.record.specs.declared.Moving.{Moving}
use Rattle.record.specs.Fits.{fits}
use Rattle.record.specs.Kinds.{flags_of}
use Rattle.record.proofs.Fitting.{StateFits, KindFits, state, decides_fits}
use Rattle.std.specs.Prelude.{Result, Ok, Err}
use Rattle.limits.specs.declared.Refusal.{Refusal}
use Rattle.search.specs.declared.Ending.{Ending}
use Rattle.search.specs.declared.Walked.{Walked}
use Rattle.search.specs.Calls.{walking, free, turn_ending, forward_by, backward_by, forward_call, backward_call}
use Rattle.searcher.specs.Walk.{step_answer, match_answer}
use Rattle.demands.specs.Open.{open_from, open_below}
use Rattle.demands.specs.Allowed.{Allowed}
use Rattle.demands.specs.Reached.{step_matches, next_matches}
use Rattle.demands.proofs.Calls.{StepRefused, passes, by_check}

-- ---- an empty word stands everywhere

module _ (x h : Word) (blank : x.size ≡ 0) where
  pub stands : (k : ℕ) → k ≤ h.size → Occurs x h k
  stands k inside = record { fits = omega arith; same = λ i j hi e. absurd (omega arith) }

  pub least_here : (k : ℕ) → k ≤ h.size → Least (OccursFrom x h k) k
  least_here k inside = record { holds = (omega arith, stands k inside); none_before = λ j before o. let lo = o.0 in omega arith }

  pub none_past : (a : ℕ) → h.size < a → Nowhere (OccursFrom x h a)
  none_past a past j o = let lo = o.0 in let fits = o.1.fits in omega arith

  pub greatest_here : (k : ℕ) → k ≤ h.size → Greatest (OccursBelow x h (k + 1)) k
  greatest_here k inside = record { holds = (omega arith, stands k inside); none_after = λ j after o. let hi = o.0 in omega arith }

  -- so a list at a gap of 1 goes on with the next place
  module _ (k : ℕ) (inside : k ≤ h.size) {ks : List ℕ} where
    pub leftmost_on : Leftmost x h 1 (k + 1) ks → Leftmost x h 1 k (k ∷ ks)
    leftmost_on l = Leftmost.hit (least_here k inside) l

    pub rightmost_on : Rightmost x h 1 k ks → Rightmost x h 1 (k + 1) (k ∷ ks)
    rightmost_on l = Rightmost.hit (greatest_here k inside) (subst (λ b. Rightmost x h 1 b ks) (omega arith) l)

-- ---- the answers

-- the matches of a call
abbrev pub gave : Result Ending Refusal → List ℕ
gave (Ok (Ending.Match a b)) = a ∷ []
gave (Err why) = []
gave (Ok Ending.Done) = []
gave (Ok Ending.Passed) = []
gave (Ok Ending.Out) = []

pub step_gave : (low high : ℕ) (e : Result Ending Refusal) → step_matches (step_answer e low high) ≡ gave e
step_gave low high (Ok (Ending.Match a b)) = refl
step_gave low high (Err why) = refl
step_gave low high (Ok Ending.Done) = refl
step_gave low high (Ok Ending.Passed) = refl
step_gave low high (Ok Ending.Out) = refl

pub match_gave : (e : Result Ending Refusal) → next_matches (match_answer e) ≡ gave e
match_gave (Ok (Ending.Match a b)) = refl
match_gave (Err why) = refl
match_gave (Ok Ending.Done) = refl
match_gave (Ok Ending.Passed) = refl
match_gave (Ok Ending.Out) = refl

-- ---- the calls

module _ (needle haystack : List ℕ) (ok : Allowed needle haystack) (f : Fixed) (s : Moving) (fit : fits needle haystack f s ≡ true) {ahead behind : Bool}
    (empty : s.kind ≡ Empty ahead behind) where
  abbrev m : ℕ
  m = length needle

  abbrev n : ℕ
  n = length haystack

  was : StateFits needle haystack f s
  was = state needle haystack f s fit

  pub blank : m ≡ 0
  blank = subst (KindFits m f s.memory) empty was.kind_fits

  -- the state with one side of it at a place, and whether a Match is next there
  abbrev pub stood : ℕ → Bool → Moving
  stood k is_match = record { position = k; end = s.end; memory = s.memory; kind = Empty is_match behind }

  abbrev pub stood_back : ℕ → Bool → Moving
  stood_back k is_match = record { position = s.position; end = k; memory = s.memory; kind = Empty ahead is_match }

  pub stood_fits : (k : ℕ) (b : Bool) → k ≤ n → fits needle haystack f (stood k b) ≡ true
  stood_fits k b inside =
      (decides_fits needle haystack f (stood k b)).complete
      (record { needle_is = was.needle_is; haystack_is = was.haystack_is; position_in = inside; end_in = was.end_in; kind_fits = blank })

  pub stood_back_fits : (k : ℕ) (b : Bool) → k ≤ n → fits needle haystack f (stood_back k b) ≡ true
  stood_back_fits k b inside =
      (decides_fits needle haystack f (stood_back k b)).complete
      (record { needle_is = was.needle_is; haystack_is = was.haystack_is; position_in = was.position_in; end_in = inside; kind_fits = blank })

  -- what is shown of each way holds of a call
  module _ (P : Walked → Type 0) (stepping : Bool) where
    -- as it stands where nothing changes
    still : {e : Result Ending Refusal} → P (free e s) → P (free e (record { position = s.position; end = s.end; memory = s.memory; kind = Empty ahead behind }))
    still {e} p = subst (λ kind. P (free e (record { position = s.position; end = s.end; memory = s.memory; kind = kind }))) empty p

    pub forward_turns : StepRefused P stepping f s → (ahead ≡ true → P (free (Ok (Ending.Match s.position s.position)) (stood s.position false)))
        → (ahead ≡ false → s.position ≡ n → P (free (Ok Ending.Done) s))
        → (ahead ≡ false → s.position < n → stepping ≡ true → P (free (Ok Ending.Passed) (stood (s.position + 1) true)))
        → (ahead ≡ false → s.position < n → stepping ≡ false → P (free (Ok (Ending.Match (s.position + 1) (s.position + 1))) (stood (s.position + 1) false)))
        → P (forward_call stepping needle haystack f s)
    unfolding forward_call
    forward_turns refuses given over passed next =
        let inside = was.position_in in
        let here : n - (n - s.position) ≡ s.position = omega arith in
        let there : 0 < n - s.position → n - (n - s.position - 1) ≡ s.position + 1 = λ more. omega arith in
        rw (passes needle haystack ok f s fit stepping)
        (by_check P stepping f s refuses
        (λ _.
        subst (λ kind. P (forward_by (flags_of kind) stepping needle haystack f s)) (sym empty)
        (by_turn (λ (r : Turned). P (free (Ok (turn_ending r.gives (n - r.side.ahead))) (stood (n - r.side.ahead) r.side.is_match))) stepping
        (record { ahead = n - s.position; is_match = ahead })
        (λ e. rw here (given e))
        (λ e z. rw here (still (over e (omega arith))))
        (λ e more t. rw (there more) (passed e (omega arith) t))
        (λ e more t. rw (there more) (next e (omega arith) t)))))

    pub backward_turns : StepRefused P stepping f s → (behind ≡ true → P (free (Ok (Ending.Match s.end s.end)) (stood_back s.end false)))
        → (behind ≡ false → s.end ≡ 0 → P (free (Ok Ending.Done) s))
        → (behind ≡ false → 0 < s.end → stepping ≡ true → P (free (Ok Ending.Passed) (stood_back (s.end - 1) true)))
        → (behind ≡ false → 0 < s.end → stepping ≡ false → P (free (Ok (Ending.Match (s.end - 1) (s.end - 1))) (stood_back (s.end - 1) false)))
        → P (backward_call stepping needle haystack f s)
    unfolding backward_call
    backward_turns refuses given over passed next =
        rw (passes needle haystack ok f s fit stepping)
        (by_check P stepping f s refuses
        (λ _.
        subst (λ kind. P (backward_by (flags_of kind) stepping needle haystack f s)) (sym empty)
        (by_turn (λ (r : Turned). P (free (Ok (turn_ending r.gives r.side.ahead)) (stood_back r.side.ahead r.side.is_match))) stepping
        (record { ahead = s.end; is_match = behind }) given (λ e z. still (over e z)) passed next)))

  -- the places that are open before the call, by the flags
  pub open_given : ahead ≡ true → open_from s ≡ s.position
  open_given e = rw (empty, e)

  pub open_later : ahead ≡ false → open_from s ≡ s.position + 1
  open_later e = rw (empty, e)

  pub open_back_given : behind ≡ true → open_below m s ≡ s.end + 1
  open_back_given e = let z = blank in rw (empty, e) (omega arith)

  pub open_back_later : behind ≡ false → open_below m s ≡ s.end
  open_back_later e = let z = blank in rw (empty, e) (omega arith)

  -- ---- what a call leaves: a state that fits, the other direction's places as they were, and before its own places those that it gave

  abbrev x : Word
  x = front needle

  abbrev h : Word
  h = front haystack

  pub record Ahead (r : Walked) : Type 0 where
    pub fits_again : fits needle haystack f r.moving ≡ true
    pub costs : r.counts ≡ walking 0 0
    pub other : open_below m r.moving ≡ open_below m s
    pub lists : (ks : List ℕ) → Leftmost x h 1 (open_from r.moving) ks → Leftmost x h 1 (open_from s) (gave r.ending ++ ks)

  pub goes_ahead : (stepping : Bool) → Ahead (forward_call stepping needle haystack f s)
  goes_ahead stepping =
      forward_turns Ahead stepping (λ _. record { fits_again = fit; costs = refl; other = refl; lists = λ ks l. l })
      (λ e. record { fits_again = stood_fits _ _ was.position_in; costs = refl; other = rw empty; lists = λ ks l. rw (open_given e) (leftmost_on x h blank s.position was.position_in l) })
      (λ e at. record { fits_again = fit; costs = refl; other = refl; lists = λ ks l. l })
      (λ e more t. record { fits_again = stood_fits _ _ (omega arith); costs = refl; other = rw empty; lists = λ ks l. rw (open_later e) l })
      (λ e more t. record { fits_again = stood_fits _ _ (omega arith); costs = refl; other = rw empty; lists = λ ks l. rw (open_later e) (leftmost_on x h blank (s.position + 1) (omega arith) l) })

  pub record Behind (r : Walked) : Type 0 where
    pub fits_again : fits needle haystack f r.moving ≡ true
    pub costs : r.counts ≡ walking 0 0
    pub other : open_from r.moving ≡ open_from s
    pub lists : (ks : List ℕ) → Rightmost x h 1 (open_below m r.moving) ks → Rightmost x h 1 (open_below m s) (gave r.ending ++ ks)

  pub goes_back : (stepping : Bool) → Behind (backward_call stepping needle haystack f s)
  goes_back stepping =
      let inside = was.end_in in
      let whole : (k : ℕ) → k - m ≡ k = λ k. let z = blank in omega arith in
      let again : 0 < s.end → s.end - 1 + 1 ≡ s.end = λ more. omega arith in
      backward_turns Behind stepping (λ _. record { fits_again = fit; costs = refl; other = refl; lists = λ ks l. l })
      (λ e. record { fits_again = stood_back_fits _ _ inside; costs = refl; other = rw empty; lists = λ ks l. rw (open_back_given e) (rightmost_on x h blank s.end inside (rw whole at l)) })
      (λ e at. record { fits_again = fit; costs = refl; other = refl; lists = λ ks l. l })
      (λ e more t. record { fits_again = stood_back_fits _ _ (omega arith); costs = refl; other = rw empty; lists = λ ks l. rw (open_back_later e) (rw (whole, again more) at l) })
      (λ e more t. record { fits_again = stood_back_fits _ _ (omega arith); costs = refl; other = rw empty; lists = λ ks l. rw (open_back_later e) (rw (again more) at (rightmost_on x h blank (s.end - 1) (omega arith) (rw whole at l))) })
