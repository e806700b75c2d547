-- Any mix of the four calls from a two way state on is two walks, one forward over the words and one forward over the mirrored words: neither direction changes the other's.
-- Assumes nothing.
use Prim.Native.Nat.{ℕ, ◌-◌}
use mathlib.Core.Path.{◌≡◌, refl, sym, ◌∙◌, ap, subst}
use mathlib.Core.Bool.{Bool, true, false}
use mathlib.Core.List.{List, [], ◌∷◌, map, append-nil, map-append}
use native.Mathlib.Nat.{add-zero}
use native.Mathlib.Omega.{arith}
use lib.ListN.{length}
use Rattle.words.specs.Word.{Word, front, mirror}
use Rattle.words.specs.Occurs.{mirrored}
use Rattle.byteset.specs.Fingerprint.{has}
use Rattle.windows.specs.declared.Plan.{Plan}
use Rattle.windows.specs.declared.Cursor.{Cursor}
use Rattle.windows.specs.declared.Stop.{Stop}
use Rattle.windows.specs.declared.Searched.{Searched}
use Rattle.windows.specs.Mirror.{mirrored_plan, mirrored_cursor}
use Rattle.windows.proofs.Mirror.{MirroredCursor, MirroredStop, MirroredSearched}
use Rattle.record.specs.declared.Kind.TheVariants.{TwoWay}
use Rattle.record.specs.declared.Moving.{Moving}
use Rattle.record.specs.declared.Counts.{Counts}
use Rattle.record.specs.Fits.{fits}
use Rattle.record.specs.Kinds.{forward_plan, backward_plan, forward_cursor, backward_cursor, moved_forward, moved_backward}
use Rattle.search.specs.Calls.{forward, backward, walking}
use Rattle.searcher.specs.declared.TwoWaySearcher.{TwoWaySearcher}
use Rattle.searcher.specs.Walk.{next_rule, next_back_rule, next_match_rule, next_match_back_rule, step_answer}
use Rattle.demands.specs.Allowed.{Allowed}
use Rattle.demands.specs.Reached.{Call, Made, History, nothing_made, and_made, step_matches, next_matches, called, after}
use Rattle.demands.proofs.OneWay.{searched, hits, and_searched, Walked}
use Rattle.demands.proofs.Calls.{step_hits, match_hits, backward_mirrored, forward_goes, backward_goes, forward_cases, backward_cases, next_match_walked, next_match_back_walked}

-- What a backward walk has given and made, and what its walk in the mirror has: the same, each place counted from the other end.
pub record Mirrored (x h : Word) (made made' : Made) : Type 0 where
  pub matches_are : made.matches ≡ map (mirrored x h) made'.matches
  pub comparisons_are : made.comparisons ≡ made'.comparisons
  pub tests_are : made.tests ≡ made'.tests

module _ (needle haystack : List ℕ) (s₀ : TwoWaySearcher) where
  abbrev m : ℕ
  m = length needle

  -- what the walks from s₀ on go by
  abbrev set : ℕ → Bool
  set = has s₀.fixed.byteset

  abbrev plan₀ : Plan
  plan₀ = forward_plan m s₀.fixed s₀.moving.memory

  abbrev back_plan₀ : Plan
  back_plan₀ = backward_plan m s₀.fixed s₀.moving.memory

  abbrev seen : Cursor → Cursor
  seen = mirrored_cursor m (length haystack)

  -- the walk forward from s₀ on, to a cursor
  abbrev pub Ahead : Cursor → Made → Type 0
  Ahead = Walked set plan₀ (front needle) (front haystack) (forward_cursor s₀.moving)

  -- the walk backward from s₀ on, to a cursor: a walk in the mirror
  abbrev pub Back : Cursor → Made → Type 0
  Back s = Walked set (mirrored_plan m back_plan₀) (mirror (front needle)) (mirror (front haystack)) (seen (backward_cursor m s₀.moving)) (seen s)

  -- The two walks of a history from s₀ on. Its state fits, is a two way one and goes by the plans of s₀.
  pub record Walks (H : History) : Type 0 where
    pub fit : fits needle haystack H.walk.fixed H.walk.moving ≡ true
    pub two_way : H.walk.moving.kind ≡ TwoWay
    pub set_is : H.walk.fixed.byteset ≡ s₀.fixed.byteset
    pub plan : forward_plan m H.walk.fixed H.walk.moving.memory ≡ plan₀
    pub back_plan : backward_plan m H.walk.fixed H.walk.moving.memory ≡ back_plan₀
    pub ahead : Ahead (forward_cursor H.walk.moving) H.forward
    pub made' : Made
    pub mirrors : Mirrored (front needle) (front haystack) H.backward made'
    pub back : Back (backward_cursor m H.walk.moving) made'

-- a call that gives and counts nothing
and_nothing : (d : Made) → and_made d [] (walking 0 0) ≡ d
and_nothing d = rw (append-nil d.matches, add-zero d.comparisons, add-zero d.tests)

-- the matches of a search and of the one that it is in the mirror
hits_mirrored : (x h : Word) {t t' : Stop} → MirroredStop x.size h.size t t' → hits t ≡ map (mirrored x h) (hits t')
hits_mirrored x h (MirroredStop.hit {k} {k'} e) = let there : k ≡ mirrored x h k' = omega arith in rw there
hits_mirrored x h MirroredStop.passed = refl
hits_mirrored x h MirroredStop.out = refl

and_mirrored : (x h : Word) {made made' : Made} {r r' : Searched} → Mirrored x h made made' → MirroredSearched x.size h.size r r'
    → Mirrored x h (and_searched made r) (and_searched made' r')
and_mirrored x h {made} {made'} {r} {r'} a b =
    record {
      matches_are = rw (a.matches_are, hits_mirrored x h b.stops) (sym (map-append (mirrored x h) made'.matches (hits r'.stop)));
      comparisons_are = omega arith;
      tests_are = omega arith;
    }

-- a cursor that is another's in the mirror
cursor_mirrored : {m n : ℕ} {s s' : Cursor} → MirroredCursor m n s s' → mirrored_cursor m n s ≡ s'
cursor_mirrored {m} {n} {s} {s'} t =
    let at : n - s.at ≡ s'.at = omega arith in
    let memory : m - s.memory ≡ s'.memory = omega arith in
    rw (at, memory)

-- What a call of one direction does to the state, gives and counts: nothing, or what a search does.
pub data Went (moved : Cursor → Moving) (search : Bool → Searched) (s : Moving) : Moving → List ℕ → Counts → Type 0 where
  stayed : Went moved search s s [] (walking 0 0)
  went : (stepping : Bool)
      → Went moved search s (moved (search stepping).cursor) (hits (search stepping).stop) (walking (search stepping).comparisons (search stepping).tests)

module _ (needle haystack : List ℕ) (ok : Allowed needle haystack) (s : TwoWaySearcher) (fit : fits needle haystack s.fixed s.moving ≡ true)
    (two_way : s.moving.kind ≡ TwoWay) where
  abbrev k : Moving
  k = s.moving

  abbrev WentForward : Moving → List ℕ → Counts → Type 0
  WentForward = Went (moved_forward k) (λ stepping. forward stepping needle haystack s.fixed k) k

  abbrev WentBackward : Moving → List ℕ → Counts → Type 0
  WentBackward = Went (moved_backward k) (λ stepping. backward stepping needle haystack s.fixed k) k

  next_went : let r = next_rule needle haystack s in WentForward r.walk.moving (step_matches r.answer) r.counts
  next_went =
      forward_cases needle haystack ok s.fixed k fit two_way (λ r. WentForward r.moving (step_matches (step_answer r.ending k.position r.moving.position)) r.counts) true
      (λ _. Went.stayed) (λ _ e. Went.stayed) (λ _ e. rw step_hits (Went.went true))

  next_back_went : let r = next_back_rule needle haystack s in WentBackward r.walk.moving (step_matches r.answer) r.counts
  next_back_went =
      backward_cases needle haystack ok s.fixed k fit two_way (λ r. WentBackward r.moving (step_matches (step_answer r.ending r.moving.end k.end)) r.counts) true
      (λ _. Went.stayed) (λ _ e. Went.stayed) (λ _ e. rw step_hits (Went.went true))

  next_match_went : let r = next_match_rule needle haystack s in WentForward r.walk.moving (next_matches r.answer) r.counts
  next_match_went = rw (next_match_walked needle haystack ok s.fixed k fit two_way, match_hits) (Went.went false)

  next_match_back_went : let r = next_match_back_rule needle haystack s in WentBackward r.walk.moving (next_matches r.answer) r.counts
  next_match_back_went = rw (next_match_back_walked needle haystack ok s.fixed k fit two_way, match_hits) (Went.went false)

module _ (needle haystack : List ℕ) (ok : Allowed needle haystack) (s₀ : TwoWaySearcher) where
  abbrev n : ℕ
  n = length haystack

  walks_forward : {H : History} {s : Moving} {ks : List ℕ} {counts : Counts} (w : Walks needle haystack s₀ H)
      → WentForward needle haystack ok H.walk w.fit w.two_way s ks counts
      → Walks needle haystack s₀ (record { walk = record { fixed = H.walk.fixed; moving = s }; forward = and_made H.forward ks counts; backward = H.backward })
  unfolding forward
  walks_forward {H} w Went.stayed = rw (and_nothing H.forward) w
  walks_forward {H} w (Went.went stepping) =
      let g = forward_goes needle haystack ok H.walk.fixed H.walk.moving w.fit w.two_way stepping in
      let by : (ℕ → Bool) → Plan → Searched = λ has v. searched has v (front needle) (front haystack) stepping (forward_cursor H.walk.moving) in
      let same : forward stepping needle haystack H.walk.fixed H.walk.moving ≡ by (set needle haystack s₀) (plan₀ needle haystack s₀) =
      ap (λ b. by (has b) (forward_plan (length needle) H.walk.fixed H.walk.moving.memory)) w.set_is ∙ ap (by (set needle haystack s₀)) w.plan in
      record {
        fit = g.fit;
        two_way = g.kind ∙ w.two_way;
        set_is = w.set_is;
        plan = g.plan ∙ w.plan;
        back_plan = g.back_plan ∙ w.back_plan;
        ahead = rw (g.cursor, same) (Walked.on stepping w.ahead);
        made' = w.made';
        mirrors = w.mirrors;
        back = subst (λ s. Back needle haystack s₀ s w.made') (sym g.back_cursor) w.back;
      }

  walks_backward : {H : History} {s : Moving} {ks : List ℕ} {counts : Counts} (w : Walks needle haystack s₀ H)
      → WentBackward needle haystack ok H.walk w.fit w.two_way s ks counts
      → Walks needle haystack s₀ (record { walk = record { fixed = H.walk.fixed; moving = s }; forward = H.forward; backward = and_made H.backward ks counts })
  walks_backward {H} w Went.stayed = rw (and_nothing H.backward) w
  walks_backward {H} w (Went.went stepping) =
      let g = backward_goes needle haystack ok H.walk.fixed H.walk.moving w.fit w.two_way stepping in
      let r = backward stepping needle haystack H.walk.fixed H.walk.moving in
      let by : (ℕ → Bool) → Plan → Searched = λ has v. searched has (mirrored_plan (length needle) v) (mirror (front needle)) (mirror (front haystack)) stepping (seen needle haystack s₀ (backward_cursor (length needle) H.walk.moving)) in
      let t₁ = subst (λ b. MirroredSearched (length needle) n r (by (has b) (backward_plan (length needle) H.walk.fixed H.walk.moving.memory))) w.set_is (backward_mirrored needle haystack ok H.walk.fixed H.walk.moving w.fit w.two_way stepping) in
      let t = subst (λ v. MirroredSearched (length needle) n r (by (set needle haystack s₀) v)) w.back_plan t₁ in
      let there = ap (seen needle haystack s₀) g.back_cursor ∙ cursor_mirrored t.cursors in
      record {
        fit = g.fit;
        two_way = g.kind ∙ w.two_way;
        set_is = w.set_is;
        plan = g.plan ∙ w.plan;
        back_plan = g.back_plan ∙ w.back_plan;
        ahead = rw g.cursor w.ahead;
        made' = and_searched w.made' (by (set needle haystack s₀) (back_plan₀ needle haystack s₀));
        mirrors = and_mirrored (front needle) (front haystack) w.mirrors t;
        back = rw there (Walked.on stepping w.back);
      }

  walks_call : (call : Call) {H : History} → Walks needle haystack s₀ H → Walks needle haystack s₀ (called needle haystack call H)
  unfolding called
  walks_call Call.next {H} w = walks_forward w (next_went needle haystack ok H.walk w.fit w.two_way)
  walks_call Call.next_back {H} w = walks_backward w (next_back_went needle haystack ok H.walk w.fit w.two_way)
  walks_call Call.next_match {H} w = walks_forward w (next_match_went needle haystack ok H.walk w.fit w.two_way)
  walks_call Call.next_match_back {H} w = walks_backward w (next_match_back_went needle haystack ok H.walk w.fit w.two_way)

  pub walks : fits needle haystack s₀.fixed s₀.moving ≡ true → s₀.moving.kind ≡ TwoWay → (calls : List Call) → Walks needle haystack s₀ (after needle haystack s₀ calls)
  unfolding after
  walks fit two_way [] =
      record {
        fit = fit;
        two_way = two_way;
        set_is = refl;
        plan = refl;
        back_plan = refl;
        ahead = Walked.begun;
        made' = nothing_made;
        mirrors = record { matches_are = refl; comparisons_are = refl; tests_are = refl };
        back = Walked.begun;
      }
  walks fit two_way (call ∷ earlier) = walks_call call (walks fit two_way earlier)
