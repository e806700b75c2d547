-- Any mix of the four calls from an empty state on gives each place once: forward in rising order, backward in falling order, and none of either is left out.
-- Assumes nothing.
use Prim.Native.Nat.{ℕ}
use mathlib.Core.Path.{◌≡◌, refl}
use mathlib.Core.Bool.{Bool, true, false}
use mathlib.Core.List.{List, [], ◌∷◌, ◌++◌, append_assoc}
use native.Mathlib.Omega.{arith}
use lib.ListN.{length}
use Rattle.words.specs.Word.{Word, front}
use Rattle.words.specs.Occurs.{Leftmost, Rightmost}
use Rattle.record.specs.declared.Kind.{Kind}
use Rattle.record.specs.declared.Kind.TheVariants.{TwoWay, Empty}
use Rattle.record.specs.declared.Fixed.{Fixed}
use Rattle.record.specs.declared.Moving.{Moving}
use Rattle.record.specs.Fits.{fits}
use Rattle.record.proofs.Fitting.{two_way_some}
use Rattle.search.specs.Calls.{forward_call, backward_call}
use Rattle.searcher.specs.declared.TwoWaySearcher.{TwoWaySearcher}
use Rattle.demands.specs.Open.{open_from, open_below}
use Rattle.demands.specs.Allowed.{Allowed}
use Rattle.demands.specs.Reached.{Call, Made, History, and_made, called, after}
use Rattle.demands.proofs.Turns.{gave, step_gave, match_gave, goes_ahead, goes_back}

-- an empty needle is walked by an empty state
pub by_empty : (needle haystack : List ℕ) (f : Fixed) (s : Moving) → fits needle haystack f s ≡ true → length needle ≡ 0 → {P : Type 0}
    → ((ahead behind : Bool) → s.kind ≡ Empty ahead behind → P) → P
by_empty needle haystack f s fit blank {P} given = go s.kind refl
  where
    go : (kind : Kind) → s.kind ≡ kind → P
    go TwoWay e = let some = two_way_some needle haystack f s fit e in absurd (omega arith)
    go (Empty ahead behind) e = given ahead behind e

module _ (needle haystack : List ℕ) (ok : Allowed needle haystack) (blank : length needle ≡ 0) (s₀ : TwoWaySearcher) where
  abbrev x : Word
  x = front needle

  abbrev h : Word
  h = front haystack

  abbrev Free : Made → Type 0
  Free made = (made.comparisons ≡ 0) × (made.tests ≡ 0)

  -- what holds of a history from s₀ on: what it gave stands before the places still open, and it cost nothing
  pub record Places (H : History) : Type 0 where
    pub fit : fits needle haystack H.walk.fixed H.walk.moving ≡ true
    pub forward_lists : (ks : List ℕ) → Leftmost x h 1 (open_from H.walk.moving) ks → Leftmost x h 1 (open_from s₀.moving) (H.forward.matches ++ ks)
    pub backward_lists : (ks : List ℕ) → Rightmost x h 1 (open_below (length needle) H.walk.moving) ks
        → Rightmost x h 1 (open_below (length needle) s₀.moving) (H.backward.matches ++ ks)
    pub forward_free : Free H.forward
    pub backward_free : Free H.backward

  module _ {H : History} (p : Places H) (stepping : Bool) where
    abbrev f : Fixed
    f = H.walk.fixed

    abbrev s : Moving
    s = H.walk.moving

    places_forward : let r = forward_call stepping needle haystack f s in
        Places (record { walk = record { fixed = f; moving = r.moving }; forward = and_made H.forward (gave r.ending) r.counts; backward = H.backward })
    places_forward =
        by_empty needle haystack f s p.fit blank
        (λ ahead behind e.
        let g = goes_ahead needle haystack ok f s p.fit e stepping in
        let free = p.forward_free in
        record {
          fit = g.fits_again;
          forward_lists = λ ks l. rw append_assoc (p.forward_lists _ (g.lists ks l));
          backward_lists = rw g.other p.backward_lists;
          forward_free = rw g.costs (omega arith);
          backward_free = p.backward_free;
        })

    places_backward : let r = backward_call stepping needle haystack f s in
        Places (record { walk = record { fixed = f; moving = r.moving }; forward = H.forward; backward = and_made H.backward (gave r.ending) r.counts })
    places_backward =
        by_empty needle haystack f s p.fit blank
        (λ ahead behind e.
        let g = goes_back needle haystack ok f s p.fit e stepping in
        let free = p.backward_free in
        record {
          fit = g.fits_again;
          forward_lists = rw g.other p.forward_lists;
          backward_lists = λ ks l. rw append_assoc (p.backward_lists _ (g.lists ks l));
          forward_free = p.forward_free;
          backward_free = rw g.costs (omega arith);
        })

  places_call : (call : Call) {H : History} → Places H → Places (called needle haystack call H)
  unfolding called
  places_call Call.next p = rw step_gave (places_forward p true)
  places_call Call.next_back p = rw step_gave (places_backward p true)
  places_call Call.next_match p = rw match_gave (places_forward p false)
  places_call Call.next_match_back p = rw match_gave (places_backward p false)

  pub places : fits needle haystack s₀.fixed s₀.moving ≡ true → (calls : List Call) → Places (after needle haystack s₀ calls)
  unfolding after
  places fit [] = record { fit = fit; forward_lists = λ ks l. l; backward_lists = λ ks l. l; forward_free = (refl, refl); backward_free = (refl, refl) }
  places fit (call ∷ earlier) = places_call call (places fit earlier)
