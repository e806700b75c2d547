-- A walk whose matches may overlap lists every occurrence: the greedy lists at a gap of 1 leave none out.
-- Assumes nothing.
use Prim.Native.Nat.{ℕ, ◌+◌, ◌<◌, ◌≤◌}
use mathlib.Core.List.{List, ◌++◌}
use mathlib.Core.Logic.{inl}
use native.Mathlib.Omega.{arith}
use native.Mathlib.Decide.{dec_lt}
use Rattle.words.specs.Word.{Word, front}
use Rattle.words.specs.Occurs.{Occurs, Leftmost, Rightmost, leftmost, rightmost}
use Rattle.words.specs.Listed.{Rising, Falling}
use Rattle.words.proofs.Decided.{leftmost_is, rightmost_is}
use Rattle.words.proofs.Listed.{lists_front, lists_same, leftmost_every, rightmost_every}
use Rattle.record.specs.declared.Mode.TheVariants.{Overlapping}
use Rattle.demands.specs.Open.{open_from, open_below}
use Rattle.demands.specs.Allowed.{Allowed}
use Rattle.demands.specs.Reached.{Call, reached}
use Rattle.demands.specs.Overlapping.{EveryOccurrence}
use Rattle.demands.proofs.Stays.{fits_stays}
use Rattle.demands.proofs.Meaning.{mode_is, means, forward_none, backward_none}

-- what was listed before the list of the rest is what stands before it
module _ (x h : Word) (ms : List ℕ) where
  listed_before : (a : ℕ) → ((ks : List ℕ) → Leftmost x h 1 a ks → Leftmost x h 1 0 (ms ++ ks)) → Rising (λ k. Occurs x h k × (k < a)) ms
  listed_before a lists =
      let ks = leftmost (h.size + 1) x h 1 a in
      let rest : Leftmost x h 1 a ks = leftmost_is x h (h.size + 1) 1 a (omega arith) (omega arith) in
      lists_same
      (λ k p. (p.0.1, elim (dec_lt k a) [ yes y ↦ y | no y ↦ absurd (p.1 (omega arith, p.0.1)) ]))
      (λ k p. ((omega arith, p.0), λ o. let lo = o.0 in let hi = p.1 in omega arith))
      (lists_front ks ms (λ k e. omega arith) (leftmost_every x h (lists ks rest)) (leftmost_every x h rest))

  listed_behind : (b : ℕ) → ((ks : List ℕ) → Rightmost x h 1 b ks → Rightmost x h 1 (h.size + 1) (ms ++ ks)) → Falling (λ k. Occurs x h k × (b ≤ k)) ms
  listed_behind b lists =
      let ks = rightmost b x h 1 b in
      let rest : Rightmost x h 1 b ks = rightmost_is x h b 1 b (omega arith) (omega arith) in
      lists_same
      (λ k p. (p.0.1, elim (dec_lt k b) [ yes y ↦ absurd (p.1 (y, p.0.1)) | no y ↦ omega arith ]))
      (λ k p. ((let fits = p.0.fits in omega arith, p.0), λ o. let hi = o.0 in let lo = p.1 in omega arith))
      (lists_front ks ms (λ k e. omega arith) (rightmost_every x h (lists ks rest)) (rightmost_every x h rest))

pub every_occurrence : (needle haystack : List ℕ) → Allowed needle haystack → (calls : List Call) → EveryOccurrence needle haystack calls
every_occurrence needle haystack ok calls =
    let x = front needle in
    let h = front haystack in
    let H = reached needle haystack Overlapping calls in
    let m = means needle haystack Overlapping ok calls in
    let refused = fits_stays needle haystack ok H.walk m.fit in
    record {
      forward = listed_before x h H.forward.matches (open_from H.walk.moving) m.forward_list;
      forward_all = λ e. lists_same (λ k o. o.1) (λ k o. (omega arith, o)) (leftmost_every x h (forward_none needle haystack Overlapping ok calls (inl e)));
      backward = listed_behind x h H.backward.matches (open_below x.size H.walk.moving) m.backward_list;
      backward_all = λ e. lists_same (λ k o. o.1) (λ k o. (let fits = o.fits in omega arith, o)) (rightmost_every x h (backward_none needle haystack Overlapping ok calls (inl e)));
      step_refused = refused.next.overlapping (rw (mode_is needle haystack Overlapping ok calls));
      step_back_refused = refused.next_back.overlapping (rw (mode_is needle haystack Overlapping ok calls));
    }
