-- Backward is forward in a mirror: an occurrence, a period and a walk's list, read from the other end.
-- Assumes nothing.
use Prim.Native.Nat.{ℕ, ◌+◌, ◌-◌, ◌<◌, ◌≤◌}
use mathlib.Core.Path.{◌≡◌, refl, sym, ◌∙◌, ap}
use mathlib.Core.List.{List, [], ◌∷◌, map}
use native.Mathlib.Omega.{arith}
use Rattle.words.specs.Word.{Word, mirror}
use Rattle.words.specs.Choice.{Least, Greatest, Nowhere}
use Rattle.words.specs.Occurs.{Occurs, OccursFrom, OccursBelow, Leftmost, Rightmost, mirrored}
use Rattle.words.specs.Period.{Period}

-- two words with the same letters
pub record Same (x y : Word) : Type 0 where
  pub size : x.size ≡ y.size
  pub letters : (i : ℕ) → i < x.size → x.letter i ≡ y.letter i

-- a word read from the back twice is the word
pub mirror_mirror : (x : Word) → Same (mirror (mirror x)) x
mirror_mirror x = record { size = refl; letters = λ i h. ap x.letter (omega arith) }

module _ (x h : Word) where
  pub occurs_mirror : (k : ℕ) → Occurs x h k → Occurs (mirror x) (mirror h) (mirrored x h k)
  occurs_mirror k o =
      let f = o.fits in
      record {
        fits = omega arith;
        same = λ i j hi e. o.same (x.size - (1 + i)) (h.size - (1 + j)) (omega arith) (omega arith);
      }

  mirrored_mirrored : (k : ℕ) → k + x.size ≤ h.size → mirrored x h (mirrored x h k) ≡ k
  mirrored_mirrored k f = omega arith

  pub mirror_occurs : (k : ℕ) → Occurs (mirror x) (mirror h) k → Occurs x h (mirrored x h k)
  mirror_occurs k o =
      let f = o.fits in
      record {
        fits = omega arith;
        same = λ i j hi e. ap x.letter (omega arith) ∙ o.same (x.size - (1 + i)) (h.size - (1 + j)) (omega arith) (omega arith) ∙ ap h.letter (omega arith);
      }

  -- The starts below b are in the mirror those from a on: k letters before an occurrence, its own, and the k' behind it are the whole of h.
  -- So it is for b = n + 1 - (m + a), for a = n + 1 - (m + b), for b = n + 1 and a = 0, and, where nothing reaches past e, for b = e + 1 - m and a = n - e.
  abbrev pub Facing : ℕ → ℕ → Type 0
  Facing b a = (k k' : ℕ) → k + k' + x.size ≡ h.size → (k < b → a ≤ k') × (a ≤ k' → k < b)

  module _ (b a : ℕ) (facing : Facing b a) where
    to_below : (k : ℕ) → OccursFrom (mirror x) (mirror h) a k → OccursBelow x h b (mirrored x h k)
    to_below k o = let f = o.1.fits in ((facing (mirrored x h k) k (omega arith)).1 o.0, mirror_occurs k o.1)

    to_from : (k : ℕ) → OccursBelow x h b k → OccursFrom (mirror x) (mirror h) a (mirrored x h k)
    to_from k o = let f = o.1.fits in ((facing k (mirrored x h k) (omega arith)).0 o.0, occurs_mirror k o.1)

    pub least_greatest : (k : ℕ) → Least (OccursFrom (mirror x) (mirror h) a) k → Greatest (OccursBelow x h b) (mirrored x h k)
    least_greatest k l =
        let f = l.holds.1.fits in
        record {
          holds = to_below k l.holds;
          none_after = λ j hj o. let fj = o.1.fits in l.none_before (mirrored x h j) (omega arith) (to_from j o);
        }

    pub none_none : Nowhere (OccursFrom (mirror x) (mirror h) a) → Nowhere (OccursBelow x h b)
    none_none m k o = m (mirrored x h k) (to_from k o)

    -- and the other way round
    greatest_least : (k : ℕ) → Greatest (OccursBelow x h b) k → Least (OccursFrom (mirror x) (mirror h) a) (mirrored x h k)
    greatest_least k g =
        let f = g.holds.1.fits in
        record {
          holds = to_from k g.holds;
          none_before = λ j hj o. let fj = o.1.fits in g.none_after (mirrored x h j) (omega arith) (to_below j o);
        }

    none_from : Nowhere (OccursBelow x h b) → Nowhere (OccursFrom (mirror x) (mirror h) a)
    none_from m k o = m (mirrored x h k) (to_below k o)

  -- the rightmost list is the leftmost one of the mirrored words, each place counted from the other end
  pub rightmost_mirror : (gap b a : ℕ) (ks : List ℕ) → Facing b a → Leftmost (mirror x) (mirror h) gap a ks → Rightmost x h gap b (map (mirrored x h) ks)
  rightmost_mirror gap b a [] f (Leftmost.over m) = Rightmost.over (none_none b a f m)
  rightmost_mirror gap b a (k ∷ ks) f (Leftmost.hit l r) =
      let fits = l.holds.1.fits in
      Rightmost.hit (least_greatest b a f k l) (rightmost_mirror gap (mirrored x h k + 1 - gap) (k + gap) ks (λ i i' e. omega arith) r)

  -- and the other way round
  pub leftmost_mirror : (gap b a : ℕ) (ks : List ℕ) → Facing b a → Rightmost x h gap b ks → Leftmost (mirror x) (mirror h) gap a (map (mirrored x h) ks)
  leftmost_mirror gap b a [] f (Rightmost.over m) = Leftmost.over (none_from b a f m)
  leftmost_mirror gap b a (k ∷ ks) f (Rightmost.hit g r) =
      let fits = g.holds.1.fits in
      Leftmost.hit (greatest_least b a f k g) (leftmost_mirror gap (k + 1 - gap) (mirrored x h k + gap) ks (λ i i' e. omega arith) r)

  -- the places of a list, counted from the other end and back
  pub rightmost_mirrored : (gap b : ℕ) (ks : List ℕ) → Rightmost x h gap b ks → map (mirrored x h) (map (mirrored x h) ks) ≡ ks
  rightmost_mirrored gap b [] r = refl
  rightmost_mirrored gap b (k ∷ ks) (Rightmost.hit g r) =
      rw (mirrored_mirrored k g.holds.1.fits, rightmost_mirrored gap (k + 1 - gap) ks r)

-- a period of the word is one of the word read from the back
pub period_mirror : (x : Word) (r : ℕ) → Period x r → Period (mirror x) r
period_mirror x r p =
    record {
      positive = p.positive;
      within = p.within;
      repeats = λ i j e h. sym (p.repeats (x.size - (1 + j)) (x.size - (1 + i)) (omega arith) (omega arith));
    }
