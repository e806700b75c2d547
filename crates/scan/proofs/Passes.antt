-- How a scan goes on, in either direction and by any width: letters are looked at as a stretch of the text, and passed if none of them is x.
-- Assumes nothing.
use Prim.Native.Nat.{ℕ, ◌+◌, ◌-◌, ◌<◌, ◌≤◌}
use mathlib.Core.Path.{◌≡◌, refl, sym, ◌∙◌, ap}
use mathlib.Core.Bool.{Bool, true, false, cond, not, false≢true, true≢false}
use mathlib.Core.List.{List}
use native.Mathlib.Omega.{arith}
use native.Mathlib.Decide.{dec_lt}
use lib.Dec.{eqb}
use lib.ListN.{length, get_or, take, drop}
use Rattle.std.specs.List.{list_all}
use Rattle.std.proofs.lemmas.List.{length-take-le, length-drop, get_or-take, get_or-drop}
use Rattle.std.proofs.lemmas.List.Sums.{AllPass-from_list_all, list_all-from_AllPass}
use Rattle.std.proofs.lemmas.List.Elements.{All-get_or, All-from_get_or}
use Rattle.words.specs.Word.{Word, front, back}
use Rattle.words.proofs.Tests.{First, first_is}
use Rattle.scan.specs.Scanned.{before}

-- whether a byte is another than x
abbrev other : ℕ → ℕ → Bool
other x y = not (eqb y x)

-- the bytes of the text from one place to another, as the code takes them
abbrev between : List ℕ → ℕ → ℕ → List ℕ
between text from end = take (end - from) (drop from text)

-- A stretch of `width` letters of w behind k of them, as bytes of the text. They may stand there in either order: `turn` undoes itself.
record Stretch (w : Word) (width k : ℕ) (bytes : List ℕ) : Type 0 where
  inside : k + width ≤ w.size
  long : length bytes ≡ width
  turn : ℕ → ℕ
  turned : (i : ℕ) → i < width → turn i < width
  again : (i : ℕ) → i < width → turn (turn i) ≡ i
  letters : (i : ℕ) → i < width → get_or bytes i 0 ≡ w.letter (k + turn i)

module _ (x : ℕ) (w : Word) where
  -- what `before` gives
  pub first : First (λ i. eqb (w.letter i) x) w.size 0 (before x w)
  unfolding before
  first = first_is (λ i. eqb (w.letter i) x) w.size 0

  module _ {width k : ℕ} {bytes : List ℕ} (s : Stretch w width k bytes) where
    -- where none of its bytes is x, the first x is not in it
    passed_by : k ≤ before x w → list_all (other x) bytes ≡ true → k + width ≤ before x w
    passed_by low e = elim (dec_lt (before x w) (k + width)) [ yes h ↦ absurd (hit h) | no h ↦ omega arith ]
      where
        hit : before x w < k + width → ⊥
        hit h =
            let i = s.turn (before x w - k) in
            let inside : i < width = s.turned (before x w - k) (omega arith) in
            let there : k + s.turn i ≡ before x w = omega (arith, s.again (before x w - k) (omega arith)) in
            let found : eqb (w.letter (k + s.turn i)) x ≡ true = rw there (first.found (omega (arith, s.inside))) in
            let missed : other x (get_or bytes i 0) ≡ true = All-get_or (λ y. other x y ≡ true) bytes i 0 (omega (arith, s.long)) (AllPass-from_list_all (other x) bytes e) in
            false≢true (sym (ap not found) ∙ sym (ap (other x) (s.letters i inside)) ∙ missed)

    -- and where one is, the first x is in it, or before it
    stopped_by : list_all (other x) bytes ≡ false → before x w < k + width
    stopped_by e = elim (dec_lt (before x w) (k + width)) [ yes h ↦ h | no h ↦ absurd (true≢false (sym (none (omega arith)) ∙ e)) ]
      where
        none : k + width ≤ before x w → list_all (other x) bytes ≡ true
        none high =
            list_all-from_AllPass (other x) bytes
            (All-from_get_or (λ y. other x y ≡ true) bytes 0
            (λ i h.
            let hi : i < width = omega (arith, s.long) in
            ap (other x) (s.letters i hi) ∙ ap not (first.missed (k + s.turn i) (omega arith) (omega (arith, s.turned i hi)))))

-- The text read from the front, or from the back, as the code reads it: behind k letters the next `width` start at `start`.
abbrev pub read : List ℕ → Bool → Word
read text backward = cond backward (back text) (front text)

abbrev pub start : List ℕ → Bool → ℕ → ℕ → ℕ
start text backward width k = cond backward (length text - k - width) k

-- they lie within the text
pub start_inside : (text : List ℕ) (backward : Bool) {width k from : ℕ} → width ≤ length text - k → k ≤ length text → from ≡ start text backward width k → from + width ≤ length text
start_inside text true h i q = omega arith
start_inside text false h i q = omega arith

module _ (x : ℕ) (text : List ℕ) where
  long : (from width : ℕ) → from + width ≤ length text → length (between text from (from + width)) ≡ width
  long from width h = let e = length-drop from text in length-take-le (from + width - from) (drop from text) (omega arith) ∙ omega arith

  byte : (from width i j : ℕ) → i < width → from + i ≡ j → get_or (between text from (from + width)) i 0 ≡ get_or text j 0
  byte from width i j h e = get_or-take (from + width - from) (drop from text) i 0 (omega arith) ∙ get_or-drop from text i 0 ∙ ap (λ (y : ℕ). get_or text y 0) e

  stretch : (backward : Bool) (width k : ℕ) → k + width ≤ length text
      → Stretch (read text backward) width k (between text (start text backward width k) (start text backward width k + width))
  stretch true width k h =
      let from = length text - k - width in
      record {
        inside = h;
        long = long from width (start_inside text true {width = width} {k = k} (omega arith) (omega arith) refl);
        turn = λ i. width - (1 + i);
        turned = λ i hi. omega arith;
        again = λ i hi. omega arith;
        letters = λ i hi. byte from width i _ hi (omega arith);
      }
  stretch false width k h =
      record {
        inside = h;
        long = long k width h;
        turn = λ i. i;
        turned = λ i hi. hi;
        again = λ i hi. refl;
        letters = λ i hi. byte k width i (k + i) hi refl;
      }

  before_inside : (backward : Bool) → before x (read text backward) ≤ length text
  before_inside true = let f = first x (back text) in omega arith
  before_inside false = let f = first x (front text) in omega arith

-- k letters are passed, and none of them is x
pub record Passed (x : ℕ) (text : List ℕ) (backward : Bool) (k : ℕ) : Type 0 where
  pub inside : k ≤ length text
  pub reached : k ≤ before x (read text backward)

module _ {x : ℕ} {text : List ℕ} (backward : Bool) where
  pub pass_starts : {k : ℕ} → k ≤ before x (read text backward) → Passed x text backward k
  pass_starts h = let e = before_inside x text backward in record { inside = omega arith; reached = h }

  -- from is where the stretch behind k starts, and b what the code has said of the bytes from `low` to `high`, which are that stretch
  module _ {width k from low high : ℕ} {b : Bool} (p : Passed x text backward k) (h : width ≤ length text - k) (q : from ≡ start text backward width k) (e : b ≡ list_all (other x) (between text low high))
      (lows : low ≡ from) (highs : high ≡ from + width) where
    told : b ≡ list_all (other x) (between text (start text backward width k) (start text backward width k + width))
    told = rw (← q, ← highs, ← lows) e

    pub pass_on : b ≡ true → Passed x text backward (k + width)
    pass_on n =
        record {
          inside = omega arith;
          reached = passed_by x (read text backward) (stretch x text backward width k (omega arith)) p.reached (sym told ∙ n);
        }

    pub pass_stops : b ≡ false → before x (read text backward) < k + width
    pass_stops n = stopped_by x (read text backward) (stretch x text backward width k (omega arith)) (sym told ∙ n)

  pub pass_ends : {width k : ℕ} → Passed x text backward k → (width ≤ length text - k → ⊥) → before x (read text backward) < k + width
  pass_ends p h = let e = before_inside x text backward in omega arith
