-- What a one-byte scan answers and counts: 01's "Whole searches and counts".
-- Assumes nothing.
use Rattle.std.specs.Prelude.{ℕ, ◌+◌, ◌-◌, Bool, cond, List, ltb, eqb, length}
use Rattle.std.specs.Prelude.{Some, None}
use Rattle.words.specs.Word.{Word, front, back}
use Rattle.words.specs.Choice.{least}
use Rattle.scan.specs.declared.Scan.{Scan}

-- "One byte: a scan from the front or back": how many letters of w come before the first that is x, or w's size where there is none
unfoldable pub before : ℕ → Word → ℕ
before x w = least w.size (λ i. eqb (w.letter i) x)

-- "the scan compares up to and including the hit, or all n bytes if there is none".
-- The hit after k letters of w stands at `place k` of the text.
unfoldable pub scanned : ℕ → Word → (ℕ → ℕ) → Scan
scanned x w place =
    cond (ltb (before x w) w.size)
    (record { found = Some (place (before x w)); comparisons = before x w + 1 })
    (record { found = None; comparisons = w.size })

abbrev pub from_front : ℕ → List ℕ → Scan
from_front x text = scanned x (front text) (λ k. k)

abbrev pub from_back : ℕ → List ℕ → Scan
from_back x text = scanned x (back text) (λ k. length text - (1 + k))

-- "One byte: a scan from the front or back."
abbrev pub scan_of : Bool → ℕ → List ℕ → Scan
scan_of backward x text = cond backward (from_back x text) (from_front x text)
