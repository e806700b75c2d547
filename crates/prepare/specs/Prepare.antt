-- Preparing: 01's "Preparing", step by step, with the preparing count of "Whole searches and counts".
-- Assumes nothing.
use Rattle.std.specs.Prelude.{ℕ, ◌+◌, ◌-◌, min, max, ◌≡◌, true, false, cond, List, ltb, eqb, length, take, drop}
use Rattle.std.specs.Prelude.{None, Some, Ok, Err}
use Rattle.words.specs.Word.{front, back}
use Rattle.limits.specs.Checks.{Check, lengths}
use Rattle.limits.specs.Refusals.{number_of}
use Rattle.limits.specs.Said.{Said, refused, given, said}
use Rattle.limits.specs.declared.Refusal.{Refusal}
use Rattle.byteset.specs.Fingerprint.{fingerprint}
use Rattle.compare.specs.Agree.{agree}
use Rattle.suffix.specs.Rounds.{rounds}
use Rattle.suffix.specs.declared.Suffix.{Suffix}
use Rattle.suffix.specs.declared.ReverseSuffix.{ReverseSuffix}
use Rattle.record.specs.Fits.{fits}
use Rattle.record.specs.declared.Memory.{Memory}
use Rattle.record.specs.declared.Memory.TheVariants.{Long, Short}
use Rattle.record.specs.declared.Kind.{Kind}
use Rattle.record.specs.declared.Kind.TheVariants.{TwoWay, Empty}
use Rattle.record.specs.declared.Mode.{Mode}
use Rattle.record.specs.declared.Mode.TheVariants.{NonOverlapping}
use Rattle.record.specs.declared.Fixed.{Fixed}
use Rattle.record.specs.declared.Moving.{Moving}
use Rattle.record.specs.declared.Counts.{Counts}
use Rattle.prepare.specs.declared.Parts.{Parts}

-- 1. "Run both orders of `maximal_suffix`. Take the false order's pair if its start is strictly greater, else the true order's."
unfoldable pub chosen : List ℕ → Suffix
chosen needle =
    let lower = rounds false (front needle) None in
    let higher = rounds true (front needle) None in
    cond (ltb higher.start lower.start) lower higher

-- 2. "Compare the needle's first c bytes with the c bytes that start at p, left to right, stopping at the first difference."
abbrev pub agreed : List ℕ → ℕ → ℕ → ℕ
agreed needle c p = agree (take c needle) (take c (drop p needle))

-- "Preparing: one for each round of the source's loop in each maximal suffix pass that is run, reverse ones included .., and each pair of step 2."
unfoldable pub forward_rounds : List ℕ → ℕ
forward_rounds needle = (rounds false (front needle) None).rounds + (rounds true (front needle) None).rounds

unfoldable pub reverse_rounds : List ℕ → ℕ → ℕ
reverse_rounds needle p = (rounds false (back needle) (Some p)).rounds + (rounds true (back needle) (Some p)).rounds

-- what an answer says, its refusal's number or that a state is given; the two parts of the record, and the counts
pub record PartsTold : Type 0 where
  pub answer : Said (Unit {0})
  pub fixed : Fixed
  pub moving : Moving
  pub counts : Counts

abbrev pub parts_told : Parts → PartsTold
parts_told r = record { answer = said r.answer; fixed = r.fixed; moving = r.moving; counts = r.counts }

-- the counts of a call that only prepares
abbrev pub preparing : ℕ → Counts
preparing k = record { preparing = k; comparisons = 0; tests = 0 }

-- 5. "`position` 0, `end` n."
abbrev pub ready : Fixed → Memory → Kind → ℕ → PartsTold
ready f memory kind k =
    record {
      answer = given tt;
      fixed = f;
      moving = record { position = 0; end = f.haystack_len; memory = memory; kind = kind };
      counts = preparing k;
    }

-- 3. "Equal: Short. p is kept and b is m minus the greater of the two reverse starts. `byteset` covers the first p bytes; memories are 0 and m."
-- "The mode is chosen at preparing." (02 [3]) `before` is what was counted before the reverse passes.
unfoldable pub prepare_short : List ℕ → ℕ → Mode → ℕ → ℕ → ℕ → PartsTold
prepare_short needle n mode c p before =
    let lower = rounds false (back needle) (Some p) in
    let higher = rounds true (back needle) (Some p) in
    ready
    (record {
      needle_len = length needle;
      haystack_len = n;
      mode = mode;
      crit_pos = c;
      crit_pos_back = length needle - max lower.start higher.start;
      period = p;
      byteset = fingerprint (take p needle);
    })
    (Short 0 (length needle))
    TwoWay
    (before + reverse_rounds needle p)

-- 4. "Different: Long, p = max(c, m-c)+1, b = c, `byteset` covers the whole needle."
unfoldable pub prepare_long : List ℕ → ℕ → Mode → ℕ → ℕ → PartsTold
prepare_long needle n mode c before =
    ready
    (record {
      needle_len = length needle;
      haystack_len = n;
      mode = mode;
      crit_pos = c;
      crit_pos_back = c;
      period = max c (length needle - c) + 1;
      byteset = fingerprint needle;
    })
    Long
    TwoWay
    before

-- the five steps
unfoldable pub five_steps : List ℕ → ℕ → Mode → PartsTold
five_steps needle n mode =
    let c = (chosen needle).start in
    let p = (chosen needle).period in
    let k = agreed needle c p in
    -- the pairs that step 2 compares, the differing one included
    let before = forward_rounds needle + min (k + 1) c in
    cond (ltb k c) (prepare_long needle n mode c before) (prepare_short needle n mode c p before)

-- what the code holds of the passes
abbrev pub to_reverse : Suffix → ReverseSuffix
to_reverse r = record { start = r.start; rounds = r.rounds }

abbrev pub choice : List ℕ → Suffix
choice needle = record { start = (chosen needle).start; period = (chosen needle).period; rounds = forward_rounds needle }

-- what is fixed where there is nothing to split
abbrev pub lengths_alone : ℕ → ℕ → Mode → Fixed
lengths_alone m n mode = record { needle_len = m; haystack_len = n; mode = mode; crit_pos = 0; crit_pos_back = 0; period = 0; byteset = 0 }

-- "The record gains a second kind of walk" (02 [1]): an empty needle's. Both directions give a Match first, and "all counts are 0".
abbrev pub empty_walk : ℕ → Mode → PartsTold
empty_walk n mode = ready (lengths_alone 0 n mode) Long (Empty true true) 0

-- "refused, it gives no state": the record is then this one, which fits nothing (`NoState`)
abbrev pub refuse : Refusal → PartsTold
refuse why =
    record {
      answer = refused (number_of why);
      fixed = lengths_alone 0 0 NonOverlapping;
      moving = record { position = 0; end = 0; memory = Long; kind = TwoWay };
      counts = preparing 0;
    }

abbrev pub or_parts : Check → PartsTold → PartsTold
or_parts (Ok passed) otherwise = otherwise
or_parts (Err why) otherwise = refuse why

-- "Preparing takes the needle and the haystack's length (check 1 is made on that length)": checks 1 and 2. "The mode is chosen at preparing." (02 [3])
unfoldable pub prepare_rule : List ℕ → ℕ → Mode → PartsTold
prepare_rule needle n mode = or_parts (lengths n (length needle)) (cond (eqb (length needle) 0) (empty_walk n mode) (five_steps needle n mode))

-- "refused, it gives no state": what is handed back then fits no needle and no haystack
abbrev pub NoState : PartsTold → Type 0
NoState r = (number : ℕ) → r.answer ≡ refused number → (needle haystack : List ℕ) → fits needle haystack r.fixed r.moving ≡ false
