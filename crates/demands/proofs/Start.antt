-- Where every walk starts: what preparing hands back, for bytes that no check refuses.
-- Assumes nothing.
use Prim.Native.Nat.{ℕ, ◌+◌, ◌-◌, ◌*◌, ◌<◌, ◌≤◌}
use mathlib.Core.Path.{◌≡◌, refl, sym, ◌∙◌, ap}
use mathlib.Core.Bool.{Bool, true, false}
use mathlib.Core.List.{List}
use native.Mathlib.Nat.{sub_self}
use native.Mathlib.Omega.{arith}
use native.Mathlib.Decide.{ℕ_discrete}
use lib.ListN.{length}
use borrow.Author.Tests.{eq-eqb, ne_eqb}
use Rattle.words.specs.Word.{Word, front, mirror}
use Rattle.limits.proofs.Checks.{within_passes}
use Rattle.byteset.specs.Fingerprint.{has}
use Rattle.windows.specs.declared.Plan.{Plan}
use Rattle.windows.specs.declared.Cursor.{Cursor}
use Rattle.windows.specs.Mirror.{mirrored_plan, mirrored_cursor}
use Rattle.windows.specs.Meaning.{Guides, Gap}
use Rattle.windows.proofs.Matches.{gap_whole, gap_every}
use Rattle.record.specs.declared.Kind.TheVariants.{TwoWay}
use Rattle.record.specs.Fits.{fits}
use Rattle.record.specs.declared.Mode.{Mode}
use Rattle.record.specs.Kinds.{overlaps, after_match, forward_plan, backward_plan, forward_cursor, backward_cursor}
use Rattle.record.proofs.Fitting.{decides_fits, fits_backward}
use Rattle.prepare.specs.Prepare.{five_steps, empty_walk, prepare_rule}
use Rattle.prepare.proofs.Ready.{prepared_start, prepared_start_back, prepared_fits, prepared_mode, prepared_two_way, preparing_few}
use Rattle.prepare.proofs.Guiding.{prepared_guides, prepared_guides_back}
use Rattle.searcher.specs.declared.TwoWaySearcher.{TwoWaySearcher}
use Rattle.searcher.specs.Walk.{new_rule}
use Rattle.demands.specs.Open.{open_from, open_below}
use Rattle.demands.specs.Allowed.{Allowed}
use Rattle.demands.specs.Means.{gap_of}

-- A two way state that fits and guides both walks, each of which stands at its own end of the haystack (the backward one in the mirror) and remembers nothing.
-- A match moves by the gap of the walk's list, or further over places at which nothing is missed.
pub record Starts (needle haystack : List ℕ) (mode : Mode) (s : TwoWaySearcher) : Type 0 where
  pub fit : fits needle haystack s.fixed s.moving ≡ true
  pub two_way : s.moving.kind ≡ TwoWay
  pub guides : Guides (has s.fixed.byteset) (forward_plan (length needle) s.fixed s.moving.memory) (front needle)
  pub gaps : Gap (forward_plan (length needle) s.fixed s.moving.memory) (front needle) (gap_of mode needle)
  pub guides_back : Guides (has s.fixed.byteset) (mirrored_plan (length needle) (backward_plan (length needle) s.fixed s.moving.memory)) (mirror (front needle))
  pub gaps_back : Gap (mirrored_plan (length needle) (backward_plan (length needle) s.fixed s.moving.memory)) (mirror (front needle)) (gap_of mode needle)
  pub cursor : forward_cursor s.moving ≡ record { at = 0; memory = 0 }
  pub cursor_back : mirrored_cursor (length needle) (length haystack) (backward_cursor (length needle) s.moving) ≡ record { at = 0; memory = 0 }

-- Of either kind: a state that fits and has the mode that was asked for, with every place still open to both directions; and what preparing it cost.
pub record Ready (needle haystack : List ℕ) (mode : Mode) (s : TwoWaySearcher) (preparing : ℕ) : Type 0 where
  pub mode_is : s.fixed.mode ≡ mode
  pub fit : fits needle haystack s.fixed s.moving ≡ true
  pub position_is : s.moving.position ≡ 0
  pub end_is : s.moving.end ≡ length haystack
  pub open_is : open_from s.moving ≡ 0
  pub open_back_is : open_below (length needle) s.moving ≡ length haystack + 1 - length needle
  -- "Preparing .. 9m"
  pub few : preparing ≤ 9 * length needle

module _ (needle haystack : List ℕ) (mode : Mode) (ok : Allowed needle haystack) where
  module _ (pos : 0 < length needle) where
    prepared_is : prepare_rule needle (length haystack) mode ≡ five_steps needle (length haystack) mode
    unfolding prepare_rule
    prepared_is = rw (within_passes (length haystack) (length needle) ok.within, ne_eqb (length needle) 0 (omega arith))

    -- a match moves by the needle's size, or, where matches may overlap, by the period
    gaps : {has : ℕ → Bool} {v : Plan} {x : Word} → Guides has v x → v.shift ≡ after_match mode (length needle) v.period → Gap v x (gap_of mode needle)
    gaps {v = v} {x} g shift = go (overlaps mode) refl
      where
        go : (b : Bool) → overlaps mode ≡ b → Gap v x (gap_of mode needle)
        go false e = rw e (gap_whole (shift ∙ rw e (omega arith)) (omega arith))
        go true e = rw e (gap_every g (shift ∙ rw e))

    pub prepared_starts : Starts needle haystack mode (new_rule needle (length haystack) mode).walk
    prepared_starts =
        rw prepared_is
        (record {
          fit = prepared_fits needle pos haystack mode;
          two_way = prepared_two_way needle pos (length haystack) mode;
          guides = prepared_guides needle (length haystack) mode pos;
          gaps = gaps (prepared_guides needle (length haystack) mode pos) (rw (prepared_mode needle pos (length haystack) mode));
          guides_back = prepared_guides_back needle (length haystack) mode pos;
          gaps_back = gaps (prepared_guides_back needle (length haystack) mode pos) (rw (prepared_mode needle pos (length haystack) mode));
          cursor = prepared_start needle pos (length haystack) mode;
          cursor_back = ap (mirrored_cursor (length needle) (length haystack)) (prepared_start_back needle pos (length haystack) mode) ∙ rw (sub_self (length haystack), sub_self (length needle));
        })

    some_ready : let p = new_rule needle (length haystack) mode in Ready needle haystack mode p.walk p.counts.preparing
    some_ready =
        let start = prepared_starts in
        let behind : length haystack - (new_rule needle (length haystack) mode).walk.moving.end ≡ 0 = ap (λ (k : Cursor). k.at) start.cursor_back in
        let position : (new_rule needle (length haystack) mode).walk.moving.position ≡ 0 = ap (λ (k : Cursor). k.at) start.cursor in
        let within = (fits_backward needle haystack _ _ start.fit start.two_way).within in
        record {
          mode_is = rw prepared_is (prepared_mode needle pos (length haystack) mode);
          fit = start.fit;
          position_is = position;
          end_is = omega arith;
          open_is = rw start.two_way position;
          open_back_is = rw start.two_way (omega arith);
          few = rw prepared_is (preparing_few needle pos (length haystack) mode);
        }

  -- an empty needle has nothing to prepare
  empty_ready : length needle ≡ 0 → let p = new_rule needle (length haystack) mode in Ready needle haystack mode p.walk p.counts.preparing
  unfolding prepare_rule
  empty_ready blank =
      rw (within_passes (length haystack) (length needle) ok.within, eq-eqb (length needle) 0 blank)
      (record {
        mode_is = refl;
        fit = (decides_fits needle haystack (empty_walk (length haystack) mode).fixed (empty_walk (length haystack) mode).moving).complete
            (record { needle_is = sym blank; haystack_is = refl; position_in = omega arith; end_in = omega arith; kind_fits = blank });
        position_is = refl;
        end_is = refl;
        open_is = refl;
        open_back_is = omega arith;
        few = omega arith;
      })

  pub prepared_ready : let p = new_rule needle (length haystack) mode in Ready needle haystack mode p.walk p.counts.preparing
  prepared_ready = elim (ℕ_discrete (length needle) 0) [ yes blank ↦ empty_ready blank | no some ↦ some_ready (omega arith) ]
