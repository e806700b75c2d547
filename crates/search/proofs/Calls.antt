-- What each way through a call shows: what was checked, what a search asks and gives, and what is handed back.
-- Assumes nothing.
use Rattle.std.proofs.Common.{◌≡◌, ℕ, ◌≤◌, Bool, true, false, cond, ◌&&◌, ◌⊎◌, ⊎_elim, eqb, ne_eqb, List, length, Ok, Err, sym, refl, ◌∙◌, ap, arith}
use Rattle.limits.specs.Checks.{Check, lengths, Within}
use Rattle.limits.specs.declared.Refusal.{Refusal}
use Rattle.limits.proofs.Room.{haystack_room, needle_room}
use Rattle.limits.proofs.Checks.{lengths_pass}
use Rattle.windows.specs.declared.Plan.{Plan}
use Rattle.windows.specs.declared.Cursor.{Cursor}
use Rattle.windows.specs.declared.Searched.{Searched}
use Rattle.record.specs.declared.Flags.{Flags}
use Rattle.record.specs.declared.Fixed.{Fixed}
use Rattle.record.specs.declared.Moving.{Moving}
use Rattle.record.specs.Fits.{fits, fitting}
use Rattle.record.specs.Kinds.{flags_of, overlaps, plan_of, cursor_of, moved_to}
use Rattle.record.proofs.Fitting.{state, told_two_way, fits_forward, fits_backward}
use Rattle.search.specs.declared.Ending.{Ending}
use Rattle.search.specs.declared.Walked.{Walked}
use Rattle.search.specs.Calls.{refusal, walking, free, ending_of, or_walked, forward, backward, forward_call, backward_call}
use Rattle.search.specs.Code.{TwoWayStart, searched_from, two_way, empty_way, call, far_end, Start}

module _ (needle haystack : List ℕ) (f : Fixed) (s : Moving) where
  -- ---- what a call that is not refused knows

  pub record Passed (stepping : Bool) : Type 0 where
    pub within : Within (length haystack) (length needle)
    pub fit : fits needle haystack f s ≡ true
    pub no_overlapping_step : (stepping && overlaps f.mode) ≡ false

  -- each test is split, so that it holds whatever the order of the checks
  pub refusal_passed : (stepping : Bool) → refusal stepping needle haystack f s ≡ Ok tt → Passed stepping
  unfolding refusal fitting
  refusal_passed stepping q = go (lengths (length haystack) (length needle)) (fits needle haystack f s) (stepping && overlaps f.mode) refl refl refl
    where
      go : (l : Check) (d o : Bool) → lengths (length haystack) (length needle) ≡ l → fits needle haystack f s ≡ d → (stepping && overlaps f.mode) ≡ o → Passed stepping
      go (Err why) d o el ed eo = let no = simp (el, ed, eo) at q in cc
      go (Ok u) false true el ed eo = let no = simp (el, ed, eo) at q in cc
      go (Ok u) false false el ed eo = let no = simp (el, ed, eo) at q in cc
      go (Ok u) true true el ed eo = let no = simp (el, ed, eo) at q in cc
      go (Ok u) true false el ed eo = record { within = lengths_pass _ _ (sym el) refl; fit = ed; no_overlapping_step = eo }

  -- ---- a walk, by what was checked and by its kind

  by_kind : (backward stepping : Bool) → call backward stepping needle haystack f s
      ≡ or_walked (refusal stepping needle haystack f s) s
      (let flags = flags_of s.kind in cond flags.empty (empty_way backward stepping (length haystack) s flags) (two_way backward stepping needle haystack f s))
  unfolding forward_call backward_call
  by_kind true stepping = refl
  by_kind false stepping = refl

  module _ (backward stepping : Bool) {r : Walked} where
    pub refused : {why : Refusal} → Err why ≡ refusal stepping needle haystack f s → r ≡ free (Err why) s → r ≡ call backward stepping needle haystack f s
    refused e q = q ∙ sym (rw (← e) at (by_kind backward stepping))

    module _ {flags : Flags} (checked : Ok tt ≡ refusal stepping needle haystack f s) (told : flags ≡ flags_of s.kind) where
      pub went_empty : flags.empty ≡ true → r ≡ empty_way backward stepping (length haystack) s flags → r ≡ call backward stepping needle haystack f s
      went_empty e q = q ∙ sym (rw (← checked, ← told, e) at (by_kind backward stepping))

      pub went_two_way : flags.empty ≡ false → r ≡ two_way backward stepping needle haystack f s → r ≡ call backward stepping needle haystack f s
      went_two_way e q = q ∙ sym (rw (← checked, ← told, e) at (by_kind backward stepping))

  module _ (stepping : Bool) (checked : Ok tt ≡ refusal stepping needle haystack f s) where
    -- a cursor of a state that fits is inside
    pub position_in : s.position ≤ length haystack
    position_in = (state needle haystack f s (refusal_passed stepping (sym checked)).fit).position_in

    pub two_way_start : {flags : Flags} → flags ≡ flags_of s.kind → flags.empty ≡ false → TwoWayStart needle haystack f s
    two_way_start told e =
        let p = refusal_passed stepping (sym checked) in
        record { within = p.within; fit = p.fit; two_way = rw told at e }

  -- ---- a two way walk, with the plan v and the cursor k that were taken out of the record

  by_end : (backward stepping : Bool) → two_way backward stepping needle haystack f s
      ≡ (let m = length needle in
      let k = cursor_of backward m s in
      let r = searched_from backward stepping f.byteset (plan_of backward m f s.memory) needle haystack k in
      cond (stepping && eqb k.at (far_end backward (length haystack)))
      (free (Ok Ending.Done) s)
      (record { ending = Ok (ending_of m r.stop); moving = moved_to backward s r.cursor; counts = walking r.comparisons r.tests }))
  unfolding forward backward
  by_end true stepping = refl
  by_end false stepping = refl

  module _ (asked : TwoWayStart needle haystack f s) (backward : Bool) {v : Plan} {k : Cursor}
      (planned : v ≡ plan_of backward (length needle) f s.memory) (from : k ≡ cursor_of backward (length needle) s) where
    -- what the search asks of them
    pub search_start : Start backward (length needle) (length haystack) v k
    search_start = rw (planned, from) (go backward)
      where
        go : (b : Bool) → Start b (length needle) (length haystack) (plan_of b (length needle) f s.memory) (cursor_of b (length needle) s)
        go true =
            let g = fits_backward needle haystack f s asked.fit (told_two_way s.kind asked.two_way) in
            let inside = asked.within in
            record { shape = g.shape; back = g.back; within = g.within; memory = g.memory; small = omega (arith, haystack_room); needle = omega (arith, needle_room) }
        go false =
            let g = fits_forward needle haystack f s asked.fit (told_two_way s.kind asked.two_way) in
            let inside = asked.within in
            let shape = g.shape in
            record { shape = g.shape; back = omega arith; within = g.within; memory = g.memory; small = omega (arith, haystack_room); needle = omega (arith, needle_room) }

    module _ (stepping : Bool) {r : Searched} (searched : r ≡ searched_from backward stepping f.byteset v needle haystack k) where
      pub walked : {ending : Ending} {moving : Moving} {at to n : ℕ} → to ≡ far_end backward n
          → ((stepping ≡ true) × (at ≡ to → ⊥)) ⊎ (stepping ≡ false)
          → ending ≡ ending_of (length needle) r.stop → moving ≡ moved_to backward s r.cursor
          → n ≡ length haystack → at ≡ k.at
          → ◌≡◌ {A = Walked} (record { ending = Ok ending; moving = moving; counts = walking r.comparisons r.tests }) (two_way backward stepping needle haystack f s)
      walked {at = at} {to = to} at_end either ended moved whole stands =
          let not_done : (stepping && eqb k.at to) ≡ false = ⊎_elim (λ w. rw (w.0, ← stands, ne_eqb at to w.1)) (λ w. rw w) either in
          rw (ended, moved, searched) (sym (rw (← planned, ← from, ← (at_end ∙ ap (far_end backward) whole), not_done) at (by_end backward stepping)))
