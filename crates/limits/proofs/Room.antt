-- All that proofs need of the bounds: sums of lengths, and counts, fit a usize with room to spare. A bound that is moved is checked against these two laws.
-- Assumes nothing.
use Prim.Native.Nat.{◌*◌, ◌^◌, ◌<◌}
use lib.Dec.{lit<}
use Rattle.limits.specs.Bounds.{haystack_bound, needle_bound}

pub haystack_room : 4 * haystack_bound < 2 ^ 63
unfolding haystack_bound
haystack_room = lit< tt

pub needle_room : 16 * needle_bound < 2 ^ 63
unfolding needle_bound
needle_room = lit< tt
