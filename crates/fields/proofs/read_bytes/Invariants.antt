-- `fields::read_bytes` meets its contract. The loop's invariant: the bytes that are left, stored behind what was read, make the room that
-- all of them make. Assumes nothing.
use Prim.Native.Nat.{◌+◌, ◌-◌, ◌*◌}
use mathlib.Core.Path.{◌≡◌}
use lib.ListN.{length}
use lib.Seq.{sets}
use Rattle.fields.specs.Fields.{bytes_from}
use Rattle.fields.proofs.read_bytes.Given as goal

abbrev pub invariant-loop-room : goal.invariant-loop-room
invariant-loop-room l =
    (l.read.value ≡ l.room-index)
    × (l.read.next ≡ l.from + 2 * l.room-index)
    × (l.room-index + length (bytes_from (length l.into - l.room-index) l.s l.read.next) ≡ length (bytes_from (length l.initial.into) l.s l.from))
    × (sets l.into l.room-index (bytes_from (length l.into - l.room-index) l.s l.read.next) ≡ sets l.initial.into 0 (bytes_from (length l.initial.into) l.s l.from))
