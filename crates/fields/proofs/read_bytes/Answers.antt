use Prim.Native.Nat.{◌<◌}
use mathlib.Core.Path.{sym, ◌∙◌}
use native.Mathlib.Omega.{arith}
use lib.ListN.{length, length-set}
use Rattle.std.proofs.lemmas.List.{set-get_or}
use Rattle.fields.proofs.Laws.{bytes_count, bytes_store, bytes_done}
use Rattle.fields.proofs.read_bytes.Goals as goal

pub returns-in_default : goal.returns-in_default
returns-in_default c =
    let loop = c.loop-room in
    let inv = loop.invariant in
    let done = bytes_done loop.into c.args.s.now _ loop.room-index loop.read.next _ (λ _. sym c.read_byte.ensures.rule ∙ c.in_default.is) inv.2 inv.3 in
    record { count = omega (arith, done.0); place = omega arith; stored = set-get_or loop.into loop.room-index 0 ∙ done.1; len_in_bounds = simp length-set (omega arith) }

pub loop-room-preserved : goal.loop-room-preserved
loop-room-preserved c =
    let s = c.args.s.now in
    let loop = c.loop-room in
    let inv = loop.invariant in
    let fits : loop.room-index < length loop.into = omega arith in
    let byte = sym c.read_byte.ensures.rule ∙ c.in-Some.is in (
      omega arith,
      omega arith,
      bytes_count loop.into s loop.room-index loop.read.next c.in-Some.b fits byte ∙ inv.2,
      bytes_store loop.into s loop.room-index loop.read.next c.in-Some.b fits byte ∙ inv.3,
    )

pub returns : goal.returns
returns c =
    let loop = c.loop-room in
    let inv = loop.invariant in
    let done = bytes_done loop.into c.args.s.now _ loop.room-index loop.read.next _ (λ p. absurd (omega arith)) inv.2 inv.3 in
    record { count = omega (arith, done.0); place = omega arith; stored = done.1; len_in_bounds = omega arith }
