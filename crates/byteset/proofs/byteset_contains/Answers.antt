-- `byteset::byteset_contains` meets its contract: the shift brings the byte's bit to the front, and the mask leaves it alone there.
-- Assumes nothing.
use Rattle.byteset.proofs.Laws.{contains_test}
use Rattle.byteset.proofs.byteset_contains.Goals as goal

pub returns : goal.returns
returns c = contains_test c.args.byteset c.bit_of.result c.args.byte c.bit_of.ensures.bit
