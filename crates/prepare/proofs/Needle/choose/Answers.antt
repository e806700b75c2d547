-- `prepare::Needle::choose` meets its contract: the period that a pass finds fits behind the start that it finds.
-- Assumes nothing.
use Rattle.prepare.proofs.Ways.{pass_fits, both_few, both_fit, choose_lower, choose_higher}
use Rattle.prepare.proofs.Needle.choose.Goals as goal

pub overflow_add-rounds : goal.overflow_add-rounds
overflow_add-rounds c = both_fit c.args.self.bytes.now c.maximal-lower.ensures c.maximal-higher.ensures c.args.self.within

pub returns-then-higher-lower : goal.returns-then-higher-lower
returns-then-higher-lower c =
    record {
      choice = choose_lower c.args.self.bytes.now c.maximal-lower.ensures c.maximal-higher.ensures c.if-higher-lower.true;
      fits = pass_fits _ c.args.self.bytes.now c.args.self.some c.maximal-lower.ensures;
      few = both_few c.args.self.bytes.now c.maximal-lower.ensures c.maximal-higher.ensures;
    }

pub returns-else-higher-lower : goal.returns-else-higher-lower
returns-else-higher-lower c =
    record {
      choice = choose_higher c.args.self.bytes.now c.maximal-lower.ensures c.maximal-higher.ensures c.if-higher-lower.false;
      fits = pass_fits _ c.args.self.bytes.now c.args.self.some c.maximal-higher.ensures;
      few = both_few c.args.self.bytes.now c.maximal-lower.ensures c.maximal-higher.ensures;
    }
