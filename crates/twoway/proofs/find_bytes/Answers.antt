-- `twoway::find_bytes` meets its contract: the rule's answer has its meaning, and costs no more than it may.
-- Assumes nothing.
use Rattle.twoway.specs.Find.{search_told}
use Rattle.twoway.proofs.Meaning.{find_settled}
use Rattle.twoway.proofs.find_bytes.Goals as goal

pub returns : goal.returns
returns c =
    let e = find_settled c.args.text.now c.args.pattern.now {r = search_told c.search.result} c.search.ensures in
    record { rule = e.0; meaning = e.1.0; bounds = e.1.1 }
